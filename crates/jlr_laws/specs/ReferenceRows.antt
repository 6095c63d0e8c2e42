-- Worked runs on references, queues and soft references. Each is a list of entries as a core writes them, with the
-- handler's and the cleaner's steps.
use Rattle.std.specs.Prelude.{List, [], ◌∷◌, true, false}
use Rattle.jlr_types.specs.declared.FieldKind.TheVariants.{Ref as RefField}
use Rattle.jlr_types.specs.declared.RefKind.TheVariants.{Soft, Weak, Phantom}
use Rattle.jlr_machine.specs.declared.ask.Ask.TheVariants.{Join, Leave, New, Put, Drop, Same, MakeRef, Deref, Refers}
use Rattle.jlr_machine.specs.declared.ask.Ask.TheVariants.{Clear, Enqueue, Enqueued, MakeQueue, Poll, Full, HandOver}
use Rattle.jlr_machine.specs.declared.ask.FullMode.TheVariants.{Policy, ClearAll}
use Rattle.jlr_machine.specs.declared.ask.Handed.TheVariants.{Queued as HandedQueued, Skipped}
use Rattle.jlr_machine.specs.declared.ask.Answer.TheVariants.{Done, Handle, Truth, Handed as HandedAnswer}
use Rattle.jlr_machine.specs.declared.entry.Entry.{Entry}
use Rattle.jlr_laws.specs.Rows.{entry, making, collecting_entry}

-- `new -; weak 1 0; drop 1; gc; deref 2` is answered `= 1; = 2; ok; ok; = 0`
abbrev pub weak_row : List Entry
weak_row =
    entry (Join 0) Done
    ∷ making (New 0 []) (Handle 1) 0
    ∷ making (MakeRef 0 Weak 1 0) (Handle 2) 1
    ∷ entry (Drop 0 1) Done
    ∷ collecting_entry (Full 0 Policy) Done (1 ∷ []) []
    ∷ entry (Deref 0 2) (Handle 0)
    ∷ entry (Leave 0) Done
    ∷ []

-- `new -; weak 1 0; weak 1 0; drop 1; gc; deref 2; deref 3`
abbrev pub two_weak_row : List Entry
two_weak_row =
    entry (Join 0) Done
    ∷ making (New 0 []) (Handle 1) 0
    ∷ making (MakeRef 0 Weak 1 0) (Handle 2) 1
    ∷ making (MakeRef 0 Weak 1 0) (Handle 3) 2
    ∷ entry (Drop 0 1) Done
    ∷ collecting_entry (Full 0 Policy) Done (1 ∷ 2 ∷ []) []
    ∷ entry (Deref 0 2) (Handle 0)
    ∷ entry (Deref 0 3) (Handle 0)
    ∷ entry (Leave 0) Done
    ∷ []

-- `queue; new -; weak 2 1; drop 2; gc; enqueued 3; poll 1; same 2 3; poll 1; enqueue 3`
abbrev pub queue_row : List Entry
queue_row =
    entry (Join 0) Done
    ∷ making (MakeQueue 0) (Handle 1) 0
    ∷ making (New 0 []) (Handle 2) 1
    ∷ making (MakeRef 0 Weak 2 1) (Handle 3) 2
    ∷ entry (Drop 0 2) Done
    ∷ collecting_entry (Full 0 Policy) Done (0 ∷ 2 ∷ []) (2 ∷ [])
    ∷ entry HandOver (HandedAnswer HandedQueued)
    ∷ entry (Enqueued 0 3) (Truth true)
    ∷ entry (Poll 0 1) (Handle 2)
    ∷ entry (Same 0 2 3) (Truth true)
    ∷ entry (Poll 0 1) (Handle 0)
    ∷ entry (Enqueue 0 3) (Truth false)
    ∷ entry (Leave 0) Done
    ∷ []

-- `queue; new r; weak 2 1; put 2 0 3; drop 3; drop 2; gc; poll 1`
abbrev pub self_reference_row : List Entry
self_reference_row =
    entry (Join 0) Done
    ∷ making (MakeQueue 0) (Handle 1) 0
    ∷ making (New 0 (RefField ∷ [])) (Handle 2) 1
    ∷ making (MakeRef 0 Weak 2 1) (Handle 3) 2
    ∷ entry (Put 0 2 0 3) Done
    ∷ entry (Drop 0 3) Done
    ∷ entry (Drop 0 2) Done
    ∷ collecting_entry (Full 0 Policy) Done (0 ∷ []) []
    ∷ entry (Poll 0 1) (Handle 0)
    ∷ entry (Leave 0) Done
    ∷ []

-- `queue; new -; weak 2 1; clear 3; drop 2; gc; poll 1; enqueued 3; enqueue 3; poll 1; enqueue 3`
abbrev pub clear_row : List Entry
clear_row =
    entry (Join 0) Done
    ∷ making (MakeQueue 0) (Handle 1) 0
    ∷ making (New 0 []) (Handle 2) 1
    ∷ making (MakeRef 0 Weak 2 1) (Handle 3) 2
    ∷ entry (Clear 0 3) Done
    ∷ entry (Drop 0 2) Done
    ∷ collecting_entry (Full 0 Policy) Done (0 ∷ 2 ∷ []) []
    ∷ entry (Poll 0 1) (Handle 0)
    ∷ entry (Enqueued 0 3) (Truth false)
    ∷ entry (Enqueue 0 3) (Truth true)
    ∷ entry (Poll 0 1) (Handle 2)
    ∷ entry (Enqueue 0 3) (Truth false)
    ∷ entry (Leave 0) Done
    ∷ []

-- `new -; phantom 1 0; deref 2; refers 2 1; refers 2 0; drop 1; gc; refers 2 0`
abbrev pub phantom_row : List Entry
phantom_row =
    entry (Join 0) Done
    ∷ making (New 0 []) (Handle 1) 0
    ∷ making (MakeRef 0 Phantom 1 0) (Handle 2) 1
    ∷ entry (Deref 0 2) (Handle 0)
    ∷ entry (Refers 0 2 1) (Truth true)
    ∷ entry (Refers 0 2 0) (Truth false)
    ∷ entry (Drop 0 1) Done
    ∷ collecting_entry (Full 0 Policy) Done (1 ∷ []) []
    ∷ entry (Refers 0 2 0) (Truth true)
    ∷ entry (Leave 0) Done
    ∷ []

-- `Join, MakeQueue, New -, MakeRef weak 2 1, Drop 2, Full 0, Enqueue 3, Poll 1, HandOver, Poll 1`
abbrev pub program_first_row : List Entry
program_first_row =
    entry (Join 0) Done
    ∷ making (MakeQueue 0) (Handle 1) 0
    ∷ making (New 0 []) (Handle 2) 1
    ∷ making (MakeRef 0 Weak 2 1) (Handle 3) 2
    ∷ entry (Drop 0 2) Done
    ∷ collecting_entry (Full 0 Policy) Done (0 ∷ 2 ∷ []) (2 ∷ [])
    ∷ entry (Enqueue 0 3) (Truth true)
    ∷ entry (Poll 0 1) (Handle 2)
    ∷ entry HandOver (HandedAnswer Skipped)
    ∷ entry (Poll 0 1) (Handle 0)
    ∷ []

-- `new r; new -; put 1 0 2; soft 1 0; soft 2 0; drop 1; drop 2; gc; deref 3; deref 4; drop 1; drop 2; gc soft; deref 3;
-- deref 4`
abbrev pub soft_chain_row : List Entry
soft_chain_row =
    entry (Join 0) Done
    ∷ making (New 0 (RefField ∷ [])) (Handle 1) 0
    ∷ making (New 0 []) (Handle 2) 1
    ∷ entry (Put 0 1 0 2) Done
    ∷ making (MakeRef 0 Soft 1 0) (Handle 3) 2
    ∷ making (MakeRef 0 Soft 2 0) (Handle 4) 3
    ∷ entry (Drop 0 1) Done
    ∷ entry (Drop 0 2) Done
    ∷ collecting_entry (Full 0 Policy) Done (0 ∷ 1 ∷ 2 ∷ 3 ∷ []) []
    ∷ entry (Deref 0 3) (Handle 1)
    ∷ entry (Deref 0 4) (Handle 2)
    ∷ entry (Drop 0 1) Done
    ∷ entry (Drop 0 2) Done
    ∷ collecting_entry (Full 0 ClearAll) Done (2 ∷ 3 ∷ []) []
    ∷ entry (Deref 0 3) (Handle 0)
    ∷ entry (Deref 0 4) (Handle 0)
    ∷ entry (Leave 0) Done
    ∷ []

-- with a soft age of 1: `new -; soft 1 0; drop 1; gc; gc; deref 2`
abbrev pub soft_age_row : List Entry
soft_age_row =
    entry (Join 0) Done
    ∷ making (New 0 []) (Handle 1) 0
    ∷ making (MakeRef 0 Soft 1 0) (Handle 2) 1
    ∷ entry (Drop 0 1) Done
    ∷ collecting_entry (Full 0 Policy) Done (0 ∷ 1 ∷ []) []
    ∷ collecting_entry (Full 0 Policy) Done (1 ∷ []) []
    ∷ entry (Deref 0 2) (Handle 0)
    ∷ entry (Leave 0) Done
    ∷ []

-- with a soft age of 1: `new -; soft 1 0; drop 1; gc; deref 2; drop 1; gc; deref 2`
abbrev pub soft_used_row : List Entry
soft_used_row =
    entry (Join 0) Done
    ∷ making (New 0 []) (Handle 1) 0
    ∷ making (MakeRef 0 Soft 1 0) (Handle 2) 1
    ∷ entry (Drop 0 1) Done
    ∷ collecting_entry (Full 0 Policy) Done (0 ∷ 1 ∷ []) []
    ∷ entry (Deref 0 2) (Handle 1)
    ∷ entry (Drop 0 1) Done
    ∷ collecting_entry (Full 0 Policy) Done (0 ∷ 1 ∷ []) []
    ∷ entry (Deref 0 2) (Handle 1)
    ∷ entry (Leave 0) Done
    ∷ []
