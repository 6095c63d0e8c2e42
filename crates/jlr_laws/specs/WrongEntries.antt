-- Entries that are not legal, each after a run.
use Rattle.std.specs.Prelude.{List, [], ◌∷◌, ◌++◌, true}
use Rattle.jlr_types.specs.declared.FieldKind.TheVariants.{Ref as RefField}
use Rattle.jlr_types.specs.declared.RefKind.TheVariants.{Soft, Weak}
use Rattle.jlr_types.specs.declared.Work.TheVariants.{Note, Resource as WorkOn}
use Rattle.jlr_types.specs.declared.Refusal.TheVariants.{HeapFull}
use Rattle.jlr_machine.specs.declared.machine.Machine.{Machine}
use Rattle.jlr_machine.specs.declared.ask.Ask.TheVariants.{Join, New, Put, Drop, MakeRef, Deref, Clear, Enqueue}
use Rattle.jlr_machine.specs.declared.ask.Ask.TheVariants.{MakeQueue, MakeCleaner, Register, Clean, Prepare, Opened}
use Rattle.jlr_machine.specs.declared.ask.Ask.TheVariants.{CheckOut, Close, Finish, Full, HandOver, TakeUp}
use Rattle.jlr_machine.specs.declared.ask.FullMode.TheVariants.{Policy}
use Rattle.jlr_machine.specs.declared.ask.Handed.TheVariants.{Queued as HandedQueued, Lined as HandedLined}
use Rattle.jlr_machine.specs.declared.ask.Outcome.TheVariants.{Ok as OutcomeOk}
use Rattle.jlr_machine.specs.declared.ask.Answer.TheVariants.{Done, Handle, Truth, Job, Prepared, Out}
use Rattle.jlr_machine.specs.declared.ask.Answer.TheVariants.{Handed as HandedAnswer, Refused}
use Rattle.jlr_machine.specs.declared.entry.Entry.{Entry}
use Rattle.jlr_machine.specs.Run.{empty}
use Rattle.jlr_laws.specs.Rows.{entry, making, preparing, collecting_entry}

-- after `new -; weak 1 0; drop 1`: a `gc` that clears and removes nothing
abbrev pub weak_dropped : List Entry
weak_dropped = entry (Join 0) Done ∷ making (New 0 []) (Handle 1) 0 ∷ making (MakeRef 0 Weak 1 0) (Handle 2) 1 ∷ entry
    (Drop 0 1) Done ∷ []

abbrev pub gc_keeping_all : Entry
gc_keeping_all = collecting_entry (Full 0 Policy) Done (0 ∷ 1 ∷ []) []

-- after `new -; weak 1 0; weak 1 0; drop 1; gc; deref 2`, which gave null: the second reference still gives the object
abbrev pub first_weak_cleared : List Entry
first_weak_cleared =
    entry (Join 0) Done
    ∷ making (New 0 []) (Handle 1) 0
    ∷ making (MakeRef 0 Weak 1 0) (Handle 2) 1
    ∷ making (MakeRef 0 Weak 1 0) (Handle 3) 2
    ∷ entry (Drop 0 1) Done
    ∷ collecting_entry (Full 0 Policy) Done (1 ∷ 2 ∷ []) []
    ∷ entry (Deref 0 2) (Handle 0)
    ∷ []

abbrev pub second_weak_kept : Entry
second_weak_kept = entry (Deref 0 3) (Handle 1)

-- after `new r; new -; put 1 0 2; soft 1 0; soft 2 0; drop 1; drop 2`: a `gc` that clears the soft reference to the
-- second object, while the first, which holds it by a field, keeps its own
abbrev pub soft_chain_dropped : List Entry
soft_chain_dropped =
    entry (Join 0) Done
    ∷ making (New 0 (RefField ∷ [])) (Handle 1) 0
    ∷ making (New 0 []) (Handle 2) 1
    ∷ entry (Put 0 1 0 2) Done
    ∷ making (MakeRef 0 Soft 1 0) (Handle 3) 2
    ∷ making (MakeRef 0 Soft 2 0) (Handle 4) 3
    ∷ entry (Drop 0 1) Done
    ∷ entry (Drop 0 2) Done
    ∷ []

abbrev pub held_soft_cleared : Entry
held_soft_cleared = collecting_entry (Full 0 Policy) Done (0 ∷ 2 ∷ 3 ∷ []) []

-- and one that keeps both, after which the reference to the second gives null
abbrev pub held_soft_gives_null : Entry
held_soft_gives_null = entry (Deref 0 4) (Handle 0)

abbrev pub soft_chain_kept : List Entry
soft_chain_kept = soft_chain_dropped ++ collecting_entry (Full 0 Policy) Done (0 ∷ 1 ∷ 2 ∷ 3 ∷ []) [] ∷ []

-- after `queue; new -; weak 2 1; clear 3; drop 2`: a `gc` puts the reference, which the program cleared, on the pending
-- list
abbrev pub cleared_by_program : List Entry
cleared_by_program =
    entry (Join 0) Done
    ∷ making (MakeQueue 0) (Handle 1) 0
    ∷ making (New 0 []) (Handle 2) 1
    ∷ making (MakeRef 0 Weak 2 1) (Handle 3) 2
    ∷ entry (Clear 0 3) Done
    ∷ entry (Drop 0 2) Done
    ∷ []

abbrev pub cleared_is_pended : Entry
cleared_is_pended = collecting_entry (Full 0 Policy) Done (0 ∷ 2 ∷ []) (2 ∷ [])

-- after `queue; new -; weak 2 1; drop 2; gc; enqueue 3`: the handler too appends the reference
abbrev pub enqueued_by_program : List Entry
enqueued_by_program =
    entry (Join 0) Done
    ∷ making (MakeQueue 0) (Handle 1) 0
    ∷ making (New 0 []) (Handle 2) 1
    ∷ making (MakeRef 0 Weak 2 1) (Handle 3) 2
    ∷ entry (Drop 0 2) Done
    ∷ collecting_entry (Full 0 Policy) Done (0 ∷ 2 ∷ []) (2 ∷ [])
    ∷ entry (Enqueue 0 3) (Truth true)
    ∷ []

abbrev pub handler_appends_again : Entry
handler_appends_again = entry HandOver (HandedAnswer HandedQueued)

-- after `cleaner; new -; register 1 2 7; drop 2; gc` and the cleaner's take-up: the program takes the action up again
abbrev pub entries_taken_by_cleaner : List Entry
entries_taken_by_cleaner =
    entry (Join 0) Done
    ∷ making (MakeCleaner 0) (Handle 1) 0
    ∷ making (New 0 []) (Handle 2) 1
    ∷ making (Register 0 1 2 7) (Handle 3) 2
    ∷ entry (Drop 0 2) Done
    ∷ collecting_entry (Full 0 Policy) Done (0 ∷ 2 ∷ []) (2 ∷ [])
    ∷ entry HandOver (HandedAnswer HandedLined)
    ∷ entry TakeUp (Job 1 (Note 7))
    ∷ []

abbrev pub taken_again : Entry
taken_again = entry (Clean 0 3) (Job 1 (Note 7))

-- after `open w f; close 1; open w g`, where the second file has the Rid of the first: the closed guard gives the
-- second file
abbrev pub rid_used_again : List Entry
rid_used_again =
    entry (Join 0) Done
    ∷ preparing (Prepare 0) (Prepared 0) 0 1
    ∷ entry (Opened 0 OutcomeOk) (Handle 1)
    ∷ entry (Close 0 1) (Job 1 (WorkOn 0))
    ∷ entry (Finish 0 1 OutcomeOk) Done
    ∷ preparing (Prepare 0) (Prepared 0) 2 3
    ∷ entry (Opened 0 OutcomeOk) (Handle 2)
    ∷ []

abbrev pub closed_is_out : Entry
closed_is_out = entry (CheckOut 0 1) (Out 0)

-- in two cells after `new -; new -; drop 1`: a full heap, where a collection would make room, or did
abbrev pub two_cells : Machine
two_cells = empty 2 1 1

abbrev pub one_dropped : List Entry
one_dropped =
    entry (Join 0) Done ∷ making (New 0 []) (Handle 1) 0 ∷ making (New 0 []) (Handle 2) 1 ∷ entry (Drop 0 1) Done ∷ []

abbrev pub full_without_collection : Entry
full_without_collection = entry (New 0 []) (Refused HeapFull)

abbrev pub full_with_room : Entry
full_with_room = collecting_entry (New 0 []) (Refused HeapFull) (1 ∷ []) []
