-- Worked runs with background collections. Each is a list of entries as a core writes them, with the handler's and the
-- cleaner's steps.
use Rattle.std.specs.Prelude.{List, [], ◌∷◌, true, false}
use Rattle.jlr_types.specs.declared.FieldKind.TheVariants.{Ref as RefField}
use Rattle.jlr_types.specs.declared.RefKind.TheVariants.{Soft, Weak}
use Rattle.jlr_types.specs.declared.Refusal.TheVariants.{HeapFull}
use Rattle.jlr_machine.specs.declared.ask.Ask.TheVariants.{Join, New, Put, Get, Drop, MakeRef, Deref, Enqueue, Enqueued}
use Rattle.jlr_machine.specs.declared.ask.Ask.TheVariants.{MakeQueue, Poll, Stat, HandOver, Begin, Collect, Abandon}
use Rattle.jlr_machine.specs.declared.ask.Handed.TheVariants.{Queued as HandedQueued}
use Rattle.jlr_machine.specs.declared.ask.Answer.TheVariants.{Done, Handle, Truth, Stat as StatAnswer}
use Rattle.jlr_machine.specs.declared.ask.Answer.TheVariants.{Handed as HandedAnswer, Refused}
use Rattle.jlr_machine.specs.declared.entry.Entry.{Entry}
use Rattle.jlr_laws.specs.Rows.{entry, making, collecting_entry, collecting_for, stat}

-- `Join, Collect, Abandon, Begin, Begin, Abandon`
abbrev pub cycle_row : List Entry
cycle_row =
    entry (Join 0) Done
    ∷ entry Collect (Truth false)
    ∷ entry Abandon (Truth false)
    ∷ entry Begin (Truth true)
    ∷ entry Begin (Truth false)
    ∷ entry Abandon (Truth true)
    ∷ []

-- `Join, New r, New -, Put 1 0 2, Drop 2, Begin, Get 1 0, Put 1 0 0, Collect, Stat`
abbrev pub snapshot_row : List Entry
snapshot_row =
    entry (Join 0) Done
    ∷ making (New 0 (RefField ∷ [])) (Handle 1) 0
    ∷ making (New 0 []) (Handle 2) 1
    ∷ entry (Put 0 1 0 2) Done
    ∷ entry (Drop 0 2) Done
    ∷ entry Begin (Truth true)
    ∷ entry (Get 0 1 0) (Handle 2)
    ∷ entry (Put 0 1 0 0) Done
    ∷ collecting_entry Collect (Truth true) (0 ∷ 1 ∷ []) []
    ∷ entry (Stat 0) (StatAnswer (stat 2 0 0 0 0))
    ∷ []

-- `Join, New -, MakeRef weak 1 0, Drop 1, Begin, Deref 2, Collect, Deref 2`
abbrev pub deref_in_cycle_row : List Entry
deref_in_cycle_row =
    entry (Join 0) Done
    ∷ making (New 0 []) (Handle 1) 0
    ∷ making (MakeRef 0 Weak 1 0) (Handle 2) 1
    ∷ entry (Drop 0 1) Done
    ∷ entry Begin (Truth true)
    ∷ entry (Deref 0 2) (Handle 1)
    ∷ collecting_entry Collect (Truth true) (0 ∷ 1 ∷ []) []
    ∷ entry (Deref 0 2) (Handle 3)
    ∷ []

-- `Join, MakeQueue, New -, MakeRef weak 2 1, Drop 2, Begin, Drop 3, Collect, HandOver, Poll 1`, by what was seen
abbrev pub seen_reference_row : List Entry
seen_reference_row =
    entry (Join 0) Done
    ∷ making (MakeQueue 0) (Handle 1) 0
    ∷ making (New 0 []) (Handle 2) 1
    ∷ making (MakeRef 0 Weak 2 1) (Handle 3) 2
    ∷ entry (Drop 0 2) Done
    ∷ entry Begin (Truth true)
    ∷ entry (Drop 0 3) Done
    ∷ collecting_entry Collect (Truth true) (0 ∷ 2 ∷ []) (2 ∷ [])
    ∷ entry HandOver (HandedAnswer HandedQueued)
    ∷ entry (Poll 0 1) (Handle 2)
    ∷ []

-- `Join, New -, MakeRef soft 1 0, Drop 1, Begin, Collect, Deref 2` with a soft age of 0
abbrev pub soft_cleared_in_cycle_row : List Entry
soft_cleared_in_cycle_row =
    entry (Join 0) Done
    ∷ making (New 0 []) (Handle 1) 0
    ∷ making (MakeRef 0 Soft 1 0) (Handle 2) 1
    ∷ entry (Drop 0 1) Done
    ∷ entry Begin (Truth true)
    ∷ collecting_entry Collect (Truth true) (1 ∷ []) []
    ∷ entry (Deref 0 2) (Handle 0)
    ∷ []

-- the same with a soft age of 1
abbrev pub soft_kept_in_cycle_row : List Entry
soft_kept_in_cycle_row =
    entry (Join 0) Done
    ∷ making (New 0 []) (Handle 1) 0
    ∷ making (MakeRef 0 Soft 1 0) (Handle 2) 1
    ∷ entry (Drop 0 1) Done
    ∷ entry Begin (Truth true)
    ∷ collecting_entry Collect (Truth true) (0 ∷ 1 ∷ []) []
    ∷ entry (Deref 0 2) (Handle 1)
    ∷ []

-- `Join, New r, New r, Put 1 0 2, Drop 2, Begin, Collect, Collect`: the first Collect may answer no
abbrev pub waiting_collect_row : List Entry
waiting_collect_row =
    entry (Join 0) Done
    ∷ making (New 0 (RefField ∷ [])) (Handle 1) 0
    ∷ making (New 0 (RefField ∷ [])) (Handle 2) 1
    ∷ entry (Put 0 1 0 2) Done
    ∷ entry (Drop 0 2) Done
    ∷ entry Begin (Truth true)
    ∷ entry Collect (Truth false)
    ∷ collecting_entry Collect (Truth true) (0 ∷ 1 ∷ []) []
    ∷ []

-- `Join`, sixteen `New -`, `Begin, New -, Collect, Drop 1, New -`: a full heap closes the cycle
abbrev pub full_heap_in_cycle_row : List Entry
full_heap_in_cycle_row =
    entry (Join 0) Done
    ∷ making (New 0 []) (Handle 1) 0
    ∷ making (New 0 []) (Handle 2) 1
    ∷ making (New 0 []) (Handle 3) 2
    ∷ making (New 0 []) (Handle 4) 3
    ∷ making (New 0 []) (Handle 5) 4
    ∷ making (New 0 []) (Handle 6) 5
    ∷ making (New 0 []) (Handle 7) 6
    ∷ making (New 0 []) (Handle 8) 7
    ∷ making (New 0 []) (Handle 9) 8
    ∷ making (New 0 []) (Handle 10) 9
    ∷ making (New 0 []) (Handle 11) 10
    ∷ making (New 0 []) (Handle 12) 11
    ∷ making (New 0 []) (Handle 13) 12
    ∷ making (New 0 []) (Handle 14) 13
    ∷ making (New 0 []) (Handle 15) 14
    ∷ making (New 0 []) (Handle 16) 15
    ∷ entry Begin (Truth true)
    ∷ collecting_entry (New 0 []) (Refused HeapFull)
    (0 ∷ 1 ∷ 2 ∷ 3 ∷ 4 ∷ 5 ∷ 6 ∷ 7 ∷ 8 ∷ 9 ∷ 10 ∷ 11 ∷ 12 ∷ 13 ∷ 14 ∷ 15 ∷ []) []
    ∷ entry Collect (Truth false)
    ∷ entry (Drop 0 1) Done
    ∷ collecting_for (New 0 []) (Handle 1) (1 ∷ 2 ∷ 3 ∷ 4 ∷ 5 ∷ 6 ∷ 7 ∷ 8 ∷ 9 ∷ 10 ∷ 11 ∷ 12 ∷ 13 ∷ 14 ∷ 15 ∷ []) []
    (0 ∷ [])
    ∷ []

-- `Join, MakeQueue, New -, MakeRef weak 2 1, Enqueue 3, Drop 3, Drop 2, Begin, Poll 1, Collect, Enqueued 2, Stat`
abbrev pub poll_in_cycle_row : List Entry
poll_in_cycle_row =
    entry (Join 0) Done
    ∷ making (MakeQueue 0) (Handle 1) 0
    ∷ making (New 0 []) (Handle 2) 1
    ∷ making (MakeRef 0 Weak 2 1) (Handle 3) 2
    ∷ entry (Enqueue 0 3) (Truth true)
    ∷ entry (Drop 0 3) Done
    ∷ entry (Drop 0 2) Done
    ∷ entry Begin (Truth true)
    ∷ entry (Poll 0 1) (Handle 2)
    ∷ collecting_entry Collect (Truth true) (0 ∷ 2 ∷ []) []
    ∷ entry (Enqueued 0 2) (Truth false)
    ∷ entry (Stat 0) (StatAnswer (stat 2 0 0 0 0))
    ∷ []

-- `Join`, sixteen `New -`, `Drop 1` to `Drop 8`, `Begin, Collect, Stat`, eight `New -`, `Stat`
abbrev pub many_dropped_row : List Entry
many_dropped_row =
    entry (Join 0) Done
    ∷ making (New 0 []) (Handle 1) 0
    ∷ making (New 0 []) (Handle 2) 1
    ∷ making (New 0 []) (Handle 3) 2
    ∷ making (New 0 []) (Handle 4) 3
    ∷ making (New 0 []) (Handle 5) 4
    ∷ making (New 0 []) (Handle 6) 5
    ∷ making (New 0 []) (Handle 7) 6
    ∷ making (New 0 []) (Handle 8) 7
    ∷ making (New 0 []) (Handle 9) 8
    ∷ making (New 0 []) (Handle 10) 9
    ∷ making (New 0 []) (Handle 11) 10
    ∷ making (New 0 []) (Handle 12) 11
    ∷ making (New 0 []) (Handle 13) 12
    ∷ making (New 0 []) (Handle 14) 13
    ∷ making (New 0 []) (Handle 15) 14
    ∷ making (New 0 []) (Handle 16) 15
    ∷ entry (Drop 0 1) Done
    ∷ entry (Drop 0 2) Done
    ∷ entry (Drop 0 3) Done
    ∷ entry (Drop 0 4) Done
    ∷ entry (Drop 0 5) Done
    ∷ entry (Drop 0 6) Done
    ∷ entry (Drop 0 7) Done
    ∷ entry (Drop 0 8) Done
    ∷ entry Begin (Truth true)
    ∷ collecting_entry Collect (Truth true) (8 ∷ 9 ∷ 10 ∷ 11 ∷ 12 ∷ 13 ∷ 14 ∷ 15 ∷ []) []
    ∷ entry (Stat 0) (StatAnswer (stat 8 0 0 0 0))
    ∷ making (New 0 []) (Handle 1) 0
    ∷ making (New 0 []) (Handle 2) 1
    ∷ making (New 0 []) (Handle 3) 2
    ∷ making (New 0 []) (Handle 4) 3
    ∷ making (New 0 []) (Handle 5) 4
    ∷ making (New 0 []) (Handle 6) 5
    ∷ making (New 0 []) (Handle 7) 6
    ∷ making (New 0 []) (Handle 8) 7
    ∷ entry (Stat 0) (StatAnswer (stat 16 0 0 0 0))
    ∷ []
