-- Worked runs on refusals, full heaps and names. Each is a list of entries as a core writes them, with the handler's
-- and the cleaner's steps.
use Rattle.std.specs.Prelude.{ℕ, suc, zero, ◌+◌, ◌/◌, ◌%◌, List, [], ◌∷◌, ◌++◌, pos, negsuc}
use Rattle.jlr_types.specs.declared.FieldKind.TheVariants.{Int as IntField, Ref as RefField}
use Rattle.jlr_types.specs.declared.RefKind.TheVariants.{Soft, Weak}
use Rattle.jlr_types.specs.declared.Refusal.TheVariants.{HeapFull, NoHandle, WrongKind, NoField, WrongType, Null}
use Rattle.jlr_types.specs.declared.Refusal.TheVariants.{NoName, NamesFull, Busy, NoSession, Exhausted, NotOut}
use Rattle.jlr_types.specs.declared.Refusal.TheVariants.{WouldWait}
use Rattle.jlr_machine.specs.declared.ask.Ask.TheVariants.{Join, Leave, New, Get, SetInt, Int, Dup, Drop, MakeRef}
use Rattle.jlr_machine.specs.declared.ask.Ask.TheVariants.{Deref, MakeQueue, Poll, Remove, MakeCleaner, Register}
use Rattle.jlr_machine.specs.declared.ask.Ask.TheVariants.{Prepare, Opened, CheckOut, CheckIn, Bind, Find, Unbind}
use Rattle.jlr_machine.specs.declared.ask.Ask.TheVariants.{Names, Full, Stat}
use Rattle.jlr_machine.specs.declared.ask.FullMode.TheVariants.{Policy}
use Rattle.jlr_machine.specs.declared.ask.Outcome.TheVariants.{Ok as OutcomeOk}
use Rattle.jlr_machine.specs.declared.ask.CallOutcome.TheVariants.{Wrote as GotWrote}
use Rattle.jlr_machine.specs.declared.ask.Answer.TheVariants.{Done, Handle, Int as IntAnswer, Names as NamesAnswer}
use Rattle.jlr_machine.specs.declared.ask.Answer.TheVariants.{Stat as StatAnswer, Prepared, Out, Refused}
use Rattle.jlr_machine.specs.declared.entry.Entry.{Entry}
use Rattle.jlr_laws.specs.Rows.{entry, making, preparing, collecting_entry, collecting_for, stat}

-- `get 9 0; dup 0; new ri; poll 1; get 1 2; get 1 1; setint 1 0 5; find x; queue; remove 2; weak 0 2; weak 1 1; setint
-- 1 1 -9223372036854775808; int 1 1`
abbrev pub refused_row : List Entry
refused_row =
    entry (Join 0) Done
    ∷ entry (Get 0 9 0) (Refused NoHandle)
    ∷ entry (Dup 0 0) (Refused Null)
    ∷ making (New 0 (RefField ∷ IntField ∷ [])) (Handle 1) 0
    ∷ entry (Poll 0 1) (Refused WrongKind)
    ∷ entry (Get 0 1 2) (Refused NoField)
    ∷ entry (Get 0 1 1) (Refused WrongType)
    ∷ entry (SetInt 0 1 0 (pos 5)) (Refused WrongType)
    ∷ entry (Find 0 (120 ∷ [])) (Refused NoName)
    ∷ making (MakeQueue 0) (Handle 2) 1
    ∷ entry (Remove 0 2) (Refused WouldWait)
    ∷ entry (MakeRef 0 Weak 0 2) (Refused Null)
    ∷ entry (MakeRef 0 Weak 1 1) (Refused WrongKind)
    ∷ entry (SetInt 0 1 1 (negsuc 9223372036854775807)) Done
    ∷ entry (Int 0 1 1) (IntAnswer (negsuc 9223372036854775807))
    ∷ entry (Leave 0) Done
    ∷ []

-- a `Drop` before `Join`, a `CheckIn` with no call in flight, a second `CheckOut`
abbrev pub wrong_moment_row : List Entry
wrong_moment_row =
    entry (Drop 0 1) (Refused NoSession)
    ∷ entry (Join 0) Done
    ∷ entry (CheckIn 0 (GotWrote 1)) (Refused NotOut)
    ∷ preparing (Prepare 0) (Prepared 0) 0 1
    ∷ entry (Opened 0 OutcomeOk) (Handle 1)
    ∷ entry (CheckOut 0 1) (Out 0)
    ∷ entry (CheckOut 0 1) (Refused Busy)
    ∷ []

-- with the next action 2^64 - 1 no action can be registered
abbrev pub exhausted_row : List Entry
exhausted_row =
    entry (Join 0) Done
    ∷ making (MakeCleaner 0) (Handle 1) 0
    ∷ making (New 0 []) (Handle 2) 1
    ∷ entry (Register 0 1 2 7) (Refused Exhausted)
    ∷ []

-- sixteen `new -`, then `new -; drop 1; new -`
abbrev pub full_heap_row : List Entry
full_heap_row =
    entry (Join 0) Done
    ∷ making (New 0 []) (Handle 1) 0
    ∷ making (New 0 []) (Handle 2) 1
    ∷ making (New 0 []) (Handle 3) 2
    ∷ making (New 0 []) (Handle 4) 3
    ∷ making (New 0 []) (Handle 5) 4
    ∷ making (New 0 []) (Handle 6) 5
    ∷ making (New 0 []) (Handle 7) 6
    ∷ making (New 0 []) (Handle 8) 7
    ∷ making (New 0 []) (Handle 9) 8
    ∷ making (New 0 []) (Handle 10) 9
    ∷ making (New 0 []) (Handle 11) 10
    ∷ making (New 0 []) (Handle 12) 11
    ∷ making (New 0 []) (Handle 13) 12
    ∷ making (New 0 []) (Handle 14) 13
    ∷ making (New 0 []) (Handle 15) 14
    ∷ making (New 0 []) (Handle 16) 15
    ∷ collecting_entry (New 0 []) (Refused HeapFull)
    (0 ∷ 1 ∷ 2 ∷ 3 ∷ 4 ∷ 5 ∷ 6 ∷ 7 ∷ 8 ∷ 9 ∷ 10 ∷ 11 ∷ 12 ∷ 13 ∷ 14 ∷ 15 ∷ []) []
    ∷ entry (Drop 0 1) Done
    ∷ collecting_for (New 0 []) (Handle 1) (1 ∷ 2 ∷ 3 ∷ 4 ∷ 5 ∷ 6 ∷ 7 ∷ 8 ∷ 9 ∷ 10 ∷ 11 ∷ 12 ∷ 13 ∷ 14 ∷ 15 ∷ []) []
    (0 ∷ [])
    ∷ entry (Leave 0) Done
    ∷ []

-- `new -; soft 1 0; drop 1` eight times, then `new -`, `deref 2` to `deref 9`, `stat`
abbrev pub soft_full_row : List Entry
soft_full_row =
    entry (Join 0) Done
    ∷ making (New 0 []) (Handle 1) 0
    ∷ making (MakeRef 0 Soft 1 0) (Handle 2) 1
    ∷ entry (Drop 0 1) Done
    ∷ making (New 0 []) (Handle 1) 2
    ∷ making (MakeRef 0 Soft 1 0) (Handle 3) 3
    ∷ entry (Drop 0 1) Done
    ∷ making (New 0 []) (Handle 1) 4
    ∷ making (MakeRef 0 Soft 1 0) (Handle 4) 5
    ∷ entry (Drop 0 1) Done
    ∷ making (New 0 []) (Handle 1) 6
    ∷ making (MakeRef 0 Soft 1 0) (Handle 5) 7
    ∷ entry (Drop 0 1) Done
    ∷ making (New 0 []) (Handle 1) 8
    ∷ making (MakeRef 0 Soft 1 0) (Handle 6) 9
    ∷ entry (Drop 0 1) Done
    ∷ making (New 0 []) (Handle 1) 10
    ∷ making (MakeRef 0 Soft 1 0) (Handle 7) 11
    ∷ entry (Drop 0 1) Done
    ∷ making (New 0 []) (Handle 1) 12
    ∷ making (MakeRef 0 Soft 1 0) (Handle 8) 13
    ∷ entry (Drop 0 1) Done
    ∷ making (New 0 []) (Handle 1) 14
    ∷ making (MakeRef 0 Soft 1 0) (Handle 9) 15
    ∷ entry (Drop 0 1) Done
    ∷ collecting_for (New 0 []) (Handle 1) (1 ∷ 3 ∷ 5 ∷ 7 ∷ 9 ∷ 11 ∷ 13 ∷ 15 ∷ []) [] (0 ∷ [])
    ∷ entry (Deref 0 2) (Handle 0)
    ∷ entry (Deref 0 3) (Handle 0)
    ∷ entry (Deref 0 4) (Handle 0)
    ∷ entry (Deref 0 5) (Handle 0)
    ∷ entry (Deref 0 6) (Handle 0)
    ∷ entry (Deref 0 7) (Handle 0)
    ∷ entry (Deref 0 8) (Handle 0)
    ∷ entry (Deref 0 9) (Handle 0)
    ∷ entry (Stat 0) (StatAnswer (stat 9 0 0 0 0))
    ∷ entry (Leave 0) Done
    ∷ []

-- `new -; bind b 1; bind a 1; bind b 1; names; drop 1; gc; find a; unbind b; names`
abbrev pub names_row : List Entry
names_row =
    entry (Join 0) Done
    ∷ making (New 0 []) (Handle 1) 0
    ∷ entry (Bind 0 (98 ∷ []) 1) Done
    ∷ entry (Bind 0 (97 ∷ []) 1) Done
    ∷ entry (Bind 0 (98 ∷ []) 1) Done
    ∷ entry (Names 0) (NamesAnswer ((98 ∷ []) ∷ (97 ∷ []) ∷ []))
    ∷ entry (Drop 0 1) Done
    ∷ collecting_entry (Full 0 Policy) Done (0 ∷ []) []
    ∷ entry (Find 0 (97 ∷ [])) (Handle 1)
    ∷ entry (Unbind 0 (98 ∷ [])) Done
    ∷ entry (Names 0) (NamesAnswer ((97 ∷ []) ∷ []))
    ∷ entry (Leave 0) Done
    ∷ []

-- two letters for each number below 256
abbrev pub two_letters : ℕ → List ℕ
two_letters n = (97 + n / 16) ∷ (97 + n % 16) ∷ []

abbrev pub names_bound : ℕ → ℕ → List Entry
names_bound from zero = []
names_bound from (suc n) = entry (Bind 0 (two_letters from) 1) Done ∷ names_bound (suc from) n

-- after 256 names a new one is refused, and an old one is not
abbrev pub names_full_row : List Entry
names_full_row =
    (entry (Join 0) Done ∷ making (New 0 []) (Handle 1) 0 ∷ [])
    ++ names_bound 0 256
    ++ (entry (Bind 0 (122 ∷ []) 1) (Refused NamesFull) ∷ entry (Bind 0 (two_letters 255) 1) Done ∷ [])
