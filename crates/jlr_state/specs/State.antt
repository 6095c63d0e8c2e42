-- The machine that a core's state is, and what an ask did to it.
use Rattle.std.specs.Prelude.{◌≡◌, ℕ, Bool, true, false, cond, is_some, List, [], length, Option, Some, None, Result}
use Rattle.std.specs.Prelude.{Ok, Err, MatchResult}
use Rattle.jlr_types.specs.declared.FieldValue.{FieldValue}
use Rattle.jlr_types.specs.declared.FieldValue.TheVariants.{Int, Ref}
use Rattle.jlr_types.specs.declared.Refusal.{Refusal}
use Rattle.jlr_types.specs.declared.Refusal.TheVariants.{NoField, NoHandle, Null, WrongType}
use Rattle.jlr_machine.specs.declared.machine.Machine.{Machine}
use Rattle.jlr_machine.specs.declared.ask.Ask.{Ask}
use Rattle.jlr_machine.specs.declared.ask.Answer.{Answer}
use Rattle.jlr_machine.specs.declared.ask.Answer.TheVariants.{Refused}
use Rattle.jlr_machine.specs.Chosen.{Chosen}
use Rattle.jlr_machine.specs.declared.entry.Entry.{Entry}
use Rattle.jlr_machine.specs.declared.ask.Ask.TheVariants.{Collect, Deref}
use Rattle.jlr_machine.specs.Lookups.{slot_named}
use Rattle.jlr_barrier.specs.Graphs.{Clock, Graph, in_machine, used_now}
use Rattle.jlr_marks.specs.Marking.{Marking}
use Rattle.jlr_process.specs.Settling.{marked_below}
use Rattle.jlr_machine.specs.Refusals.{given, refusal}
use Rattle.jlr_machine.specs.Calls.{reply, after}
use Rattle.jlr_machine.specs.Run.{IsLegal, done, empty}
use Rattle.jlr_histories.specs.CycleLaws.{with_seen}
use Rattle.jlr_cleaner.specs.Cleanings.{Cleanings, machine_of_cleanings as with_cleanings}

-- what a core keeps beside its heap, in a machine that is empty otherwise: its jobs and what became of others, its
-- files and sockets, and whether a cycle is open
abbrev pub frame : {R : Type 0} → Cleanings R → Bool → Machine
frame c cycle_open = with_cleanings c (record (empty 0 0 0) { cycle_open = cycle_open })

-- the machine of which the heap keeps this part. Nothing is seen in it
abbrev pub machine_with : {R : Type 0} → Cleanings R → Graph → Bool → Machine
machine_with c g cycle_open = in_machine (frame c cycle_open) g

-- an entry of the core's. Its seat is not looked at
abbrev pub entry_of : Ask → Answer → Chosen → Entry
entry_of ask answer chosen = record { seat = 0; ask = ask; answer = answer; choice = chosen }

abbrev pub answer_of : Result Answer Refusal → Answer
answer_of (Ok a) = a
answer_of (Err r) = Refused r

-- a check of one refusal: it passes just where this does not hold
abbrev pub Checks : {A : Type 0} → Result A Refusal → Refusal → Bool → Type 0
Checks result by holds = MatchResult result (λ _. holds ≡ false) (λ r. (r ≡ by) × (holds ≡ true))

-- what an ask did is a legal entry of the machine, which leads from m to n
pub record Meets (m : Machine) (ask : Ask) (answer : Answer) (chosen : Chosen) (n : Machine) : Type 0 where
  pub legal : IsLegal m (entry_of ask answer chosen)
  pub applied : n ≡ done m (entry_of ask answer chosen)

-- the objects marked in an open cycle. Outside of one the marks say nothing
abbrev pub marked_in : Machine → Marking → List ℕ
marked_in m marking = cond m.cycle_open (marked_below marking (length m.objects)) []

-- a Collect: a legal entry of the machine in which just what is marked was seen. A law says that it is legal, then, in
-- each machine for which the core stands
pub record MeetsSeen (m : Machine) (marking : Marking) (ask : Ask) (answer : Answer) (chosen : Chosen)
    (n : Machine) : Type 0 where
  pub legal : IsLegal (with_seen m (marked_in m marking)) (entry_of ask answer chosen)
  pub applied : n ≡ with_seen (done m (entry_of ask answer chosen)) []

abbrev pub is_collect : Ask → Bool
is_collect Collect = true
is_collect _ = false

abbrev pub MeetsAsk : Machine → Marking → Ask → Answer → Chosen → Machine → Type 0
MeetsAsk m marking ask answer chosen n =
    elim (is_collect ask) [ true ↦ MeetsSeen m marking ask answer chosen n | false ↦ Meets m ask answer chosen n ]

-- an ask that chooses nothing: it was carried out, or refused by the first refusal whose condition holds
abbrev pub Answered : Machine → Ask → Result Answer Refusal → Machine → Type 0
Answered m ask (Ok a) n = (refusal m ask ≡ None) × (reply m ask ≡ Some a) × (n ≡ after m ask a [])
Answered m ask (Err r) n = (refusal m ask ≡ Some r) × (n ≡ m)

-- a handle of an object is refused: it is null, or not in use
abbrev pub HandleRefused : Bool → Option ℕ → Refusal → Type 0
HandleRefused true slot r = r ≡ Null
HandleRefused false None r = r ≡ NoHandle
HandleRefused false (Some s) r = ⊥

-- a field is refused: there is none, or it holds an integer
abbrev pub FieldRefused : Option FieldValue → Refusal → Type 0
FieldRefused None r = r ≡ NoField
FieldRefused (Some (Int n)) r = r ≡ WrongType
FieldRefused (Some (Ref s)) r = ⊥

-- a field is refused where an integer is wanted: there is none, or it holds a reference
abbrev pub IntRefused : Option FieldValue → Refusal → Type 0
IntRefused None r = r ≡ NoField
IntRefused (Some (Ref s)) r = r ≡ WrongType
IntRefused (Some (Int n)) r = ⊥

-- ---- The clock of the soft policy

-- a reference that gave its referent was used now
abbrev pub used_at : Option ℕ → Clock → Clock
used_at None c = c
used_at (Some s) c = used_now c s

-- the clock after a Deref: what is refused, or gives nothing, is no use
abbrev pub clock_after_deref : Machine → ℕ → ℕ → Answer → Clock → Clock
clock_after_deref m k r (Refused by) c = c
clock_after_deref m k r answer c = cond (is_some (given m (Deref k r))) (used_at (slot_named m k r) c) c
