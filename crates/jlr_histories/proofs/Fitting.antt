-- A list answer comes only to the three asks for lists, and has at most 256 items; what a call read only to the end of that call.
use Rattle.std.proofs.Common.{◌≡◌, ℕ, ◌≤◌, true, false, cond, List, [], ◌∷◌, length, Option, Some, None, option_map, option_and_then}
use Rattle.std.proofs.Common.{sym, subst, arith}
use Rattle.std.proofs.lemmas.List.{length-map}
use Rattle.jlr_types.specs.declared.FieldValue.{FieldValue}
use Rattle.jlr_types.specs.declared.FieldValue.TheVariants.{Int as IntValue, Ref as RefValue}
use Rattle.jlr_machine.specs.declared.object.Cleanable.{Cleanable as CleanableOf}
use Rattle.jlr_machine.specs.declared.machine.Binding.{Binding}
use Rattle.jlr_machine.specs.declared.machine.Machine.{Machine}
use Rattle.jlr_machine.specs.declared.ask.Ask.{Ask}
use Rattle.jlr_machine.specs.declared.ask.Ask.TheVariants.{New, Get, Int, Dup, MakeRef, Deref, Refers}
use Rattle.jlr_machine.specs.declared.ask.Ask.TheVariants.{Enqueue, Enqueued, MakeQueue, Poll, Remove, MakeCleaner, Register, Clean}
use Rattle.jlr_machine.specs.declared.ask.Ask.TheVariants.{Prepare, Opened, CheckOut, CheckIn, Close, Finish, Find, Names}
use Rattle.jlr_machine.specs.declared.ask.Ask.TheVariants.{Notes, Faults, HandOver, TakeUp, Collect, Array}
use Rattle.jlr_machine.specs.declared.ask.Outcome.{Outcome}
use Rattle.jlr_machine.specs.declared.ask.Outcome.TheVariants.{Ok as OutcomeOk, Failed}
use Rattle.jlr_machine.specs.declared.ask.CallOutcome.{CallOutcome}
use Rattle.jlr_machine.specs.declared.ask.CallOutcome.TheVariants.{Data as GotData, Wrote as GotWrote, Failed as GotFailed}
use Rattle.jlr_machine.specs.declared.ask.Answer.{Answer}
use Rattle.jlr_machine.specs.declared.ask.Answer.TheVariants as answer
use Rattle.jlr_machine.specs.declared.entry.Entry.{Entry}
use Rattle.jlr_machine.specs.declared.entry.Collected.{Collected}
use Rattle.jlr_machine.specs.Objects.{at, is_spent}
use Rattle.jlr_machine.specs.Lookups.{field_named, bound_names}
use Rattle.jlr_machine.specs.Refusals.{given}
use Rattle.jlr_machine.specs.Calls.{new_handle, handle_given, number_in, outcome_answer, call_answer, take_up_answer, hand_over_answer}
use Rattle.jlr_machine.specs.Calls.{line_answer, from_lined}
use Rattle.jlr_machine.specs.Run.{IsLegal, Answers, with_collection}
use Rattle.jlr_machine.specs.Run.IsLegal.{carried_out, refused, heap_full, out_of_memory}
use Rattle.jlr_machine.specs.WellFormed.{IsWellFormed}
use Rattle.jlr_laws.proofs.Frames.{no_some, some_same}
use Rattle.jlr_histories.specs.Rooms.{Rooms, FitsRooms, HasRoomFor}

module _ (room : Rooms) where
  plainly : (x a : Answer) → Some x ≡ Some a → FitsRooms room x → FitsRooms room a
  plainly x a e h = subst (FitsRooms room) (some_same x a e) h

  mapped : {A : Type 0} (f : A → Answer) (o : Option A) (a : Answer) → ((x : A) → FitsRooms room (f x)) → option_map f o ≡ Some a
      → FitsRooms room a
  mapped f None a h e = no_some a e
  mapped f (Some x) a h e = plainly (f x) a e (h x)

  taken_up : (c : CleanableOf) → FitsRooms room (take_up_answer c)
  taken_up c =
      elim (is_spent c.state) as (λ b. FitsRooms room (cond b answer.AlreadyDone (answer.Job c.action c.work))) [ true ↦ tt | false ↦ tt ]

  handle : (m : Machine) (k : ℕ) (a : Answer) → new_handle m k ≡ Some a → FitsRooms room a
  handle m k a e = mapped _ (at m.mutators k) a (λ s. tt) e

  handle_or_null : (m : Machine) (k : ℕ) (o : Option ℕ) (a : Answer) → handle_given m k o ≡ Some a → FitsRooms room a
  handle_or_null m k None a e = plainly (answer.Handle 0) a e tt
  handle_or_null m k (Some s) a e = handle m k a e

  number : (o : Option FieldValue) (a : Answer) → option_and_then number_in o ≡ Some a → FitsRooms room a
  number None a e = no_some a e
  number (Some (IntValue n)) a e = plainly (answer.Int n) a e tt
  number (Some (RefValue s)) a e = no_some a e

  ended : (outcome : Outcome) (success : Option Answer) (a : Answer) → (success ≡ Some a → FitsRooms room a)
      → outcome_answer outcome success ≡ Some a → FitsRooms room a
  ended OutcomeOk success a h e = h e
  ended (Failed fault) success a h e = plainly (answer.Faulted fault) a e tt

  called : (k : ℕ) (outcome : CallOutcome) → HasRoomFor (CheckIn k outcome) room → FitsRooms room (call_answer outcome)
  called k (GotData bytes) r = r
  called k (GotWrote n) r = tt
  called k (GotFailed fault) r = tt

  handed_over : (m : Machine) (slots : List ℕ) (a : Answer) → hand_over_answer m slots ≡ Some a → FitsRooms room a
  handed_over m [] a e = plainly _ a e tt
  handed_over m (s ∷ slots) a e = mapped _ (at m.objects s) a (λ o. tt) e

  lined_up : (m : Machine) (slots : List ℕ) (a : Answer) → line_answer m slots ≡ Some a → FitsRooms room a
  lined_up m [] a e = plainly _ a e tt
  lined_up m (s ∷ slots) a e = mapped take_up_answer _ a taken_up e

  -- what is answered where the ask is carried out in a well-formed machine
  answered : (m : Machine) (ask : Ask) (o : Option Collected) (a : Answer) → length m.names ≤ 256 → length m.notes ≤ 256
      → length m.faults ≤ 256 → HasRoomFor ask room → Answers m ask o a → FitsRooms room a
  answered m (New k layout) o a x y z r e = handle m k a e
  answered m (Get k h f) o a x y z r e = handle_or_null m k (given m (Get k h f)) a e
  answered m (Int k h f) o a x y z r e = number (field_named m k h f) a e
  answered m (Dup k h) o a x y z r e = handle_or_null m k (given m (Dup k h)) a e
  answered m (MakeRef k kind h q) o a x y z r e = handle m k a e
  answered m (Deref k s) o a x y z r e = handle_or_null m k (given m (Deref k s)) a e
  answered m (Refers k s h) o a x y z r e = mapped _ _ a (λ _. tt) e
  answered m (Enqueue k s) o a x y z r e = mapped _ _ a (λ _. tt) e
  answered m (Enqueued k s) o a x y z r e = mapped _ _ a (λ _. tt) e
  answered m (MakeQueue k) o a x y z r e = handle m k a e
  answered m (Poll k q) o a x y z r e = handle_or_null m k (given m (Poll k q)) a e
  answered m (Remove k q) o a x y z r e = handle_or_null m k (given m (Remove k q)) a e
  answered m (MakeCleaner k) o a x y z r e = handle m k a e
  answered m (Register k d h note) o a x y z r e = handle m k a e
  answered m (Clean k d) o a x y z r e = mapped take_up_answer _ a taken_up e
  answered m (Prepare k) o a x y z r e = subst (FitsRooms room) (sym e.3) tt
  answered m (Opened k outcome) o a x y z r e = ended outcome (new_handle m k) a (handle m k a) e
  answered m (CheckOut k h) o a x y z r e = mapped _ _ a (λ _. tt) e
  answered m (CheckIn k outcome) o a x y z r e = plainly (call_answer outcome) a e (called k outcome r)
  answered m (Close k h) o a x y z r e = mapped take_up_answer _ a taken_up e
  answered m (Finish by action outcome) o a x y z r e = ended outcome (Some answer.Done) a (λ f. plainly answer.Done a f tt) e
  answered m (Find k name) o a x y z r e = handle m k a e
  answered m (Names k) o a x y z r e = plainly (answer.Names (bound_names m.names)) a e
      (let l = length-map {A = Binding} {B = List ℕ} m.names (λ b. b.name) in omega (arith, l, x, r))
  answered m (Notes k) o a x y z r e = plainly (answer.Notes m.notes) a e (omega (arith, y, r))
  answered m (Faults k) o a x y z r e = plainly (answer.Faults m.faults) a e (omega (arith, z, r))
  answered m HandOver o a x y z r e = handed_over m m.pending a e
  answered m TakeUp o a x y z r e = lined_up m (from_lined m m.line) a e
  answered m Collect o a x y z r e = subst (FitsRooms room) (sym e) tt
  answered m (Array k n) o a x y z r e = handle m k a e
  answered m asked o a x y z r e = plainly _ a e tt

-- a collection leaves the names and what was recorded
after_collected : (m : Machine) (o : Option Collected) → IsWellFormed m → (length (with_collection m o).names ≤ 256)
    × (length (with_collection m o).notes ≤ 256) × (length (with_collection m o).faults ≤ 256)
after_collected m None w = (w.sessions.names_limit, w.notes, w.faults)
after_collected m (Some c) w = (w.sessions.names_limit, w.notes, w.faults)

pub answers_fit : (m : Machine) (e : Entry) (room : Rooms) → IsWellFormed m → IsLegal m e → HasRoomFor e.ask room → FitsRooms room e.answer
answers_fit m e room w (carried_out c) r = let l = after_collected m e.choice.collected w in
    answered room (with_collection m e.choice.collected) e.ask e.choice.collected e.answer l.0 l.1 l.2 r c.answers
answers_fit m e room w (refused x) r = subst (FitsRooms room) (sym x.answers) tt
answers_fit m e room w (heap_full x) r = subst (FitsRooms room) (sym x.answers) tt
answers_fit m e room w (out_of_memory x) r = subst (FitsRooms room) (sym x.answers) tt
