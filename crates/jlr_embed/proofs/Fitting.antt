-- An answer is of the kind of its ask, and what goes out suits it; a core stands for a machine after each step.
use Rattle.std.proofs.Common.{◌≡◌, ◌≤◌, ℕ, length, ap, ◌∙◌, arith, Bool, true, false, cond, List, [], ◌∷◌, Option, Some, None, option_map}
use Rattle.std.proofs.Common.{option_and_then, is_none, refl, sym, subst}
use Rattle.std.proofs.lemmas.Bool.{both_ways}
use Rattle.std.proofs.lemmas.List.{length-replicate}
use Rattle.jlr_types.specs.declared.FieldValue.{FieldValue}
use Rattle.jlr_types.specs.declared.FieldValue.TheVariants.{Int as IntValue, Ref as RefValue}
use Rattle.jlr_types.specs.declared.Work.{Work}
use Rattle.jlr_types.specs.declared.Progress.{Progress}
use Rattle.jlr_types.specs.declared.Work.TheVariants.{Note, Resource as WorkOn}
use Rattle.jlr_machine.specs.declared.object.Cleanable.{Cleanable as CleanableOf}
use Rattle.jlr_machine.specs.declared.machine.Machine.{Machine}
use Rattle.jlr_machine.specs.declared.ask.Ask.{Ask}
use Rattle.jlr_machine.specs.declared.ask.Ask.TheVariants.{New, Get, Int, Dup, MakeRef, Deref, Refers}
use Rattle.jlr_machine.specs.declared.ask.Ask.TheVariants.{Enqueue, Enqueued, MakeQueue, Poll, Remove, MakeCleaner, Register, Clean}
use Rattle.jlr_machine.specs.declared.ask.Ask.TheVariants.{Prepare, Opened, CheckOut, CheckIn, Close, Finish, Find, Names}
use Rattle.jlr_machine.specs.declared.ask.Ask.TheVariants.{Stat, Notes, Faults, HandOver, TakeUp, Collect, Array}
use Rattle.jlr_machine.specs.declared.ask.Outcome.{Outcome}
use Rattle.jlr_machine.specs.declared.ask.Outcome.TheVariants.{Ok as OutcomeOk, Failed}
use Rattle.jlr_machine.specs.declared.ask.CallOutcome.{CallOutcome}
use Rattle.jlr_machine.specs.declared.ask.CallOutcome.TheVariants.{Data as GotData, Wrote as GotWrote, Failed as GotFailed}
use Rattle.jlr_machine.specs.declared.ask.Answer.{Answer}
use Rattle.jlr_machine.specs.declared.ask.Answer.TheVariants as answer
use Rattle.jlr_machine.specs.Chosen.{Chosen}
use Rattle.jlr_machine.specs.declared.entry.Entry.{Entry}
use Rattle.jlr_machine.specs.declared.entry.Collected.{Collected}
use Rattle.jlr_machine.specs.Objects.{at, is_spent}
use Rattle.jlr_machine.specs.Lookups.{field_named}
use Rattle.jlr_machine.specs.Refusals.{given}
use Rattle.jlr_machine.specs.Calls.{new_handle, handle_given, number_in, outcome_answer, call_answer, take_up_answer, hand_over_answer}
use Rattle.jlr_machine.specs.Calls.{line_answer, from_lined}
use Rattle.jlr_machine.specs.declared.object.Object.{Object}
use Rattle.jlr_machine.specs.Choices.{Choosing, nothing_chosen}
use Rattle.jlr_machine.specs.Run.{IsLegal, Answers, with_collection, empty_from}
use Rattle.jlr_machine.specs.Run.IsLegal.{carried_out, refused, heap_full, out_of_memory}
use Rattle.jlr_laws.proofs.Frames.{no_some, some_same}
use Rattle.jlr_resource.specs.Resources.{Resources}
use Rattle.jlr_event.specs.declared.event.Event.{Event}
use Rattle.jlr_event.specs.declared.event.Reply.{Reply}
use Rattle.jlr_event.specs.declared.event.Reply.TheVariants.{Answered, Marked}
use Rattle.jlr_event.specs.Events.{ask_of, resource_of_event}
use Rattle.jlr_steps.specs.Cores.{Kept}
use Rattle.jlr_steps.specs.Events.{EntersLegally, GoesOut, entry_of}
use Rattle.jlr_steps.specs.Steps.{IsEmpty, IsStep}
use Rattle.jlr_embed.specs.Kinds.{GoesBack, tells_done, is_faulted, is_prepared, kind_of_call, kind_of_finish, is_handle, is_job_answer}
use Rattle.jlr_embed.specs.Kinds.{is_integer}
use Rattle.jlr_embed.specs.Kinds.{is_told, answer_kind, kind_of_open, kind_asked, suits}
use Rattle.jlr_embed.specs.Standing.{StandsForMachine}

-- ---- The answers of asks that are carried out

module _ (kind : Answer → Bool) where
  plainly : (x a : Answer) → Some x ≡ Some a → kind x ≡ true → kind a ≡ true
  plainly x a e h = subst (λ y. kind y ≡ true) (some_same x a e) h

  mapped : {A : Type 0} (f : A → Answer) (o : Option A) (a : Answer) → ((x : A) → kind (f x) ≡ true) → option_map f o ≡ Some a
      → kind a ≡ true
  mapped f None a h e = no_some a e
  mapped f (Some x) a h e = plainly (f x) a e (h x)

taken_up : (c : CleanableOf) → is_job_answer (take_up_answer c) ≡ true
taken_up c =
    elim (is_spent c.state) as (λ b. is_job_answer (cond b answer.AlreadyDone (answer.Job c.action c.work)) ≡ true)
    [ true ↦ refl | false ↦ refl ]

handle : (m : Machine) (k : ℕ) (a : Answer) → new_handle m k ≡ Some a → is_handle a ≡ true
handle m k a e = mapped is_handle _ (at m.mutators k) a (λ s. refl) e

handle_or_null : (m : Machine) (k : ℕ) (o : Option ℕ) (a : Answer) → handle_given m k o ≡ Some a → is_handle a ≡ true
handle_or_null m k None a e = plainly is_handle (answer.Handle 0) a e refl
handle_or_null m k (Some s) a e = handle m k a e

number : (o : Option FieldValue) (a : Answer) → option_and_then number_in o ≡ Some a → is_integer a ≡ true
number None a e = no_some a e
number (Some (IntValue n)) a e = plainly is_integer (answer.Int n) a e refl
number (Some (RefValue s)) a e = no_some a e

ended : (outcome : Outcome) (a : Answer) → outcome_answer outcome (Some answer.Done) ≡ Some a → kind_of_finish outcome a ≡ true
ended OutcomeOk a e = plainly tells_done answer.Done a e refl
ended (Failed fault) a e = plainly is_faulted (answer.Faulted fault) a e refl

opened : (m : Machine) (k : ℕ) (outcome : Outcome) (a : Answer) → outcome_answer outcome (new_handle m k) ≡ Some a
    → kind_of_open outcome a ≡ true
opened m k OutcomeOk a e = handle m k a e
opened m k (Failed fault) a e = plainly is_faulted (answer.Faulted fault) a e refl

called : (outcome : CallOutcome) → kind_of_call outcome (call_answer outcome) ≡ true
called (GotData bytes) = refl
called (GotWrote n) = refl
called (GotFailed fault) = refl

handed_over : (m : Machine) (slots : List ℕ) (a : Answer) → hand_over_answer m slots ≡ Some a → answer_kind HandOver a ≡ true
handed_over m [] a e = plainly (answer_kind HandOver) _ a e refl
handed_over m (s ∷ slots) a e = mapped (answer_kind HandOver) _ (at m.objects s) a (λ o. refl) e

lined_up : (m : Machine) (slots : List ℕ) (a : Answer) → line_answer m slots ≡ Some a → is_job_answer a ≡ true
lined_up m [] a e = plainly is_job_answer _ a e refl
lined_up m (s ∷ slots) a e = mapped is_job_answer take_up_answer _ a taken_up e

answered : (m : Machine) (ask : Ask) (o : Option Collected) (a : Answer) → Answers m ask o a → answer_kind ask a ≡ true
answered m (New k layout) o a e = handle m k a e
answered m (Get k h f) o a e = handle_or_null m k (given m (Get k h f)) a e
answered m (Int k h f) o a e = number (field_named m k h f) a e
answered m (Dup k h) o a e = handle_or_null m k (given m (Dup k h)) a e
answered m (MakeRef k kind h q) o a e = handle m k a e
answered m (Deref k s) o a e = handle_or_null m k (given m (Deref k s)) a e
answered m (Refers k s h) o a e = mapped (answer_kind (Refers k s h)) _ _ a (λ _. refl) e
answered m (Enqueue k s) o a e = mapped (answer_kind (Enqueue k s)) _ _ a (λ _. refl) e
answered m (Enqueued k s) o a e = mapped (answer_kind (Enqueued k s)) _ _ a (λ _. refl) e
answered m (MakeQueue k) o a e = handle m k a e
answered m (Poll k q) o a e = handle_or_null m k (given m (Poll k q)) a e
answered m (Remove k q) o a e = handle_or_null m k (given m (Remove k q)) a e
answered m (MakeCleaner k) o a e = handle m k a e
answered m (Register k d h note) o a e = handle m k a e
answered m (Clean k d) o a e = mapped is_job_answer take_up_answer _ a taken_up e
answered m (Prepare k) o a e = subst (λ x. is_prepared x ≡ true) (sym e.3) refl
answered m (Opened k outcome) o a e = opened m k outcome a e
answered m (CheckOut k h) o a e = mapped (answer_kind (CheckOut k h)) _ _ a (λ _. refl) e
answered m (CheckIn k outcome) o a e = plainly (kind_of_call outcome) (call_answer outcome) a e (called outcome)
answered m (Close k h) o a e = mapped is_job_answer take_up_answer _ a taken_up e
answered m (Finish by action outcome) o a e = ended outcome a e
answered m (Find k name) o a e = handle m k a e
answered m HandOver o a e = handed_over m m.pending a e
answered m TakeUp o a e = lined_up m (from_lined m m.line) a e
answered m Collect o a e = subst (λ x. answer_kind Collect x ≡ true) (sym e) refl
answered m (Array k n) o a e = handle m k a e
answered m asked o a e = plainly (answer_kind asked) _ a e refl

-- ---- Legal entries

told : (kind : Answer → Bool) (a : Answer) → kind a ≡ true → is_told kind a ≡ true
told kind (answer.Refused by) e = refl
told kind answer.Done e = e
told kind (answer.Handle h) e = e
told kind (answer.Truth t) e = e
told kind (answer.Int n) e = e
told kind (answer.Data bytes) e = e
told kind (answer.Wrote n) e = e
told kind (answer.Faulted fault) e = e
told kind (answer.Names names) e = e
told kind (answer.Notes notes) e = e
told kind (answer.Faults faults) e = e
told kind (answer.Stat stat) e = e
told kind (answer.Job action work) e = e
told kind answer.AlreadyDone e = e
told kind (answer.Prepared rid) e = e
told kind (answer.Out rid) e = e
told kind (answer.Handed what) e = e

legal : (m : Machine) (e : Entry) → IsLegal m e → is_told (answer_kind e.ask) e.answer ≡ true
legal m e (carried_out c) =
    told (answer_kind e.ask) e.answer (answered (with_collection m e.choice.collected) e.ask e.choice.collected e.answer c.answers)
legal m e (refused x) = subst (λ a. is_told (answer_kind e.ask) a ≡ true) (sym x.answers) refl
legal m e (heap_full x) = subst (λ a. is_told (answer_kind e.ask) a ≡ true) (sym x.answers) refl
legal m e (out_of_memory x) = subst (λ a. is_told (answer_kind e.ask) a ≡ true) (sym x.answers) refl

entered : (m n : Machine) (ask : Option Ask) (a : Answer) (chosen : Chosen) → EntersLegally m ask (Some a) chosen n
    → is_told (kind_asked ask) a ≡ true
entered m n (Some ask) a chosen e = legal m (entry_of ask a chosen) e.0
entered m n None a chosen e = absurd e

-- ---- Steps

module _ {R : Type 0} (old new : Kept R) (event : Event R) (reply : Reply R) (chosen : Chosen)
    (step : IsStep old event reply chosen new) where
  pub stands_after : StandsForMachine old → StandsForMachine new
  stands_after s = let x = step.entry s.0 s.1 in (x.0, x.2)

pub kind_told : {R : Type 0} (old new : Kept R) (event : Event R) (a : Answer) (out : Option R) (chosen : Chosen)
    → IsStep old event (Answered a out) chosen new → StandsForMachine old → is_told (kind_asked (ask_of event)) a ≡ true
kind_told old new event a out chosen step s = let x = step.entry s.0 s.1 in entered s.0 x.0 (ask_of event) a chosen x.1

-- ---- What goes out

job_goes : {R : Type 0} (t : Resources R) (came : Option R) (action : ℕ) (work : Work) (out : Option R)
    → GoesOut t came (Some (answer.Job action work)) out → suits (answer.Job action work) out ≡ true
job_goes t came action (Note n) None g = refl
job_goes t came action (Note n) (Some v) g = no_some v (sym g)
job_goes t came action (WorkOn rid) None g = absurd g
job_goes t came action (WorkOn rid) (Some v) g = refl

out_goes : {R : Type 0} (t : Resources R) (came : Option R) (rid : ℕ) (out : Option R) → GoesOut t came (Some (answer.Out rid)) out
    → suits (answer.Out rid) out ≡ true
out_goes t came rid None g = absurd g
out_goes t came rid (Some v) g = refl

pub goes : {R : Type 0} (t : Resources R) (came : Option R) (a : Answer) (out : Option R) → GoesOut t came (Some a) out → suits a out ≡ true
goes t came (answer.Job action work) out g = job_goes t came action work out g
goes t came (answer.Out rid) out g = out_goes t came rid out g
goes t came (answer.Refused by) out g = refl
goes t came answer.Done out g = refl
goes t came (answer.Handle h) out g = refl
goes t came (answer.Truth b) out g = refl
goes t came (answer.Int n) out g = refl
goes t came (answer.Data bytes) out g = refl
goes t came (answer.Wrote n) out g = refl
goes t came (answer.Faulted fault) out g = refl
goes t came (answer.Names names) out g = refl
goes t came (answer.Notes notes) out g = refl
goes t came (answer.Faults faults) out g = refl
goes t came (answer.Stat stat) out g = refl
goes t came answer.AlreadyDone out g = refl
goes t came (answer.Prepared rid) out g = refl
goes t came (answer.Handed what) out g = refl

pub goes_back : {R : Type 0} (t : Resources R) (came : Option R) (a : Answer) (out : Option R) → GoesOut t came (Some a) out
    → GoesBack came a out
goes_back t came (answer.Refused by) out g = g
goes_back t came (answer.Job action work) out g = tt
goes_back t came (answer.Out rid) out g = tt
goes_back t came answer.Done out g = g
goes_back t came (answer.Handle h) out g = g
goes_back t came (answer.Truth b) out g = g
goes_back t came (answer.Int n) out g = g
goes_back t came (answer.Data bytes) out g = g
goes_back t came (answer.Wrote n) out g = g
goes_back t came (answer.Faulted fault) out g = g
goes_back t came (answer.Names names) out g = g
goes_back t came (answer.Notes notes) out g = g
goes_back t came (answer.Faults faults) out g = g
goes_back t came (answer.Stat stat) out g = g
goes_back t came answer.AlreadyDone out g = g
goes_back t came (answer.Prepared rid) out g = g
goes_back t came (answer.Handed what) out g = g

-- ---- The empty heap

pub stands_empty : {R : Type 0} (core : Kept R) (cells sessions limit soft_age first : ℕ) → IsEmpty cells sessions limit soft_age first core
    → StandsForMachine core
stands_empty core cells sessions limit soft_age first e = (
  empty_from cells sessions limit first,
  record { same = e.machine; seen = λ is_open. absurd (both_ways false refl is_open); outside = λ _. refl },
)

-- ---- Replies of which the kind is known

module _ {R : Type 0} (old new : Kept R) (event : Event R) (reply : Reply R) (chosen : Chosen) (step : IsStep old event reply chosen new)
    (s : StandsForMachine old) where
  pub kind_carried : (a : Answer) (out : Option R) → reply ≡ Answered a out → is_told (kind_asked (ask_of event)) a ≡ true
  kind_carried a out e = kind_told old new event a out chosen (subst (λ r. IsStep old event r chosen new) e step) s

  pub suits_carried : (a : Answer) (out : Option R) → reply ≡ Answered a out → suits a out ≡ true
  suits_carried a out e = let known : IsStep old event (Answered a out) chosen new = subst (λ r. IsStep old event r chosen new) e step in
      goes old.table (resource_of_event event) a out known.goes_out

  pub back_carried : (a : Answer) (out : Option R) → reply ≡ Answered a out → GoesBack (resource_of_event event) a out
  back_carried a out e = let known : IsStep old event (Answered a out) chosen new = subst (λ r. IsStep old event r chosen new) e step in
      goes_back old.table (resource_of_event event) a out known.goes_out

  none_marked : (m n : Machine) (ask : Option Ask) → EntersLegally m ask None chosen n → is_none ask ≡ false → ⊥
  none_marked m n (Some ask) e is_some = e
  none_marked m n None e is_some = both_ways true is_some refl

  pub not_marked : (p : Progress) → reply ≡ Marked p → is_none (ask_of event) ≡ false → ⊥
  not_marked p e is_some =
      let known : IsStep old event (Marked p) chosen new = subst (λ r. IsStep old event r chosen new) e step in
      let x = known.entry s.0 s.1 in
      none_marked s.0 x.0 (ask_of event) x.1 is_some

-- ---- Room for choices

pub room_for_all : {R : Type 0} (core : Kept R) (choice : Choosing) (cells sessions limit soft_age first : ℕ)
    → IsEmpty cells sessions limit soft_age first core → choice ≡ nothing_chosen cells → length core.machine.objects ≤ choice.cells
room_for_all core choice cells sessions limit soft_age first e c =
    let none : Option Object = None in
    let long : length core.machine.objects ≡ cells = ap (λ (m : Machine). length m.objects) e.machine ∙ length-replicate cells none in
    let wide : choice.cells ≡ cells = ap (λ (x : Choosing). x.cells) c in
    omega (arith, long, wide)
