-- What a legal entry does to the resources.
use Rattle.std.proofs.Common.{◌≡◌, ℕ, Bool, true, false, List, [], ◌∷◌, length, refl, sym, ◌∙◌, ap, subst, Option, Some, None, option_map}
use Rattle.std.proofs.lemmas.Bool.{both_ways, cond_both}
use Rattle.jlr_types.specs.declared.Refusal.{Refusal}
use Rattle.jlr_types.specs.declared.Refusal.TheVariants.{NoMemory, HeapFull}
use Rattle.jlr_machine.specs.declared.object.Cleanable.{Cleanable as CleanableOf}
use Rattle.jlr_machine.specs.declared.machine.Machine.{Machine}
use Rattle.jlr_machine.specs.declared.machine.ResourceState.TheVariants.{Idle}
use Rattle.jlr_machine.specs.declared.ask.Outcome.TheVariants.{Ok as OutcomeOk, Failed}
use Rattle.jlr_machine.specs.declared.ask.Ask.{Ask}
use Rattle.jlr_machine.specs.declared.ask.Ask.TheVariants.{Clean, Prepare, Opened, CheckOut, CheckIn, Close, Finish, TakeUp}
use Rattle.jlr_machine.specs.declared.ask.Answer.{Answer}
use Rattle.jlr_machine.specs.declared.ask.Answer.TheVariants.{Prepared, Out as OutAnswer, Job, AlreadyDone, Refused}
use Rattle.jlr_machine.specs.declared.ask.CallOutcome.{CallOutcome}
use Rattle.jlr_machine.specs.declared.ask.CallOutcome.TheVariants.{Data as GotData, Wrote as GotWrote, Failed as GotFailed}
use Rattle.jlr_machine.specs.declared.entry.Entry.{Entry}
use Rattle.jlr_machine.specs.Chosen.{Chosen}
use Rattle.jlr_machine.specs.declared.entry.Collected.{Collected}
use Rattle.jlr_machine.specs.Objects.{is_spent}
use Rattle.jlr_machine.specs.Lookups.{cleanable_at}
use Rattle.jlr_machine.specs.Refusals.{refusal}
use Rattle.jlr_machine.specs.Calls.{after, reply, prepared_in, take_up_answer, line_answer, from_lined, call_answer}
use Rattle.jlr_machine.specs.Run.{MayCollect, Answers, with_collection, IsCarriedOut, IsLegal, carried, done}
use Rattle.jlr_machine.specs.Run.IsLegal.{carried_out, refused, heap_full, out_of_memory}
use Rattle.jlr_machine.specs.WellFormed.{IsWellFormed, HasResource}
use Rattle.jlr_laws.proofs.LegalKept.{entry, no_need}
use Rattle.jlr_laws.proofs.Refused.{gives_no_refusal}
use Rattle.jlr_histories.specs.ResourceLives.{deed_of}
use Rattle.jlr_histories.proofs.Steps.{carried_is}
use Rattle.jlr_histories.proofs.Moving.{IsMoving}
use Rattle.jlr_histories.proofs.Moving.IsMoving.{still, opens, moves, ends}
use Rattle.jlr_histories.proofs.ResourceAsks.{prepare_moves, check_out_moves, checked_out_idle, check_in_moves, opened_moves}
use Rattle.jlr_histories.proofs.ResourceAsks.{open_failed_moves, close_moves, clean_moves, line_taken_moves, finish_moves}
use Rattle.jlr_histories.proofs.OtherAsks.{touches, touches_not, Never, plain, mapped, other_still, no_deed}

-- ---- The cases of an entry

abbrev pub MovingOf : Machine → ℕ → Ask → Answer → Chosen → Type 0
MovingOf m seat ask answer choice = IsMoving m (done m (entry seat ask answer choice)) (deed_of m ask answer)

-- an ask that makes no object comes with no collection
alone : (m : Machine) (seat : ℕ) (ask : Ask) (answer : Answer) (choice : Chosen) → IsCarriedOut m (entry seat ask answer choice)
    → ((c : Collected) → MayCollect m ask (Some c) → ⊥)
    → (Answers m ask None answer → reply m ask ≡ Some answer)
    → (reply m ask ≡ Some answer → IsMoving m (after m ask answer choice.fresh) (deed_of m ask answer))
    → MovingOf m seat ask answer choice
alone m seat ask answer choice c none replies h =
    elim (choice.collected) as (λ o. MayCollect m ask o → Answers (with_collection m o) ask o answer
    → IsMoving m (carried (with_collection m o) ask answer choice.fresh) (deed_of m ask answer)) [
      | None ↦ λ g a. subst (λ z. IsMoving m z (deed_of m ask answer))
          (sym (carried_is m ask answer choice.fresh (gives_no_refusal m ask answer (replies a)))) (h (replies a))
      | Some x ↦ λ g a. absurd (none x g)
    ] c.collection c.answers

-- the collection of an entry leaves the resources
collected_same : (m : Machine) (o : Option Collected) → (with_collection m o).resources ≡ m.resources
collected_same m None = refl
collected_same m (Some x) = refl

carried_same : (n : Machine) (ask : Ask) (a : Answer) (fresh : List ℕ) → (after n ask a fresh).resources ≡ n.resources
    → (carried n ask a fresh).resources ≡ n.resources
carried_same n ask (Refused by) fresh h = refl
carried_same n ask a fresh h = h

other : (m : Machine) (seat : ℕ) (ask : Ask) (answer : Answer) (choice : Chosen) → IsCarriedOut m (entry seat ask answer choice)
    → touches ask ≡ false → MovingOf m seat ask answer choice
other m seat ask answer choice c t =
    let n = with_collection m choice.collected in
    let s = other_still n ask choice.collected answer choice.fresh t c.answers in
    still (carried_same n ask answer choice.fresh s.same ∙ collected_same m choice.collected)
    (no_deed m ask answer s.nothing (touches_not m ask t))

-- of the machine after a collection they are moved as of the one before
after_collecting : (m : Machine) (k rid : ℕ) (fresh : List ℕ) (x : Collected)
    → IsMoving (with_collection m (Some x)) (prepared_in (with_collection m (Some x)) k fresh rid) (deed_of m (Prepare k) (Prepared rid))
    → IsMoving m (prepared_in (with_collection m (Some x)) k fresh rid) (deed_of m (Prepare k) (Prepared rid))
after_collecting m k rid fresh x (still e f) = still e f
after_collecting m k rid fresh x (opens r free e f) = opens r free e f
after_collecting m k rid fresh x (moves r action old new d h e f g) = moves r action old new d h e f g
after_collecting m k rid fresh x (ends r action old d h e f g) = ends r action old d h e f g

prepared : (m : Machine) (seat k : ℕ) (answer : Answer) (choice : Chosen) → IsCarriedOut m (entry seat (Prepare k) answer choice)
    → MovingOf m seat (Prepare k) answer choice
prepared m seat k answer choice c =
    elim (choice.collected) as (λ o. length choice.fresh ≡ 2 → Answers (with_collection m o) (Prepare k) o answer
    → IsMoving m (carried (with_collection m o) (Prepare k) answer choice.fresh) (deed_of m (Prepare k) answer)) [
      | None ↦ λ two a. subst (λ z. IsMoving m (carried m (Prepare k) z choice.fresh) (deed_of m (Prepare k) z)) (sym a.3)
          (prepare_moves m k a.0 choice.fresh a.2 two)
      | Some x ↦ λ two a. subst (λ z. IsMoving m (carried (with_collection m (Some x)) (Prepare k) z choice.fresh)
          (deed_of m (Prepare k) z)) (sym a.3) (after_collecting m k a.0 choice.fresh x
          (prepare_moves (with_collection m (Some x)) k a.0 choice.fresh a.2 two))
    ] c.fresh.count c.answers

-- ---- Each ask

moving_done : (m : Machine) → IsWellFormed m → (seat : ℕ) (ask : Ask) (answer : Answer) (choice : Chosen)
    → IsCarriedOut m (entry seat ask answer choice) → MovingOf m seat ask answer choice
moving_done m w seat (Prepare k) answer choice c = prepared m seat k answer choice c
moving_done m w seat (Opened k OutcomeOk) answer choice c =
    alone m seat (Opened k OutcomeOk) answer choice c (λ x h. no_need m h.0) (λ a. a) (opened_moves m k answer choice.fresh w c.allowed)
moving_done m w seat (Opened k (Failed fault)) answer choice c =
    alone m seat (Opened k (Failed fault)) answer choice c (λ x h. no_need m h.0) (λ a. a)
    (open_failed_moves m k fault answer choice.fresh w c.allowed)
moving_done m w seat (CheckOut k h) answer choice c =
    alone m seat (CheckOut k h) answer choice c (λ x h. no_need m h.0) (λ a. a) (check_out_moves m k h answer choice.fresh w c.allowed)
moving_done m w seat (CheckIn k outcome) answer choice c =
    alone m seat (CheckIn k outcome) answer choice c (λ x h. no_need m h.0) (λ a. a)
    (check_in_moves m k outcome answer choice.fresh w c.allowed)
moving_done m w seat (Clean k h) answer choice c =
    alone m seat (Clean k h) answer choice c (λ x h. no_need m h.0) (λ a. a) (clean_moves m k h answer choice.fresh w c.allowed)
moving_done m w seat (Close k h) answer choice c =
    alone m seat (Close k h) answer choice c (λ x h. no_need m h.0) (λ a. a) (close_moves m k h answer choice.fresh w c.allowed)
moving_done m w seat (Finish by action outcome) answer choice c =
    alone m seat (Finish by action outcome) answer choice c (λ x h. no_need m h.0) (λ a. a)
    (finish_moves m by action outcome answer choice.fresh w c.allowed)
moving_done m w seat TakeUp answer choice c =
    alone m seat TakeUp answer choice c (λ x h. no_need m h.0) (λ a. a) (line_taken_moves m answer choice.fresh w)
moving_done m w seat ask answer choice c = other m seat ask answer choice c refl

-- ---- Each legal entry

-- a refused ask does nothing to them
refused_moving : (m : Machine) (e : Entry) (by : Refusal) → e.answer ≡ Refused by → IsMoving m (done m e) (deed_of m e.ask e.answer)
refused_moving m e by a =
    still (ap (λ z. (carried (with_collection m e.choice.collected) e.ask z e.choice.fresh).resources) a
    ∙ collected_same m e.choice.collected) (ap (deed_of m e.ask) a)

pub legal_moving : (m : Machine) (e : Entry) → IsWellFormed m → IsLegal m e → IsMoving m (done m e) (deed_of m e.ask e.answer)
legal_moving m e w (carried_out c) = moving_done m w e.seat e.ask e.answer e.choice c
legal_moving m e w (refused c) = refused_moving m e c.by c.answers
legal_moving m e w (heap_full c) = refused_moving m e HeapFull c.answers
legal_moving m e w (out_of_memory c) = refused_moving m e NoMemory c.answers

-- ---- What is handed out to a call

abbrev is_out_answer : Answer → Bool
is_out_answer (OutAnswer rid) = true
is_out_answer _ = false

never_out : {P : Type 0} (o : Option Answer) (rid : ℕ) → Never is_out_answer o → o ≡ Some (OutAnswer rid) → P
never_out o rid h e = absurd (both_ways true (h (OutAnswer rid) e) refl)

no_take_up : (o : Option CleanableOf) → Never is_out_answer (option_map take_up_answer o)
no_take_up o = mapped is_out_answer take_up_answer
    (λ c. cond_both (is_spent c.state) AlreadyDone (Job c.action c.work) (λ z. is_out_answer z ≡ false) (λ _. refl) (λ _. refl)) o

no_line : (m : Machine) (line : List ℕ) → Never is_out_answer (line_answer m line)
no_line m [] = plain is_out_answer _ refl
no_line m (s ∷ rest) = no_take_up (cleanable_at m s)

no_call : (outcome : CallOutcome) → is_out_answer (call_answer outcome) ≡ false
no_call (GotData bytes) = refl
no_call (GotWrote n) = refl
no_call (GotFailed fault) = refl

-- only CheckOut hands a resource out to a call
out_done : (m : Machine) → IsWellFormed m → (ask : Ask) (o : Option Collected) (rid : ℕ) → refusal m ask ≡ None → MayCollect m ask o
    → Answers (with_collection m o) ask o (OutAnswer rid) → (action : ℕ) × HasResource m rid action Idle
out_done m w (CheckOut k h) None rid r g a = checked_out_idle m k h rid w r a
out_done m w (CheckOut k h) (Some x) rid r g a = absurd (no_need m g.0)
out_done m w (Prepare k) o rid r g a = absurd (cc a.3)
out_done m w (Opened k OutcomeOk) o rid r g a = never_out _ rid (mapped is_out_answer _ (λ s. refl) _) a
out_done m w (Opened k (Failed fault)) o rid r g a = never_out _ rid (plain is_out_answer _ refl) a
out_done m w (CheckIn k outcome) o rid r g a = never_out _ rid (plain is_out_answer _ (no_call outcome)) a
out_done m w (Clean k h) o rid r g a = never_out _ rid (no_take_up _) a
out_done m w (Close k h) o rid r g a = never_out _ rid (no_take_up _) a
out_done m w (Finish by action OutcomeOk) o rid r g a = never_out _ rid (plain is_out_answer _ refl) a
out_done m w (Finish by action (Failed fault)) o rid r g a = never_out _ rid (plain is_out_answer _ refl) a
out_done m w TakeUp o rid r g a = let n = with_collection m o in never_out _ rid (no_line n (from_lined n n.line)) a
out_done m w ask o rid r g a = absurd (both_ways true (other_still (with_collection m o) ask o (OutAnswer rid) [] refl a).nothing refl)

pub out_was_idle : (m : Machine) (e : Entry) (rid : ℕ) → IsWellFormed m → IsLegal m e → e.answer ≡ OutAnswer rid → (action : ℕ)
    × HasResource m rid action Idle
out_was_idle m e rid w (carried_out c) a = out_done m w e.ask e.choice.collected rid c.allowed c.collection
    (subst (λ z. Answers (with_collection m e.choice.collected) e.ask e.choice.collected z) a c.answers)
out_was_idle m e rid w (refused c) a = let both : Refused c.by ≡ OutAnswer rid = sym c.answers ∙ a in absurd (cc both)
out_was_idle m e rid w (heap_full c) a = let both : Refused HeapFull ≡ OutAnswer rid = sym c.answers ∙ a in absurd (cc both)
out_was_idle m e rid w (out_of_memory c) a = let both : Refused NoMemory ≡ OutAnswer rid = sym c.answers ∙ a in absurd (cc both)
