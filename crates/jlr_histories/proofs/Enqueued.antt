-- A reference is enqueued at most once in its life.
use Rattle.std.proofs.Common.{◌≡◌, ℕ, ◌+◌, ◌≤◌, Bool, true, false, cond, not, ◌&&◌, List, [], ◌∷◌, refl, sym, ◌∙◌, ap, subst, arith, Option}
use Rattle.std.proofs.Common.{Some, option_and_then}
use Rattle.std.proofs.lemmas.Bool.{both_ways}
use Rattle.jlr_machine.specs.declared.object.Object.{Object}
use Rattle.jlr_machine.specs.declared.object.Object.TheVariants.{Plain, Reference, Queue, Cleaner, Cleanable, Guard}
use Rattle.jlr_machine.specs.declared.object.RefState.{RefState}
use Rattle.jlr_machine.specs.declared.object.RefState.TheVariants.{Fresh, Pending, Queued, Removed}
use Rattle.jlr_machine.specs.declared.machine.Machine.{Machine}
use Rattle.jlr_machine.specs.declared.entry.Entry.{Entry}
use Rattle.jlr_machine.specs.Objects.{at, some_and, as_reference, is_queued, is_unqueued}
use Rattle.jlr_machine.specs.Run.{IsLegal, Run, apply}
use Rattle.jlr_machine.specs.WellFormed.{IsWellFormed}
use Rattle.jlr_laws.proofs.Allowed.{some_there}
use Rattle.jlr_laws.proofs.Law.{legal_kept}
use Rattle.jlr_histories.specs.Lives.{LivesOn, may_become, enqueueings}
use Rattle.jlr_histories.specs.Laws.{EnqueuedAtMostOnce, EnqueuedOnItsWay}
use Rattle.jlr_histories.proofs.Becomes.{Becomes}
use Rattle.jlr_histories.proofs.Steps.{Clears}
use Rattle.jlr_histories.proofs.Forward.{begins, becomes}

abbrev state_in : Option Object → Option RefState
state_in o = option_and_then (λ r. Some r.state) (option_and_then as_reference o)

abbrev queued_in : Option Object → Bool
queued_in o = some_and is_queued (state_in o)

-- 1 for a reference that was enqueued, and else 0
abbrev been_in : Option Object → ℕ
been_in o = cond (some_and (λ s. not (is_unqueued s)) (state_in o)) 1 0

abbrev enqueued_between : Option Object → Option Object → ℕ
enqueued_between o p = cond (not (queued_in o) && queued_in p) 1 0

states_counted : (a b : RefState) → may_become a b ≡ true
    → cond (not (is_unqueued a)) 1 0 + cond (not (is_queued a) && is_queued b) 1 0 ≡ cond (not (is_unqueued b)) 1 0
states_counted Fresh Fresh h = refl
states_counted Fresh Pending h = refl
states_counted Fresh Queued h = refl
states_counted Fresh Removed h = absurd (both_ways false refl h)
states_counted Pending Fresh h = absurd (both_ways false refl h)
states_counted Pending Pending h = refl
states_counted Pending Queued h = refl
states_counted Pending Removed h = absurd (both_ways false refl h)
states_counted Queued Fresh h = absurd (both_ways false refl h)
states_counted Queued Pending h = absurd (both_ways false refl h)
states_counted Queued Queued h = refl
states_counted Queued Removed h = refl
states_counted Removed Fresh h = absurd (both_ways false refl h)
states_counted Removed Pending h = absurd (both_ways false refl h)
states_counted Removed Queued h = absurd (both_ways false refl h)
states_counted Removed Removed h = refl

objects_counted : (P : Type 0) (o p : Object) → Becomes P o p → been_in (Some o) + enqueued_between (Some o) (Some p) ≡ been_in (Some p)
objects_counted P (Reference r) (Reference t) h = states_counted r.state t.state h.on.state
objects_counted P (Plain x) (Plain y) h = refl
objects_counted P (Queue x) (Queue y) h = refl
objects_counted P Cleaner Cleaner h = refl
objects_counted P (Cleanable x) (Cleanable y) h = refl
objects_counted P (Guard x) (Guard y) h = refl
objects_counted P o p h = absurd h

one_counted : (m : Machine) (e : Entry) (w : IsWellFormed m) (l : IsLegal m e) (entries : List Entry) (s : ℕ) → LivesOn m (e ∷ entries) s
    → been_in (at m.objects s) + enqueued_between (at m.objects s) (at (apply m e).objects s) ≡ been_in (at (apply m e).objects s)
one_counted m e w l entries s h =
    let o = some_there (at m.objects s) h.0 in
    let p = some_there (at (apply m e).objects s) (begins (apply m e) entries s h.2) in
    let c = objects_counted (Clears m e.ask e.choice s) o.0 p.0 (becomes m e w l s o.0 p.0 h.1 o.1 p.1) in
    subst (λ x. been_in x + enqueued_between x (at (apply m e).objects s) ≡ been_in (at (apply m e).objects s)) (sym o.1)
    (subst (λ y. been_in (Some o.0) + enqueued_between (Some o.0) y ≡ been_in y) (sym p.1) c)

-- the count of a life is exact
all_counted : (m n : Machine) (entries : List Entry) (s : ℕ) → IsWellFormed m → Run m entries n → LivesOn m entries s
    → been_in (at m.objects s) + enqueueings m entries s ≡ been_in (at n.objects s)
all_counted m n [] s w run h = subst (λ z. been_in (at m.objects s) + 0 ≡ been_in (at z.objects s)) (sym run) (omega arith)
all_counted m n (e ∷ entries) s w run h =
    omega (arith, one_counted m e w run.0 entries s h, all_counted (apply m e) n entries s (legal_kept m e w run.0) run.1 h.2)

at_most_one : (b : Bool) → cond b 1 0 ≤ 1
at_most_one true = omega arith
at_most_one false = omega arith

pub enqueued_at_most_once : EnqueuedAtMostOnce
enqueued_at_most_once m n entries s w run h =
    omega (arith, all_counted m n entries s w run h, at_most_one (some_and (λ s. not (is_unqueued s)) (state_in (at n.objects s))))

turned : (b : Bool) → ◌≡◌ {A = ℕ} (cond (not b) 1 0) (cond b 0 1)
turned true = refl
turned false = refl

pub enqueued_on_its_way : EnqueuedOnItsWay
enqueued_on_its_way m n entries s r t w run h a b u =
    let before : been_in (at m.objects s) ≡ 0 = ap been_in a ∙ ap {A = Bool} {B = ℕ} (λ b. cond (not b) 1 0) u in
    let later : been_in (at n.objects s) ≡ cond (is_unqueued t.state) 0 1 = ap been_in b ∙ turned (is_unqueued t.state) in
    omega (arith, all_counted m n entries s w run h, before, later)
