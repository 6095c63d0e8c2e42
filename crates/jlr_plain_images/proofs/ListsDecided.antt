-- What the test of the pending list and the line tells.
use Rattle.std.proofs.Common.{◌≡◌, ◌↔◌, ℕ, Bool, false, not, ◌||◌, Decides, IsTrue, List, length, refl, ap, ◌⊎◌, inl, inr, Option, Some}
use Rattle.std.proofs.Common.{None, option_and_then}
use Rattle.std.proofs.lemmas.Bool.{both_ways, or_cases}
use Rattle.jlr_machine.specs.declared.object.Object.{Object}
use Rattle.jlr_machine.specs.declared.object.Object.TheVariants.{Reference, Cleanable}
use Rattle.jlr_machine.specs.declared.object.RefState.{RefState}
use Rattle.jlr_machine.specs.declared.object.RefState.TheVariants.{Pending, Queued, Removed}
use Rattle.jlr_machine.specs.declared.object.CleanState.{CleanState}
use Rattle.jlr_machine.specs.declared.object.CleanState.TheVariants.{Pending as PendingClean, Lined, Spent}
use Rattle.jlr_machine.specs.declared.machine.Machine.{Machine}
use Rattle.jlr_machine.specs.Objects.{Heap, at, some_and, ◌∋◌, ◌∈◌, is_distinct, is_fresh, is_lined, is_spent, as_reference, as_cleanable}
use Rattle.jlr_machine.specs.WellFormed.{AreLists}
use Rattle.jlr_laws.proofs.Frames.{no_some, some_same, place_within}
use Rattle.jlr_plain_images.specs.Places.{each_number}
use Rattle.jlr_plain_images.specs.Lists.{is_pending, is_pending_clean, must_pend, may_pend, must_line_up, may_line_up, lists_fit}
use Rattle.jlr_plain_images.proofs.States.{pending_is, unfresh_is, pending_clean_is, lined_is, spent_is}
use Rattle.jlr_plain_images.proofs.Everywhere.{implied, implies, Decides-all, Decides-numbers, there_gives, Decides-true, also, turned}

-- ---- What is at a place

abbrev state_of : Option Object → Option RefState
state_of o = option_and_then (λ r. Some r.state) (option_and_then as_reference o)

abbrev clean_state_of : Option Object → Option CleanState
clean_state_of o = option_and_then (λ c. Some c.state) (option_and_then as_cleanable o)

abbrev MustPend : Option Object → Type 0
MustPend o = (state_of o ≡ Some Pending) ⊎ (clean_state_of o ≡ Some PendingClean)

abbrev MayPend : Option Object → Type 0
MayPend o = (state_of o ≡ Some Pending) ⊎ (state_of o ≡ Some Queued) ⊎ (state_of o ≡ Some Removed) ⊎ (clean_state_of o ≡ Some PendingClean)
    ⊎ (clean_state_of o ≡ Some Spent)

abbrev MayLineUp : Option Object → Type 0
MayLineUp o = (clean_state_of o ≡ Some Lined) ⊎ (clean_state_of o ≡ Some Spent)

neither : {P : Type 0} → MustPend None → P
neither (inl e) = no_some Pending e
neither (inr e) = no_some PendingClean e

Decides-waiting : (o : Option Object) → Decides (some_and must_pend o) (MustPend o)
Decides-waiting None = ((λ h. absurd (both_ways false refl h)), (λ p. neither p))
Decides-waiting (Some (Reference r)) = (
  (λ h. inl (ap (λ s. Some s) (pending_is r.state h))),
  (λ p. elim p [ inl e ↦ ap is_pending (some_same r.state Pending e) | inr e ↦ no_some PendingClean e ]),
)
Decides-waiting (Some (Cleanable c)) = (
  (λ h. inr (ap (λ s. Some s) (pending_clean_is c.state h))),
  (λ p. elim p [ inl e ↦ no_some Pending e | inr e ↦ ap is_pending_clean (some_same c.state PendingClean e) ]),
)
Decides-waiting (Some _) = ((λ h. absurd (both_ways false refl h)), (λ p. neither p))

no_wait : {P : Type 0} → MayPend None → P
no_wait (inl e) = no_some Pending e
no_wait (inr (inl e)) = no_some Queued e
no_wait (inr (inr (inl e))) = no_some Removed e
no_wait (inr (inr (inr (inl e)))) = no_some PendingClean e
no_wait (inr (inr (inr (inr e)))) = no_some Spent e

Decides-may_pend : (o : Option Object) → Decides (some_and may_pend o) (MayPend o)
Decides-may_pend None = ((λ h. absurd (both_ways false refl h)), (λ p. no_wait p))
Decides-may_pend (Some (Reference r)) = (
  (λ h. elim (unfresh_is r.state h) [
    | inl e ↦ inl (ap (λ s. Some s) e)
    | inr (inl e) ↦ inr (inl (ap (λ s. Some s) e))
    | inr (inr e) ↦ inr (inr (inl (ap (λ s. Some s) e)))
  ]),
  (λ p. elim p [
    | inl e ↦ ap (λ s. not (is_fresh s)) (some_same r.state Pending e)
    | inr (inl e) ↦ ap (λ s. not (is_fresh s)) (some_same r.state Queued e)
    | inr (inr (inl e)) ↦ ap (λ s. not (is_fresh s)) (some_same r.state Removed e)
    | inr (inr (inr (inl e))) ↦ no_some PendingClean e
    | inr (inr (inr (inr e))) ↦ no_some Spent e
  ]),
)
Decides-may_pend (Some (Cleanable c)) = (
  (λ h. elim (or_cases (is_pending_clean c.state) (is_spent c.state) h) [
    | inl e ↦ inr (inr (inr (inl (ap (λ s. Some s) (pending_clean_is c.state e)))))
    | inr e ↦ inr (inr (inr (inr (ap (λ s. Some s) (spent_is c.state e)))))
  ]),
  (λ p. elim p [
    | inl e ↦ no_some Pending e
    | inr (inl e) ↦ no_some Queued e
    | inr (inr (inl e)) ↦ no_some Removed e
    | inr (inr (inr (inl e))) ↦ ap (λ s. is_pending_clean s || is_spent s) (some_same c.state PendingClean e)
    | inr (inr (inr (inr e))) ↦ ap (λ s. is_pending_clean s || is_spent s) (some_same c.state Spent e)
  ]),
)
Decides-may_pend (Some _) = ((λ h. absurd (both_ways false refl h)), (λ p. no_wait p))

Decides-lining : (o : Option Object) → Decides (some_and must_line_up o) (clean_state_of o ≡ Some Lined)
Decides-lining None = ((λ h. absurd (both_ways false refl h)), (λ e. no_some Lined e))
Decides-lining (Some (Cleanable c)) = (
  (λ h. ap (λ s. Some s) (lined_is c.state h)),
  (λ e. ap is_lined (some_same c.state Lined e)),
)
Decides-lining (Some _) = ((λ h. absurd (both_ways false refl h)), (λ e. no_some Lined e))

no_line : {P : Type 0} → MayLineUp None → P
no_line (inl e) = no_some Lined e
no_line (inr e) = no_some Spent e

Decides-may_line_up : (o : Option Object) → Decides (some_and may_line_up o) (MayLineUp o)
Decides-may_line_up None = ((λ h. absurd (both_ways false refl h)), (λ p. no_line p))
Decides-may_line_up (Some (Cleanable c)) = (
  (λ h. elim (or_cases (is_lined c.state) (is_spent c.state) h) [
    | inl e ↦ inl (ap (λ s. Some s) (lined_is c.state e))
    | inr e ↦ inr (ap (λ s. Some s) (spent_is c.state e))
  ]),
  (λ p. elim p [
    | inl e ↦ ap (λ s. is_lined s || is_spent s) (some_same c.state Lined e)
    | inr e ↦ ap (λ s. is_lined s || is_spent s) (some_same c.state Spent e)
  ]),
)
Decides-may_line_up (Some _) = ((λ h. absurd (both_ways false refl h)), (λ p. no_line p))

-- ---- All that has to wait does

all_listed : (test : Object → Bool) (P : Option Object → Type 0) (heap : Heap) (slots : List ℕ)
    → ((o : Option Object) → Decides (some_and test o) (P o))
    → Decides (each_number (length heap) (λ s. not (some_and test (at heap s)) || (slots ∋ s))) ((s : ℕ) → P (at heap s) → s ∈ slots)
all_listed test P heap slots d = turned (Decides-numbers (length heap) (λ s. not (some_and test (at heap s)) || (slots ∋ s)))
    (λ h s p.
    let t = (d (at heap s)).1 p in
    let x = there_gives test (at heap s) t in
    implied (some_and test (at heap s)) (slots ∋ s) (h s (place_within heap s x.0 x.1)) t)
    (λ h s l. implies (some_and test (at heap s)) (slots ∋ s) (λ t. h s ((d (at heap s)).0 t)))

pub lists_decided : (m : Machine) → IsTrue (lists_fit m) ↔ AreLists m
lists_decided m =
    let waiting = all_listed must_pend MustPend m.objects m.pending Decides-waiting in
    let lining = all_listed must_line_up (λ o. clean_state_of o ≡ Some Lined) m.objects m.line Decides-lining in
    let pending = Decides-all (λ s. some_and may_pend (at m.objects s)) (λ s. MayPend (at m.objects s)) m.pending
    (λ s. Decides-may_pend (at m.objects s)) in
    let line = Decides-all (λ s. some_and may_line_up (at m.objects s)) (λ s. MayLineUp (at m.objects s)) m.line
    (λ s. Decides-may_line_up (at m.objects s)) in
    turned (also
    (also (also (also (also (Decides-true (is_distinct m.pending)) (Decides-true (is_distinct m.line))) waiting) pending) lining) line)
    (λ p. record {
      pending_once = p.0.0.0.0.0;
      line_once = p.0.0.0.0.1;
      pending_references = λ s e. p.0.0.0.1 s (inl e);
      pending_cleanables = λ s e. p.0.0.0.1 s (inr e);
      pending_others = p.0.0.1;
      lined = p.0.1;
      line_others = p.1;
    })
    (λ w. (
      (
        (
          ((w.pending_once, w.line_once), (λ s e. elim e [ inl e ↦ w.pending_references s e | inr e ↦ w.pending_cleanables s e ])),
          w.pending_others,
        ),
        w.lined,
      ),
      w.line_others,
    ))
