-- Tests of states.
use Rattle.std.proofs.Common.{◌≡◌, ◌≢◌, Bool, true, false, not, ◌||◌, Decides, refl, ap, ◌⊎◌, inl, inr}
use Rattle.std.proofs.lemmas.Bool.{both_ways, or_cases}
use Rattle.jlr_machine.specs.declared.object.RefState.{RefState}
use Rattle.jlr_machine.specs.declared.object.RefState.TheVariants.{Fresh, Pending, Queued, Removed}
use Rattle.jlr_machine.specs.declared.object.CleanState.{CleanState}
use Rattle.jlr_machine.specs.declared.object.CleanState.TheVariants.{Armed, Pending as PendingClean, Lined, Spent}
use Rattle.jlr_machine.specs.Objects.{is_fresh, is_queued, is_armed, is_lined, is_spent}
use Rattle.jlr_plain_images.specs.Lists.{is_pending, is_pending_clean}

-- ---- References

pub pending_is : (s : RefState) → is_pending s ≡ true → s ≡ Pending
pending_is Pending h = refl
pending_is Fresh h = absurd (both_ways false refl h)
pending_is Queued h = absurd (both_ways false refl h)
pending_is Removed h = absurd (both_ways false refl h)

pub queued_is : (s : RefState) → is_queued s ≡ true → s ≡ Queued
queued_is Queued h = refl
queued_is Fresh h = absurd (both_ways false refl h)
queued_is Pending h = absurd (both_ways false refl h)
queued_is Removed h = absurd (both_ways false refl h)

pub unfresh_is : (s : RefState) → not (is_fresh s) ≡ true → (s ≡ Pending) ⊎ (s ≡ Queued) ⊎ (s ≡ Removed)
unfresh_is Fresh h = absurd (both_ways false refl h)
unfresh_is Pending h = inl refl
unfresh_is Queued h = inr (inl refl)
unfresh_is Removed h = inr (inr refl)

-- ---- Cleanables

pub pending_clean_is : (s : CleanState) → is_pending_clean s ≡ true → s ≡ PendingClean
pending_clean_is PendingClean h = refl
pending_clean_is Armed h = absurd (both_ways false refl h)
pending_clean_is Lined h = absurd (both_ways false refl h)
pending_clean_is Spent h = absurd (both_ways false refl h)

pub lined_is : (s : CleanState) → is_lined s ≡ true → s ≡ Lined
lined_is Lined h = refl
lined_is Armed h = absurd (both_ways false refl h)
lined_is PendingClean h = absurd (both_ways false refl h)
lined_is Spent h = absurd (both_ways false refl h)

pub armed_is : (s : CleanState) → is_armed s ≡ true → s ≡ Armed
armed_is Armed h = refl
armed_is Spent h = absurd (both_ways false refl h)
armed_is PendingClean h = absurd (both_ways false refl h)
armed_is Lined h = absurd (both_ways false refl h)

pub spent_is : (s : CleanState) → is_spent s ≡ true → s ≡ Spent
spent_is Spent h = refl
spent_is Armed h = absurd (both_ways false refl h)
spent_is PendingClean h = absurd (both_ways false refl h)
spent_is Lined h = absurd (both_ways false refl h)

-- either this state, or else
pub unless_spent : {P : Type 0} (s : CleanState) (b : Bool) → Decides b P → Decides (is_spent s || b) (s ≢ Spent → P)
unless_spent s b d = (
  (λ h n. elim (or_cases (is_spent s) b h) [ inl e ↦ absurd (n (spent_is s e)) | inr p ↦ d.0 p ]),
  (λ h. elim (is_spent s) as (λ t. is_spent s ≡ t → (t || b) ≡ true) [
    | true ↦ λ e. refl
    | false ↦ λ e. d.1 (h (λ f. both_ways (is_spent s) e (ap is_spent f)))
  ] refl),
)

pub unless_armed : {P : Type 0} (s : CleanState) (b : Bool) → Decides b P → Decides (is_armed s || b) (s ≢ Armed → P)
unless_armed s b d = (
  (λ h n. elim (or_cases (is_armed s) b h) [ inl e ↦ absurd (n (armed_is s e)) | inr p ↦ d.0 p ]),
  (λ h. elim (is_armed s) as (λ t. is_armed s ≡ t → (t || b) ≡ true) [
    | true ↦ λ e. refl
    | false ↦ λ e. d.1 (h (λ f. both_ways (is_armed s) e (ap is_armed f)))
  ] refl),
)
