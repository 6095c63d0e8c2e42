-- What one entry changes, piece by piece: a session, a resource, a job.
use Rattle.std.proofs.Common.{◌≡◌, ℕ, refl, sym, ◌∙◌, ap, Some, option_map}
use Rattle.jlr_types.specs.declared.Work.TheVariants.{Resource as WorkOn}
use Rattle.jlr_machine.specs.declared.object.Object.TheVariants.{Cleanable, Guard}
use Rattle.jlr_machine.specs.declared.object.Cleanable.{Cleanable as CleanableOf}
use Rattle.jlr_machine.specs.declared.object.Guard.{Guard as GuardOf}
use Rattle.jlr_machine.specs.declared.machine.Machine.{Machine}
use Rattle.jlr_machine.specs.declared.machine.Session.{Session}
use Rattle.jlr_machine.specs.declared.machine.Resource.{Resource}
use Rattle.jlr_machine.specs.declared.machine.Call.TheVariants.{Opening as CallOpening, Out as CallOut}
use Rattle.jlr_machine.specs.declared.machine.ResourceState.{ResourceState}
use Rattle.jlr_machine.specs.declared.machine.ResourceState.TheVariants.{Opening, Idle, Out, Closing}
use Rattle.jlr_machine.specs.Objects.{Table, at, change_at}
use Rattle.jlr_machine.specs.WellFormed.{IsSessionAt, IsGuardAt, IsCleanableAt, HasResource, IsUnspent, HasWorker}
use Rattle.jlr_laws.proofs.Frames.{some_same, set_same, set_other, place_within}

-- ---- A change of one place of a table

pub change_here : {A : Type 0} (table : Table A) (n : ℕ) (f : A → A) (x : A) → at table n ≡ Some x → at (change_at table n f) n ≡ Some (f x)
change_here table n f x e = set_same table n (option_map f (at table n)) (place_within table n x e) ∙ ap (option_map f) e

pub change_beside : {A : Type 0} (table : Table A) (n j : ℕ) (f : A → A) → (j ≡ n → ⊥) → at (change_at table n f) j ≡ at table j
change_beside table n j f d = set_other table n j (option_map f (at table n)) d

-- ---- One thing there

pub session_same : (m : Machine) (k : ℕ) (s t : Session) → IsSessionAt m k s → IsSessionAt m k t → s ≡ t
session_same m k s t e f = some_same s t (sym e ∙ f)

pub guard_same : (m : Machine) (s : ℕ) (g h : GuardOf) → IsGuardAt m s g → IsGuardAt m s h → g ≡ h
guard_same m s g h e f = let both : Some (Guard g) ≡ Some (Guard h) = sym e ∙ f in cc both

pub cleanable_same : (m : Machine) (s : ℕ) (c d : CleanableOf) → IsCleanableAt m s c → IsCleanableAt m s d → c ≡ d
cleanable_same m s c d e f = let both : Some (Cleanable c) ≡ Some (Cleanable d) = sym e ∙ f in cc both

abbrev pub resource : ℕ → ℕ → ResourceState → Resource
resource rid action state = record { rid = rid; action = action; state = state }

pub resource_same : (m : Machine) (rid a b : ℕ) (s t : ResourceState) → HasResource m rid a s → HasResource m rid b t → (a ≡ b) × (s ≡ t)
resource_same m rid a b s t e f =
    let same : resource rid a s ≡ resource rid b t = some_same (resource rid a s) (resource rid b t) (sym e ∙ f) in
    (ap (λ r. r.action) same, ap (λ r. r.state) same)

pub resource_moved : (m : Machine) (rid a b : ℕ) (s t : ResourceState) → a ≡ b → s ≡ t → HasResource m rid a s → HasResource m rid b t
resource_moved m rid a b s t e f h = h ∙ ap (λ x. Some (resource rid x s)) e ∙ ap (λ x. Some (resource rid b x)) f

-- ---- A resource that is Opening, Idle or Out has an unspent cleanable

abbrev pub HasCleanable : Machine → ℕ → ℕ → Type 0
HasCleanable m rid action = (s : ℕ) × (c : CleanableOf) × IsUnspent m s c × (c.action ≡ action) × (c.work ≡ WorkOn rid)

pub worker_from : (m : Machine) (rid action : ℕ) (state : ResourceState) → (state ≡ Closing → ⊥) → HasCleanable m rid action
    → HasWorker m rid action state
worker_from m rid action Opening d h = h
worker_from m rid action Idle d h = h
worker_from m rid action Out d h = h
worker_from m rid action Closing d h = absurd (d refl)

-- the workers of one machine are those of another
pub worker_over : (m n : Machine) (rid action : ℕ) (state : ResourceState) → (HasCleanable m rid action → HasCleanable n rid action)
    → (HasWorker m rid action Closing → HasWorker n rid action Closing) → HasWorker m rid action state → HasWorker n rid action state
worker_over m n rid action Opening f g h = f h
worker_over m n rid action Idle f g h = f h
worker_over m n rid action Out f g h = f h
worker_over m n rid action Closing f g h = g h

-- ---- A mutator that has nothing to do with what changed

-- a session's call is not about this resource
pub record IsElsewhere (s : Session) (rid : ℕ) : Type 0 where
  pub not_opening : s.call ≡ CallOpening rid → ⊥
  pub not_out : s.call ≡ CallOut rid → ⊥
