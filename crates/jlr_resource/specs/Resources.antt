-- The resources of a table, as contracts see them.
use Rattle.std.specs.Prelude.{ℕ, ◌==◌, not, if◌then◌else◌, List, [], ◌∷◌, Option, Some, None, option_map, find, filter}
use Rattle.std.specs.Prelude.{filter_map, map, nat_lt}
use Rattle.jlr_machine.specs.declared.machine.Resource.{Resource}
use Rattle.jlr_machine.specs.declared.machine.ResourceState.{ResourceState}
use Rattle.jlr_machine.specs.declared.machine.ResourceState.TheVariants as state
use Rattle.jlr_resource.specs.declared.place.Kept.{Kept}
use Rattle.jlr_resource.specs.declared.place.Kept.TheVariants.{Opening, Idle, Out, Closing}

-- ---- The machine's list of resources

abbrev pub resource_in : List Resource → ℕ → Option Resource
resource_in resources rid = find (λ r. r.rid == rid) resources

abbrev pub state_in : List Resource → ℕ → Option ResourceState
state_in resources rid = option_map (λ r. r.state) (resource_in resources rid)

-- the resource at a Rid goes to a state, as the machine has it
abbrev pub resource_in_state : List Resource → ℕ → ResourceState → List Resource
resource_in_state resources rid s =
    map {A = Resource} {B = Resource} (λ r. if r.rid == rid then record r { state = s } else r) resources

-- the resource at a Rid has ended, as the machine has it
abbrev pub ended : List Resource → ℕ → List Resource
ended resources rid = filter (λ r. not (r.rid == rid)) resources

-- ---- What a table holds

-- a resource that has not ended: its Rid, its action, and where it is, with its value where it lies in the table
pub record HeldResource (R : Type 0) : Type 0 where
  pub rid : ℕ
  pub action : ℕ
  pub kept : Kept R

-- a table holds these resources, with rising Rids; it may hold limit; so many fit with no allocation; and the place
-- that is given out next
pub record Resources (R : Type 0) : Type 0 where
  pub held : List (HeldResource R)
  pub limit : ℕ
  pub room : ℕ
  pub next : ℕ

module _ {R : Type 0} where
  abbrev pub state_of : Kept R → ResourceState
  state_of Opening = state.Opening
  state_of (Idle value) = state.Idle
  state_of Out = state.Out
  state_of Closing = state.Closing

  -- a value lies in the table where its resource is Idle
  abbrev pub value_of : Kept R → Option R
  value_of Opening = None
  value_of (Idle value) = Some value
  value_of Out = None
  value_of Closing = None

  -- as the machine has it
  abbrev pub as_resource : HeldResource R → Resource
  as_resource h = record { rid = h.rid; action = h.action; state = state_of h.kept }

  abbrev pub resources_in : List (HeldResource R) → List Resource
  resources_in held = map as_resource held

  -- the machine's list of resources
  abbrev pub resources : Resources R → List Resource
  resources t = resources_in t.held

  abbrev pub resource_state_at : Resources R → ℕ → Option ResourceState
  resource_state_at t rid = state_in (resources t) rid

  abbrev pub kept_in : List (HeldResource R) → ℕ → Option (Kept R)
  kept_in held rid = option_map (λ h. h.kept) (find (λ h. h.rid == rid) held)

  -- where the resource at a Rid is, with its value where it lies here
  abbrev pub kept_at : Resources R → ℕ → Option (Kept R)
  kept_at t rid = kept_in t.held rid

  abbrev pub values_in : List (HeldResource R) → List R
  values_in held = filter_map (λ h. value_of h.kept) held

  -- the values that lie in the table
  abbrev pub values : Resources R → List R
  values t = values_in t.held

  -- ---- Changes of one resource

  abbrev pub with_held : List (HeldResource R) → HeldResource R → List (HeldResource R)
  with_held [] new = new ∷ []
  with_held (h ∷ held) new = if nat_lt new.rid h.rid then new ∷ h ∷ held else h ∷ with_held held new

  abbrev pub with_kept : List (HeldResource R) → ℕ → Kept R → List (HeldResource R)
  with_kept held rid kept =
      map {A = HeldResource R} {B = HeldResource R} (λ h. if h.rid == rid then record h { kept = kept } else h) held

  abbrev pub without_held : List (HeldResource R) → ℕ → List (HeldResource R)
  without_held held rid = filter (λ h. not (h.rid == rid)) held

  -- the table with a resource more, which is Opening
  abbrev pub opening : Resources R → ℕ → ℕ → List (HeldResource R)
  opening t rid action = with_held t.held (record { rid = rid; action = action; kept = Opening })

  -- the table after its resource at a Rid went there
  abbrev pub changed : Resources R → ℕ → Kept R → Resources R
  changed t rid kept = record t { held = with_kept t.held rid kept }

  -- the table without its resource at a Rid, which is given out next
  abbrev pub removed : Resources R → ℕ → Resources R
  removed t rid = record t { held = without_held t.held rid; next = rid }
