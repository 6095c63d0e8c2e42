-- What mutators and names hold after a change of one of them.
use Rattle.std.proofs.Common.{◌≡◌, ℕ, ◌⊎◌, inl, inr, true, false, cond, not, List, [], ◌∷◌, Option, Some, None, filter_map, option_map}
use Rattle.std.proofs.Common.{slice_set, refl, sym, subst}
use Rattle.std.specs.Option.{option_to_list}
use Rattle.jlr_machine.specs.declared.machine.Session.{Session}
use Rattle.jlr_machine.specs.declared.machine.Binding.{Binding}
use Rattle.jlr_machine.specs.declared.machine.Call.{Call}
use Rattle.jlr_machine.specs.Objects.{Table, at, ◌∈◌}
use Rattle.jlr_machine.specs.Lookups.{same_name, bound, unbound}
use Rattle.jlr_machine.specs.Calls.{fresh_session}
use Rattle.jlr_roots.specs.Walk.{slots_held, slots_of_session}
use Rattle.jlr_roots.specs.Naming.{named}
use Rattle.jlr_roots.specs.Sessions.{session_in_call, with_slot, without_handle}
use Rattle.jlr_laws.proofs.Sets.{nothing, in_front, in_rest, in_cons}
use Rattle.jlr_laws.proofs.Clearing.{in_append, in_left, in_right, in_option}
use Rattle.jlr_laws.proofs.Frames.{no_some, some_same, in_places, from_places, in_sessions, from_sessions, set_cases}

-- ---- Another session of one mutator: each slot that it holds was held, or is kept otherwise

pub other_session : (m : Table Session) (n : ℕ) (v : Option Session) (keeps : ℕ → Type 0)
    → ((s : Session) → v ≡ Some s → (y : ℕ) → y ∈ slots_of_session s → (y ∈ slots_held m) ⊎ keeps y)
    → (y : ℕ) → y ∈ slots_held (slice_set m n v) → (y ∈ slots_held m) ⊎ keeps y
other_session m n v keeps here y h =
    let r = in_sessions slots_of_session (slice_set m n v) y h in
    elim (set_cases m n r.0 v r.1 r.2) [
      | inl new ↦ here r.1 new.1 y r.3
      | inr old ↦ inl (from_sessions slots_of_session m r.0 r.1 y old.1 r.3)
    ]

mapped : (o : Option Session) (f : Session → Session) (s : Session) → option_map f o ≡ Some s → (t : Session) × (o ≡ Some t) × (f t ≡ s)
mapped None f s e = no_some s e
mapped (Some t) f s e = (t, refl, some_same (f t) s e)

-- the session of a mutator that was there, changed
pub changed_session : (m : Table Session) (n : ℕ) (f : Session → Session) (keeps : ℕ → Type 0)
    → ((s : Session) (y : ℕ) → y ∈ slots_of_session (f s) → (y ∈ slots_of_session s) ⊎ keeps y)
    → (y : ℕ) → y ∈ slots_held (slice_set m n (option_map f (at m n))) → (y ∈ slots_held m) ⊎ keeps y
changed_session m n f keeps here =
    other_session m n (option_map f (at m n)) keeps
    (λ s e y h.
    let was = mapped (at m n) f s e in
    elim (here was.0 y (subst (λ (t : Session). y ∈ slots_of_session t) (sym was.2) h)) [
      | inl o ↦ inl (from_sessions slots_of_session m n was.0 y was.1 o)
      | inr k ↦ inr k
    ])

-- ---- Its handles and its fence

handle_or_fence : (s : Session) (y : ℕ) → y ∈ slots_of_session s → (y ∈ filter_map (λ h. h) s.handles) ⊎ (y ∈ option_to_list s.fence)
handle_or_fence s y h = in_append y (filter_map (λ h. h) s.handles) (option_to_list s.fence) h

by_handle : (s : Session) (y : ℕ) → y ∈ filter_map (λ h. h) s.handles → y ∈ slots_of_session s
by_handle s y h = in_left y (filter_map (λ h. h) s.handles) (option_to_list s.fence) h

by_fence : (s : Session) (y : ℕ) → y ∈ option_to_list s.fence → y ∈ slots_of_session s
by_fence s y h = in_right y (filter_map (λ h. h) s.handles) (option_to_list s.fence) h

handles_set : (handles : Table ℕ) (h : ℕ) (v : Option ℕ) (y : ℕ) → y ∈ filter_map (λ h. h) (slice_set handles h v)
    → (y ∈ filter_map (λ h. h) handles) ⊎ (v ≡ Some y)
handles_set handles h v y i =
    let p = in_places (slice_set handles h v) y i in
    elim (set_cases handles h p.0 v y p.1) [ inl new ↦ inr new.1 | inr old ↦ inl (from_places handles p.0 y old.1) ]

pub holds_one_more : (handle slot : ℕ) (s : Session) (y : ℕ) → y ∈ slots_of_session (with_slot handle slot s) → (y ∈ slots_of_session s)
    ⊎ (y ≡ slot)
holds_one_more handle slot s y h = elim (handle_or_fence (with_slot handle slot s) y h) [
  | inl i ↦ elim (handles_set s.handles handle (Some slot) y i) [ inl o ↦ inl (by_handle s y o) | inr e ↦ inr (some_same y slot (sym e)) ]
  | inr f ↦ inl (by_fence s y f)
]

pub holds_one_less : (handle : ℕ) (s : Session) (y : ℕ) → y ∈ slots_of_session (without_handle handle s) → y ∈ slots_of_session s
holds_one_less handle s y h = elim (handle_or_fence (without_handle handle s) y h) [
  | inl i ↦ elim (handles_set s.handles handle None y i) [ inl o ↦ by_handle s y o | inr e ↦ no_some y e ]
  | inr f ↦ by_fence s y f
]

pub holds_by_call : (fence : Option ℕ) (call : Call) (s : Session) (y : ℕ) → y ∈ slots_of_session (session_in_call fence call s)
    → (y ∈ slots_of_session s)
    ⊎ (fence ≡ Some y)
holds_by_call fence call s y h = elim (handle_or_fence (session_in_call fence call s) y h) [
  | inl i ↦ inl (by_handle s y i)
  | inr f ↦ inr (in_option y fence f)
]

pub holds_nothing : {P : Type 0} (y : ℕ) → y ∈ slots_of_session fresh_session → P
holds_nothing y h = nothing y h

-- ---- Names

pub named_by_bound : (names : List Binding) (name : List ℕ) (s y : ℕ) → y ∈ named (bound names name s) → (y ∈ named names) ⊎ (y ≡ s)
named_by_bound [] name s y h = elim (in_cons y s [] h) [ inl e ↦ inr e | inr n ↦ nothing y n ]
named_by_bound (b ∷ names) name s y h =
    elim (same_name b.name name) as (λ c. y ∈ named (cond c (record { name = name; slot = s } ∷ names) (b ∷ bound names name s))
    → (y ∈ named (b ∷ names)) ⊎ (y ≡ s)) [
      | true ↦ λ h. elim (in_cons y s (named names) h) [ inl e ↦ inr e | inr n ↦ inl (in_rest y b.slot (named names) n) ]
      | false ↦ λ h. elim (in_cons y b.slot (named (bound names name s)) h) [
        | inl e ↦ inl (in_front y b.slot (named names) e)
        | inr n ↦ elim (named_by_bound names name s y n) [ inl o ↦ inl (in_rest y b.slot (named names) o) | inr e ↦ inr e ]
      ]
    ] h

pub named_by_unbound : (names : List Binding) (name : List ℕ) (y : ℕ) → y ∈ named (unbound names name) → y ∈ named names
named_by_unbound [] name y h = h
named_by_unbound (b ∷ names) name y h =
    elim (not (same_name b.name name)) as (λ c. y ∈ named (cond c (b ∷ unbound names name) (unbound names name)) → y ∈ named (b ∷ names)) [
      | true ↦ λ h. elim (in_cons y b.slot (named (unbound names name)) h) [
        | inl e ↦ in_front y b.slot (named names) e
        | inr n ↦ in_rest y b.slot (named names) (named_by_unbound names name y n)
      ]
      | false ↦ λ h. in_rest y b.slot (named names) (named_by_unbound names name y h)
    ] h
