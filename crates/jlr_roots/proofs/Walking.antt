-- The walk over all places comes by each slot that is held, in order.
use Rattle.std.proofs.Common.{◌≡◌, ℕ, zero, suc, ◌+◌, ◌*◌, ◌/◌, ◌%◌, ◌<◌, ◌≤◌, List, [], ◌∷◌, ◌++◌, Option, Some, None, length, take}
use Rattle.std.proofs.Common.{get_or, refl, sym, ap, ◌∙◌, arith, append_assoc, add-zero}
use Rattle.std.specs.Prelude.{is_some, option_and_then, option_to_list, filter_map}
use Rattle.std.proofs.Math.Nat.{add-suc, mul-suc}
use Rattle.std.proofs.Math.Seq.{take-suc}
use Rattle.std.proofs.lemmas.Bool.{ne_eqb}
use Rattle.std.proofs.lemmas.List.{take_all, append-nil}
use Rattle.std.proofs.lemmas.Option.{cond_some, slice_get-get_or}
use Rattle.std.proofs.lemmas.List.Elements.{filter_map-append}
use Rattle.std.proofs.lemmas.Grind.{flat_map-append}
use Rattle.jlr_machine.specs.declared.machine.Session.{Session}
use Rattle.jlr_machine.specs.Objects.{Table, at}
use Rattle.jlr_roots.specs.declared.member.Member.{Member}
use Rattle.jlr_roots.specs.Sessions.{session_in, sessions_in, AreMembers, absent}
use Rattle.jlr_roots.specs.Walk.{slots_of_session, slots_held, slot_at, root_at, walked}
use Rattle.jlr_roots.proofs.Members.{at-sessions_in, within_members}

-- each session has 251 handles
abbrev pub HaveTables : Table Session → Type 0
HaveTables mutators = (k : ℕ) (s : Session) → at mutators k ≡ Some s → length s.handles ≡ 251

-- the slots of the first handles of a session
abbrev pub held_below : ℕ → Option Session → List ℕ
held_below j None = []
held_below j (Some s) = filter_map (λ h. h) (take j s.handles)

-- the slot at a place of a session
abbrev pub held_in : ℕ → Option Session → Option ℕ
held_in j s = option_and_then (slot_at j) s

filter_map-one : (o : Option ℕ) → filter_map (λ h. h) (o ∷ []) ≡ option_to_list o
filter_map-one None = refl
filter_map-one (Some s) = refl

-- before the last place are the handles
handle_at : (j : ℕ) (s : Session) → j < 251 → slot_at j s ≡ at s.handles j
handle_at j s below = rw (ne_eqb j 251 (λ e. omega (arith, e, below))) refl

held_below-suc : (j : ℕ) (o : Option Session) → j < 251 → ((s : Session) → o ≡ Some s → j < length s.handles)
    → held_below (suc j) o ≡ held_below j o ++ option_to_list (held_in j o)
held_below-suc j None before below = refl
held_below-suc j (Some s) before below =
    rw (
      take-suc s.handles j None (below s refl),
      filter_map-append (λ h. h) (take j s.handles) (at s.handles j ∷ []),
      filter_map-one (at s.handles j),
      handle_at j s before,
    ) refl

row_of : (k j : ℕ) → j < 252 → (252 * k + j) / 252 ≡ k
row_of k j below = omega arith

place_in_row : (k j : ℕ) → j < 252 → (252 * k + j) % 252 ≡ j
place_in_row k j below = omega arith

held_below-zero : (o : Option Session) → held_below 0 o ≡ []
held_below-zero None = refl
held_below-zero (Some s) = refl

root_in_row : (mutators : Table Session) (k j : ℕ) → j < 252 → root_at mutators (252 * k + j) ≡ held_in j (at mutators k)
root_in_row mutators k j below = rw (row_of k j below, place_in_row k j below) refl

-- within the handles of a mutator
walked-row : (mutators : Table Session) → HaveTables mutators → (k j : ℕ) → j ≤ 251
    → walked mutators (252 * k + j) ≡ walked mutators (252 * k) ++ held_below j (at mutators k)
unfolding walked
walked-row mutators tables k zero within =
    rw (add-zero (252 * k), held_below-zero (at mutators k), append-nil (walked mutators (252 * k))) refl
walked-row mutators tables k (suc j) within =
    let below : j < 251 = omega arith in
    rw (
      add-suc (252 * k) j,
      root_in_row mutators k j (omega arith),
      walked-row mutators tables k j (omega arith),
      held_below-suc j (at mutators k) below (λ s e. omega (arith, tables k s e, below)),
    )
    (append_assoc (walked mutators (252 * k)) (held_below j (at mutators k)) (option_to_list (held_in j (at mutators k))))

slots_held-append : (xs ys : Table Session) → slots_held (xs ++ ys) ≡ slots_held xs ++ slots_held ys
slots_held-append xs ys =
    rw (filter_map-append (λ s. s) xs ys, flat_map-append slots_of_session (filter_map (λ s. s) xs) (filter_map (λ s. s) ys)) refl

-- the handles of a mutator, and then its fence
slots_held-one : (o : Option Session) → ((s : Session) → o ≡ Some s → length s.handles ≡ 251) → slots_held (o ∷ []) ≡ held_below 251 o
    ++ option_to_list (held_in 251 o)
slots_held-one None table = refl
slots_held-one (Some s) table = rw (take_all 251 s.handles (omega (arith, table s refl))) (append-nil (slots_of_session s))

whole_row : (mutators : Table Session) → HaveTables mutators → (k : ℕ) → walked mutators (252 * k + 252) ≡ walked mutators (252 * k)
    ++ slots_held (at mutators k ∷ [])
unfolding walked
whole_row mutators tables k =
    rw (
      add-suc (252 * k) 251,
      root_in_row mutators k 251 (omega arith),
      walked-row mutators tables k 251 (omega arith),
      slots_held-one (at mutators k) (tables k),
    )
    (append_assoc (walked mutators (252 * k)) (held_below 251 (at mutators k)) (option_to_list (held_in 251 (at mutators k))))

-- the places of the first mutators
walked-rows : (mutators : Table Session) → HaveTables mutators → (k : ℕ) → k ≤ length mutators
    → walked mutators (252 * k) ≡ slots_held (take k mutators)
unfolding walked
walked-rows mutators tables zero within = refl
walked-rows mutators tables (suc k) within =
    let below : k < length mutators = omega arith in
    rw (
      mul-suc 252 k,
      whole_row mutators tables k,
      walked-rows mutators tables k (omega arith),
      take-suc mutators k None below,
      slots_held-append (take k mutators) (at mutators k ∷ []),
    ) refl

pub walked-all : (mutators : Table Session) → HaveTables mutators → walked mutators (252 * length mutators) ≡ slots_held mutators
walked-all mutators tables = walked-rows mutators tables (length mutators) (omega arith)
    ∙ ap slots_held (take_all (length mutators) mutators (omega arith))

-- the members' sessions have their places
session_handles : (m : Member) (s : Session) → session_in m ≡ Some s → m.handles ≡ s.handles
session_handles m s e = ap (λ x. x.handles) (cond_some m.joined (record { handles = m.handles; fence = m.fence; call = m.call }) s e).1

pub have_tables : (members : List Member) → AreMembers members → HaveTables (sessions_in members)
have_tables members all k s e =
    let within : k < length members = within_members members k (ap is_some e) in
    let there = at-sessions_in members k ∙ ap (option_and_then session_in) (slice_get-get_or members k absent within) in
    let same : (get_or members k absent).handles ≡ s.handles = session_handles (get_or members k absent) s (sym there ∙ e) in
    sym (ap length same) ∙ (all.tables k within).place_count
