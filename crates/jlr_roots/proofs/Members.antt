-- The sessions in members, at one mutator.
use Rattle.std.proofs.Common.{◌≡◌, ℕ, zero, suc, ◌<◌, true, false, List, [], ◌∷◌, Option, Some, None, length, set, get_or, replicate}
use Rattle.std.proofs.Common.{refl, ap}
use Rattle.std.proofs.Common.{◌∙◌, arith, subst, inl, inr, length-set, get_or-set_same, get_or-set_other}
use Rattle.std.specs.Prelude.{slice_get, is_some, option_and_then, option_map, if◌then◌else◌}
use Rattle.std.proofs.lemmas.Bool.{cases_eq}
use Rattle.std.proofs.lemmas.List.{map-set}
use Rattle.std.proofs.lemmas.Option.{slice_get_read, slice_get-get_or}
use Rattle.jlr_machine.specs.declared.machine.Session.{Session}
use Rattle.jlr_machine.specs.Objects.{at, change_at, set_at}
use Rattle.jlr_roots.specs.declared.member.Member.{Member}
use Rattle.jlr_roots.specs.HandleTable.{IsHandleTable}
use Rattle.jlr_roots.specs.Sessions.{session_in, sessions_in, AreMembers, absent, with_slot}

-- the session at a mutator is what its member holds
pub at-sessions_in : (members : List Member) (k : ℕ) → at (sessions_in members) k ≡ option_and_then session_in (slice_get members k)
at-sessions_in [] k = refl
at-sessions_in (m ∷ members) zero = refl
at-sessions_in (m ∷ members) (suc k) = at-sessions_in members k

pub within_members : (members : List Member) (k : ℕ) → is_some (at (sessions_in members) k) ≡ true → k < length members
within_members [] k h = cc
within_members (m ∷ members) zero h = omega arith
within_members (m ∷ members) (suc k) h = let below : k < length members = within_members members k h in omega arith

pub at-read : (members : List Member) (k : ℕ) (m : Member) → k < length members → m ≡ get_or members k m
    → at (sessions_in members) k ≡ session_in m
at-read members k m within read =
    at-sessions_in members k ∙ ap (option_and_then session_in) (slice_get_read members (length members) k m refl within read)

-- a member whose session is changed is put in its place
pub change_at-sessions_in :
    (members : List Member) (k : ℕ) (m n : Member) (f : Session → Session) → k < length members
    → m ≡ get_or members k m → session_in n ≡ option_map f (session_in m)
    → sessions_in (set members k n) ≡ change_at (sessions_in members) k f
change_at-sessions_in members k m n f within read becomes =
    rw (map-set session_in members k n, becomes, at-read members k m within read) refl

-- a member whose handles stand for more
pub session_with_slot : (m : Member) (handle slot : ℕ)
    → session_in (record m { handles = set_at m.handles handle slot }) ≡ option_map (with_slot handle slot) (session_in m)
session_with_slot m handle slot = elim m.joined as (λ b.
    (if b then Some (record { handles = set_at m.handles handle slot; fence = m.fence; call = m.call }) else None)
    ≡ option_map (with_slot handle slot) (if b then Some (record { handles = m.handles; fence = m.fence; call = m.call }) else None)) [
      | true ↦ refl
      | false ↦ refl
    ]

-- every member still has its table
pub AreMembers-set : (members : List Member) (k : ℕ) (m : Member) → AreMembers members → IsHandleTable m.handles
    → AreMembers (set members k m)
AreMembers-set members k m all table = record {
  tables = λ j below.
      (let below' : j < length members = omega (arith, below, length-set members k m) in
      elim (cases_eq j k) [
        | inl e ↦ rw (e, get_or-set_same members k m absent (subst (λ i. i < length members) e below')) table
        | inr ne ↦ rw (get_or-set_other members k j m absent ne) (all.tables j below')
      ]);
  few = omega (arith, all.few, length-set members k m);
}

-- the table of a member that was read
pub table-read : (members : List Member) (k : ℕ) (m : Member) → AreMembers members → k < length members → m ≡ get_or members k m
    → IsHandleTable m.handles
table-read members k m all within read =
    let here : slice_get members k ≡ Some m = slice_get_read members (length members) k m refl within read in
    let there : slice_get members k ≡ Some (get_or members k absent) = slice_get-get_or members k absent within in
    let same : m ≡ get_or members k absent = cc in
    rw same (all.tables k within)

-- a handle is held by a session
pub session_of_handle : (s : Option Session) (handle : ℕ) → is_some (option_and_then (λ x. at x.handles handle) s) ≡ true → is_some s ≡ true
session_of_handle None handle h = h
session_of_handle (Some s) handle h = refl

-- ---- New members

pub new_sessions : (n : ℕ) → sessions_in (replicate n absent) ≡ replicate n None
new_sessions zero = refl
new_sessions (suc n) = ap (λ l. None ∷ l) (new_sessions n)
