-- The line without what stands before its first Lined cleanable.
use Rattle.std.proofs.Common.{◌≡◌, ℕ, true, false, cond, List, [], ◌∷◌, drop, Option, Some, None, option_and_then, refl, sym, ◌∙◌, ap}
use Rattle.std.proofs.Common.{subst, inl, inr}
use Rattle.std.specs.Prelude.{slice_get}
use Rattle.std.proofs.lemmas.Bool.{cond-true, cond-false}
use Rattle.jlr_machine.specs.declared.machine.Machine.{Machine}
use Rattle.jlr_machine.specs.declared.object.Cleanable.{Cleanable as CleanableOf}
use Rattle.jlr_machine.specs.Objects.{◌∈◌, at, is_lined, some_and}
use Rattle.jlr_machine.specs.Lookups.{cleanable_at}
use Rattle.jlr_machine.specs.Calls.{from_lined}
use Rattle.jlr_laws.proofs.Frames.{no_some, some_same}
use Rattle.jlr_laws.proofs.Sets.{in_cons, in_front, in_rest, nothing}
use Rattle.jlr_refs.specs.Parts.{lined_in}

-- ---- A Lined cleanable

lined_gives : (o : Option CleanableOf) (c : CleanableOf) → option_and_then (λ c. cond (is_lined c.state) (Some c) None) o ≡ Some c
    → (o ≡ Some c) × (is_lined c.state ≡ true)
lined_gives None c e = no_some c e
lined_gives (Some x) c e =
    elim (is_lined x.state) as (λ b. is_lined x.state ≡ b → cond b (Some x) None ≡ Some c → ◌≡◌ {A = Option CleanableOf} (Some x) (Some c)
    × (is_lined c.state ≡ true)) [
      | true ↦ λ t e. (e, subst (λ (y : CleanableOf). is_lined y.state ≡ true) (some_same x c e) t)
      | false ↦ λ t e. no_some c e
    ] refl e

unlined_gives : (o : Option CleanableOf) → option_and_then (λ c. cond (is_lined c.state) (Some c) None) o ≡ None
    → some_and (λ c. is_lined c.state) o ≡ false
unlined_gives None e = refl
unlined_gives (Some x) e =
    elim (is_lined x.state) as (λ b. ◌≡◌ {A = Option CleanableOf} (cond b (Some x) None) None → b ≡ false) [
      | true ↦ λ e. no_some x (sym e)
      | false ↦ λ e. refl
    ] e

-- the cleanable at s is the one, and is Lined
pub lined_here : (m : Machine) (s : ℕ) (c : CleanableOf) → lined_in (at m.objects s) ≡ Some c → (cleanable_at m s ≡ Some c)
    × (is_lined c.state ≡ true)
lined_here m s c e = lined_gives (cleanable_at m s) c e

-- ---- The cut line

cut_stops : (m : Machine) (s : ℕ) (line : List ℕ) (c : CleanableOf) → lined_in (at m.objects s) ≡ Some c
    → from_lined m (s ∷ line) ≡ s ∷ line
cut_stops m s line c e =
    let found = lined_here m s c e in
    cond-true (some_and (λ c. is_lined c.state) (cleanable_at m s)) (s ∷ line) (from_lined m line)
    (ap (some_and (λ c. is_lined c.state)) found.0 ∙ found.1)

cut_drops : (m : Machine) (s : ℕ) (line : List ℕ) → lined_in (at m.objects s) ≡ None → from_lined m (s ∷ line) ≡ from_lined m line
cut_drops m s line e =
    cond-false (some_and (λ c. is_lined c.state) (cleanable_at m s)) (s ∷ line) (from_lined m line) (unlined_gives (cleanable_at m s) e)

-- the front of a list, and the rest
pub split : (l : List ℕ) (s : ℕ) → slice_get l 0 ≡ Some s → l ≡ s ∷ drop 1 l
split [] s h = no_some s h
split (x ∷ l) s h = ap (λ y. y ∷ l) (some_same x s h)

pub no_front : (l : List ℕ) → slice_get l 0 ≡ None → l ≡ []
no_front [] h = refl
no_front (x ∷ l) h = no_some x (sym h)

-- with a Lined front all of it stays
pub cut_at_front : (m : Machine) (line : List ℕ) (s : ℕ) (c : CleanableOf) → slice_get line 0 ≡ Some s → lined_in (at m.objects s) ≡ Some c
    → from_lined m line ≡ s ∷ drop 1 line
cut_at_front m line s c first e = ap (from_lined m) (split line s first) ∙ cut_stops m s (drop 1 line) c e

-- with another front it goes
pub cut_past_front : (m : Machine) (line : List ℕ) (s : ℕ) → slice_get line 0 ≡ Some s → lined_in (at m.objects s) ≡ None
    → from_lined m (drop 1 line) ≡ from_lined m line
cut_past_front m line s first e = sym (ap (from_lined m) (split line s first) ∙ cut_drops m s (drop 1 line) e)

-- ---- A line with nothing Lined

pub none_in_cut : (m : Machine) (line : List ℕ) → from_lined m line ≡ [] → (s : ℕ) → s ∈ line → lined_in (at m.objects s) ≡ None
none_in_cut m [] e s h = nothing s h
none_in_cut m (x ∷ line) e s h =
    elim (lined_in (at m.objects x)) as (λ o. lined_in (at m.objects x) ≡ o → lined_in (at m.objects s) ≡ None) [
      | None ↦ λ here. elim (in_cons s x line h) [
        | inl same ↦ ap (λ t. lined_in (at m.objects t)) same ∙ here
        | inr later ↦ none_in_cut m line (sym (cut_drops m x line here) ∙ e) s later
      ]
      | Some c ↦ λ here. let wrong : ◌≡◌ {A = List ℕ} (x ∷ line) [] = sym (cut_stops m x line c here) ∙ e in absurd (cc wrong)
    ] refl

pub cut_of_none : (m : Machine) (line : List ℕ) → ((s : ℕ) → s ∈ line → lined_in (at m.objects s) ≡ None) → from_lined m line ≡ []
cut_of_none m [] h = refl
cut_of_none m (x ∷ line) h = cut_drops m x line (h x (in_front x x line refl)) ∙ cut_of_none m line (λ s i. h s (in_rest s x line i))
