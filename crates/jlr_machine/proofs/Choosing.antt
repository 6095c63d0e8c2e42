-- What a choice shows of its parts.
use Rattle.std.proofs.Common.{◌≡◌, ℕ, Bool, true, false, cond, List, [], Option, Some, None, refl, ap}
use Rattle.std.proofs.lemmas.Bool.{both_ways}
use Rattle.jlr_machine.specs.declared.entry.Collected.{Collected}
use Rattle.jlr_machine.specs.Choices.{Choosing}

-- whether it collects, what it kept and put behind the pending list, the slots of new objects, and the cells
abbrev pub shown : Bool → List ℕ → List ℕ → List ℕ → ℕ → Choosing
shown b kept pending fresh cells =
    record { chosen = record { collected = cond b (Some (record { kept = kept; pending = pending })) None; fresh = fresh }; cells = cells }

kept_in : Option Collected → List ℕ
kept_in None = []
kept_in (Some c) = c.kept

pending_in : Option Collected → List ℕ
pending_in None = []
pending_in (Some c) = c.pending

was_some : Option Collected → Bool
was_some None = false
was_some (Some c) = true

pub collects_so : (b : Bool) (k p K P : List ℕ) → cond {A = Option Collected} b (Some (record { kept = k; pending = p })) None ≡ Some
    (record { kept = K; pending = P })
    → (b ≡ true) × (k ≡ K) × (p ≡ P)
unfolding was_some kept_in pending_in
collects_so true k p K P e = (refl, ap {A = Option Collected} {B = List ℕ} kept_in e, ap {A = Option Collected} {B = List ℕ} pending_in e)
collects_so false k p K P e = absurd (both_ways false refl (ap {A = Option Collected} {B = Bool} was_some e))

pub shown_same : (b : Bool) (k k' p p' f f' : List ℕ) (n n' : ℕ) → b ≡ true → k ≡ k' → p ≡ p' → f ≡ f' → n ≡ n'
    → shown b k p f n ≡ shown true k' p' f' n'
shown_same b k k' p p' f f' n n' eb ek ep ef en = rw (eb, ek, ep, ef, en) refl
