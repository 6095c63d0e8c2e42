-- What the test of faults, of notes and of what was seen tells.
use Rattle.std.proofs.Common.{◌≡◌, ◌↔◌, ℕ, ◌<◌, Bool, true, false, ◌||◌, Decides, IsTrue, List, [], ◌∷◌, length, refl, ap, subst, map}
use Rattle.std.proofs.Common.{nat_lt}
use Rattle.std.proofs.lemmas.Bool.{both_ways}
use Rattle.jlr_machine.specs.declared.machine.Machine.{Machine}
use Rattle.jlr_machine.specs.Objects.{is_rising}
use Rattle.jlr_laws.specs.Deciding.{is_empty}
use Rattle.jlr_plain_images.specs.Images.{IsRestFit, own_number, rest_fits}
use Rattle.jlr_plain_images.specs.Places.{rising_by}
use Rattle.jlr_plain_images.proofs.Everywhere.{Decides-rising, Decides-most, Decides-less, Decides-all, also, turned}

map_itself : (xs : List ℕ) → map own_number xs ≡ xs
map_itself [] = refl
map_itself (x ∷ xs) = ap {A = List ℕ} {B = List ℕ} (λ l. x ∷ l) (map_itself xs)

Decides-empty : (xs : List ℕ) → Decides (is_empty xs) (xs ≡ [])
Decides-empty [] = ((λ h. refl), (λ e. refl))
Decides-empty (x ∷ xs) = ((λ h. absurd (both_ways false refl h)), (λ e. ap is_empty e))

unless_open : {P : Type 0} (cycle b : Bool) → Decides b P → Decides (cycle || b) (cycle ≡ false → P)
unless_open true b d = ((λ h e. absurd (both_ways true e refl)), (λ w. refl))
unless_open false b d = ((λ h e. d.0 h), (λ w. d.1 (w refl)))

pub rest_decided : (m : Machine) → IsTrue (rest_fits m) ↔ IsRestFit m
rest_decided m =
    let rising = subst (λ xs. Decides (rising_by own_number m.seen) (is_rising xs ≡ true)) (map_itself m.seen)
    (Decides-rising own_number m.seen) in
    let within =
    Decides-all (λ s. nat_lt s (length m.objects)) (λ s. s < length m.objects) m.seen (λ s. Decides-less s (length m.objects)) in
    let seen = also (also rising within) (unless_open m.cycle_open (is_empty m.seen) (Decides-empty m.seen)) in
    turned (also (also (Decides-most (length m.faults) 256) (Decides-most (length m.notes) 256)) seen)
    (λ p. record { faults = p.0.0; notes = p.0.1; seen_rising = p.1.0.0; seen_within = p.1.0.1; seen_in_cycle = p.1.1 })
    (λ r. ((r.faults, r.notes), ((r.seen_rising, r.seen_within), r.seen_in_cycle)))
