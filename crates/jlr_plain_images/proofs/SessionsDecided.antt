-- What the test of mutators and names tells.
use Rattle.std.proofs.Common.{◌≡◌, ◌↔◌, ℕ, false, Decides, IsTrue, List, [], ◌∷◌, length, refl, None}
use Rattle.std.specs.List.{AllByRecursion, IsDistinct}
use Rattle.std.proofs.lemmas.Bool.{not-true, not_from_false}
use Rattle.jlr_machine.specs.declared.machine.Machine.{Machine}
use Rattle.jlr_machine.specs.declared.machine.Session.{Session}
use Rattle.jlr_machine.specs.declared.machine.Binding.{Binding}
use Rattle.jlr_machine.specs.declared.machine.Call.{Call}
use Rattle.jlr_machine.specs.declared.machine.Call.TheVariants.{Free, Opening, Out, Job}
use Rattle.jlr_machine.specs.Objects.{at, occupied}
use Rattle.jlr_machine.specs.Lookups.{same_name, bound_names}
use Rattle.jlr_machine.specs.WellFormed.{AreSessions, OpeningHasRoom}
use Rattle.jlr_plain_images.specs.Sessions.{opening_has_room, session_fits, is_new_name, names_differ, sessions_fit}
use Rattle.jlr_plain_images.proofs.Everywhere.{Decides-places, Decides-none, Decides-equal, Decides-most, also, turned}

Decides-opening : (s : Session) (call : Call) → Decides (opening_has_room s call) (OpeningHasRoom s call)
Decides-opening s (Opening rid) = Decides-most (occupied s.handles) 249
Decides-opening s Free = ((λ h. tt), (λ u. refl))
Decides-opening s (Out rid) = ((λ h. tt), (λ u. refl))
Decides-opening s (Job action) = ((λ h. tt), (λ u. refl))

new_name : (name : List ℕ) (names : List Binding)
    → Decides (is_new_name name names) (AllByRecursion (λ other. same_name name other ≡ false) (bound_names names))
new_name name [] = ((λ h. tt), (λ u. refl))
new_name name (b ∷ names) =
    also ((λ h. not-true (same_name name b.name) h), (λ h. not_from_false (same_name name b.name) h)) (new_name name names)

Decides-names : (names : List Binding) → Decides (names_differ names) (IsDistinct same_name (bound_names names))
unfolding IsDistinct
Decides-names [] = ((λ h. tt), (λ u. refl))
Decides-names (b ∷ names) = also (new_name b.name names) (Decides-names names)

pub sessions_decided : (m : Machine) → IsTrue (sessions_fit m) ↔ AreSessions m
sessions_decided m =
    let places =
    Decides-places session_fits (λ s. (((length s.handles ≡ 251) × (at s.handles 0 ≡ None)) × OpeningHasRoom s s.call)) m.mutators
    (λ s. also (also (Decides-equal (length s.handles) 251) (Decides-none (at s.handles 0))) (Decides-opening s s.call)) in
    turned (also (also places (Decides-names m.names)) (Decides-most (length m.names) 256))
    (λ p. record {
      places = λ k s e. (p.0.0 k s e).0;
      opening = λ k s e. (p.0.0 k s e).1;
      names = p.0.1;
      names_limit = p.1;
    })
    (λ w. (((λ k s e. (w.places k s e, w.opening k s e)), w.names), w.names_limit))
