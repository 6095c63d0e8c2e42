-- What handles of a well-formed machine name.
use Rattle.std.proofs.Common.{◌≡◌, ℕ, Bool, Option, true, false, not, Some, None, IsTrue, is_some, ap}
use Rattle.jlr_machine.specs.declared.object.Object.{Object}
use Rattle.jlr_machine.specs.declared.machine.Machine.{Machine}
use Rattle.jlr_machine.specs.Objects.{at, some_and}
use Rattle.jlr_machine.specs.Lookups.{slot_named}
use Rattle.jlr_machine.specs.WellFormed.{IsWellFormed}
use Rattle.jlr_laws.proofs.Allowed.{named_of_slot}

-- an object
pub named_object : (m : Machine) (k h s : ℕ) → IsWellFormed m → slot_named m k h ≡ Some s → IsTrue (is_some (at m.objects s))
named_object m k h s w e = let n = named_of_slot m k h s w e in ap is_some n.2.there

-- an object that does not pass a test
pub of_another_kind : (o : Option Object) (p : Object → Bool) → is_some o ≡ true → some_and p o ≡ false → some_and (λ x. not (p x)) o ≡ true
of_another_kind None p i h = i
of_another_kind (Some x) p i h = ap not h
