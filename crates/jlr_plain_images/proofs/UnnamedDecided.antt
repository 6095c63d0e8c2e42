-- What the test of what nobody names tells.
use Rattle.std.proofs.Common.{◌≡◌, ◌↔◌, ℕ, Bool, true, false, Decides, IsTrue, refl, ap, inl, inr, Some}
use Rattle.std.proofs.lemmas.Bool.{both_ways, not-true, not_from_false, false_from_ne_true}
use Rattle.jlr_machine.specs.declared.object.Object.{Object}
use Rattle.jlr_machine.specs.declared.object.Object.TheVariants.{Plain, Reference, Queue, Cleaner, Cleanable, Guard}
use Rattle.jlr_machine.specs.declared.machine.Machine.{Machine}
use Rattle.jlr_machine.specs.declared.machine.Session.{Session}
use Rattle.jlr_machine.specs.declared.machine.ResourceState.TheVariants.{Opening}
use Rattle.jlr_machine.specs.Objects.{at, some_and, ◌∈◌}
use Rattle.jlr_machine.specs.Edges.{slots_in}
use Rattle.jlr_machine.specs.WellFormed.{ArePrivate, IsPrivate}
use Rattle.jlr_plain_images.specs.Resources.{is_on_resource}
use Rattle.jlr_plain_images.specs.Unnamed.{is_private_object, is_public, handles_public, fields_public, referent_public, private_fit}
use Rattle.jlr_plain_images.proofs.WorksDecided.{on_gives}
use Rattle.jlr_plain_images.proofs.CallsDecided.{Decides-in_call}
use Rattle.jlr_plain_images.proofs.Everywhere.{Decides-places, Decides-bound, Decides-any, Decides-contents, Decides-plain}
use Rattle.jlr_plain_images.proofs.Everywhere.{Decides-references, there_gives, there_from, also, turned}

private_there : (m : Machine) (s : ℕ) (o : Object) → at m.objects s ≡ Some o → is_private_object m o ≡ true → IsPrivate m s
private_there m s (Cleanable c) e h = let r = on_gives c.work h in inl (c, r.0, e, r.1)
private_there m s (Guard g) e h = let r = (Decides-in_call m g.rid Opening g.cleanable).0 h in inr (g, r.0, e, r.1, r.2, r.3)
private_there m s (Plain x) e h = absurd (both_ways false refl h)
private_there m s (Reference x) e h = absurd (both_ways false refl h)
private_there m s (Queue x) e h = absurd (both_ways false refl h)
private_there m s Cleaner e h = absurd (both_ways false refl h)

private_from : (m : Machine) (s : ℕ) → IsPrivate m s → some_and (is_private_object m) (at m.objects s) ≡ true
private_from m s (inl (c, rid, e, f)) = there_from (is_private_object m) (at m.objects s) (Cleanable c) e (ap is_on_resource f)
private_from m s (inr (g, c, e, there, armed, resource)) =
    there_from (is_private_object m) (at m.objects s) (Guard g) e
    ((Decides-in_call m g.rid Opening g.cleanable).1 (c, there, armed, resource))

abbrev IsPublic : Machine → ℕ → Type 0
IsPublic m s = ¬ (IsPrivate m s)

Decides-public : (m : Machine) (s : ℕ) → Decides (is_public m s) (IsPublic m s)
Decides-public m s =
    let private : Bool = some_and (is_private_object m) (at m.objects s) in (
      (λ h p. both_ways private (not-true private h) (private_from m s p)),
      (λ w. not_from_false private (false_from_ne_true private
          (λ h. let x = there_gives (is_private_object m) (at m.objects s) h in w (private_there m s x.0 x.1 x.2)))),
    )

pub private_decided : (m : Machine) → IsTrue (private_fit m) ↔ ArePrivate m
private_decided m =
    let handles =
    Decides-places (handles_public m) (λ (session : Session). (h s : ℕ) → at session.handles h ≡ Some s → IsPublic m s) m.mutators
    (λ session. Decides-places (is_public m) (IsPublic m) session.handles (Decides-public m)) in
    let names = Decides-bound (is_public m) (IsPublic m) m.names (Decides-public m) in
    let fields = Decides-plain (fields_public m) (λ fields. (s : ℕ) → s ∈ slots_in fields → IsPublic m s) m.objects
    (λ fields. Decides-contents (is_public m) (IsPublic m) fields (Decides-public m)) in
    let references = Decides-references (referent_public m) (λ r. (s : ℕ) → r.referent ≡ Some s → IsPublic m s) m.objects
    (λ r. Decides-any (is_public m) (IsPublic m) r.referent (Decides-public m)) in
    turned (also (also (also handles names) fields) references)
    (λ p. record {
      handles = λ k h s session e f. p.0.0.0 k session e h s f;
      names = p.0.0.1;
      fields = λ t s fields e h. p.0.1 t fields e s h;
      references = λ t s r e f. p.1 t r e s f;
    })
    (λ w. (
      (((λ k session e h s f. w.handles k h s session e f), w.names), (λ t fields e s h. w.fields t s fields e h)),
      (λ t r e s f. w.references t s r e f),
    ))
