use Rattle.std.proofs.Common.{◌≡◌, Option, None, Ok, Err, OnOk, OnErr, option_map, slice_set, ◌∙◌, ap}
use Rattle.std.proofs.lemmas.List.{set-set, set-get_or}
use Rattle.jlr_machine.specs.declared.object.Object.{Object}
use Rattle.jlr_machine.specs.Objects.{change_at}
use Rattle.jlr_plain_asks.specs.Changes.{appended}
use Rattle.jlr_plain_asks.proofs.Changing.{put_back}
use Rattle.jlr_plain_asks.proofs.changes.objects.append_at.Goals as goal

pub returns-clause-ok : goal.returns-clause-ok
returns-clause-ok c =
    let old = c.args.places.now.items in
    elim c.append_to-done.result as (λ r. OnOk r (c.append_to-done.new.place ≡ option_map (appended c.args.slot) c.take_object-place.result)
    → OnOk r (c.put_object.new.places.items ≡ change_at old c.args.number (appended c.args.slot))) [
      | Ok x ↦ λ e. put_back {A = Object} old c.take_object-place.new.places.items c.put_object.new.places.items c.args.number
          c.take_object-place.result c.append_to-done.new.place (appended c.args.slot) c.take_object-place.ensures.taken
          c.take_object-place.ensures.left c.put_object.ensures e
      | Err x ↦ λ e. e
    ] c.append_to-done.ensures.ok

pub returns-clause-err : goal.returns-clause-err
returns-clause-err c =
    let old = c.args.places.now.items in
    elim c.append_to-done.result as (λ r. OnErr r (c.append_to-done.new.place ≡ c.take_object-place.result)
    → OnErr r (c.put_object.new.places.items ≡ old)) [
      | Ok x ↦ λ e. e
      | Err x ↦ λ e.
          c.put_object.ensures ∙ ap (λ t. slice_set t c.args.number c.append_to-done.new.place) c.take_object-place.ensures.left
          ∙ set-set {A = Option Object} old c.args.number None c.append_to-done.new.place
          ∙ ap (λ p. slice_set old c.args.number p) (e ∙ c.take_object-place.ensures.taken)
          ∙ set-get_or old c.args.number None
    ] c.append_to-done.ensures.err
