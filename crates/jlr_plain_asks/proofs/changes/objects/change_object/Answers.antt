use Rattle.std.proofs.Common.{Some, option_map, sym, ◌∙◌, ap}
use Rattle.jlr_machine.specs.declared.object.Object.{Object}
use Rattle.jlr_plain_asks.specs.Changes.{change_of}
use Rattle.jlr_plain_asks.proofs.Changing.{put_back}
use Rattle.jlr_plain_asks.proofs.changes.objects.change_object.Goals.{in-Some, in-None}
use Rattle.jlr_plain_asks.proofs.changes.objects.change_object.Goals as goal

pub returns : goal.returns
returns c =
    put_back {A = Object} c.args.places.now.items c.take_object.new.places.items c.put_object.new.places.items c.args.number
    c.take_object.result c.match-take_object.place (change_of c.args.change) c.take_object.ensures.taken c.take_object.ensures.left
    c.put_object.ensures
    (elim c.match-take_object.branch [
      | in-Some w ↦ w.place-is ∙ ap {A = Object} Some w.changed.ensures ∙ ap (option_map (change_of c.args.change)) (sym w.in-Some.is)
      | in-None w ↦ w.place-is ∙ ap (option_map (change_of c.args.change)) (sym w.in-None.is)
    ])
