use Rattle.std.proofs.Common.{◌≡◌, [], drop, option_map, arith, ◌∙◌, ap}
use Rattle.std.proofs.Math.ListN.{drop_of_length-le}
use Rattle.jlr_machine.specs.declared.machine.Machine.{Machine}
use Rattle.jlr_book.specs.ImageKeeping.{image_from}
use Rattle.jlr_book.specs.Led.{with_cycle_closed}
use Rattle.jlr_book.proofs.ImageKeeping.{takes_over}
use Rattle.jlr_book.proofs.image.image.Image.take_over.Goals as goal

pub returns-clause-image : goal.returns-clause-image
returns-clause-image c = λ m run.
    let old = c.self.inside in
    let l = old.records.ok.0 in
    let none : drop old.place old.records.items ≡ [] =
    drop_of_length-le old.records.items (omega (arith, l, c.len.ensures, c.if-self-len.false)) in
    let kept = c.close.ensures in
    let records = c.swap.ensures.x_after in
    ap (λ k. image_from old.limits k (drop 0 c.swap.new.x.items)) kept
    ∙ ap (λ v. image_from old.limits (option_map {T = Machine} with_cycle_closed old.machine) (drop 0 v.items)) records
    ∙ takes_over old.limits old.machine c.args.self.now m (drop old.place old.records.items) c.args.trace.now.items c.self.invariant.leads
    none c.self.view_is run
