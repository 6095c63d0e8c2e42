use Rattle.std.proofs.Common.{sym, arith, is_some}
use Rattle.std.proofs.lemmas.Bool.{le-leb}
use Rattle.std.proofs.lemmas.List.Sums.{count_by-le-length}
use Rattle.jlr_plain.proofs.room.room_for.Goals as goal

pub returns-then-cells-eq0 : goal.returns-then-cells-eq0
returns-then-cells-eq0 c =
    let few = count_by-le-length is_some c.args.machine.now.objects in
    let none = c.if-cells-eq0.true in
    sym (le-leb _ _ (omega (arith, few, none)))
