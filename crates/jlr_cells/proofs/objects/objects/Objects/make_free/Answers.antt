use Rattle.std.proofs.Common.{ap, arith, length}
use Rattle.jlr_machine.specs.Objects.{occupied}
use Rattle.std.proofs.lemmas.Bool.{ltb-false}
use Rattle.jlr_cells.proofs.Shown.{same_holding}
use Rattle.jlr_cells.proofs.objects.objects.Objects.make_free.Goals as goal

pub returns-clause-full : goal.returns-clause-full
returns-clause-full c = λ e.
    let none = ltb-false 0 c.free_count-2.result e in (
      omega (
        arith,
        c.free_count-2.ensures,
        c.sweep_all.ensures.condemned,
        ap length c.sweep_all.ensures.objects,
        ap occupied c.sweep_all.ensures.objects,
        none,
      ),
      same_holding _ _ c.sweep_all.ensures.objects (omega (
        arith,
        c.free_count.ensures,
        c.free_count-2.ensures,
        c.sweep_all.ensures.condemned,
        ap length c.sweep_all.ensures.objects,
        ap occupied c.sweep_all.ensures.objects,
        none,
      )),
    )
