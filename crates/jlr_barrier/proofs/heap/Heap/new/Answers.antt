use Rattle.std.proofs.Common.{ap, arith, length, sym}
use Rattle.jlr_cells.specs.Holding.{Holding}
use Rattle.jlr_links.specs.Lists.{list_at}
use Rattle.jlr_barrier.proofs.Ending.{new_fits}
use Rattle.jlr_barrier.proofs.heap.Heap.new.Goals as goal

pub invariant_of-result : goal.invariant_of-result
invariant_of-result c =
    new_fits c.cell_count-cells.result c.session_count.result _ _ _ _ _ _ _ _ _ c.cell_count-cells.ensures.few
    (sym c.in-Ok-new.ensures.slots) (ap length c.in-Ok-new.ensures.lists)
    (ap (λ (h : Holding). h.objects) c.in-Ok-new-4.ensures) c.in-Ok-new-3.ensures c.in-Ok-new-2.ensures
    (ap (λ l. list_at l 0) c.in-Ok-new.ensures.lists) (ap (λ l. list_at l 1) c.in-Ok-new.ensures.lists)
    (omega (arith, c.in_ok-last_gets.ensures.len, c.in_ok-last_gets.last_gets.ok.0))
    c.in-Ok.ensures.bits c.in-Ok.ensures.grey c.in-Ok.ensures.discovered c.in-Ok.ensures.part
