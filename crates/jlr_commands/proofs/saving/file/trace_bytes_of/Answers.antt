use Rattle.std.proofs.Common.{subst, sym}
use Rattle.jlr_machine.specs.WellFormed.{IsImage}
use Rattle.jlr_trace.specs.Ranges.{LimitsInRange}
use Rattle.jlr_commands.proofs.Limits.{are_limits}
use Rattle.jlr_commands.proofs.Replaying.{from_image, saved}
use Rattle.jlr_commands.proofs.saving.file.trace_bytes_of.Goals as goal

pub begin_history-requires : goal.begin_history-requires
begin_history-requires g c =
    let h = c.args.book.now in
    record {
      image = subst IsImage (sym c.in_ok-machine.ensures) c.is_history.ensures.image;
      limits = subst LimitsInRange (sym c.in_ok-machine.ensures) (are_limits h.limits h.image c.is_history.ensures.limits_are);
    }

pub put_replayed-done-requires : goal.put_replayed-done-requires
put_replayed-done-requires g c =
    from_image c.args.book.now c.in_ok-machine.machine c.records-records.result.now c.is_history.ensures c.in_ok-machine.ensures
    c.records-records.ensures

pub returns : goal.returns
returns g c =
    saved c.args.book.now c.in_ok-machine.machine c.base-base.result c.count_of.result c.records-records.result.now
    c.in-Ok.out.items c.put_replayed-done.new.out.items c.is_history.ensures c.in_ok-machine.ensures c.base-base.ensures
    c.number_in_range.ensures c.records-records.ensures c.count_of.ensures.count c.count_of.ensures.fits
    c.in-Ok.ensures.bytes c.begin_history.ensures.range c.in_ok-done.ensures.bytes c.in_ok-done.ensures.range
