use Rattle.jlr_trace_entries.proofs.Placing.{held_list_rises}
use Rattle.jlr_trace_entries.proofs.image.handles_at.Goals as goal

pub held_places-requires : goal.held_places-requires
held_places-requires c =
    rw c.as_slice.ensures (held_list_rises c.args.bytes.now.now c.in_ok-held.held c.take_rising.new.bytes.now c.in_ok-held.ensures)
