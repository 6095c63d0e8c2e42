-- Who asked does not matter.
use Rattle.std.proofs.Common.{refl}
use Rattle.jlr_machine.specs.Run.{carried_out, refused, heap_full, out_of_memory}
use Rattle.jlr_laws.specs.Laws.{LegalityLooksAtNoSeat, AnySeatLeavesTheSame}

pub legality_looks_at_no_seat : LegalityLooksAtNoSeat
legality_looks_at_no_seat m e seat (carried_out x) =
    carried_out (record { allowed = x.allowed; collection = x.collection; fresh = x.fresh; answers = x.answers })
legality_looks_at_no_seat m e seat (refused x) = refused (record { by = x.by; first = x.first; answers = x.answers; nothing = x.nothing })
legality_looks_at_no_seat m e seat (heap_full x) =
    heap_full (record {
      allowed =
          x.allowed;
      answers = x.answers;
      clearing = x.clearing;
      collects = x.collects;
      no_room = x.no_room;
      full = x.full;
      too_few = x.too_few;
    })
legality_looks_at_no_seat m e seat (out_of_memory x) =
    out_of_memory (record { no_end = x.no_end; answers = x.answers; nothing = x.nothing })

pub any_seat_leaves_the_same : AnySeatLeavesTheSame
any_seat_leaves_the_same m e seat = refl
