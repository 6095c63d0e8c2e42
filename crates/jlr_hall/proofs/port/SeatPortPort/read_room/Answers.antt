use Rattle.std.proofs.Common.{[], inl, inr, refl, sym}
use Rattle.std.proofs.lemmas.List.{append-nil}
use Rattle.jlr_types.specs.declared.Refusal.TheVariants.{NoMemory}
use Rattle.jlr_hall.proofs.port.SeatPortPort.read_room.Goals as goal

pub returns-in-Err : goal.returns-in-Err
returns-in-Err g c = rw (← c.self.view_is) (record {
  declined = inr (record {
    seat = refl;
    between = [];
    others = refl;
    known = sym (append-nil _);
    ends_nothing = refl;
    by = NoMemory;
    why = inl refl;
    refused = refl;
  });
})
