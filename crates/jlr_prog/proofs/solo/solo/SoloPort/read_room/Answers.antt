use Rattle.std.proofs.Common.{None, inl, inr, refl, ap}
use Rattle.jlr_types.specs.declared.Refusal.{Refusal}
use Rattle.jlr_machine.specs.declared.ask.Answer.TheVariants.{Refused}
use Rattle.jlr_event.specs.declared.event.Reply.TheVariants.{Answered}
use Rattle.jlr_prog.proofs.solo.solo.SoloPort.read_room.Goals as goal

pub returns-in-Err : goal.returns-in-Err
returns-in-Err g c = rw (← c.self.view_is) (record {
  declined = inr (record {
    same = refl;
    why = elim c.memory_refusal.ensures [
      | inl w ↦ inl (w.0, ap (λ (by : Refusal). Answered (Refused by) None) w.1)
      | inr w ↦ inr (w.0, ap (λ (by : Refusal). Answered (Refused by) None) w.1)
    ];
  });
})
