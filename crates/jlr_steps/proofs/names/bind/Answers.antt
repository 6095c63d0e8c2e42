use Rattle.std.proofs.Common.{Ok, refl, rules, subst, sym}
use Rattle.jlr_types.specs.declared.Refusal.TheVariants.{NoMemory}
use Rattle.jlr_machine.specs.declared.ask.Ask.TheVariants.{Bind}
use Rattle.jlr_machine.specs.declared.ask.Answer.TheVariants.{Done, Refused}
use Rattle.jlr_machine.specs.Run.{no_choice, out_of_memory}
use Rattle.jlr_barrier.specs.Graphs.{Known}
use Rattle.jlr_state.specs.Machines.{machine_of}
use Rattle.jlr_state.specs.State.{Answered, Meets}
use Rattle.jlr_state.proofs.Entries.{meets_answered}
use Rattle.jlr_state.proofs.Hands.{held_in_hand, named_held}
use Rattle.jlr_steps.proofs.names.bind.Goals as goal

-- what a handle names is in hand
pub bind-requires : goal.bind-requires
bind-requires g c =
    let s = c.args.state.now in
    record {
      held =
          held_in_hand s.heap c.in_ok-slot.slot (named_held (machine_of s) c.args.by c.args.object c.in_ok-slot.slot
          c.in_ok-slot.ensures.1);
    }

pub returns-in-Ok-clause-meets : goal.returns-in-Ok-clause-meets
returns-in-Ok-clause-meets g c =
    let s = c.args.state.now in
    let did : Answered (machine_of s) (Bind c.args.by c.args.name.now c.args.object) (Ok Done)
    (machine_of (record s { heap = c.bind.new.self })) = search rules in
    meets_answered (machine_of s) (machine_of (record s { heap = c.bind.new.self })) (Bind c.args.by c.args.name.now c.args.object)
    (Ok Done) tt did

-- where there was no memory, the heap is as it was
pub returns-in-Err-clause-meets : goal.returns-in-Err-clause-meets
returns-in-Err-clause-meets g c =
    let s = c.args.state.now in
    subst (λ (h : Known). Meets (machine_of s) (Bind c.args.by c.args.name.now c.args.object) (Refused NoMemory) no_choice
    (machine_of (record s { heap = h })))
    (sym c.in-Err.ensures.err.0)
    (record { legal = out_of_memory (record { no_end = refl; answers = refl; nothing = refl }); applied = refl })
