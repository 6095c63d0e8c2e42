use Rattle.std.proofs.Common.{◌≡◌, Bool, true, false, Option, Some, Result, Ok, ap, refl, rules, subst, sym}
use Rattle.jlr_types.specs.declared.Refusal.{Refusal}
use Rattle.jlr_machine.specs.declared.machine.Machine.{Machine}
use Rattle.jlr_machine.specs.declared.ask.Ask.{Ask}
use Rattle.jlr_machine.specs.declared.ask.Ask.TheVariants as asks
use Rattle.jlr_machine.specs.declared.ask.Answer.{Answer}
use Rattle.jlr_machine.specs.declared.ask.Answer.TheVariants.{Handed, Truth}
use Rattle.jlr_machine.specs.Chosen.{Chosen}
use Rattle.jlr_machine.specs.Choices.{Choosing, nothing_chosen}
use Rattle.jlr_machine.specs.Run.{no_choice}
use Rattle.jlr_marks.specs.Marking.{Marking}
use Rattle.jlr_state.specs.Events.{StepsMachine}
use Rattle.jlr_state.specs.Machines.{machine_of}
use Rattle.jlr_state.specs.State.{Answered, Meets, MeetsSeen, answer_of, is_collect}
use Rattle.jlr_state.proofs.Entries.{IsPlain, meets_answered}
use Rattle.jlr_steps.proofs.dispatch.step_plain.Goals as goal

-- an ask that was met is the step of its event
met :
    (m n : Machine) (marking : Marking) (asked : Option Ask) (ask : Ask) (a : Answer) (chosen : Chosen)
    → asked ≡ Some ask → is_collect ask ≡ false → Meets m ask a chosen n → StepsMachine m marking asked (Some a) chosen n
met m n marking asked ask a chosen is other meets =
    let meets_if : Bool → Type 0 =
    λ collects. elim collects [ true ↦ MeetsSeen m marking ask a chosen n | false ↦ Meets m ask a chosen n ] in
    subst (λ (o : Option Ask). StepsMachine m marking o (Some a) chosen n) (sym is) (subst meets_if (sym other) meets)

-- nothing was chosen
plainly :
    (m n : Machine) (marking : Marking) (asked : Option Ask) (ask : Ask) (a : Answer) (choice : Choosing)
    → asked ≡ Some ask → is_collect ask ≡ false → choice ≡ nothing_chosen choice.cells → Meets m ask a no_choice n
    → StepsMachine m marking asked (Some a) choice.chosen n
plainly m n marking asked ask a choice is other nothing meets =
    let none : no_choice ≡ choice.chosen = sym (ap (λ (x : Choosing). x.chosen) nothing) in
    met m n marking asked ask a choice.chosen is other (subst (λ (c : Chosen). Meets m ask a c n) none meets)

answered :
    (m n : Machine) (marking : Marking) (asked : Option Ask) (ask : Ask) (result : Result Answer Refusal) (choice : Choosing)
    → asked ≡ Some ask → is_collect ask ≡ false → IsPlain ask → choice ≡ nothing_chosen choice.cells
    → Answered m ask result n → StepsMachine m marking asked (Some (answer_of result)) choice.chosen n
answered m n marking asked ask result choice is other plain nothing did =
    plainly m n marking asked ask (answer_of result) choice is other nothing (meets_answered m n ask result plain did)

pub returns-in-Join-clause-entry : goal.returns-in-Join-clause-entry
returns-in-Join-clause-entry g c =
    let s = c.args.state.now in
    answered (machine_of s) (machine_of c.join.new.state) s.heap.marking (Some c.args.ask.now)
    (asks.Join c.in-Join.mutator) c.join.result
    c.args.choice.now (ap Some c.in-Join.is) refl tt c.requires.nothing c.join.ensures.answered

pub returns-in-Leave-clause-entry : goal.returns-in-Leave-clause-entry
returns-in-Leave-clause-entry g c =
    let s = c.args.state.now in
    answered (machine_of s) (machine_of c.leave.new.state) s.heap.marking (Some c.args.ask.now)
    (asks.Leave c.in-Leave.mutator) c.leave.result
    c.args.choice.now (ap Some c.in-Leave.is) refl tt c.requires.nothing c.leave.ensures.answered

pub returns-in-Put-clause-entry : goal.returns-in-Put-clause-entry
returns-in-Put-clause-entry g c =
    let s = c.args.state.now in
    answered (machine_of s) (machine_of c.put.new.state) s.heap.marking (Some c.args.ask.now)
    (asks.Put c.in-Put.mutator c.in-Put.object c.in-Put.field c.in-Put.value) c.put.result
    c.args.choice.now (ap Some c.in-Put.is) refl tt c.requires.nothing c.put.ensures.answered

pub returns-in-Get-clause-entry : goal.returns-in-Get-clause-entry
returns-in-Get-clause-entry g c =
    let s = c.args.state.now in
    answered (machine_of s) (machine_of c.get.new.state) s.heap.marking (Some c.args.ask.now)
    (asks.Get c.in-Get.mutator c.in-Get.object c.in-Get.field) c.get.result
    c.args.choice.now (ap Some c.in-Get.is) refl tt c.requires.nothing c.get.ensures.answered

pub returns-in-Int-clause-entry : goal.returns-in-Int-clause-entry
returns-in-Int-clause-entry g c =
    let s = c.args.state.now in
    answered (machine_of s) (machine_of s) s.heap.marking (Some c.args.ask.now)
    (asks.Int c.in-Int.mutator c.in-Int.object c.in-Int.field) c.int.result
    c.args.choice.now (ap Some c.in-Int.is) refl tt c.requires.nothing c.int.ensures.answered

pub returns-in-Dup-clause-entry : goal.returns-in-Dup-clause-entry
returns-in-Dup-clause-entry g c =
    let s = c.args.state.now in
    answered (machine_of s) (machine_of c.dup.new.state) s.heap.marking (Some c.args.ask.now)
    (asks.Dup c.in-Dup.mutator c.in-Dup.object) c.dup.result
    c.args.choice.now (ap Some c.in-Dup.is) refl tt c.requires.nothing c.dup.ensures.answered

pub returns-in-Drop-clause-entry : goal.returns-in-Drop-clause-entry
returns-in-Drop-clause-entry g c =
    let s = c.args.state.now in
    answered (machine_of s) (machine_of c.drop_handle.new.state) s.heap.marking (Some c.args.ask.now)
    (asks.Drop c.in-Drop.mutator c.in-Drop.object) c.drop_handle.result
    c.args.choice.now (ap Some c.in-Drop.is) refl tt c.requires.nothing c.drop_handle.ensures.answered

pub returns-in-Same-clause-entry : goal.returns-in-Same-clause-entry
returns-in-Same-clause-entry g c =
    let s = c.args.state.now in
    answered (machine_of s) (machine_of s) s.heap.marking (Some c.args.ask.now)
    (asks.Same c.in-Same.mutator c.in-Same.left c.in-Same.right) c.same.result
    c.args.choice.now (ap Some c.in-Same.is) refl tt c.requires.nothing c.same.ensures

pub returns-in-MakeRef-clause-entry : goal.returns-in-MakeRef-clause-entry
returns-in-MakeRef-clause-entry g c =
    let s = c.args.state.now in
    met (machine_of s) (machine_of c.make_reference.new.state) s.heap.marking (Some c.args.ask.now)
    (asks.MakeRef c.in-MakeRef.mutator c.in-MakeRef.kind c.in-MakeRef.referent c.in-MakeRef.queue)
    (answer_of c.make_reference.result) c.make_reference.new.choice.chosen
    (ap Some c.in-MakeRef.is) refl c.make_reference.ensures.meets

pub returns-in-Deref-clause-entry : goal.returns-in-Deref-clause-entry
returns-in-Deref-clause-entry g c =
    let s = c.args.state.now in
    answered (machine_of s) (machine_of c.deref.new.state) s.heap.marking (Some c.args.ask.now)
    (asks.Deref c.in-Deref.mutator c.in-Deref.reference) c.deref.result
    c.args.choice.now (ap Some c.in-Deref.is) refl tt c.requires.nothing c.deref.ensures.answered

pub returns-in-Refers-clause-entry : goal.returns-in-Refers-clause-entry
returns-in-Refers-clause-entry g c =
    let s = c.args.state.now in
    answered (machine_of s) (machine_of s) s.heap.marking (Some c.args.ask.now)
    (asks.Refers c.in-Refers.mutator c.in-Refers.reference c.in-Refers.object) c.refers.result
    c.args.choice.now (ap Some c.in-Refers.is) refl tt c.requires.nothing c.refers.ensures.answered

pub returns-in-Clear-clause-entry : goal.returns-in-Clear-clause-entry
returns-in-Clear-clause-entry g c =
    let s = c.args.state.now in
    answered (machine_of s) (machine_of c.clear.new.state) s.heap.marking (Some c.args.ask.now)
    (asks.Clear c.in-Clear.mutator c.in-Clear.reference) c.clear.result
    c.args.choice.now (ap Some c.in-Clear.is) refl tt c.requires.nothing c.clear.ensures.answered

pub returns-in-Enqueue-clause-entry : goal.returns-in-Enqueue-clause-entry
returns-in-Enqueue-clause-entry g c =
    let s = c.args.state.now in
    answered (machine_of s) (machine_of c.enqueue.new.state) s.heap.marking (Some c.args.ask.now)
    (asks.Enqueue c.in-Enqueue.mutator c.in-Enqueue.reference) c.enqueue.result
    c.args.choice.now (ap Some c.in-Enqueue.is) refl tt c.requires.nothing c.enqueue.ensures.answered

pub returns-in-Enqueued-clause-entry : goal.returns-in-Enqueued-clause-entry
returns-in-Enqueued-clause-entry g c =
    let s = c.args.state.now in
    answered (machine_of s) (machine_of s) s.heap.marking (Some c.args.ask.now)
    (asks.Enqueued c.in-Enqueued.mutator c.in-Enqueued.reference) c.enqueued.result
    c.args.choice.now (ap Some c.in-Enqueued.is) refl tt c.requires.nothing c.enqueued.ensures

pub returns-in-MakeQueue-clause-entry : goal.returns-in-MakeQueue-clause-entry
returns-in-MakeQueue-clause-entry g c =
    let s = c.args.state.now in
    met (machine_of s) (machine_of c.make_queue.new.state) s.heap.marking (Some c.args.ask.now)
    (asks.MakeQueue c.in-MakeQueue.mutator) (answer_of c.make_queue.result) c.make_queue.new.choice.chosen
    (ap Some c.in-MakeQueue.is) refl c.make_queue.ensures.meets

pub returns-in-Poll-clause-entry : goal.returns-in-Poll-clause-entry
returns-in-Poll-clause-entry g c =
    let s = c.args.state.now in
    answered (machine_of s) (machine_of c.poll.new.state) s.heap.marking (Some c.args.ask.now)
    (asks.Poll c.in-Poll.mutator c.in-Poll.queue) c.poll.result
    c.args.choice.now (ap Some c.in-Poll.is) refl tt c.requires.nothing c.poll.ensures.answered

pub returns-in-HandOver-clause-entry : goal.returns-in-HandOver-clause-entry
returns-in-HandOver-clause-entry g c =
    let s = c.args.state.now in
    answered (machine_of s) (machine_of c.hand_over.new.state) s.heap.marking (Some c.args.ask.now)
    asks.HandOver (Ok (Handed c.hand_over.result))
    c.args.choice.now (ap Some c.in-HandOver.is) refl tt c.requires.nothing c.hand_over.ensures.answered

pub returns-in-Remove-clause-entry : goal.returns-in-Remove-clause-entry
returns-in-Remove-clause-entry g c =
    let s = c.args.state.now in
    answered (machine_of s) (machine_of c.remove.new.state) s.heap.marking (Some c.args.ask.now)
    (asks.Remove c.in-Remove.mutator c.in-Remove.queue) c.remove.result
    c.args.choice.now (ap Some c.in-Remove.is) refl tt c.requires.nothing c.remove.ensures.answered

pub returns-in-MakeCleaner-clause-entry : goal.returns-in-MakeCleaner-clause-entry
returns-in-MakeCleaner-clause-entry g c =
    let s = c.args.state.now in
    met (machine_of s) (machine_of c.make_cleaner.new.state) s.heap.marking (Some c.args.ask.now)
    (asks.MakeCleaner c.in-MakeCleaner.mutator) (answer_of c.make_cleaner.result) c.make_cleaner.new.choice.chosen
    (ap Some c.in-MakeCleaner.is) refl c.make_cleaner.ensures.meets

pub returns-in-Register-clause-entry : goal.returns-in-Register-clause-entry
returns-in-Register-clause-entry g c =
    let s = c.args.state.now in
    met (machine_of s) (machine_of c.register.new.state) s.heap.marking (Some c.args.ask.now)
    (asks.Register c.in-Register.mutator c.in-Register.cleaner c.in-Register.object c.in-Register.note)
    (answer_of c.register.result) c.register.new.choice.chosen
    (ap Some c.in-Register.is) refl c.register.ensures.meets

pub returns-in-Prepare-clause-entry : goal.returns-in-Prepare-clause-entry
returns-in-Prepare-clause-entry g c =
    let s = c.args.state.now in
    met (machine_of s) (machine_of c.prepare.new.self) s.heap.marking (Some c.args.ask.now)
    (asks.Prepare c.in-Prepare.mutator) (answer_of c.prepare.result) c.prepare.new.choice.chosen
    (ap Some c.in-Prepare.is) refl c.prepare.ensures.meets

pub returns-in-Bind-clause-entry : goal.returns-in-Bind-clause-entry
returns-in-Bind-clause-entry g c =
    let s = c.args.state.now in
    let did : Meets (machine_of s) (asks.Bind c.in-Bind.mutator c.in-Bind.name c.in-Bind.object) (answer_of c.bind.result) no_choice
    (machine_of c.bind.new.state) = search rules in
    plainly (machine_of s) (machine_of c.bind.new.state) s.heap.marking (Some c.args.ask.now)
    (asks.Bind c.in-Bind.mutator c.in-Bind.name c.in-Bind.object) (answer_of c.bind.result)
    c.args.choice.now (ap Some c.in-Bind.is) refl c.requires.nothing did

pub returns-in-Names-clause-entry : goal.returns-in-Names-clause-entry
returns-in-Names-clause-entry g c =
    let s = c.args.state.now in
    plainly (machine_of s) (machine_of s) s.heap.marking (Some c.args.ask.now)
    (asks.Names c.in-Names.mutator) (answer_of c.names.result)
    c.args.choice.now (ap Some c.in-Names.is) refl c.requires.nothing c.names.ensures.meets

pub returns-in-Full-clause-entry : goal.returns-in-Full-clause-entry
returns-in-Full-clause-entry g c =
    let s = c.args.state.now in
    met (machine_of s) (machine_of c.full.new.self) s.heap.marking (Some c.args.ask.now)
    (asks.Full c.in-Full.mutator c.in-Full.mode) (answer_of c.full.result) c.full.new.choice.chosen
    (ap Some c.in-Full.is) refl c.full.ensures.meets

pub returns-in-Stat-clause-entry : goal.returns-in-Stat-clause-entry
returns-in-Stat-clause-entry g c =
    let s = c.args.state.now in
    answered (machine_of s) (machine_of s) s.heap.marking (Some c.args.ask.now)
    (asks.Stat c.in-Stat.mutator) c.stat.result
    c.args.choice.now (ap Some c.in-Stat.is) refl tt c.requires.nothing c.stat.ensures.answered

pub returns-in-Notes-clause-entry : goal.returns-in-Notes-clause-entry
returns-in-Notes-clause-entry g c =
    let s = c.args.state.now in
    plainly (machine_of s) (machine_of s) s.heap.marking (Some c.args.ask.now)
    (asks.Notes c.in-Notes.mutator) (answer_of c.notes.result)
    c.args.choice.now (ap Some c.in-Notes.is) refl c.requires.nothing c.notes.ensures.meets

pub returns-in-Faults-clause-entry : goal.returns-in-Faults-clause-entry
returns-in-Faults-clause-entry g c =
    let s = c.args.state.now in
    plainly (machine_of s) (machine_of s) s.heap.marking (Some c.args.ask.now)
    (asks.Faults c.in-Faults.mutator) (answer_of c.faults.result)
    c.args.choice.now (ap Some c.in-Faults.is) refl c.requires.nothing c.faults.ensures.meets

pub returns-in-Begin-clause-entry : goal.returns-in-Begin-clause-entry
returns-in-Begin-clause-entry g c =
    let s = c.args.state.now in
    answered (machine_of s) (machine_of c.begin.new.self) s.heap.marking (Some c.args.ask.now)
    asks.Begin (Ok (Truth c.begin.result))
    c.args.choice.now (ap Some c.in-Begin.is) refl tt c.requires.nothing c.begin.ensures.answered

pub returns-in-Abandon-clause-entry : goal.returns-in-Abandon-clause-entry
returns-in-Abandon-clause-entry g c =
    let s = c.args.state.now in
    answered (machine_of s) (machine_of c.abandon.new.self) s.heap.marking (Some c.args.ask.now)
    asks.Abandon (Ok (Truth c.abandon.result))
    c.args.choice.now (ap Some c.in-Abandon.is) refl tt c.requires.nothing c.abandon.ensures.answered

pub returns-in-Array-clause-entry : goal.returns-in-Array-clause-entry
returns-in-Array-clause-entry g c =
    let s = c.args.state.now in
    met (machine_of s) (machine_of c.new_array.new.state) s.heap.marking (Some c.args.ask.now)
    (asks.Array c.in-Array.mutator c.in-Array.length) (answer_of c.new_array.result) c.new_array.new.choice.chosen
    (ap Some c.in-Array.is) refl c.new_array.ensures.meets
