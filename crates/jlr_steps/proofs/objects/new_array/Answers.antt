use Rattle.std.proofs.Common.{refl, sym, subst, filter_map}
use Rattle.jlr_machine.specs.Objects.{◌∈◌}
use Rattle.jlr_laws.proofs.keeps.Heap.{no_null}
use Rattle.jlr_marks.specs.Marking.{Marking}
use Rattle.jlr_state.specs.Machines.{machine_of}
use Rattle.jlr_state.specs.Marks.{BlackensMade}
use Rattle.jlr_state.proofs.Entries.{meets_new_array}
use Rattle.jlr_state.proofs.Shading.{given_new}
use Rattle.jlr_steps.proofs.objects.new_array.Goals as goal

-- its elements refer to nothing
pub allocate_array-requires-clause-null : goal.allocate_array-requires-clause-null
allocate_array-requires-clause-null g c = λ s h. no_null c.args.size s (subst (λ l. s ∈ filter_map (λ o. o) l) c.in-Ok.ensures h)

pub returns-clause-meets : goal.returns-clause-meets
returns-clause-meets g c =
    meets_new_array (machine_of c.args.state.now) (machine_of c.allocate_array.new.self) (machine_of c.give.new.self) c.args.by c.args.size
    c.in_ok-slot.slot c.in-Ok.elements c.allocate_array.new.choice c.give.result
    c.in_ok-check_session.ensures c.in_ok-check_no_call.ensures c.in_ok-check_free_handle.ensures c.in-Ok.ensures
    c.in_ok-slot.ensures.allocates c.give.ensures.answer c.give.ensures.held

-- it has a handle, and is black
pub returns-clause-marks : goal.returns-clause-marks
returns-clause-marks g c =
    let s = c.args.state.now in
    let mid = machine_of c.allocate_array.new.self in
    let one = subst (λ (k : Marking). BlackensMade c.allocate_array.new.choice.chosen c.in_ok-slot.slot s.heap.marking k)
    (sym c.give.ensures.marking) c.in_ok-slot.ensures.one in
    given_new (machine_of s) mid mid _ _ s.heap.marking _ c.allocate_array.new.choice c.args.by c.in_ok-slot.slot c.requires.fit
    c.in_ok-slot.ensures.allocates one c.in_ok-check_free_handle.ensures refl refl c.give.ensures.held
