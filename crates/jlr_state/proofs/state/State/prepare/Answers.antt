use Rattle.std.proofs.Common.{◌≡◌, ap, subst, ◌∙◌}
use Rattle.jlr_machine.specs.declared.machine.Machine.{Machine}
use Rattle.jlr_resource.specs.Resources.{Resources}
use Rattle.jlr_cleaner.specs.Cleanings.{Cleanings}
use Rattle.jlr_state.specs.Machines.{machine_of}
use Rattle.jlr_state.specs.State.{machine_with}
use Rattle.jlr_state.specs.Collecting.{MakesRoom}
use Rattle.jlr_state.proofs.Entries.{meets_prepared}
use Rattle.jlr_state.specs.Marks.{MarksNew}
use Rattle.jlr_state.proofs.Shading.{room_new}
use Rattle.jlr_state.proofs.state.State.prepare.Goals as goal

pub returns-clause-meets : goal.returns-clause-meets
returns-clause-meets g c =
    let s = c.args.self.now in
    let kept : c.reserve.new.self ≡ record s.cleaner { table = record s.cleaner.table { room = c.reserve.new.self.table.room } } =
    c.in_ok-reserve.ensures.rest ∙ ap {A = Resources g.row.R.Denot} {B = Cleanings g.row.R.Denot} (λ t. record s.cleaner { table = t })
    c.in_ok-reserve.ensures.table in
    let same : machine_with c.reserve.new.self s.heap.graph s.cycle_open ≡ machine_of s =
    ap {A = Cleanings g.row.R.Denot} {B = Machine} (λ k. machine_with k s.heap.graph s.cycle_open) kept in
    let made = subst (λ (m : Machine). MakesRoom m 2 c.args.choice.now c.make_room.new.choice (machine_of c.make_room.new.self)) same
    c.make_room.ensures.made in
    meets_prepared (machine_of s) (machine_of c.make_room.new.self) (machine_of c.place_guard.new.self) c.args.by c.place_guard.result
    c.make_room.new.choice c.place_guard.new.choice c.args.choice.now c.in_ok-check_prepare.ensures.0 made c.place_guard.ensures.placed

pub returns-clause-marks : goal.returns-clause-marks
returns-clause-marks g c =
    let s = c.args.self.now in
    let kept : c.reserve.new.self ≡ record s.cleaner { table = record s.cleaner.table { room = c.reserve.new.self.table.room } } =
    c.in_ok-reserve.ensures.rest ∙ ap {A = Resources g.row.R.Denot} {B = Cleanings g.row.R.Denot} (λ t. record s.cleaner { table = t })
    c.in_ok-reserve.ensures.table in
    let before = machine_with c.reserve.new.self s.heap.graph s.cycle_open in
    let same : before ≡ machine_of s =
    ap {A = Cleanings g.row.R.Denot} {B = Machine} (λ k. machine_with k s.heap.graph s.cycle_open) kept in
    let mid = c.make_room.new.self in
    let n = machine_of c.place_guard.new.self in
    let chosen = c.place_guard.new.choice.chosen in
    subst (λ (m : Machine). MarksNew m s.heap.marking chosen n c.place_guard.new.self.heap.marking) same
    (room_new before (machine_of mid) n 2 s.heap.marking mid.heap.marking c.place_guard.new.self.heap.marking c.args.choice.now
    c.make_room.new.choice chosen c.make_room.ensures.made c.make_room.ensures.marks
    (ap (λ (m : Machine). m.cycle_open) c.place_guard.ensures.placed.left) c.place_guard.ensures.marks)
