use Rattle.std.proofs.Common.{rules, arith, ◌≤◌, ◌+◌}
use Rattle.std.specs.Prelude.{IsOk}
use Rattle.slab.specs.Slab.{slab_len}
use Rattle.jlr_resource.proofs.Slabs.{count_listed}
use Rattle.jlr_resource.proofs.table.make_room.Goals as goal

pub returns-clause-room : goal.returns-clause-room
returns-clause-room g c =
    let room : slab_len c.reserve-reserved.new.self + 1 ≤ c.reserve-reserved.new.self.capacity = search rules in
    omega (arith, room, count_listed c.reserve-reserved.new.self)

pub returns-then-is_err-clause-succeeds : goal.returns-then-is_err-clause-succeeds
returns-then-is_err-clause-succeeds g c =
    λ room next.
    let count = count_listed c.args.places.now in
    absurd (let well : IsOk c.reserve-reserved.result =
    c.reserve-reserved.ensures.succeeds (omega (arith, count, room)) in let ill = c.if-is_err.ensures.negation in cc)
