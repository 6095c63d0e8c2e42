use Rattle.std.proofs.Common.{◌≡◌, ℕ, zero, suc, ◌<◌, ◌≤◌, length, refl, arith}
use Rattle.jlr_trace_entries.proofs.Placing.{object-behind}
use Rattle.jlr_trace_entries.proofs.places.put_in.Goals as goal

no_strays : (n cells slot number : ℕ) → (0 < n → cells ≤ slot) → number < cells → number ≡ slot → n ≡ 0
no_strays zero cells slot number after lt same = refl
no_strays (suc n) cells slot number after lt same =
    let some : 0 < suc n = omega arith in
    let above : cells ≤ slot = after some in
    absurd (omega arith)

pub returns-clause-listed : goal.returns-clause-listed
returns-clause-listed c =
    let none : length c.args.strays.now.items ≡ 0 = no_strays (length c.args.strays.now.items) c.args.cells c.args.item.slot
    c.number-number.result c.requires.after c.if-cells-number.false c.number-number.ensures in
    object-behind c.args.places.now.items c.pad.new.places.items c.push-2.new.self.items c.args.strays.now.items c.args.item.slot
    c.args.item.object none c.requires.above (rw (← c.number-number.ensures) c.in_ok-pad.ensures) c.in_ok-push-2.ensures.items
