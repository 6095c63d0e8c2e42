use Rattle.std.proofs.Common.{◌+◌, ◌≤◌, Some, [], arith, rules, subst, sym, ap, length}
use Rattle.jlr_plain.specs.Records.{replayed}
use Rattle.jlr_plain.proofs.Records.{as_many}
use Rattle.jlr_event.specs.declared.event.Event.TheVariants.{Ask as Asks}
use Rattle.jlr_book.specs.Histories.{HasNumbers}
use Rattle.jlr_book.specs.Rules.{AsksBy}
use Rattle.jlr_book.specs.Writing.{AddsRecord}
use Rattle.jlr_book.proofs.Entering.{WritesEntry, entry_more, still_suits}
use Rattle.jlr_book.proofs.Histories.{asks_by, bit_small, cut_asks_by, cut_goes_on, cut_is_history, enter_goes_on, told, IsCut}
use Rattle.jlr_book.proofs.book.Book.enter_with_room.Given.{Over}
use Rattle.jlr_book.proofs.book.Book.enter_with_room.Goals as goal

pub record-requires-clause-stands : goal.record-requires-clause-stands
record-requires-clause-stands g c = let e = c.self.invariant.history.ends in (e.0, e.2, e.3)

pub cut_to_image-requires-clause-stands : goal.cut_to_image-requires-clause-stands
cut_to_image-requires-clause-stands g c = let e = c.self.invariant.history.ends in (e.0, e.2, e.3)

-- ---- Without a cut

pub invariant_of-self-then-len-self : goal.invariant_of-self-then-len-self
invariant_of-self-then-len-self g c =
    let old = c.self.inside in
    let kept = c.self.invariant in
    let new = c.record.new in
    let l = old.trace.ok.0 in
    let l' = new.trace.ok.0 in
    let numbers = subst HasNumbers (sym c.self.view_is) c.if-not-has_numbers.ensures in
    let room : c.reserve.new.self.len + 130 ≤ c.reserve.new.self.cap = search rules in
    let same = c.reserve.ensures.len in
    let m = as_many old.image old.trace.items in
    let entries = replayed old.image old.trace.items in
    let entries' = replayed old.image new.trace.items in
    let added = subst (λ xs. AddsRecord c.args.seat old.core xs (Asks c.args.ask) c.record.result new.core new.trace.items)
    c.reserve.ensures.items c.record.ensures.writes in
    let w = entry_more old.image old.trace.items new.trace.items old.core new.core c.args.seat (Asks c.args.ask) c.record.result
    c.self.invariant.history.ends added in
    let x = enter_goes_on old.limits old.base old.image entries entries' old.core new.core c.args.seat (Asks c.args.ask)
    c.record.result kept.history w c.record.ensures.cells (omega (arith, numbers, l, m)) in
    record {
      history = x.0;
      places =
          omega (arith, l, m, l', as_many old.image new.trace.items, x.1, x.2, room, same, c.record.ensures.room);
      choice = omega (arith, kept.choice, c.record.ensures.choice);
    }

pub returns-then-len-self : goal.returns-then-len-self
returns-then-len-self g c =
    let old = c.self.inside in
    let new = c.record.new in
    let l = old.trace.ok.0 in
    let same = c.reserve.ensures.len in
    let numbers = subst HasNumbers (sym c.self.view_is) c.if-not-has_numbers.ensures in
    let m = as_many old.image old.trace.items in
    let entries = replayed old.image old.trace.items in
    let entries' = replayed old.image new.trace.items in
    let added = subst (λ xs. AddsRecord c.args.seat old.core xs (Asks c.args.ask) c.record.result new.core new.trace.items)
    c.reserve.ensures.items c.record.ensures.writes in
    let w = entry_more old.image old.trace.items new.trace.items old.core new.core c.args.seat (Asks c.args.ask) c.record.result
    c.self.invariant.history.ends added in
    subst (λ h. AsksBy c.args.seat h (Asks c.args.ask) c.record.result (told old.limits old.base old.image entries' new.core))
    c.self.view_is
    (asks_by old.limits old.base old.image entries entries' old.core new.core c.args.seat (Asks c.args.ask) c.record.result
    numbers (omega (arith, l, m, same, c.if-len-self.true)) w)

-- ---- After a cut

pub record-requires-2-clause-place : goal.record-requires-2-clause-place
record-requires-2-clause-place g c =
    let room : c.reserve.new.self.len + 130 ≤ c.reserve.new.self.cap = search rules in
    let none = ap length c.in-Ok-cut_to_image.ensures.items in
    let l' = c.cut_to_image.new.trace.ok.0 in
    omega (arith, none, l', room, c.cut_to_image.ensures.room)

pub record-requires-2-clause-room : goal.record-requires-2-clause-room
record-requires-2-clause-room g c = still_suits c.self.inside.core.machine c.cut_to_image.new.core.machine (Some c.args.ask) c.in-Ok.room
    c.in-Ok-cut_to_image.ensures.machine c.in-Ok.ensures

pub overflow_add-self : goal.overflow_add-self
overflow_add-self g c =
    let old = c.self.inside in
    let l = old.trace.ok.0 in
    let m = as_many old.image old.trace.items in
    let same = c.reserve.ensures.len in
    omega (arith, l, m, same, c.in-Ok-cut_to_image.ensures.used, bit_small old.core.machine.cycle_open, c.self.invariant.history.fits)

cut_is : (g : Over) (c : goal.After-record-2 g) → IsCut c.self.inside.limits c.self.inside.base c.in-Ok-cut_to_image.used
    c.self.inside.image c.cut_to_image.new.image (replayed c.self.inside.image c.self.inside.trace.items) c.self.inside.core
    c.cut_to_image.new.core
cut_is g c =
    let old = c.self.inside in
    let l = old.trace.ok.0 in
    let same = c.reserve.ensures.len in
    record {
      history = c.self.invariant.history;
      numbers = subst HasNumbers (sym c.self.view_is) c.if-not-has_numbers.ensures;
      image_is = c.in-Ok-cut_to_image.ensures.image;
      machine = c.in-Ok-cut_to_image.ensures.machine;
      gives_up = c.in-Ok-cut_to_image.ensures.gives_up;
      stands = c.in-Ok-cut_to_image.ensures.stands;
      used_is = omega (arith, l, as_many old.image old.trace.items, same, c.in-Ok-cut_to_image.ensures.used);
    }

written_after : (g : Over) (c : goal.After-record-2 g) → WritesEntry c.args.seat c.cut_to_image.new.core [] (Asks c.args.ask)
    c.record-2.result c.record-2.new.core (replayed c.cut_to_image.new.image c.record-2.new.trace.items)
written_after g c =
    let old = c.self.inside in
    let between = c.cut_to_image.new.core in
    let new = c.record-2.new in
    let image' = c.cut_to_image.new.image in
    let history = cut_is_history old.limits old.base c.in-Ok-cut_to_image.used old.image image'
    (replayed old.image old.trace.items) old.core between (cut_is g c) in
    let added = subst (λ xs. AddsRecord c.args.seat between xs (Asks c.args.ask) c.record-2.result new.core new.trace.items)
    c.in-Ok-cut_to_image.ensures.items c.record-2.ensures.writes in
    entry_more image' [] new.trace.items between new.core c.args.seat (Asks c.args.ask) c.record-2.result history.ends added

pub invariant_of-self-2 : goal.invariant_of-self-2
invariant_of-self-2 g c =
    let old = c.self.inside in
    let kept = c.self.invariant in
    let new = c.record-2.new in
    let l' = new.trace.ok.0 in
    let room : c.reserve.new.self.len + 130 ≤ c.reserve.new.self.cap = search rules in
    let entries = replayed old.image old.trace.items in
    let image' = c.cut_to_image.new.image in
    let entries' = replayed image' new.trace.items in
    let w = written_after g c in
    let x = cut_goes_on old.limits old.base c.in-Ok-cut_to_image.used old.image image' entries old.core
    c.cut_to_image.new.core entries' new.core c.args.seat (Asks c.args.ask) c.record-2.result (cut_is g c) w
    c.record-2.ensures.cells in
    record {
      history = x.0;
      places = omega (arith, l', as_many image' new.trace.items, x.1, x.2, room, c.cut_to_image.ensures.room, c.record-2.ensures.room);
      choice =
          omega (arith, kept.choice, c.cut_to_image.ensures.choice, c.record-2.ensures.choice);
    }

pub returns : goal.returns
returns g c =
    let old = c.self.inside in
    let new = c.record-2.new in
    let l = old.trace.ok.0 in
    let same = c.reserve.ensures.len in
    let entries = replayed old.image old.trace.items in
    let image' = c.cut_to_image.new.image in
    let entries' = replayed image' new.trace.items in
    let w = written_after g c in
    subst (λ h. AsksBy c.args.seat h (Asks c.args.ask) c.record-2.result
    (told old.limits (old.base + c.in-Ok-cut_to_image.used) image' entries' new.core)) c.self.view_is
    (cut_asks_by old.limits old.base c.in-Ok-cut_to_image.used old.image image' entries old.core
    c.cut_to_image.new.core entries' new.core c.args.seat (Asks c.args.ask) c.record-2.result (cut_is g c)
    (omega (arith, l, as_many old.image old.trace.items, same, c.if-len-self.false)) w)
