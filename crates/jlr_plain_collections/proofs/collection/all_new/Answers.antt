use Rattle.std.proofs.Common.{length, drop, ◌≡◌, ◌+◌, ◌<◌, ◌-◌, refl, sym, subst, arith}
use Rattle.jlr_plain_collections.proofs.Marking.{at_in, was_unmarked, was_marked}
use Rattle.jlr_plain_collections.proofs.Tables.{MarksRest, rest_begins, rest_more, rest_stops}
use Rattle.jlr_plain_collections.proofs.collection.all_new.Goals as goal

pub loop-i-init : goal.loop-i-init
loop-i-init c = record { within = omega arith; rest = rest_begins c.args.slots.now _ c.args.marks.now refl c.requires.none }

pub mark-requires : goal.mark-requires
mark-requires c =
    let inside : c.loop-i.i - 1 < length c.args.slots.now =
    (let w = c.loop-i.invariant.within in let t = c.loop-i-test.true in omega (arith, w, t)) in
    subst (λ n. c.index-slots-i.result < n) (sym c.loop-i.invariant.rest.long)
    (c.requires.within c.index-slots-i.result
    (at_in c.args.slots.now (c.loop-i.i - 1) c.index-slots-i.result inside c.index-slots-i.is))

pub returns-then-not-mark : goal.returns-then-not-mark
returns-then-not-mark c =
    let i = c.loop-i.i - 1 in
    let inside : i < length c.args.slots.now = (let w = c.loop-i.invariant.within in let t = c.loop-i-test.true in omega (arith, w, t)) in
    let next : c.loop-i.i ≡ i + 1 = (let t = c.loop-i-test.true in omega (arith, t)) in
    rest_stops c.args.slots.now (length c.args.marks.now) i c.index-slots-i.result c.loop-i.marks inside c.index-slots-i.is
    (c.requires.within c.index-slots-i.result (at_in c.args.slots.now i c.index-slots-i.result inside c.index-slots-i.is))
    (subst (λ k. MarksRest (length c.args.marks.now) (drop k c.args.slots.now) c.loop-i.marks) next c.loop-i.invariant.rest)
    (was_marked c.loop-i.marks c.index-slots-i.result c.mark.result c.mark.ensures.new c.if-not-mark.true)

pub loop-i-preserved : goal.loop-i-preserved
loop-i-preserved c =
    let i = c.loop-i.i - 1 in
    let inside : i < length c.args.slots.now = (let w = c.loop-i.invariant.within in let t = c.loop-i-test.true in omega (arith, w, t)) in
    let next : c.loop-i.i ≡ i + 1 = (let t = c.loop-i-test.true in omega (arith, t)) in
    record {
      within = (let w = inside in omega (arith, w));
      rest =
          rest_more c.args.slots.now (length c.args.marks.now) i c.index-slots-i.result c.loop-i.marks c.mark.new.marks inside
          c.index-slots-i.is (c.requires.within c.index-slots-i.result
          (at_in c.args.slots.now i c.index-slots-i.result inside c.index-slots-i.is))
          (subst (λ k. MarksRest (length c.args.marks.now) (drop k c.args.slots.now) c.loop-i.marks) next c.loop-i.invariant.rest)
          c.mark.ensures.marks
          (was_unmarked c.loop-i.marks c.index-slots-i.result c.mark.result c.mark.ensures.new c.if-not-mark.false);
    }
