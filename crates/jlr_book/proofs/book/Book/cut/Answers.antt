use Rattle.std.proofs.Common.{◌+◌, arith, subst, ap, length, sym}
use Rattle.jlr_plain.specs.Records.{replayed}
use Rattle.jlr_plain.proofs.Records.{as_many}
use Rattle.jlr_book.specs.Histories.{HasNumbers, IsHistory}
use Rattle.jlr_book.specs.Rules.{Cuts}
use Rattle.jlr_book.proofs.Histories.{bit_small, cut_is_history, cut_owes, cuts, told, IsCut}
use Rattle.jlr_book.proofs.book.Book.cut.Goals as goal

pub cut_to_image-requires-clause-stands : goal.cut_to_image-requires-clause-stands
cut_to_image-requires-clause-stands g c = let e = c.self.invariant.history.ends in (e.0, e.2, e.3)

pub overflow_add-self : goal.overflow_add-self
overflow_add-self g c =
    let old = c.self.inside in
    let l = old.trace.ok.0 in
    let m = as_many old.image old.trace.items in
    omega (arith, l, m, c.in-Ok.ensures.used, bit_small old.core.machine.cycle_open, c.self.invariant.history.fits)

pub invariant_of-self-2 : goal.invariant_of-self-2
invariant_of-self-2 g c =
    let old = c.self.inside in
    let l = old.trace.ok.0 in
    let m = as_many old.image old.trace.items in
    let entries = replayed old.image old.trace.items in
    let x : IsCut old.limits old.base c.in-Ok.used old.image c.cut_to_image.new.image entries old.core c.cut_to_image.new.core =
    record {
      history = c.self.invariant.history;
      numbers = subst HasNumbers (sym c.self.view_is) c.if-not-has_numbers.ensures;
      image_is = c.in-Ok.ensures.image;
      machine = c.in-Ok.ensures.machine;
      gives_up = c.in-Ok.ensures.gives_up;
      stands = c.in-Ok.ensures.stands;
      used_is = omega (arith, l, m, c.in-Ok.ensures.used);
    } in
    let owes = cut_owes old.limits old.base c.in-Ok.used old.image c.cut_to_image.new.image entries old.core c.cut_to_image.new.core
    x in
    let is = cut_is_history old.limits old.base c.in-Ok.used old.image c.cut_to_image.new.image entries old.core
    c.cut_to_image.new.core x in
    let none = ap length c.in-Ok.ensures.items in
    let l' = c.cut_to_image.new.trace.ok.0 in
    record {
      history = subst (λ xs. IsHistory (told old.limits (old.base + c.in-Ok.used) c.cut_to_image.new.image
          (replayed c.cut_to_image.new.image xs) c.cut_to_image.new.core)) (sym c.in-Ok.ensures.items) is;
      places = omega (arith, l, m, l', none, owes, c.self.invariant.places, c.cut_to_image.ensures.room);
      choice = omega (arith, c.self.invariant.choice, c.cut_to_image.ensures.choice);
    }

pub returns-clause-ok : goal.returns-clause-ok
returns-clause-ok g c =
    let old = c.self.inside in
    let l = old.trace.ok.0 in
    let m = as_many old.image old.trace.items in
    let entries = replayed old.image old.trace.items in
    let x : IsCut old.limits old.base c.in-Ok.used old.image c.cut_to_image.new.image entries old.core c.cut_to_image.new.core =
    record {
      history = c.self.invariant.history;
      numbers = subst HasNumbers (sym c.self.view_is) c.if-not-has_numbers.ensures;
      image_is = c.in-Ok.ensures.image;
      machine = c.in-Ok.ensures.machine;
      gives_up = c.in-Ok.ensures.gives_up;
      stands = c.in-Ok.ensures.stands;
      used_is = omega (arith, l, m, c.in-Ok.ensures.used);
    } in
    let is = cuts old.limits old.base c.in-Ok.used old.image c.cut_to_image.new.image entries old.core c.cut_to_image.new.core x in
    let here = told old.limits old.base old.image entries old.core in
    subst (λ h. Cuts h (told old.limits (old.base + c.in-Ok.used) c.cut_to_image.new.image
    (replayed c.cut_to_image.new.image c.cut_to_image.new.trace.items) c.cut_to_image.new.core)) c.self.view_is
    (subst (λ xs. Cuts here (told old.limits (old.base + c.in-Ok.used) c.cut_to_image.new.image (replayed c.cut_to_image.new.image xs)
    c.cut_to_image.new.core))
    (sym c.in-Ok.ensures.items) is)
