use Rattle.std.proofs.Common.{◌≡◌, [], List, drop, sym, ap, subst, arith}
use Rattle.jlr_plain.specs.declared.record.Record.{Record}
use Rattle.jlr_book.specs.Led.{LeadsOn}
use Rattle.jlr_book.proofs.ImageKeeping.{starts}
use Rattle.jlr_book.proofs.image.image.Image.new.Goals as goal

pub invariant_of-result : goal.invariant_of-result
invariant_of-result c =
    let none : drop 0 c.new-2.result.items ≡ [] = ap {A = List Record} {B = List Record} (drop 0) c.new-2.ensures.items in
    record {
      leads = subst (LeadsOn _) (sym none) (starts c.args.limits);
      free = record {
        nothing = let a = c.new.ensures.items in let b = c.new.ensures.len in cc;
        few = let b = c.new.ensures.len in
            omega (arith, b);
      };
      within = omega arith;
    }
