use Rattle.std.proofs.Common.{◌≡◌, Option, drop, arith, sym, ◌∙◌, ap, subst, false, is_some, vec_len}
use Rattle.jlr_machine.specs.declared.machine.Machine.{Machine}
use Rattle.jlr_book.specs.Led.{led, shut, LeadsOn}
use Rattle.jlr_book.specs.ImageKeeping.{kept_from}
use Rattle.jlr_book.proofs.ImageKeeping.{made}
use Rattle.jlr_book.proofs.image.image.Image.make_cells.Goals as goal

whole : (c : goal.After-drop) → kept_from c.self.inside.limits c.replace.new.self ≡ kept_from c.self.inside.limits c.self.inside.machine
whole c =
    let old = c.self.inside in
    let cells = c.add_cells.new.cells in
    let none : is_some old.machine ≡ false = let a = c.is_some.ensures in let b = c.if-is_some.false in let d = c.if-is_some.ensures in
    cc in
    ap {A = Option Machine} {B = Machine} (kept_from old.limits) c.replace.ensures.after
    ∙ made old.limits old.machine c.in_ok-machine.machine cells c.replace-cells.result.items none c.add_cells.ensures
    (omega (arith, c.len.ensures, c.if-len-limit.false)) (ap (λ v. v.items) c.replace-cells.ensures.value) c.in_ok-machine.ensures

pub invariant_of-self-2 : goal.invariant_of-self-2
invariant_of-self-2 c =
    let old = c.self.inside in
    let fresh = c.replace-cells.ensures.after in
    record {
      leads = subst (λ (m : Machine). LeadsOn m (drop old.place old.records.items)) (sym (whole c)) c.self.invariant.leads;
      free = record {
        nothing = let a = c.new.ensures.items in let b = c.new.ensures.len in let d = c.replace-cells.ensures.after in cc;
        few = let b = c.new.ensures.len in let d = ap vec_len c.replace-cells.ensures.after in omega (arith, b, d);
      };
      within = c.self.invariant.within;
    }

pub returns : goal.returns
returns c =
    let old = c.self.inside in
    ap {A = Machine} {B = Machine} (λ m. shut (led m (drop old.place old.records.items))) (whole c) ∙ c.self.view_is
