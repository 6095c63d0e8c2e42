use Rattle.std.proofs.Common.{◌≡◌, ◌∙◌, ◌++◌, ◌∷◌, [], rules, sym, subst, ap, arith, ◌<◌, length, length-append, length-set, count_by}
use Rattle.std.proofs.Common.{false, get_or, set, true}
use Rattle.jlr_sets.proofs.Absent.{not_set}
use Rattle.std.proofs.lemmas.List.{append_assoc}
use Rattle.jlr_marks.specs.Marking.{AreGrey, slots_begun}
use Rattle.jlr_marks.proofs.MarkCounts.{count_marks, room_left}
use Rattle.jlr_marks.proofs.Greying.{grey_more}
use Rattle.jlr_marks.proofs.marks.Marks.shade.Goals as goal

pub push_reserved-requires : goal.push_reserved-requires
push_reserved-requires c =
    let bits = c.self.inside.bits in
    let slot = c.args.slot in
    let inside : slot < length bits = search rules in
    let white = not_set (get_or bits slot false) (sym c.insert.ensures.added ∙ c.if-insert.true) in
    let shorter = length-append (slots_begun c.self.inside.part) c.self.inside.grey.items in
    omega (arith, room_left bits slot inside white, shorter, c.self.invariant.0, c.self.invariant.1)

pub invariant_of-self : goal.invariant_of-self
invariant_of-self c =
    let bits = c.self.inside.bits in
    let first = slots_begun c.self.inside.part in
    let grey = first ++ c.self.inside.grey.items in
    let slot = c.args.slot in
    let inside : slot < length bits = search rules in
    let white = not_set (get_or bits slot false) (sym c.insert.ensures.added ∙ c.if-insert.true) in
    let long = length-set bits slot true in
    let more : c.push_reserved.new.self.items ≡ c.self.inside.grey.items ++ slot ∷ [] = search rules in
    let pushed : first ++ c.push_reserved.new.self.items ≡ grey ++ slot ∷ [] = ap (λ l. first ++ l) more
    ∙ sym (append_assoc first c.self.inside.grey.items (slot ∷ [])) in (
      omega (
        arith,
        ap length pushed,
        length-append grey (slot ∷ []),
        ap (count_by (λ b. b)) c.insert.ensures.set,
        count_marks bits slot inside white,
        c.self.invariant.0,
      ),
      omega (arith, ap length c.insert.ensures.set, long, c.self.invariant.1, c.push_reserved.ensures.capacity),
      omega (arith, ap length c.insert.ensures.set, long, c.self.invariant.2),
      subst (λ l. AreGrey l (first ++ c.push_reserved.new.self.items)) (sym c.insert.ensures.set)
          (subst (AreGrey (set bits slot true)) (sym pushed) (grey_more bits grey slot inside white c.self.invariant.3)),
    )
