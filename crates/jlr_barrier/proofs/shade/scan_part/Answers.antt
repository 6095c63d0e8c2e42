use Rattle.std.proofs.Common.{◌≡◌, ◌∙◌, ◌∷◌, ℕ, Option, Some, None, ap, subst, sym}
use Rattle.std.specs.Prelude.{IfSome, IsPermutation}
use Rattle.jlr_machine.specs.Objects.{Heap, ◌∈◌}
use Rattle.jlr_marks.specs.Marking.{Marking, Shaded, place, upcoming}
use Rattle.jlr_barrier.specs.Parts.{next_at, part_at}
use Rattle.jlr_barrier.specs.Scans.{FollowedPart, ScannedTo}
use Rattle.jlr_barrier.proofs.shade.scan_part.Goals as goal

followed : (heap : Heap) (slot from : ℕ) (old off on : Marking) (result : Option ℕ) → upcoming old ≡ Some slot → result ≡ upcoming old
    → off.bits ≡ old.bits → IfSome result (λ x. IsPermutation old.grey (x ∷ off.grey)) → IfSome result (λ x. ¬ (x ∈ off.grey))
    → off.discovered ≡ old.discovered → off.part ≡ None → from ≡ place old slot → Shaded (λ x. x ∈ part_at heap from slot) off on
    → FollowedPart heap slot old off on
followed heap slot from old off on result next taken bits grey once discovered part reached shaded =
    record {
      same_bits = bits;
      taken = subst (λ o. IfSome o (λ x. IsPermutation old.grey (x ∷ off.grey))) (taken ∙ next) grey;
      gone = subst (λ o. IfSome o (λ x. ¬ (x ∈ off.grey))) (taken ∙ next) once;
      same_discovered = discovered;
      no_part = part;
      shaded = subst (λ q. Shaded (λ x. x ∈ part_at heap q slot) off on) reached shaded;
    }

pub returns-in-Some-clause-scanned : goal.returns-in-Some-clause-scanned
returns-in-Some-clause-scanned c =
    subst (λ o. ScannedTo o c.args.cells.now.objects c.args.slot c.args.marks.now c.resume_at.new.self)
    (sym c.in-Some.is ∙ c.follow-found.ensures.next ∙ ap (λ q. next_at c.args.cells.now.objects q c.args.slot) c.place-from.ensures)
    (record {
      off = c.take_grey.new.self;
      on = c.follow-found.new.marks;
      followed = followed c.args.cells.now.objects c.args.slot c.place-from.result c.args.marks.now c.take_grey.new.self
          c.follow-found.new.marks c.take_grey.result c.requires.next c.take_grey.ensures.taken c.take_grey.ensures.bits
          c.take_grey.ensures.grey c.take_grey.ensures.once c.take_grey.ensures.discovered c.take_grey.ensures.part c.place-from.ensures
          c.follow-found.ensures.shaded;
      bits = c.resume_at.ensures.bits;
      grey = c.resume_at.ensures.grey;
      discovered = c.resume_at.ensures.discovered;
      part = c.resume_at.ensures.part;
    })

pub returns-in-None-clause-scanned : goal.returns-in-None-clause-scanned
returns-in-None-clause-scanned c =
    subst (λ o. ScannedTo o c.args.cells.now.objects c.args.slot c.args.marks.now c.note.new.marks)
    (sym c.in-None.is ∙ c.follow-found.ensures.next ∙ ap (λ q. next_at c.args.cells.now.objects q c.args.slot) c.place-from.ensures)
    (record {
      off = c.take_grey.new.self;
      on = c.follow-found.new.marks;
      followed = followed c.args.cells.now.objects c.args.slot c.place-from.result c.args.marks.now c.take_grey.new.self
          c.follow-found.new.marks c.take_grey.result c.requires.next c.take_grey.ensures.taken c.take_grey.ensures.bits
          c.take_grey.ensures.grey c.take_grey.ensures.once c.take_grey.ensures.discovered c.take_grey.ensures.part c.place-from.ensures
          c.follow-found.ensures.shaded;
      bits = c.note.ensures.bits;
      grey = c.note.ensures.grey;
      discovered = c.note.ensures.discovered;
      part = c.note.ensures.part ∙ c.follow-found.ensures.shaded.part_same ∙ c.take_grey.ensures.part;
    })
