use Rattle.std.proofs.Common.{◌≡◌, ◌<◌, List, [], ℕ, Bool, false, replicate, take, ◌-◌, ◌++◌, ap, length, sym, ◌∙◌, subst}
use Rattle.jlr_machine.specs.Objects.{◌∈◌}
use Rattle.jlr_laws.specs.Laws.{only}
use Rattle.jlr_plain_collections.specs.Marks.{Greyed, chain_of}
use Rattle.jlr_laws.proofs.Agree.{narrow}
use Rattle.jlr_laws.proofs.Only.{length-only}
use Rattle.jlr_machine.specs.Edges.{edges_from}
use Rattle.jlr_plain_collections.proofs.Marking.{marking_begins, marking_goes_on, marking_ends, fewer_left}
use Rattle.jlr_plain_collections.proofs.reached.mark_reached.Goals as goal

todo_none : (todo rest : List ℕ) → todo ≡ rest ++ [] → rest ≡ [] → todo ≡ []
todo_none todo rest e r = e ∙ ap (λ l. l ++ []) r

pub loop-slot-init : goal.loop-slot-init
loop-slot-init c =
    let first = subst (λ (l : List Bool). Greyed (λ s. s ∈ c.args.base.now) l c.new-todo.result.items c.grey_all.new.marks
    c.grey_all.new.todo.items) c.requires.unmarked c.in_ok-grey_all.ensures in
    marking_begins (chain_of c.args.softly) (only c.args.kept.now c.args.objects.now) c.args.base.now (length c.args.objects.now)
    c.grey_all.new.marks c.grey_all.new.todo.items (sym (length-only c.args.kept.now c.args.objects.now))
    (subst (λ (l : List ℕ). Greyed (λ s. s ∈ c.args.base.now) (replicate (length c.args.objects.now) false) l c.grey_all.new.marks
    c.grey_all.new.todo.items) c.new-todo.ensures.items first)

pub spread-requires : goal.spread-requires
spread-requires c s e =
    subst (λ n. s < n) (sym (c.loop-slot.invariant.long ∙ length-only c.args.kept.now c.args.objects.now))
    (narrow (chain_of c.args.softly) c.args.objects.now c.args.base.now c.requires.within.edges c.in-Some.slot s e)

pub loop-slot-preserved : goal.loop-slot-preserved
loop-slot-preserved c =
    marking_goes_on (chain_of c.args.softly) (only c.args.kept.now c.args.objects.now) c.args.base.now c.in-Some.slot c.loop-slot.marks
    c.loop-slot.todo.items c.pop.new.self.items c.spread.new.marks c.spread.new.todo.items c.in-Some.ensures.items c.loop-slot.invariant
    c.in_ok-spread.ensures

pub loop-slot-smaller : goal.loop-slot-smaller
loop-slot-smaller c =
    fewer_left (λ s. s ∈ edges_from (chain_of c.args.softly) (only c.args.kept.now c.args.objects.now) c.in-Some.slot)
    (length c.args.objects.now) c.in-Some.slot c.loop-slot.marks c.loop-slot.todo.items c.pop.new.self.items c.spread.new.marks
    c.spread.new.todo.items
    (c.loop-slot.invariant.long ∙ length-only c.args.kept.now c.args.objects.now) c.in-Some.ensures.items c.in_ok-spread.ensures

pub returns-clause-reached : goal.returns-clause-reached
returns-clause-reached c =
    marking_ends (chain_of c.args.softly) c.args.objects.now c.args.kept.now c.args.base.now c.loop-slot.marks c.loop-slot.todo.items
    (todo_none c.loop-slot.todo.items c.pop.new.self.items c.in_default.ensures.items
    (c.in_default.ensures.rest ∙ ap (λ n. take (n - 1) c.loop-slot.todo.items) c.in_default.ensures.cases.0)) c.requires.within
    c.loop-slot.invariant
