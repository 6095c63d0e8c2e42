use Rattle.std.proofs.Common.{ℕ, Some, subst, sym}
use Rattle.jlr_event.specs.declared.event.Event.TheVariants.{Ask as Asks}
use Rattle.jlr_embed.specs.Ways.{EndsOnly}
use Rattle.jlr_embed.specs.Kinds.{kind_asked}
use Rattle.jlr_embed.proofs.Carrying.{bare, ended, silent}
use Rattle.jlr_embed.proofs.handle.calls.does.Goals.{in-Some, in-None}
use Rattle.jlr_embed.proofs.handle.calls.does.Goals as goal

pub returns : goal.returns
returns c =
    let old = c.args.heap.now.value in
    let new = c.ask.new.heap.value in
    let event = Asks c.args.asked in
    elim c.match-ask.branch [
      | in-Some w ↦ subst (λ (status : ℕ). EndsOnly old event status new) (sym w.told-is)
          (ended old event w.in-Some.answer new w.end-told.result w.in-Some.ensures.asked w.end-told.ensures)
      | in-None w ↦ silent old event new c.match-ask.told w.in-None.ensures.asked.0 w.in-None.ensures.asked.1 w.told-is
    ]

pub end-told-requires : goal.end-told-requires
end-told-requires c = bare (kind_asked (Some c.args.asked)) c.in-Some.answer c.requires.bare c.in-Some.ensures.kind
