use Rattle.jlr_event.specs.Events.{ask_of}
use Rattle.jlr_embed.specs.Kinds.{kind_asked}
use Rattle.jlr_embed.proofs.Carrying.{bare, carried}
use Rattle.jlr_embed.proofs.handle.calls.brings.Goals as goal

pub returns-in-Some : goal.returns-in-Some
returns-in-Some c = carried c.args.heap.now.value c.args.event c.in-Some.answer c.in-Some.field-0-1 c.carry.new.heap.value _ _
    c.in-Some.ensures.asked c.end.ensures

pub end-requires : goal.end-requires
end-requires c = bare (kind_asked (ask_of c.args.event)) c.in-Some.answer c.requires.bare c.in-Some.ensures.kind
