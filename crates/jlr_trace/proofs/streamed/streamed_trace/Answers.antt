use Rattle.std.proofs.Common.{ap, sym, ◌∙◌}
use Rattle.jlr_trace_entries.specs.Images.{image_text, whole_image}
use Rattle.jlr_trace.specs.Streams.{HeadingText, heading_text, coming}
use Rattle.jlr_trace.proofs.StreamLaws.{is_read_as, so_many_come, stream_fails, spells, fails_with, bytes_come}
use Rattle.jlr_trace.proofs.streamed.streamed_trace.Goals as goal

pub returns-in-Ok-clause-exact : goal.returns-in-Ok-clause-exact
returns-in-Ok-clause-exact g c =
    let h = c.in-Ok.heading in
    let t = c.trace_of.result in
    is_read_as (g.R.Read.remaining c.args.reader) c.in_ok-window.window c.next_heading.new.window
    (heading_text h.version (image_text h.image) h.count)
    (heading_text t.version (image_text (whole_image t.base t.image t.strays)) t.count) t.entries c.in_ok-window.ensures
    c.trace_of.ensures.text c.trace_of.ensures.entries c.in-Ok.ensures.reads

pub returns-in-Ok-clause-counted : goal.returns-in-Ok-clause-counted
returns-in-Ok-clause-counted g c =
    let h = c.in-Ok.heading in
    let t = c.trace_of.result in
    so_many_come h.version 1 t.count c.next_heading.new.window t.entries
    (c.trace_of.ensures.entries ∙ ap (λ n. coming h.version 1 n c.next_heading.new.window)
    (ap (λ (u : HeadingText). u.count) (sym c.trace_of.ensures.text)))

pub returns-in-Err-clause-fault : goal.returns-in-Err-clause-fault
returns-in-Err-clause-fault g c =
    stream_fails (g.R.Read.remaining c.args.reader) c.in_ok-window.window c.in-Err.fault c.in_ok-window.ensures c.in-Err.ensures.fault

pub returns-in-Ok-clause-found : goal.returns-in-Ok-clause-found
returns-in-Ok-clause-found g c =
    let t = c.trace_of.result in
    spells t.version t.base t.image t.strays (g.R.Read.remaining c.args.reader) t.entries.entries c.trace_of.ensures.shape
    (returns-in-Ok-clause-exact g c)

pub returns-in-Ok-clause-fails : goal.returns-in-Ok-clause-fails
returns-in-Ok-clause-fails g c =
    let t = c.trace_of.result in
    fails_with t.version (image_text (whole_image t.base t.image t.strays)) (g.R.Read.remaining c.args.reader) t.entries.entries
    (returns-in-Ok-clause-exact g c)

pub returns-in-Ok-clause-bytes : goal.returns-in-Ok-clause-bytes
returns-in-Ok-clause-bytes g c =
    bytes_come (g.R.Read.remaining c.args.reader) c.in_ok-window.window c.next_heading.new.window c.in-Ok.heading.version 1
    c.in-Ok.heading.count c.trace_of.result.entries
    c.in_ok-window.ensures c.trace_of.ensures.entries c.in-Ok.ensures.bytes
