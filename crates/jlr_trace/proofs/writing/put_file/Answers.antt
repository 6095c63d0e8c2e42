use Rattle.std.proofs.Common.{◌≡◌, ℕ, List, ◌++◌, length}
use Rattle.std.specs.List.{flat_map}
use Rattle.jlr_machine.specs.declared.entry.Entry.{Entry}
use Rattle.jlr_trace_fields.proofs.Writing.{then_written}
use Rattle.jlr_trace_entries.specs.Entries.{spelled_entry}
use Rattle.jlr_trace_entries.specs.Images.{image_text, whole_image}
use Rattle.jlr_trace.specs.Files.{spelled_front}
use Rattle.jlr_trace.proofs.writing.put_file.Goals as goal

pub returns : goal.returns
returns c =
    let old : List ℕ = c.args.out.now.items in
    let a = c.args in
    let entries : List Entry = a.entries.now in
    let text = image_text (whole_image a.base a.image.now a.strays.now) in
    let front : c.put_front.new.out.items ≡ old ++ spelled_front a.version text (length entries) =
    c.in_ok-put_front.ensures in
    then_written c.put_entries.result old c.put_front.new.out.items c.put_entries.new.out.items
    (spelled_front a.version text (length entries)) (flat_map (spelled_entry a.version) entries) front c.put_entries.ensures
