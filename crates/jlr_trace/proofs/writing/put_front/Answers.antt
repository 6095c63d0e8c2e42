use Rattle.std.proofs.Common.{◌≡◌, ℕ, List, ◌++◌}
use Rattle.jlr_trace_fields.specs.Spelling.{spelled_64}
use Rattle.jlr_trace_fields.proofs.Writing.{joined, then_written}
use Rattle.jlr_trace_entries.specs.Images.{image_text, spelled_image, whole_image}
use Rattle.jlr_trace.specs.Files.{mark}
use Rattle.jlr_trace.proofs.writing.put_front.Goals as goal

pub returns : goal.returns
returns c =
    let old : List ℕ = c.args.out.now.items in
    let a = c.args in
    let m : List ℕ = mark a.version in
    let i : List ℕ = spelled_image (image_text (whole_image a.base a.image.now a.strays.now)) in
    let two : c.put_image.new.out.items ≡ old ++ (m ++ i) =
    joined old c.put_mark.new.out.items c.put_image.new.out.items m i
    c.in_ok-put_mark.ensures c.in_ok-put_image.ensures in
    then_written c.put_u64.result old c.put_image.new.out.items c.put_u64.new.out.items (m ++ i) (spelled_64 a.count) two c.put_u64.ensures
