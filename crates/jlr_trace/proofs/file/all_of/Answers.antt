use Rattle.std.proofs.Common.{◌∙◌, ap, sym}
use Rattle.std.specs.Prelude.{Ok}
use Rattle.jlr_trace_entries.specs.Images.{image_text}
use Rattle.jlr_trace.specs.Files.{◌>>>◌}
use Rattle.jlr_trace.proofs.ToEnd.{behind_image, fault_behind, file_with}
use Rattle.jlr_trace.proofs.file.all_of.Goals as goal

pub returns-in-Ok-clause-exact : goal.returns-in-Ok-clause-exact
returns-in-Ok-clause-exact c =
    let v = c.in_ok-version.version in
    let image = image_text c.in_ok-image.image in
    behind_image c.args.bytes.now v c.in_ok-version.behind.now c.image_in.new.bytes.now image c.in_ok-version.ensures
    c.in_ok-image.ensures.reads
    ∙ ap (λ r. r >>> file_with v image) c.in-Ok.ensures
    ∙ ap Ok (sym c.file_of.ensures.text)

pub returns-in-Err-clause-exact : goal.returns-in-Err-clause-exact
returns-in-Err-clause-exact c =
    let image = image_text c.in_ok-image.image in
    fault_behind c.args.bytes.now c.in_ok-version.version c.in_ok-version.behind.now c.image_in.new.bytes.now image
    c.in_ok-version.ensures c.in_ok-image.ensures.reads c.in-Err.fault c.in-Err.ensures
