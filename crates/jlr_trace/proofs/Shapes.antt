-- A file of the right shape is told by its text: what was written is read back as it was.
use Rattle.std.proofs.Common.{◌≡◌, Result, Ok, Err, ap, ◌∙◌}
use Rattle.std.specs.Prelude.{IfOk}
use Rattle.jlr_trace_entries.specs.declared.image.Image.{Image}
use Rattle.jlr_trace_entries.specs.Images.{HasShape}
use Rattle.jlr_trace_entries.proofs.Shapes.{one_image}
use Rattle.jlr_trace.specs.declared.file.TraceFile.{TraceFile}
use Rattle.jlr_trace.specs.declared.file.TraceFault.{TraceFault}
use Rattle.jlr_trace.specs.declared.file.TraceFault.TheVariants.{Truncated, BadMark, BadVersion, BadEntry, NoMemory}
use Rattle.jlr_trace.specs.Files.{FileText, file_text, image_of, HasSpelling, FileGives}

-- a file out of its text and its image
abbrev built : FileText → Image → TraceFile
built t i = record { version = t.version; base = i.base; image = i.machine; strays = i.strays; entries = t.entries }

one_file : (f g : TraceFile) → HasShape (image_of f) → HasShape (image_of g) → file_text f ≡ file_text g → f ≡ g
one_file f g p q e =
    ap (λ (t : FileText). built t (image_of f)) e
    ∙ ap (λ (i : Image). built (file_text g) i) (one_image (image_of f) (image_of g) p q (ap (λ (t : FileText). t.image) e))

-- what is read of a file's text is that file
pub read_back : (r : Result TraceFile TraceFault) (f : TraceFile) → HasSpelling f → FileGives file_text r (Ok (file_text f))
    → IfOk r (λ g. HasShape (image_of g)) → FileGives (λ x. x) r (Ok f)
read_back (Ok g) f has e shape =
    let same : file_text f ≡ file_text g = cc in
    ap (λ (x : TraceFile). Ok x) (one_file f g has.shape shape same)
read_back (Err Truncated) f has e shape = absurd cc
read_back (Err BadMark) f has e shape = absurd cc
read_back (Err BadVersion) f has e shape = absurd cc
read_back (Err (BadEntry k)) f has e shape = absurd cc
read_back (Err NoMemory) f has e shape = tt
