use Rattle.jlr_trace.proofs.FileCounts.{counts_of_spelling}
use Rattle.jlr_trace.proofs.writing.write_trace.Goals as goal

pub put_file-requires : goal.put_file-requires
put_file-requires c = rw (c.as_slice.ensures, c.as_slice-2.ensures) (counts_of_spelling c.args.file.now c.requires)
