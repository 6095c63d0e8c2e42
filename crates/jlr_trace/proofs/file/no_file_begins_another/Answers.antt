use Rattle.jlr_trace.proofs.FileLaws.{no_prefix}
use Rattle.jlr_trace.proofs.file.no_file_begins_another.Goals as goal

pub returns : goal.returns
returns c = no_prefix
