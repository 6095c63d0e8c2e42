use Rattle.jlr_trace.proofs.VersionLaws.{told_by_version_1}
use Rattle.jlr_trace.proofs.file.what_version_1_can_tell.Goals as goal

pub returns : goal.returns
returns c = told_by_version_1
