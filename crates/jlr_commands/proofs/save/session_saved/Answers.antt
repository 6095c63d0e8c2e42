use Rattle.std.proofs.Common.{inr}
use Rattle.jlr_commands.proofs.save.session_saved.Goals as goal

pub returns-in-Ok-recorded : goal.returns-in-Ok-recorded
returns-in-Ok-recorded g c =
    let s = c.in-Ok-recorded.ensures.session in
    inr (c.in-Ok-recorded.recording.end, s.0, s.1, s.2, c.saved_end.ensures.ended, s.3, s.4, s.5, s.6)
