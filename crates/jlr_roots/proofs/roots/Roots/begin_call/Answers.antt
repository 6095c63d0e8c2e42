use Rattle.std.proofs.Common.{◌≡◌, ◌<◌, true, length}
use Rattle.std.specs.Prelude.{is_some}
use Rattle.jlr_machine.specs.Objects.{at}
use Rattle.jlr_roots.specs.Sessions.{sessions_in, session_in_call}
use Rattle.jlr_roots.proofs.Members.{within_members, change_at-sessions_in}
use Rattle.jlr_roots.proofs.roots.Roots.begin_call.Goals as goal

pub returns : goal.returns
returns c =
    let joined : is_some (at (sessions_in c.self.inside.members.items) c.number.result) ≡ true =
    rw (c.number.ensures, c.self.view_is) c.requires in
    let within : c.number.result < length c.self.inside.members.items = within_members _ _ joined in
    rw (← c.self.view_is, ← c.number.ensures) (change_at-sessions_in _ _ c.index_mut-member.result.now _
    (session_in_call c.args.fence c.args.call) within c.index_mut-member.ensures.value c.set_call.ensures.session)
