use Rattle.std.proofs.Common.{◌≡◌, ◌<◌, true, length}
use Rattle.std.specs.Prelude.{is_some}
use Rattle.std.proofs.lemmas.Option.{IfSome_then}
use Rattle.jlr_machine.specs.Objects.{at}
use Rattle.jlr_roots.specs.Sessions.{sessions_in, with_slot}
use Rattle.jlr_roots.proofs.Members.{within_members, change_at-sessions_in, session_with_slot}
use Rattle.jlr_roots.proofs.roots.Roots.put_handle.Goals as goal

pub returns-clause-held : goal.returns-clause-held
returns-clause-held c =
    let joined : is_some (at (sessions_in c.self.inside.members.items) c.number.result) ≡ true =
    rw (c.number.ensures, c.self.view_is) c.requires in
    let within : c.number.result < length c.self.inside.members.items = within_members _ _ joined in
    rw (← c.self.view_is, ← c.number.ensures)
    (IfSome_then c.put.result c.put.ensures.held
    (λ handle held. change_at-sessions_in _ _ c.index_mut-member.result.now _ (with_slot handle c.args.slot) within
    c.index_mut-member.ensures.value (rw held (session_with_slot c.index_mut-member.result.now handle c.args.slot))))
