use Rattle.std.proofs.Common.{sym, subst}
use Rattle.jlr_plain.specs.Following.{IsWellFollowed}
use Rattle.jlr_plain.proofs.Followed.{image_is_fit}
use Rattle.jlr_audit.proofs.audit.legal_count.Goals as goal

pub legal_front-requires : goal.legal_front-requires
legal_front-requires g c = subst IsWellFollowed (sym c.in_ok-machine.ensures) (image_is_fit c.args.image.now c.requires)
