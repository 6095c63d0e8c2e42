use Rattle.std.proofs.Common.{[], ◌∷◌, ◌++◌, refl, rules}
use Rattle.jlr_embed.proofs.Handing.{more}
use Rattle.jlr_embed.proofs.unrecorded.Unrecorded.settle.Goals as goal

pub loop-self-init : goal.loop-self-init
loop-self-init g c = ([], refl)

pub loop-self-preserved : goal.loop-self-preserved
loop-self-preserved g c = (
  c.loop-self.invariant.0 ++ c.hand_over.result ∷ [],
  more c.loop-self.invariant.0 c.hand_over.result _ c.loop-self.self c.hand_over.new.self c.loop-self.invariant.1 (search rules)
      c.hand_over.ensures.step,
)
