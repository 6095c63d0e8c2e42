use Rattle.std.proofs.Common.{rules, ◌≡◌, inl, inr, [], ◌∷◌, ◌++◌, refl}
use Rattle.jlr_heap.proofs.Handing.{one_more}
use Rattle.jlr_heap.proofs.recorded.Recorded.hand_all_over.Goals as goal

pub loop-self-preserved : goal.loop-self-preserved
loop-self-preserved g c = (
  c.loop-self.invariant.0 ++ c.hand_over.new.self ∷ [],
  one_more c.loop-self.invariant.0 _ c.loop-self.self c.hand_over.new.self c.loop-self.invariant.1 c.if-not-hand_over.ensures.turn,
)

pub returns-then-not-hand_over : goal.returns-then-not-hand_over
returns-then-not-hand_over g c = (c.loop-self.invariant.0, c.loop-self.self, c.loop-self.invariant.1, inr c.if-not-hand_over.ensures.turn)

pub returns : goal.returns
returns g c =
    let empty : c.loop-self.self.core.machine.pending ≡ [] = search rules in
    (c.loop-self.invariant.0, c.loop-self.self, c.loop-self.invariant.1, inl (refl, empty))
