use Rattle.std.proofs.Common.{◌≡◌, ◌≢◌, ◌⊎◌, inl, inr}
use Rattle.jlr_machine.specs.declared.object.CleanState.{CleanState}
use Rattle.jlr_machine.specs.declared.object.CleanState.TheVariants.{Armed, Pending as PendingClean, Lined, Spent}
use Rattle.jlr_histories.proofs.laws.waiting_resources_are_idle.Goals as goal

-- a cleanable that waits is neither Armed nor Spent
not_armed : (state : CleanState) → (state ≡ PendingClean) ⊎ (state ≡ Lined) → state ≢ Armed
not_armed state (inl e) f = absurd (cc (e, f))
not_armed state (inr e) f = absurd (cc (e, f))

not_spent : (state : CleanState) → (state ≡ PendingClean) ⊎ (state ≡ Lined) → state ≢ Spent
not_spent state (inl e) f = absurd (cc (e, f))
not_spent state (inr e) f = absurd (cc (e, f))

pub returns : goal.returns
returns c = λ m s rid x w there works waits. w.resources.idle s rid x (record { there = there; unspent = not_spent x.state waits }) works
    (not_armed x.state waits)
