-- Asks that may come with a collection, and what they take memory for.
use Rattle.std.specs.Prelude.{◌≡◌, ℕ, Bool, true, false, List, map, replicate, None}
use Rattle.jlr_machine.specs.declared.object.Contents.TheVariants.{Typed, Elements}
use Rattle.jlr_machine.specs.declared.machine.Machine.{Machine}
use Rattle.jlr_machine.specs.declared.machine.Resource.{Resource}
use Rattle.jlr_machine.specs.declared.machine.ResourceState.TheVariants.{Opening}
use Rattle.jlr_machine.specs.declared.ask.Ask.{Ask}
use Rattle.jlr_machine.specs.declared.ask.Ask.TheVariants.{New, MakeRef, MakeQueue, MakeCleaner, Register, Prepare}
use Rattle.jlr_machine.specs.declared.ask.Ask.TheVariants.{Array, Full, Collect}
use Rattle.jlr_machine.specs.declared.ask.Answer.{Answer}
use Rattle.jlr_machine.specs.declared.ask.Answer.TheVariants.{Prepared}
use Rattle.jlr_machine.specs.Lookups.{blank, with_resource}
use Rattle.jlr_plain_asks.specs.declared.changes.making.Ready.{Ready}
use Rattle.jlr_plain_asks.specs.declared.changes.making.Ready.TheVariants.{Contents, Resources}

-- asks that make objects, and those that collect
abbrev pub comes_with : Ask → Bool
comes_with (New k layout) = true
comes_with (MakeRef k kind h q) = true
comes_with (MakeQueue k) = true
comes_with (MakeCleaner k) = true
comes_with (Register k d h note) = true
comes_with (Prepare k) = true
comes_with (Array k n) = true
comes_with (Full k mode) = true
comes_with Collect = true
comes_with _ = false

-- the resources with the one of this Rid, Opening
abbrev pub IsReadyFor : Machine → ℕ → List Resource → Type 0
IsReadyFor m rid resources =
    resources ≡ with_resource m.resources (record { rid = rid; action = m.next_action; state = Opening })

-- the resources, where a Rid is given
abbrev pub IsResourceReady : Machine → Answer → Ready → Type 0
IsResourceReady m (Prepared rid) ready =
    ready ≡ Resources (with_resource m.resources (record { rid = rid; action = m.next_action; state = Opening }))
IsResourceReady m a ready = Unit {0}

-- what an ask takes memory for was made in this machine
abbrev pub IsReady : Machine → Ask → Answer → Ready → Type 0
IsReady m (New k layout) a ready = ready ≡ Contents (Typed (map blank layout))
IsReady m (Array k n) a ready = ready ≡ Contents (Elements (replicate n None))
IsReady m (Prepare k) a ready = IsResourceReady m a ready
IsReady m ask a ready = Unit {0}
