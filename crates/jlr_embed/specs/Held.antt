-- What a handle owns: nothing where it is null, and else a box.
use base.Fml.{Fml, feq}
use denote.Builtin.{u64}
use denote.RattleType.{RattleType}
use denote.RawPtr.{Ptr, null_ptr}
use Rattle.std.specs.Prelude.{ℕ, Option, None, Some}
use Rattle.std.specs.Box.Ownership.{box_owns}
use Rattle.std.specs.Global.{Global}
use Rattle.std.specs.contracts.impls.GlobalAllocator.TheImpl.{ghosts}
use Rattle.jlr_steps.specs.Cores.{Kept}
use Rattle.jlr_embed.specs.contracts.unrecorded.Unrecorded.{the_row}

-- the type of a heap whose resources are tokens
abbrev pub heap_row : RattleType
heap_row = the_row u64

abbrev pub heap_held : Global → Ptr → Option (Kept ℕ) → Fml
heap_held a p None = feq Ptr p null_ptr
heap_held a p (Some x) = box_owns (ghosts.dealloc_token a) heap_row p x
