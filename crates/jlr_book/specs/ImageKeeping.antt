-- What an image keeps.
use Rattle.std.specs.Prelude.{◌≡◌, ℕ, ◌≤◌, List, Option, Some, None, drop, replicate}
use Rattle.std.specs.Global.{Vec}
use Rattle.std.specs.Vec.{vec_len}
use Rattle.jlr_types.specs.declared.limits.Limits.{Limits}
use Rattle.jlr_machine.specs.declared.object.Object.{Object}
use Rattle.jlr_machine.specs.declared.machine.Machine.{Machine}
use Rattle.jlr_plain.specs.declared.record.Record.{Record}
use Rattle.jlr_machine.specs.Run.{empty}
use Rattle.jlr_book.specs.Led.{led, shut, LeadsOn}

-- the machine that is kept; none stands for the empty one of the limits
abbrev pub kept_from : Limits → Option Machine → Machine
kept_from limits None = empty limits.cells limits.sessions limits.resources
kept_from limits (Some m) = m

-- the machine to which the records lead that are not followed yet
abbrev pub image_from : Limits → Option Machine → List Record → Machine
image_from limits kept rest = shut (led (kept_from limits kept) rest)

-- cells, at most so many, with nothing in them
pub record AreEmptyCells (cells : Vec (Option Object)) (limit : ℕ) : Type 0 where
  pub nothing : cells.items ≡ replicate (vec_len cells) None
  pub few : vec_len cells ≤ limit

pub record KeepsImage (limits : Limits) (kept : Option Machine) (cells : Vec (Option Object)) (records : Vec Record)
    (place : ℕ) : Type 0 where
  pub leads : LeadsOn (kept_from limits kept) (drop place records.items)
  pub free : AreEmptyCells cells limits.cells
  pub within : place ≤ vec_len records
