-- The invariant of a book: what it tells, the room of its trace, and that of its choice.
use Rattle.std.specs.Prelude.{ℕ, ◌+◌, ◌≤◌, vec_capacity}
use Rattle.std.specs.Global.{Vec}
use Rattle.std.specs.Vec.{vec_len}
use Rattle.jlr_types.specs.declared.limits.Limits.{Limits}
use Rattle.jlr_machine.specs.declared.machine.Machine.{Machine}
use Rattle.jlr_plain.specs.declared.record.Record.{Record}
use Rattle.jlr_plain.specs.Records.{replayed}
use Rattle.jlr_histories.specs.Owing.{owed}
use Rattle.jlr_steps.specs.Cores.{Kept}
use Rattle.jlr_book.specs.Histories.{IsHistory}

pub record KeepsBook {R : Type 0} (limits : Limits) (base : ℕ) (image : Machine) (trace : Vec Record) (core : Kept R)
    (cells : ℕ) : Type 0 where
  pub history : IsHistory
      (record { limits = limits; base = base; image = image; entries = replayed image trace.items; core = core })
  -- the end of each call that was begun has its place
  pub places : vec_len trace + owed core.machine ≤ vec_capacity trace
  pub choice : limits.cells ≤ cells
