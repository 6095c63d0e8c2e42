-- What was seen in an open cycle, and the entries that add nothing to it.
use Rattle.std.specs.Prelude.{◌≡◌, ℕ, Bool, true, false, ◌&&◌, ◌||◌, List, Option, Some, None, is_none}
use Rattle.jlr_machine.specs.declared.machine.Machine.{Machine}
use Rattle.jlr_machine.specs.declared.entry.Entry.{Entry}
use Rattle.jlr_machine.specs.declared.ask.Ask.{Ask}
use Rattle.jlr_machine.specs.declared.ask.Ask.TheVariants.{Put, Get, SetInt, Int, Dup, Drop, Same, Deref, Refers}
use Rattle.jlr_machine.specs.declared.ask.Ask.TheVariants.{Enqueued, Find, Names, Full, Stat, Notes, Faults, Collect}
use Rattle.jlr_machine.specs.Objects.{◌∋◌, ◌∈◌}
use Rattle.jlr_machine.specs.Edges.{edges_from}
use Rattle.jlr_machine.specs.Edges.Chain.{UpToSoft}
use Rattle.jlr_machine.specs.Refusals.{given}
use Rattle.jlr_machine.specs.Run.{IsLegal, apply, now_seen}
use Rattle.jlr_machine.specs.WellFormed.{IsWellFormed}
use Rattle.jlr_machine.specs.Refusals.{is_refusal}

-- what was seen is up to date, and strong and soft edges lead from it to nothing else
pub record SeenIsFollowed (m : Machine) : Type 0 where
  pub up_to_date : m.seen ≡ now_seen m
  pub closed : (x y : ℕ) → x ∈ m.seen → y ∈ edges_from UpToSoft m.objects x → y ∈ m.seen

-- well formed, with what was seen followed
pub record IsWellFollowed (m : Machine) : Type 0 where
  pub formed : IsWellFormed m
  pub followed : SeenIsFollowed m

-- the machine behind a legal entry
pub record IsNext (m : Machine) (e : Entry) (n : Machine) : Type 0 where
  pub legal : IsLegal m e
  pub applied : n ≡ apply m e
  pub fit : IsWellFollowed n

-- an object that a handle is given for was seen
abbrev pub is_seen_given : List ℕ → Option ℕ → Bool
is_seen_given seen None = true
is_seen_given seen (Some s) = seen ∋ s

-- each root behind the ask was a root before it, or was seen
abbrev pub adds_no_root : Machine → Ask → Bool
adds_no_root m (Put k h f v) = true
adds_no_root m (Get k h f) = is_seen_given m.seen (given m (Get k h f))
adds_no_root m (SetInt k h f n) = true
adds_no_root m (Int k h f) = true
adds_no_root m (Dup k h) = is_seen_given m.seen (given m (Dup k h))
adds_no_root m (Drop k h) = true
adds_no_root m (Same k x y) = true
adds_no_root m (Deref k r) = is_seen_given m.seen (given m (Deref k r))
adds_no_root m (Refers k r h) = true
adds_no_root m (Enqueued k r) = true
adds_no_root m (Find k name) = is_seen_given m.seen (given m (Find k name))
adds_no_root m (Names k) = true
adds_no_root m (Full k mode) = true
adds_no_root m (Stat k) = true
adds_no_root m (Notes k) = true
adds_no_root m (Faults k) = true
adds_no_root m Collect = true
adds_no_root m _ = false

-- in an open cycle, that goes on, the entry adds nothing to what was seen
abbrev pub keeps_seen : Machine → Entry → Bool
keeps_seen m e = m.cycle_open && is_none e.choice.collected && (is_refusal e.answer || adds_no_root m e.ask)
