-- What a book tells: a machine, the entries since, and the core that stands where they end.
use Rattle.std.specs.Prelude.{◌≡◌, ℕ, ◌+◌, ◌<◌, ◌^◌, List, [], Option, Some, None, length}
use Rattle.jlr_types.specs.declared.limits.Limits.{Limits}
use Rattle.jlr_machine.specs.declared.machine.Machine.{Machine}
use Rattle.jlr_machine.specs.declared.ask.Ask.{Ask}
use Rattle.jlr_machine.specs.declared.ask.Answer.{Answer}
use Rattle.jlr_machine.specs.Chosen.{Chosen}
use Rattle.jlr_machine.specs.declared.entry.Entry.{Entry}
use Rattle.jlr_machine.specs.Run.{Run, empty}
use Rattle.jlr_machine.specs.WellFormed.{IsWellFormed, IsImage}
use Rattle.jlr_laws.specs.Laws.{IsUpToDate}
use Rattle.jlr_histories.specs.Owing.{owed}
use Rattle.jlr_steps.specs.Cores.{Kept, StandsIn}
use Rattle.jlr_steps.specs.Steps.{IsEmpty}

pub record History (R : Type 0) : Type 0 where
  pub limits : Limits
  -- the number of the last entry before the trace; the first since opening is 1
  pub base : ℕ
  pub image : Machine
  pub entries : List Entry
  pub core : Kept R

-- Mutator k has seat k. The three behind them are the marker's, the handler's and the cleaner's.
abbrev pub handler_seat : {R : Type 0} → History R → ℕ
handler_seat h = h.limits.sessions + 1

abbrev pub cleaner_seat : {R : Type 0} → History R → ℕ
cleaner_seat h = h.limits.sessions + 2

-- the number of the last entry since opening
abbrev pub last : {R : Type 0} → History R → ℕ
last h = h.base + length h.entries

-- at least 1,024 numbers are left, of those below 2 ^ 64
abbrev pub HasNumbers : {R : Type 0} → History R → Type 0
HasNumbers h = last h + 1024 < 2 ^ 64

-- an ask of a seat, its answer and what was chosen; none where nothing is asked or answered
abbrev pub seated : ℕ → Option Ask → Option Answer → Chosen → Option Entry
seated seat (Some ask) (Some answer) chosen = Some (record { seat = seat; ask = ask; answer = answer; choice = chosen })
seated seat (Some ask) None chosen = None
seated seat None answer chosen = None

-- the entries lead from the image to a machine for which the core stands, and in which what was seen is up to date
abbrev pub LeadsToCore : {R : Type 0} → Machine → List Entry → Kept R → Type 0
LeadsToCore image entries core = (m : Machine) × Run image entries m × StandsIn core m × IsWellFormed m × IsUpToDate m

-- numbers that are kept free: for the ends that are owed, and for giving up a cycle
abbrev pub spare : Machine → ℕ
spare m = owed m + 1

-- the empty machine of these limits
abbrev pub empty_of : Limits → Machine
empty_of limits = empty limits.cells limits.sessions limits.resources

-- the machine is of these limits
pub record HasLimits (limits : Limits) (m : Machine) : Type 0 where
  pub cells : length m.objects ≡ limits.cells
  pub sessions : length m.mutators ≡ limits.sessions
  pub resources : m.resource_limit ≡ limits.resources

-- What is true of each book.
pub record IsHistory {R : Type 0} (h : History R) : Type 0 where
  pub image : IsImage h.image
  pub limits_are : HasLimits h.limits h.image
  pub at_0 : h.base ≡ 0 → h.image ≡ empty h.limits.cells h.limits.sessions h.limits.resources
  pub ends : LeadsToCore h.image h.entries h.core
  pub fits : last h + spare h.core.machine < 2 ^ 64
  pub cells : length h.core.machine.objects ≡ h.limits.cells

-- A book of the empty machine of these limits, with no entry, and with no file or socket.
pub record IsNewBook {R : Type 0} (limits : Limits) (h : History R) : Type 0 where
  pub limits_are : h.limits ≡ limits
  pub base : h.base ≡ 0
  pub image : h.image ≡ empty limits.cells limits.sessions limits.resources
  pub entries : h.entries ≡ []
  pub core : IsEmpty limits.cells limits.sessions limits.resources limits.soft_age 1 h.core
