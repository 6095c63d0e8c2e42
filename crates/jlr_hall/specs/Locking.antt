-- What lies under the lock, and what is kept there of the resources that are open and of a cycle that is owed.
use Rattle.std.specs.Prelude.{◌≡◌, ◌↔◌, ◌<◌, ◌+◌, ◌-◌, ◌||◌, ℕ, Bool, true, false, cond, nat_lt, List, is_some, length}
use Rattle.std.specs.Prelude.{slice_index_or, slice_set}
use Rattle.jlr_types.specs.declared.limits.Limits.{Limits}
use Rattle.jlr_event.specs.declared.event.Event.{Event}
use Rattle.jlr_machine.specs.declared.ask.Ask.{Ask}
use Rattle.jlr_machine.specs.declared.ask.Ask.TheVariants.{Abandon, Begin, Clean, Close, Enqueue, Finish, Full}
use Rattle.jlr_machine.specs.declared.ask.Ask.TheVariants.{HandOver, Join, Leave, Prepare}
use Rattle.jlr_event.specs.declared.event.Event.TheVariants.{Ask as Asks, Opened}
use Rattle.jlr_event.specs.declared.event.Reply.{Reply}
use Rattle.jlr_event.specs.Events.{answer_in, resource_of_reply}
use Rattle.jlr_book.specs.Histories.{History}
use Rattle.jlr_hall.specs.declared.dues.Dues.{Dues}
use Rattle.jlr_hall.specs.declared.effect.Effect.{Effect}
use Rattle.jlr_hall.specs.declared.effect.Effect.TheVariants.{Abandons, Closes, Collects, Finishes, Joins, Leaves}
use Rattle.jlr_hall.specs.declared.effect.Effect.TheVariants.{Nothing, Opens, Prepares, Queues}
use Rattle.jlr_hall.specs.declared.step.Step.{Step}
use Rattle.jlr_hall.specs.OneHistory.{IsWhole, is_refused_reply}
use Rattle.jlr_hall.specs.Due.{IsOwed, is_collected, is_given_up, is_resources_full, answers_handle, open_at}

-- the book, and all that was asked
pub record Under (R : Type 0) : Type 0 where
  pub book : History R
  pub log : List (Step R)

abbrev pub under : {R : Type 0} → History R → List (Step R) → Under R
under book log = record { book = book; log = log }

-- ---- What an event may change

abbrev pub effect_of_ask : Ask → Effect
effect_of_ask (Enqueue k r) = Queues
effect_of_ask HandOver = Queues
effect_of_ask (Join k) = Joins
effect_of_ask (Leave k) = Leaves
effect_of_ask (Prepare k) = Prepares
effect_of_ask (Clean k c) = Closes
effect_of_ask (Close k h) = Closes
effect_of_ask (Finish by action outcome) = Finishes
effect_of_ask Begin = Collects
effect_of_ask (Full k mode) = Collects
effect_of_ask Abandon = Abandons
effect_of_ask ask = Nothing

abbrev pub effect_of : {R : Type 0} → Event R → Effect
effect_of (Asks ask) = effect_of_ask ask
effect_of (Opened k outcome) = Opens
effect_of event = Nothing

-- ---- How the counts are kept

abbrev pub count_at : ℕ → Dues → ℕ
count_at seat d = slice_index_or d.opened seat 0

abbrev pub with_count : ℕ → ℕ → Dues → Dues
with_count seat n d = record d { opened = slice_set d.opened seat n }

-- the session at a seat leaves
abbrev pub without : ℕ → Dues → Dues
without seat d = record { opened = slice_set d.opened seat 0; owed = nat_lt 0 (count_at seat d) || d.owed }

-- a cycle is owed where this is so
abbrev pub owing_where : Bool → Dues → Dues
owing_where b d = record d { owed = b || d.owed }

abbrev pub dues_after : {R : Type 0} → ℕ → Effect → Reply R → Dues → Dues
dues_after seat Leaves reply d = cond (is_refused_reply (answer_in reply)) d (without seat d)
dues_after seat Opens reply d = cond (answers_handle (answer_in reply)) (with_count seat (count_at seat d + 1) d) d
dues_after seat Closes reply d = cond (is_some (resource_of_reply reply)) (with_count seat (count_at seat d - 1) d) d
dues_after seat Prepares reply d = owing_where (is_resources_full (answer_in reply)) d
dues_after seat Collects reply d = cond (is_collected (answer_in reply)) (record d { owed = false }) d
dues_after seat Abandons reply d = owing_where (is_given_up (answer_in reply)) d
dues_after seat effect reply d = d

-- ---- What they say

module _ {R : Type 0} where
  -- the counts are the history's, and a cycle is owed just where it is so by the history
  pub record Shows (d : Dues) (log : List (Step R)) : Type 0 where
    pub long : length d.opened ≡ 256
    pub counts : (k : ℕ) → k < 256 → count_at k d ≡ open_at k log
    pub owes : (d.owed ≡ true) ↔ IsOwed log

  -- What is true of each book, history and counts under the lock.
  pub record IsLocked (limits : Limits) (book : History R) (d : Dues) (log : List (Step R)) : Type 0 where
    pub whole : IsWhole limits book log
    pub shows : Shows d log
