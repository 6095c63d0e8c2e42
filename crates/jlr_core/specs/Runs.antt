-- Runs: a list of events with their replies is a run of the machine, with some choices.
use Rattle.std.specs.Prelude.{◌≡◌, List, [], ◌∷◌, ◌++◌, is_some}
use Rattle.std.specs.Option.{option_to_list}
use Rattle.jlr_types.specs.declared.limits.Limits.{Limits}
use Rattle.jlr_machine.specs.declared.machine.Machine.{Machine}
use Rattle.jlr_machine.specs.Chosen.{Chosen}
use Rattle.jlr_machine.specs.declared.entry.Entry.{Entry}
use Rattle.jlr_machine.specs.Run.{Run, empty}
use Rattle.jlr_histories.specs.Promises.{KeepsPromises}
use Rattle.jlr_event.specs.declared.event.Event.{Event}
use Rattle.jlr_event.specs.declared.event.Reply.{Reply}
use Rattle.jlr_event.specs.Events.{ask_of, answer_in, resource_of_event, resource_of_reply}
use Rattle.jlr_steps.specs.Cores.{Kept, StandsIn}
use Rattle.jlr_state.specs.Events.{entry_with}
use Rattle.jlr_steps.specs.Steps.{IsEmpty, IsStep}

-- the entries of events with their replies and choices, in order. A piece of marking is none
abbrev pub entries_of : {R : Type 0} → List (Event R) → List (Reply R) → List Chosen → List Entry
entries_of [] replies choices = []
entries_of (e ∷ events) [] choices = []
entries_of (e ∷ events) (r ∷ replies) [] = []
entries_of (e ∷ events) (r ∷ replies) (c ∷ choices) = option_to_list (entry_with (ask_of e) (answer_in r) c)
    ++ entries_of events replies choices

-- each event has a reply and a choice, and just a piece of marking has no answer
abbrev pub AreAnswered : {R : Type 0} → List (Event R) → List (Reply R) → List Chosen → Type 0
AreAnswered [] [] [] = Unit {0}
AreAnswered (e ∷ events) (r ∷ replies) (c ∷ choices) = (is_some (answer_in r) ≡ is_some (ask_of e))
    × AreAnswered events replies choices
AreAnswered _ _ _ = ⊥

-- ---- The steps of a run

-- from this core on each event with its reply and its choice is a step, and the last of them leads to that core
abbrev pub AreSteps : {R : Type 0} → Kept R → List (Event R) → List (Reply R) → List Chosen → Kept R → Type 0
AreSteps core [] [] [] last = last ≡ core
AreSteps {R} core (e ∷ events) (r ∷ replies) (c ∷ choices) last = (next : Kept R) × IsStep core e r c next
    × AreSteps next events replies choices last
AreSteps _ _ _ _ _ = ⊥

-- There are choices, one for each event, with which the entries are a run from the empty machine of the limits to one
-- for which the core stands, and keep what the package promises. There are as many replies as events, where just a
-- piece of marking has no answer. With the same choices each event is a step of the core, from an empty one on
pub record IsRunOf {R : Type 0} (limits : Limits) (events : List (Event R)) (replies : List (Reply R))
    (core : Kept R) : Type 0 where
  pub choices : List Chosen
  pub last : Machine
  pub run : Run (empty limits.cells limits.sessions limits.resources) (entries_of events replies choices) last
  pub stands : StandsIn core last
  pub promises : KeepsPromises (empty limits.cells limits.sessions limits.resources) (entries_of events replies choices)
  pub answered : AreAnswered events replies choices
  pub start : Kept R
  pub begins : IsEmpty limits.cells limits.sessions limits.resources limits.soft_age 1 start
  pub steps : AreSteps start events replies choices core

-- the resources that events hand in, and those that replies hand out, in order
abbrev pub resources_of_events : {R : Type 0} → List (Event R) → List R
resources_of_events [] = []
resources_of_events (e ∷ events) = option_to_list (resource_of_event e) ++ resources_of_events events

abbrev pub resources_of_replies : {R : Type 0} → List (Reply R) → List R
resources_of_replies [] = []
resources_of_replies (r ∷ replies) = option_to_list (resource_of_reply r) ++ resources_of_replies replies
