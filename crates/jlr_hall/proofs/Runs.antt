-- A run goes on by one step, with the choice of that step.
use Rattle.std.proofs.Common.{◌≡◌, List, [], ◌∷◌, ◌++◌, Option, Some, None, is_some, refl, sym, ◌∙◌, ap, subst, append_assoc, append-nil}
use Rattle.std.specs.Option.{option_to_list}
use Rattle.jlr_types.specs.declared.limits.Limits.{Limits}
use Rattle.jlr_machine.specs.declared.machine.Machine.{Machine}
use Rattle.jlr_machine.specs.declared.ask.Ask.{Ask}
use Rattle.jlr_machine.specs.declared.ask.Answer.{Answer}
use Rattle.jlr_machine.specs.Chosen.{Chosen}
use Rattle.jlr_machine.specs.declared.entry.Entry.{Entry}
use Rattle.jlr_machine.specs.Run.{Run, apply}
use Rattle.jlr_machine.specs.WellFormed.{IsWellFormed}
use Rattle.jlr_histories.proofs.Promises.{runs_keep_the_promises}
use Rattle.jlr_event.specs.declared.event.Event.{Event}
use Rattle.jlr_event.specs.declared.event.Reply.{Reply}
use Rattle.jlr_event.specs.Events.{ask_of, answer_in}
use Rattle.jlr_state.specs.Events.{entry_with, EntersLegally}
use Rattle.jlr_steps.specs.Cores.{Kept}
use Rattle.jlr_steps.specs.Steps.{IsStep}
use Rattle.jlr_core.specs.Runs.{entries_of, AreAnswered, AreSteps, IsRunOf}
use Rattle.jlr_book.specs.Histories.{empty_of}

run_joins : (m n o : Machine) (xs ys : List Entry) → Run m xs n → Run n ys o → Run m (xs ++ ys) o
run_joins m n o [] ys r s = subst (λ k. Run k ys o) r s
run_joins m n o (x ∷ xs) ys r s = (r.0, run_joins (apply m x) n o xs ys r.1 s)

entries_more : {R : Type 0} (events : List (Event R)) (replies : List (Reply R)) (choices : List Chosen) (e : Event R) (r : Reply R)
    (c : Chosen) → AreAnswered events replies choices
    → entries_of (events ++ e ∷ []) (replies ++ r ∷ []) (choices ++ c ∷ []) ≡ entries_of events replies choices
    ++ option_to_list (entry_with (ask_of e) (answer_in r) c)
entries_more [] [] [] e r c a = append-nil (option_to_list (entry_with (ask_of e) (answer_in r) c))
entries_more (x ∷ events) (y ∷ replies) (z ∷ choices) e r c a =
    let one = option_to_list (entry_with (ask_of x) (answer_in y) z) in
    ap (λ l. one ++ l) (entries_more events replies choices e r c a.1)
    ∙ sym (append_assoc one (entries_of events replies choices) (option_to_list (entry_with (ask_of e) (answer_in r) c)))
entries_more [] [] (z ∷ choices) e r c a = absurd a
entries_more [] (y ∷ replies) [] e r c a = absurd a
entries_more [] (y ∷ replies) (z ∷ choices) e r c a = absurd a
entries_more (x ∷ events) [] [] e r c a = absurd a
entries_more (x ∷ events) [] (z ∷ choices) e r c a = absurd a
entries_more (x ∷ events) (y ∷ replies) [] e r c a = absurd a

answered_more : {R : Type 0} (events : List (Event R)) (replies : List (Reply R)) (choices : List Chosen) (e : Event R) (r : Reply R)
    (c : Chosen) → AreAnswered events replies choices → is_some (answer_in r) ≡ is_some (ask_of e)
    → AreAnswered (events ++ e ∷ []) (replies ++ r ∷ []) (choices ++ c ∷ [])
answered_more [] [] [] e r c a h = (h, tt)
answered_more (x ∷ events) (y ∷ replies) (z ∷ choices) e r c a h = (a.0, answered_more events replies choices e r c a.1 h)
answered_more [] [] (z ∷ choices) e r c a h = absurd a
answered_more [] (y ∷ replies) [] e r c a h = absurd a
answered_more [] (y ∷ replies) (z ∷ choices) e r c a h = absurd a
answered_more (x ∷ events) [] [] e r c a h = absurd a
answered_more (x ∷ events) [] (z ∷ choices) e r c a h = absurd a
answered_more (x ∷ events) (y ∷ replies) [] e r c a h = absurd a

-- ---- One step

entered : (m : Machine) (ask : Option Ask) (answer : Option Answer) (chosen : Chosen) (n : Machine) → EntersLegally m ask answer chosen n
    → Run m (option_to_list (entry_with ask answer chosen)) n × (is_some answer ≡ is_some ask)
entered m (Some ask) (Some answer) chosen n e = ((e.0, e.1), refl)
entered m (Some ask) None chosen n e = absurd e
entered m None (Some answer) chosen n e = absurd e
entered m None None chosen n e = (e.1, refl)

-- ---- The steps along the way

steps_more :
    {R : Type 0} (core : Kept R) (events : List (Event R)) (replies : List (Reply R)) (choices : List Chosen) (last next : Kept R)
    (e : Event R) (r : Reply R) (d : Chosen) (step : IsStep last e r d next)
    → AreSteps core events replies choices last → AreSteps core (events ++ e ∷ []) (replies ++ r ∷ []) (choices ++ d ∷ []) next
steps_more {R} core [] [] [] last next e r d step a =
    subst (λ (c : Kept R). AreSteps c (e ∷ []) (r ∷ []) (d ∷ []) next) a (next, step, refl)
steps_more core (x ∷ events) (y ∷ replies) (c ∷ choices) last next e r d step a =
    (a.0, a.1, steps_more a.0 events replies choices last next e r d step a.2)
steps_more core [] [] (z ∷ choices) last next e r d step a = absurd a
steps_more core [] (y ∷ replies) [] last next e r d step a = absurd a
steps_more core [] (y ∷ replies) (z ∷ choices) last next e r d step a = absurd a
steps_more core (x ∷ events) [] [] last next e r d step a = absurd a
steps_more core (x ∷ events) [] (z ∷ choices) last next e r d step a = absurd a
steps_more core (x ∷ events) (y ∷ replies) [] last next e r d step a = absurd a

-- the choices are those of before and this one
pub run_more_by : {R : Type 0} (limits : Limits) (events : List (Event R)) (replies : List (Reply R)) (old new : Kept R) (e : Event R)
    (r : Reply R) (chosen : Chosen)
    → IsWellFormed (empty_of limits) → (x : IsRunOf limits events replies old) → IsStep old e r chosen new
    → (run : IsRunOf limits (events ++ e ∷ []) (replies ++ r ∷ []) new) × (run.choices ≡ x.choices ++ chosen ∷ [])
run_more_by {R} limits events replies old new e r chosen formed x step =
    let m = empty_of limits in
    let s = step.entry x.last x.stands in
    let d = entered x.last (ask_of e) (answer_in r) chosen s.0 s.1 in
    let run : Run m (entries_of (events ++ e ∷ []) (replies ++ r ∷ []) (x.choices ++ chosen ∷ [])) s.0 =
    subst (λ l. Run m l s.0) (sym (entries_more events replies x.choices e r chosen x.answered))
    (run_joins m x.last s.0 (entries_of events replies x.choices) (option_to_list (entry_with (ask_of e) (answer_in r) chosen)) x.run
    d.0) in (
      record {
        choices = x.choices ++ chosen ∷ [];
        last = s.0;
        run = run;
        stands = s.2;
        promises = runs_keep_the_promises m s.0 _ formed run;
        answered = answered_more events replies x.choices e r chosen x.answered d.1;
        start = x.start;
        begins = x.begins;
        steps = steps_more x.start events replies x.choices old new e r chosen step x.steps;
      },
      refl,
    )
