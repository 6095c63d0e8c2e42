-- A take-up of the cleaner's where its line is not empty gave a job, or let the line go, and the line is then shorter, or it was refused;
-- and the end of a job leaves the line.
use Rattle.std.proofs.Common.{◌≡◌, ◌≢◌, ℕ, ◌+◌, ◌<◌, ◌⊎◌, inl, inr, true, false, List, [], ◌∷◌, length, Option, Some, None, Result, Ok, Err}
use Rattle.std.proofs.Common.{refl, sym, ◌∙◌, ap, subst, arith}
use Rattle.std.proofs.lemmas.Bool.{both_ways}
use Rattle.jlr_types.specs.declared.limits.Limits.{Limits}
use Rattle.jlr_types.specs.declared.Refusal.{Refusal}
use Rattle.jlr_types.specs.declared.Refusal.TheVariants.{NoMemory, HeapFull}
use Rattle.jlr_types.specs.declared.Work.{Work}
use Rattle.jlr_machine.specs.declared.object.Cleanable.{Cleanable as CleanableOf}
use Rattle.jlr_machine.specs.declared.object.CleanState.{CleanState}
use Rattle.jlr_machine.specs.declared.object.CleanState.TheVariants.{Armed, Pending as PendingClean, Lined, Spent}
use Rattle.jlr_machine.specs.declared.machine.Machine.{Machine}
use Rattle.jlr_machine.specs.declared.machine.Job.{Job as RunningJob}
use Rattle.jlr_machine.specs.declared.ask.Outcome.{Outcome}
use Rattle.jlr_machine.specs.declared.ask.Outcome.TheVariants.{Ok as OutcomeOk, Failed}
use Rattle.jlr_machine.specs.declared.ask.Handed.TheVariants.{Nothing}
use Rattle.jlr_machine.specs.declared.ask.Ask.TheVariants.{TakeUp, Finish}
use Rattle.jlr_machine.specs.declared.ask.Answer.{Answer}
use Rattle.jlr_machine.specs.declared.ask.Answer.TheVariants.{Done, Handed, Refused, Job as JobAnswer}
use Rattle.jlr_machine.specs.Chosen.{Chosen}
use Rattle.jlr_machine.specs.declared.entry.Collected.{Collected}
use Rattle.jlr_machine.specs.Objects.{some_and, is_lined, is_spent}
use Rattle.jlr_machine.specs.Lookups.{cleanable_at, rid_of, job_of, on}
use Rattle.jlr_machine.specs.Calls.{from_lined, line_answer, line_taken, take_up_answer, taken_up, with_work_state, without_work_resource}
use Rattle.jlr_machine.specs.Calls.{finished, free_again, outcome_answer}
use Rattle.jlr_machine.specs.Run.{IsLegal, MayCollect, Answers, with_collection, apply}
use Rattle.jlr_machine.specs.Run.IsLegal.{carried_out, refused, heap_full, out_of_memory}
use Rattle.jlr_laws.proofs.Frames.{some_same}
use Rattle.jlr_laws.proofs.LegalKept.{no_need}
use Rattle.jlr_cleaner.specs.declared.job.Job.{Job}
use Rattle.jlr_event.specs.declared.event.Event.{Event}
use Rattle.jlr_event.specs.declared.event.Event.TheVariants as event
use Rattle.jlr_machine.specs.declared.ask.Ask.TheVariants as ask
use Rattle.jlr_event.specs.declared.event.Reply.{Reply}
use Rattle.jlr_event.specs.declared.event.Reply.TheVariants.{Answered, Marked}
use Rattle.jlr_event.specs.Events.{answer_in, ask_of, outcome_of}
use Rattle.jlr_book.specs.Cores.{entry_of, Kept}
use Rattle.jlr_device.specs.Handling.{Handling}
use Rattle.jlr_session.specs.Asks.{job_by, job_with, TellsFinished}
use Rattle.jlr_book.specs.Histories.{History, IsHistory}
use Rattle.jlr_book.specs.Rules.{BookSteps, was_refused}
use Rattle.jlr_prog.specs.Settling.{Works}
use Rattle.jlr_prog.specs.Solos.{at_book}
use Rattle.jlr_book.specs.Histories.{cleaner_seat}
use Rattle.jlr_prog.specs.OneTurn.{IsTurn, turn_by}
use Rattle.jlr_prog.specs.declared.solo.solo.Turn.{Turn}
use Rattle.jlr_prog.specs.declared.solo.solo.Turn.TheVariants as turn
use Rattle.jlr_prog.proofs.HandingOver.{Entered, entered, ComesTo, same_part, asked, ended, same_limits, stands_in, no_turn}

-- ---- The line

abbrev GaveJob : Answer → Type 0
GaveJob answer = (action : ℕ) × (work : Work) × (answer ≡ JobAnswer action work)

-- what a take-up comes to from a place of the line on
abbrev LineComes : Machine → List ℕ → List ℕ → Type 0
LineComes m slots rest = (answer : Answer) → line_answer m rest ≡ Some answer
    → (GaveJob answer × (length (line_taken m rest).line < length slots)) ⊎ ((answer ≡ Handed Nothing) × (rest ≡ []))

work_state_line : (m : Machine) (rid : Option ℕ) →
    (with_work_state m rid Rattle.jlr_machine.specs.declared.machine.ResourceState.TheVariants.Closing).line ≡ m.line
work_state_line m None = refl
work_state_line m (Some rid) = refl

taken_line : (m : Machine) (s : ℕ) (rest : List ℕ) (o : Option CleanableOf) → cleanable_at m s ≡ o → (line_taken m (s ∷ rest)).line ≡ rest
taken_line m s rest o e =
    let P : Option CleanableOf → Machine =
    λ o. elim o [ None ↦ record m { line = rest } | Some c ↦ taken_up (record m { line = rest }) 255 s c ] in
    elim (cleanable_at m s) as (λ o. (P o).line ≡ rest) [
      | None ↦ refl
      | Some c ↦ work_state_line _ (rid_of c.work)
    ]

lined_is_not_spent : (state : CleanState) → is_lined state ≡ true → is_spent state ≡ false
lined_is_not_spent Lined e = refl
lined_is_not_spent Armed e = refl
lined_is_not_spent PendingClean e = refl
lined_is_not_spent Spent e = absurd (both_ways false refl e)

lined_job : (c : CleanableOf) → is_lined c.state ≡ true → take_up_answer c ≡ JobAnswer c.action c.work
lined_job c e = rw (lined_is_not_spent c.state e) refl

first_comes : (m : Machine) (s : ℕ) (rest : List ℕ) (o : Option CleanableOf) → cleanable_at m s ≡ o
    → some_and (λ c. is_lined c.state) o ≡ true → LineComes m (s ∷ rest) (s ∷ rest)
first_comes m s rest None e h answer is = absurd (both_ways false refl h)
first_comes m s rest (Some c) e h answer is =
    let is_job : Some (take_up_answer c) ≡ Some answer =
    subst (λ o. Rattle.std.specs.Prelude.option_map take_up_answer o ≡ Some answer) e is in
    inl ((c.action, c.work, sym (some_same _ answer is_job) ∙ lined_job c h), omega (arith, ap length (taken_line m s rest (Some c) e)))

more_comes : (m : Machine) (s : ℕ) (slots rest : List ℕ) → LineComes m slots rest → LineComes m (s ∷ slots) rest
more_comes m s slots rest f answer is = elim (f answer is) [
  | inl w ↦ inl (w.0, omega (arith, w.1))
  | inr n ↦ inr n
]

line_comes : (m : Machine) (slots : List ℕ) → LineComes m slots (from_lined m slots)
line_comes m [] = λ answer is. inr (sym (some_same _ answer is), refl)
line_comes m (s ∷ slots) =
    elim (some_and (λ c. is_lined c.state) (cleanable_at m s)) as (λ b. some_and (λ c. is_lined c.state) (cleanable_at m s) ≡ b
    → LineComes m (s ∷ slots) (Rattle.std.specs.Prelude.if◌then◌else◌ b (s ∷ slots) (from_lined m slots))) [
      | true ↦ λ e. first_comes m s slots (cleanable_at m s) refl e
      | false ↦ λ e. more_comes m s slots (from_lined m slots) (line_comes m slots)
    ] refl

-- ---- Take-ups

abbrev Shorter : Machine → Answer → Chosen → Type 0
Shorter m answer chosen = length (apply m (entry_of TakeUp answer chosen)).line < length m.line

-- a job, or nothing; and what is left is shorter
abbrev Took : Machine → Answer → Chosen → Type 0
Took m answer chosen = (GaveJob answer ⊎ (answer ≡ Handed Nothing)) × Shorter m answer chosen

some_long : (line : List ℕ) → line ≢ [] → 0 < length line
some_long [] some = absurd (some refl)
some_long (s ∷ line) some = omega arith

carried : (m : Machine) (answer : Answer) (fresh : List ℕ) (c : Option Collected) → m.line ≢ [] → MayCollect m TakeUp c
    → Answers (with_collection m c) TakeUp c answer
    → Took m answer (record { collected = c; fresh = fresh })
carried m answer fresh (Some c) some may e = absurd (no_need m may.0)
carried m answer fresh None some may e = elim (line_comes m m.line answer e) [
  | inl t ↦ (inl t.0, subst (λ a. Shorter m a (record { collected = None; fresh = fresh })) (sym t.0.2) t.1)
  | inr n ↦
      let left : length (line_taken m (from_lined m m.line)).line ≡ 0 = ap {A = List ℕ} {B = ℕ} (λ l. length (line_taken m l).line) n.1 in
      let long = some_long m.line some in
      let shorter : length (line_taken m (from_lined m m.line)).line < length m.line = omega (arith, left, long) in
      (inr n.0, subst (λ a. Shorter m a (record { collected = None; fresh = fresh })) (sym n.0) shorter)
]

comes_to : (m : Machine) (answer : Answer) (chosen : Chosen) → m.line ≢ [] → IsLegal m (entry_of TakeUp answer chosen)
    → ComesTo (Took m answer chosen) answer
comes_to m answer chosen some (carried_out c) = inl (carried m answer chosen.fresh chosen.collected some c.collection c.answers)
comes_to m answer chosen some (refused r) = inr (r.by, r.answers)
comes_to m answer chosen some (heap_full r) = inr (HeapFull, r.answers)
comes_to m answer chosen some (out_of_memory r) = inr (NoMemory, r.answers)

stepped : {R : Type 0} (old new : Kept R) (answer : Answer) → old.machine.line ≢ [] → Entered old new TakeUp answer
    → ComesTo ((GaveJob answer ⊎ (answer ≡ Handed Nothing)) × (length new.machine.line < length old.machine.line)) answer
stepped old new answer some x =
    let same : old.machine.line ≡ x.0.line = same_part old x.0 (λ m. m.line) (λ m. refl) x.3 in
    elim (comes_to x.0 answer x.2 (λ e. some (same ∙ e)) x.5) [
      | inl t ↦
          let shorter : length x.1.line < length x.0.line = subst (λ (n : Machine). length n.line < length x.0.line) (sym x.6) t.1 in
          inl (t.0, omega (arith, shorter, ap length same, ap length (same_part new x.1 (λ m. m.line) (λ m. refl) x.4)))
      | inr r ↦ inr r
    ]

-- the same over a book
taken_there : {R : Type 0} (seat : ℕ) (old new : History R) (reply : Reply R) → IsHistory old → old.core.machine.line ≢ []
    → BookSteps seat old (event.Ask ask.TakeUp) reply new
    → ((answer : Answer) × (answer_in reply ≡ Some answer) × (GaveJob answer ⊎ (answer ≡ Handed Nothing))
    × (length new.core.machine.line < length old.core.machine.line)) ⊎ was_refused reply
taken_there seat old new reply h some steps = elim (asked seat old new (event.Ask ask.TakeUp) reply TakeUp refl refl h steps) [
  | inl x ↦
      let same : x.0.machine.line ≡ old.core.machine.line = ap {A = Machine} {B = List ℕ} (λ n. n.line) x.1.0 in
      let y = entered x.0 new.core (event.Ask ask.TakeUp) reply TakeUp refl x.1.1 x.2 in
      elim (stepped x.0 new.core y.0 (λ e. some (sym same ∙ e)) y.2) [
        | inl w ↦ inl (y.0, y.1, w.0, omega (arith, w.1, ap length same))
        | inr r ↦ inr (r.0, y.1 ∙ ap Some r.1)
      ]
  | inr r ↦ inr r
]

-- ---- Ends of jobs

work_resource_line : (m : Machine) (rid : Option ℕ) → (without_work_resource m rid).line ≡ m.line
work_resource_line m None = refl
work_resource_line m (Some rid) = refl

finished_line : (m : Machine) (job : RunningJob) (outcome : Outcome) → (finished m job outcome).line ≡ m.line
finished_line m job OutcomeOk = work_resource_line _ (rid_of job.work)
finished_line m job (Failed fault) = work_resource_line _ (rid_of job.work)

after_line : (m : Machine) (action : ℕ) (outcome : Outcome) (job : Option RunningJob)
    → (on job (λ job. free_again (finished m job outcome) 255) m).line ≡ m.line
after_line m action outcome None = refl
after_line m action outcome (Some job) = finished_line m job outcome

carried_line : (m : Machine) (action : ℕ) (outcome : Outcome) (answer : Answer) (fresh : List ℕ)
    → outcome_answer outcome (Some Done) ≡ Some answer
    → (apply m (entry_of (Finish 255 action outcome) answer (record { collected = None; fresh = fresh }))).line ≡ m.line
carried_line m action OutcomeOk answer fresh e =
    subst (λ a. (apply m (entry_of (Finish 255 action OutcomeOk) a (record { collected = None; fresh = fresh }))).line ≡ m.line)
    (some_same _ answer e) (after_line m action OutcomeOk (job_of m action))
carried_line m action (Failed fault) answer fresh e =
    subst (λ a. (apply m (entry_of (Finish 255 action (Failed fault)) a (record { collected = None; fresh = fresh }))).line ≡ m.line)
    (some_same _ answer e) (after_line m action (Failed fault) (job_of m action))

collected_line : (m : Machine) (action : ℕ) (outcome : Outcome) (answer : Answer) (fresh : List ℕ) (c : Option Collected)
    → MayCollect m (Finish 255 action outcome) c
    → Answers (with_collection m c) (Finish 255 action outcome) c answer
    → (apply m (entry_of (Finish 255 action outcome) answer (record { collected = c; fresh = fresh }))).line ≡ m.line
collected_line m action outcome answer fresh (Some c) may e = absurd (no_need m may.0)
collected_line m action outcome answer fresh None may e = carried_line m action outcome answer fresh e

refused_line : (m : Machine) (action : ℕ) (outcome : Outcome) (answer : Answer) (chosen : Chosen) (by : Refusal) → answer ≡ Refused by
    → chosen.collected ≡ None
    → (apply m (entry_of (Finish 255 action outcome) answer chosen)).line ≡ m.line
refused_line m action outcome answer chosen by e none =
    subst (λ a. (apply m (entry_of (Finish 255 action outcome) a chosen)).line ≡ m.line) (sym e) (ap (λ c. (with_collection m c).line) none)

ended_line : (m : Machine) (action : ℕ) (outcome : Outcome) (answer : Answer) (chosen : Chosen)
    → IsLegal m (entry_of (Finish 255 action outcome) answer chosen)
    → (apply m (entry_of (Finish 255 action outcome) answer chosen)).line ≡ m.line
ended_line m action outcome answer chosen (carried_out c) =
    collected_line m action outcome answer chosen.fresh chosen.collected c.collection c.answers
ended_line m action outcome answer chosen (refused r) =
    refused_line m action outcome answer chosen r.by r.answers (ap (λ (c : Chosen). c.collected) r.nothing)
ended_line m action outcome answer chosen (heap_full r) = absurd (no_need m r.no_room)
ended_line m action outcome answer chosen (out_of_memory r) =
    refused_line m action outcome answer chosen NoMemory r.answers (ap (λ (c : Chosen). c.collected) r.nothing)

told_line : {R : Type 0} (resource : Handling R) (seat : ℕ) (old new : History R) (job : Job R) (finish : Event R) (reply : Reply R)
    → TellsFinished resource 255 job finish → IsHistory old → BookSteps seat old finish reply new
    → new.core.machine.line ≡ old.core.machine.line
told_line resource seat old new job finish reply tells h steps =
    let asked : ask_of finish ≡ Some (Finish 255 job.action (outcome_of tells.0)) = ap ask_of tells.2 in
    let x = entered old.core new.core finish reply (Finish 255 job.action (outcome_of tells.0)) asked (stands_in old h)
    (ended seat old new finish reply (Finish 255 job.action (outcome_of tells.0)) asked refl steps) in
    let y = x.2 in
    same_part new.core y.1 (λ m. m.line) (λ m. refl) y.4 ∙ ap (λ (m : Machine). m.line) y.6
    ∙ ended_line y.0 job.action (outcome_of tells.0) x.0 y.2 y.5
    ∙ sym (same_part old.core y.0 (λ m. m.line) (λ m. refl) y.3)

-- ---- Which turn it was

job_in : {R : Type 0} (reply : Reply R) (answer : Answer) → answer_in reply ≡ Some answer → (resource : Option R)
    × (job_by reply ≡ job_with answer resource)
job_in (Answered said resource) answer e = (resource, ap (λ a. job_with a resource) (some_same said answer e))
job_in (Marked progress) answer e = cc e

no_job : {R P : Type 0} (job : Job R) (answer : Answer) → ◌≡◌ {A = Result (Job R) Answer} (Ok job) (Err answer) → P
no_job job answer e = cc e

err_same : {R : Type 0} (a b : Answer) → ◌≡◌ {A = Result (Job R) Answer} (Err a) (Err b) → a ≡ b
err_same a b e = cc e

pub worked_turn : {R : Type 0} (resource : Handling R) (old between new : History R) (reply told : Reply R) (job : Job R) (finish : Event R)
    → job_by reply ≡ Ok job → IsHistory old → IsHistory between → old.core.machine.line ≢ []
    → BookSteps (cleaner_seat old) old (event.Ask ask.TakeUp) reply between
    → TellsFinished resource 255 job finish → BookSteps (cleaner_seat old) between finish told new
    → IsTurn (at_book {R = R}).cleans (Works at_book resource) (event.Ask ask.TakeUp) turn.Worked old new
    × (turn.Worked ≡ turn.Worked → length new.core.machine.line < length old.core.machine.line)
worked_turn resource old between new reply told job finish took h h' some s tells t =
    let same = told_line resource (cleaner_seat old) between new job finish told tells h' t in
    let limits = same_limits (cleaner_seat old) old between (event.Ask ask.TakeUp) reply TakeUp refl refl s in
    let finished : BookSteps (cleaner_seat between) between finish told new =
    subst (λ (l : Limits). BookSteps (l.sessions + 2) between finish told new) (sym limits) t in (
      (some, inl (reply, job, between, finish, told, s, took, tells, finished)),
      λ _. elim (taken_there (cleaner_seat old) old between reply h some s) [
        | inl w ↦ omega (arith, w.3, ap length same)
        | inr r ↦ (let d = job_in reply (Refused r.0) r.1 in absurd (no_job job (Refused r.0) (sym took ∙ d.1)))
      ],
    )

-- an answer that gave no job
pub idle_turn : {R : Type 0} (resource : Handling R) (old new : History R) (reply : Reply R) (answer : Answer) (t : Turn)
    → job_by reply ≡ Err answer → t ≡ turn_by answer → IsHistory old → old.core.machine.line ≢ []
    → BookSteps (cleaner_seat old) old (event.Ask ask.TakeUp) reply new
    → IsTurn (at_book {R = R}).cleans (Works at_book resource) (event.Ask ask.TakeUp) t old new
    × (t ≡ turn.Worked → length new.core.machine.line < length old.core.machine.line)
idle_turn resource old new reply answer t none which h some s =
    elim (taken_there (cleaner_seat old) old new reply h some s) [
      | inl w ↦ (let d = job_in reply w.0 w.1 in elim (w.2) [
        | inl j ↦ absurd (no_job _ answer (ap (λ a. job_with a d.0) (sym j.2) ∙ sym d.1 ∙ none))
        | inr n ↦
            let same : Handed Nothing ≡ answer = err_same (Handed Nothing) answer (sym (ap (λ a. job_with a d.0) n) ∙ sym d.1 ∙ none) in
            let worked : t ≡ turn.Worked = which ∙ ap turn_by (sym same) in (
              subst (λ t. IsTurn at_book.cleans (Works at_book resource) (event.Ask ask.TakeUp) t old new) (sym worked)
                  (some, inr (reply, s, w.1 ∙ ap Some n)),
              λ _. w.3,
            )
      ])
      | inr r ↦
          let d = job_in reply (Refused r.0) r.1 in
          let same : Refused r.0 ≡ answer = err_same (Refused r.0) answer (sym d.1 ∙ none) in
          no_turn at_book.cleans (Works at_book resource) old new (event.Ask ask.TakeUp) reply answer t (r.1 ∙ ap Some same) which s r
    ]
