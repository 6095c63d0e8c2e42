-- What take-ups need, in a well-formed machine, and what they leave.
use Rattle.std.proofs.Common.{◌≡◌, ◌+◌, ◌<◌, ℕ, Bool, true, false, not, ◌==◌, ◌||◌, List, [], ◌∷◌, length, Option, Some, None, is_some}
use Rattle.std.proofs.Common.{refl, sym, ◌∙◌, ap, subst, arith, cond, find, map, nat_le, nat_lt, option_and_then, option_map, ◌-◌, ◌^◌}
use Rattle.std.proofs.Common.{IfNone, IfSome}
use Rattle.std.specs.List.{list_any, AllByRecursion}
use Rattle.std.proofs.lemmas.Bool.{and_parts, leb-false, cond-false, cond_both, cond-true, eq-eqb, ltb-true, ne_eqb}
use Rattle.jlr_types.specs.declared.Work.TheVariants.{Note, Resource as WorkOn}
use Rattle.jlr_machine.specs.declared.machine.Machine.{Machine}
use Rattle.jlr_machine.specs.declared.machine.Session.{Session}
use Rattle.jlr_machine.specs.declared.machine.Job.{Job as JobOf}
use Rattle.jlr_machine.specs.declared.machine.Call.TheVariants.{Free, Job as CallJob}
use Rattle.jlr_machine.specs.declared.machine.ResourceState.TheVariants.{Idle}
use Rattle.jlr_machine.specs.declared.object.Object.{Object}
use Rattle.jlr_machine.specs.declared.object.Cleanable.{Cleanable as CleanableOf}
use Rattle.jlr_machine.specs.declared.object.CleanState.{CleanState}
use Rattle.jlr_machine.specs.declared.object.CleanState.TheVariants.{Lined, Spent}
use Rattle.jlr_machine.specs.declared.ask.Answer.TheVariants.{AlreadyDone, Job as JobAnswer}
use Rattle.jlr_machine.specs.Objects.{as_cleanable, at, is_above, is_lined, is_rising, is_spent, some_and, with_cleanable}
use Rattle.jlr_machine.specs.Lookups.{cleanable_at, cleanable_of_guard, job_of, on, slot_named, with_object}
use Rattle.jlr_machine.specs.Calls.{after, cleaned, from_lined, line_answer, line_taken, reply, spent, take_up_answer, taken_up}
use Rattle.jlr_machine.specs.WellFormed.{HasResource, IsCleanableAt, IsWellFormed}
use Rattle.jlr_types.specs.declared.Refusal.TheVariants.{Busy}
use Rattle.jlr_machine.specs.declared.ask.Ask.TheVariants.{Clean, Close, TakeUp}
use Rattle.jlr_machine.specs.declared.ask.Answer.{Answer}
use Rattle.jlr_machine.specs.Refusals.{is_cleanable, refusal}
use Rattle.jlr_laws.proofs.Allowed.{cleanable_of, free_session, joined_session, some_and_gives}
use Rattle.jlr_laws.proofs.Frames.{change_as_long, is_cleanable_there, no_some, place_within, some_same}
use Rattle.jlr_laws.proofs.Keyed.{all_found}
use Rattle.jlr_laws.proofs.keeps.TakeUps.{one_less}
use Rattle.jlr_barrier.specs.Graphs.{Graph, in_machine}
use Rattle.jlr_refs.specs.Parts.{front_of, front_spent}
use Rattle.jlr_cleaner.specs.Cleanings.{Cleanings, HasWork, after_register, machine_of_cleanings as with_cleanings}
use Rattle.jlr_state.specs.State.{frame, machine_with}
use Rattle.jlr_state.specs.TakeUps.{IsFreeMutator}

-- the action of an unspent cleanable runs in no job
pub runs_in_none : (m : Machine) (s : ℕ) (c : CleanableOf) → IsWellFormed m → IsCleanableAt m s c → (c.state ≡ Spent → ⊥)
    → is_some (job_of m c.action) ≡ false
runs_in_none m s c w there unspent = ap is_some (w.actions.apart s c (record { there = there; unspent = unspent }))

-- with it, the take-ups stay below the numbers
pub below_numbers : (m : Machine) (s : ℕ) (c : CleanableOf) → IsWellFormed m → IsCleanableAt m s c → (c.state ≡ Spent → ⊥)
    → m.taken + 1 < m.next_action
below_numbers m s c w there unspent = omega (arith, one_less m.objects s c there unspent, w.actions.room)

-- ---- A free mutator runs no job

above_all : (a : ℕ) (jobs : List JobOf) → is_above a (map (λ job. job.action) jobs) ≡ true → AllByRecursion (λ job. a < job.action) jobs
above_all a [] h = tt
above_all a (job ∷ jobs) h =
    let p = and_parts (nat_lt a job.action) (is_above a (map (λ job. job.action) jobs)) h in
    (ltb-true a job.action p.0, above_all a jobs p.1)

none_runs : (k : ℕ) (jobs : List JobOf) → is_rising (map (λ job. job.action) jobs) ≡ true
    → ((job : JobOf) → find (λ other. other.action == job.action) jobs ≡ Some job → job.by ≡ k → ⊥)
    → list_any (λ job. job.by == k) jobs ≡ false
none_runs k [] rising h = refl
none_runs k (first ∷ jobs) rising h =
    let p = and_parts (is_above first.action (map (λ job. job.action) jobs)) (is_rising (map (λ job. job.action) jobs)) rising in
    let here : (first.by == k) ≡ false = ne_eqb first.by k
    (h first (cond-true (first.action == first.action) (Some first) (find (λ other. other.action == first.action) jobs)
    (eq-eqb first.action first.action refl))) in
    let later : list_any (λ job. job.by == k) jobs ≡ false =
    none_runs k jobs p.1 (λ job found.
    let above = all_found (λ (x : JobOf). x.action) (λ x. first.action < x.action) jobs job.action job (above_all first.action jobs p.0)
    found in
    h job (cond-false (first.action == job.action) (Some first) (find (λ other. other.action == job.action) jobs)
    (ne_eqb first.action job.action (λ e. absurd (omega (arith, above, e)))) ∙ found)) in
    ap (λ b. b || list_any (λ job. job.by == k) jobs) here ∙ later

pub free_taker : (m : Machine) (k : ℕ) → IsWellFormed m → IsFreeMutator m k → list_any (λ job. job.by == k) m.jobs ≡ false
free_taker m k w free =
    let s = joined_session m k (ap not free.joined) in
    let idle : s.0.call ≡ Free = free_session m k s.0 s.1 free.free in
    let within = place_within m.mutators k s.0 s.1 in
    none_runs k m.jobs w.actions.jobs (λ job found same.
    let called = w.calls.jobs job found (λ e. absurd (omega (arith, same, e, within, w.limits.sessions))) in
    let same_session : s.0 ≡ called.0 = some_same s.0 called.0 (sym s.1 ∙ ap (at m.mutators) (sym same) ∙ called.1) in
    let here : s.0.call ≡ CallJob job.action = ap (λ (z : Session). z.call) same_session ∙ called.2 in
    absurd (cc (idle, here)))

-- ---- The cleaner's line

front_is : (s t : ℕ) (c : CleanableOf) (o : Option CleanableOf)
    → ◌≡◌ {A = Option (ℕ × CleanableOf)} (Some (t, c)) (option_map (λ (x : CleanableOf). (s, x)) o) → (s ≡ t) × (o ≡ Some c)
front_is s t c None e = no_some (t, c) (sym e)
front_is s t c (Some x) e =
    let both : ◌≡◌ {A = ℕ × CleanableOf} (t, c) (s, x) = some_same (t, c) (s, x) e in
    (ap {A = ℕ × CleanableOf} {B = ℕ} (λ p. p.0) (sym both), ap {A = ℕ × CleanableOf} {B = Option CleanableOf} (λ p. Some p.1) (sym both))

front_there : (m : Machine) (line : List ℕ) (t : ℕ) (c : CleanableOf) → ◌≡◌ {A = Option (ℕ × CleanableOf)} (Some (t, c)) (front_of m line)
    → (rest : List ℕ) × (line ≡ t ∷ rest) × IsCleanableAt m t c
front_there m [] t c e = no_some (t, c) (sym e)
front_there m (s ∷ rest) t c e =
    let is = front_is s t c (cleanable_at m s) e in
    (rest, ap (λ (x : ℕ). x ∷ rest) is.0, subst (λ x. IsCleanableAt m x c) is.0 (is_cleanable_there (at m.objects s) c is.1))

pub lined_there : (m : Machine) (t : ℕ) (c : CleanableOf)
    → ◌≡◌ {A = Option (ℕ × CleanableOf)} (Some (t, c)) (front_of m (from_lined m m.line)) → (rest : List ℕ)
    × (from_lined m m.line ≡ t ∷ rest) × IsCleanableAt m t c
lined_there m t c e = front_there m (from_lined m m.line) t c e

-- its resource lies here, if its work is one
idle_of : (m : Machine) (s : ℕ) (c : CleanableOf) → IsWellFormed m → IsCleanableAt m s c → c.state ≡ Lined → (rid : ℕ) → c.work ≡ WorkOn rid
    → HasResource m rid c.action Idle
idle_of m s c w there lined rid e =
    w.resources.idle s rid c (record { there = there; unspent = λ d. absurd (cc (d, lined)) }) e (λ d. absurd (cc (d, lined)))

pub lined_is_idle : {R : Type 0} (k : Cleanings R) (g : Graph) (cycle : Bool) (s : ℕ) (c : CleanableOf)
    → IsWellFormed (machine_with k g cycle) → IsCleanableAt (machine_with k g cycle) s c → c.state ≡ Lined
    → HasWork k.table c.action Idle c.work
lined_is_idle k g cycle s c w there lined =
    elim c.work as (λ work. c.work ≡ work → HasWork k.table c.action Idle work) [
      | Note n ↦ λ e. tt
      | WorkOn rid ↦
          λ e. idle_of (machine_with k g cycle) s c w there lined rid e
    ] refl

-- where none is taken, none is Lined
none_lined_in : (m : Machine) (line : List ℕ) → None ≡ front_of m (from_lined m line) → from_lined m line ≡ []
none_lined_in m [] e = refl
none_lined_in m (s ∷ line) e =
    cond_both (some_and (λ c. is_lined c.state) (cleanable_at m s)) (s ∷ line) (from_lined m line) (λ l. None ≡ front_of m l → l ≡ [])
    (λ test f. let lined = some_and_gives (λ c. is_lined c.state) (cleanable_at m s) test in
    no_some (s, lined.0) (f ∙ ap (option_map (λ (c : CleanableOf). (s, c))) lined.1))
    (λ _ f. none_lined_in m line f) e

pub none_lined : (m : Machine) → None ≡ front_of m (from_lined m m.line) → from_lined m m.line ≡ []
none_lined m e = none_lined_in m m.line e

-- the machine after a take-up by the cleaner
pub line_taken_is : (m : Machine) (s : ℕ) (rest : List ℕ) (c : CleanableOf) → from_lined m m.line ≡ s ∷ rest → IsCleanableAt m s c
    → line_taken m (from_lined m m.line) ≡ taken_up (record m { line = rest }) 255 s c
line_taken_is m s rest c e there =
    ap (line_taken m) e ∙ ap (λ (o : Option Object).
    elim (option_and_then as_cleanable o) as (λ _. Machine) [
      | None ↦ record m { line = rest }
      | Some x ↦
          taken_up (record m { line = rest }) 255 s x
    ]) there

pub line_answer_is : (m : Machine) (s : ℕ) (rest : List ℕ) (c : CleanableOf) → from_lined m m.line ≡ s ∷ rest → IsCleanableAt m s c
    → c.state ≡ Lined → line_answer m (from_lined m m.line) ≡ Some (JobAnswer c.action c.work)
line_answer_is m s rest c e there lined =
    ap (line_answer m) e
    ∙ ap (λ (o : Option Object). option_map take_up_answer (option_and_then as_cleanable o)) there
    ∙ ap (λ (state : CleanState). Some (cond (is_spent state) AlreadyDone (JobAnswer c.action c.work))) lined

-- what a take-up by the cleaner leaves, where the heap has taken its front off the line
pub lined_taken :
    {R : Type 0} (old new : Cleanings R) (g h : Graph) (cycle : Bool) (s : ℕ) (rest : List ℕ) (c : CleanableOf) (l : List ℕ) → l ≡ s ∷ rest
    → in_machine (frame old cycle) h ≡ front_spent (machine_with old g cycle) l
    → ((x : Machine) → with_cleanings new (with_object x s (with_cleanable spent)) ≡ taken_up (with_cleanings old x) 255 s c)
    → machine_with new h cycle ≡ taken_up (record (machine_with old g cycle) { line = rest }) 255 s c
lined_taken old new g h cycle s rest c l e left machine =
    ap (with_cleanings new) (left ∙ ap (front_spent (machine_with old g cycle)) e)
    ∙ machine (record (machine_with old g cycle) { line = rest })

pub unspent_when_lined : (state : CleanState) → state ≡ Lined → state ≡ Spent → ⊥
unspent_when_lined state lined spent = absurd (cc (lined, spent))

-- the heap is as long
front_as_long : (m : Machine) (l : List ℕ) → length (front_spent m l).objects ≡ length m.objects
front_as_long m [] = refl
front_as_long m (s ∷ rest) = change_as_long m.objects s (with_cleanable spent)

pub front_long : (m n : Machine) (l : List ℕ) → n ≡ front_spent m l → length n.objects ≡ length m.objects
front_long m n l e = ap (λ (x : Machine). length x.objects) e ∙ front_as_long m l

-- the cleaner may take up where it runs no job
pub line_allowed : (m : Machine) → list_any (λ job. job.by == 255) m.jobs ≡ false → refusal m TakeUp ≡ None
line_allowed m none = ap (λ b. cond b (Some Busy) None) none

-- ---- A take-up by a mutator, as an entry

pub cleanable_there : (m : Machine) (s : ℕ) → some_and is_cleanable (at m.objects s) ≡ true → (c : CleanableOf) × IsCleanableAt m s c
cleanable_there m s e =
    let o = some_and_gives is_cleanable (at m.objects s) e in
    let c = cleanable_of o.0 o.2 in
    (c.0, o.1 ∙ ap {A = Object} {B = Option Object} Some c.1)

pub clean_reply : (m : Machine) (k d s : ℕ) (c : CleanableOf) → slot_named m k d ≡ Some s → IsCleanableAt m s c
    → reply m (Clean k d) ≡ Some (take_up_answer c)
clean_reply m k d s c named there =
    ap (λ (o : Option ℕ). option_map take_up_answer (option_and_then as_cleanable (option_and_then (at m.objects) o))) named
    ∙ ap (λ (o : Option Object). option_map take_up_answer (option_and_then as_cleanable o)) there

pub clean_after : (m : Machine) (k d s : ℕ) (a : Answer) → slot_named m k d ≡ Some s
    → cleaned m k s (cleanable_at m s) ≡ after m (Clean k d) a []
clean_after m k d s a named = ap (λ (o : Option ℕ). on o (λ x. cleaned m k x (cleanable_at m x)) m) (sym named)

pub close_reply : (m : Machine) (k h s : ℕ) (c : CleanableOf) → cleanable_of_guard m k h ≡ Some s → IsCleanableAt m s c
    → reply m (Close k h) ≡ Some (take_up_answer c)
close_reply m k h s c named there =
    ap (λ (o : Option ℕ). option_map take_up_answer (option_and_then (cleanable_at m) o)) named
    ∙ ap (λ (o : Option Object). option_map take_up_answer (option_and_then as_cleanable o)) there

pub close_after : (m : Machine) (k h s : ℕ) (a : Answer) → cleanable_of_guard m k h ≡ Some s
    → cleaned m k s (cleanable_at m s) ≡ after m (Close k h) a []
close_after m k h s a named = ap (λ (o : Option ℕ). on o (λ x. cleaned m k x (cleanable_at m x)) m) (sym named)

-- ---- A number is taken, where one is left

pub numbered : {R : Type 0} (o : Option ℕ) (place : ℕ) (old new : Cleanings R) → nat_le (2 ^ 64 - 1) old.next_action ≡ false
    → IfSome o (λ _. new ≡ after_register old place) → IfNone o ((old.next_action ≡ 2 ^ 64 - 1) × (new ≡ old))
    → new ≡ after_register old place
numbered None place old new left given none = absurd (omega (arith, none.0, leb-false (2 ^ 64 - 1) old.next_action left))
numbered (Some action) place old new left given none = given
