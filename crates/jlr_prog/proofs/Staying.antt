-- Asks that leave mutator 0 joined, and its call as it is.
use Rattle.std.proofs.Common.{◌≡◌, ℕ, List, [], ◌∷◌, Option, Some, None, refl, sym, ◌∙◌, subst, option_and_then}
use Rattle.jlr_types.specs.declared.Refusal.{Refusal}
use Rattle.jlr_machine.specs.declared.object.Object.{Object}
use Rattle.jlr_machine.specs.declared.machine.Machine.{Machine}
use Rattle.jlr_machine.specs.declared.machine.Session.{Session}
use Rattle.jlr_machine.specs.declared.machine.Call.{Call}
use Rattle.jlr_machine.specs.declared.machine.Job.{Job as JobOf}
use Rattle.jlr_machine.specs.declared.ask.Ask.{Ask}
use Rattle.jlr_machine.specs.declared.ask.Ask.TheVariants.{HandOver, TakeUp, Finish}
use Rattle.jlr_machine.specs.declared.ask.Outcome.{Outcome}
use Rattle.jlr_machine.specs.declared.ask.Outcome.TheVariants.{Ok as OutcomeOk, Failed}
use Rattle.jlr_machine.specs.declared.ask.Answer.{Answer}
use Rattle.jlr_machine.specs.declared.ask.Answer.TheVariants.{Refused}
use Rattle.jlr_machine.specs.declared.ask.Handed.{Handed as HandedOver}
use Rattle.jlr_machine.specs.declared.ask.Handed.TheVariants.{Queued as HandedQueued, Lined as HandedLined, Skipped, Nothing}
use Rattle.jlr_machine.specs.declared.machine.ResourceState.{ResourceState}
use Rattle.jlr_machine.specs.declared.machine.ResourceState.TheVariants.{Closing}
use Rattle.jlr_machine.specs.declared.object.Cleanable.{Cleanable as CleanableOf}
use Rattle.jlr_machine.specs.declared.entry.Entry.{Entry}
use Rattle.jlr_machine.specs.declared.entry.Collected.{Collected}
use Rattle.jlr_machine.specs.Objects.{at, with_reference, as_reference, queue_ahead}
use Rattle.jlr_machine.specs.Lookups.{with_object, with_session, rid_of, job_of, cleanable_at, on}
use Rattle.jlr_machine.specs.Calls.{after, made, with_given, unreferred, to_queue, enqueued, polled, handed, delivered, handed_over}
use Rattle.jlr_machine.specs.Calls.{with_work_state, without_work_resource, taken_up, line_taken, from_lined, finished, free_again}
use Rattle.jlr_machine.specs.Run.{with_collection, carried, apply}
use Rattle.jlr_machine.specs.WellFormed.{IsCallOf}
use Rattle.jlr_laws.proofs.Changes.{change_here}

module _ (call : Call) where
  abbrev pub IsIn : Machine → Type 0
  IsIn m = IsCallOf m 0 call

  -- what the machine does for an ask leaves it so
  abbrev pub Stays : Ask → Type 0
  Stays ask = (m : Machine) (answer : Answer) (fresh : List ℕ) → IsIn m → IsIn (after m ask answer fresh)

  -- ---- Pieces of changes

  pub changed : (m : Machine) (f : Session → Session) → ((s : Session) → (f s).call ≡ s.call) → IsIn m → IsIn (with_session m 0 f)
  changed m f same h = (f h.0, change_here m.mutators 0 f h.0 h.1, same h.0 ∙ h.2)

  pub given_stays : (m : Machine) (s : Option ℕ) → IsIn m → IsIn (with_given m 0 s)
  given_stays m None h = h
  given_stays m (Some s) h = changed m _ (λ s. refl) h

  pub made_stays : (m : Machine) (o : Object) (fresh : List ℕ) → IsIn m → IsIn (made m 0 fresh o)
  made_stays m o [] h = h
  made_stays m o (s ∷ fresh) h = changed m _ (λ s. refl) h

  pub put_stays : (m : Machine) (f : Object → Object) (s : Option ℕ) → IsIn m → IsIn (on s (λ s. with_object m s f) m)
  put_stays m f None h = h
  put_stays m f (Some s) h = h

  to_queue_stays : (m : Machine) (s : ℕ) (q : Option ℕ) → IsIn m → IsIn (to_queue m s q)
  to_queue_stays m s None h = h
  to_queue_stays m s (Some q) h = h

  enqueued_stays : (m : Machine) (s : ℕ) → IsIn m → IsIn (enqueued m s)
  enqueued_stays m s h =
      to_queue_stays (with_object m s (with_reference unreferred)) s
      (option_and_then queue_ahead (option_and_then as_reference (at m.objects s))) h

  pub asked_enqueue_stays : (m : Machine) (s : Option ℕ) → IsIn m → IsIn (on s (enqueued m) m)
  asked_enqueue_stays m None h = h
  asked_enqueue_stays m (Some s) h = enqueued_stays m s h

  polled_stays : (m : Machine) (q : ℕ) (s : Option ℕ) → IsIn m → IsIn (polled m q s)
  polled_stays m q None h = h
  polled_stays m q (Some s) h = h

  pub asked_poll_stays : (m : Machine) (q s : Option ℕ) → IsIn m → IsIn (on q (λ q. with_given (polled m q s) 0 s) m)
  asked_poll_stays m None s h = h
  asked_poll_stays m (Some q) s h = given_stays (polled m q s) s (polled_stays m q s h)

  pub bound_stays : (m : Machine) (f : ℕ → Machine) (s : Option ℕ) → ((s : ℕ) → IsIn m → IsIn (f s)) → IsIn m → IsIn (on s f m)
  bound_stays m f None kept h = h
  bound_stays m f (Some s) kept h = kept s h

  -- ---- The handler

  delivered_stays : (m : Machine) (s : ℕ) (k : HandedOver) → IsIn m → IsIn (delivered m s k)
  delivered_stays m s HandedQueued h = enqueued_stays m s h
  delivered_stays m s HandedLined h = h
  delivered_stays m s Skipped h = h
  delivered_stays m s Nothing h = h

  handed_over_stays : (m : Machine) (pending : List ℕ) → IsIn m → IsIn (handed_over m pending)
  handed_over_stays m [] h = h
  handed_over_stays m (s ∷ rest) h =
      elim (at m.objects s) as (λ o. IsIn (elim o as (λ _. Machine) [
        | None ↦ record m { pending = rest }
        | Some o ↦
            delivered (record m { pending = rest }) s (handed o)
      ])) [
        | None ↦ h
        | Some o ↦ delivered_stays (record m { pending = rest }) s (handed o) h
      ]

  pub hand_over_stays : Stays HandOver
  hand_over_stays m answer fresh h = handed_over_stays m m.pending h

  -- ---- The cleaner, which is 255

  work_state_stays : (m : Machine) (rid : Option ℕ) (state : ResourceState) → IsIn m → IsIn (with_work_state m rid state)
  work_state_stays m None state h = h
  work_state_stays m (Some rid) state h = h

  pub taken_up_stays : (m : Machine) (by s : ℕ) (c : CleanableOf) → IsIn m → IsIn (taken_up m by s c)
  taken_up_stays m by s c h = work_state_stays _ (rid_of c.work) Closing h

  line_taken_stays : (m : Machine) (line : List ℕ) → IsIn m → IsIn (line_taken m line)
  line_taken_stays m [] h = h
  line_taken_stays m (s ∷ rest) h =
      elim (cleanable_at m s) as (λ c. IsIn (elim c as (λ _. Machine) [
        | None ↦ record m { line = rest }
        | Some c ↦
            taken_up (record m { line = rest }) 255 s c
      ])) [
        | None ↦ h
        | Some c ↦ taken_up_stays (record m { line = rest }) 255 s c h
      ]

  pub take_up_stays : Stays TakeUp
  take_up_stays m answer fresh h = line_taken_stays m (from_lined m m.line) h

  work_resource_stays : (m : Machine) (rid : Option ℕ) → IsIn m → IsIn (without_work_resource m rid)
  work_resource_stays m None h = h
  work_resource_stays m (Some rid) h = h

  pub finished_stays : (m : Machine) (job : JobOf) (outcome : Outcome) → IsIn m → IsIn (finished m job outcome)
  finished_stays m job OutcomeOk h = work_resource_stays _ (rid_of job.work) h
  finished_stays m job (Failed fault) h = work_resource_stays _ (rid_of job.work) h

  asked_finish_stays : (m : Machine) (outcome : Outcome) (job : Option JobOf) → IsIn m
      → IsIn (on job (λ job. free_again (finished m job outcome) 255) m)
  asked_finish_stays m outcome None h = h
  asked_finish_stays m outcome (Some job) h = finished_stays m job outcome h

  pub finish_stays : (action : ℕ) (outcome : Outcome) → Stays (Finish 255 action outcome)
  finish_stays action outcome m answer fresh h = asked_finish_stays m outcome (job_of m action) h

  -- ---- Entries

  pub collected_stays : (m : Machine) (c : Option Collected) → IsIn m → IsIn (with_collection m c)
  collected_stays m None h = h
  collected_stays m (Some c) h = h

  carried_stays : (m : Machine) (ask : Ask) (answer : Answer) (fresh : List ℕ) → IsIn m → IsIn (after m ask answer fresh)
      → IsIn (carried m ask answer fresh)
  carried_stays m ask (Refused by) fresh h n = h
  carried_stays m ask a fresh h n = n

  pub entry_stays : (m : Machine) (e : Entry) → Stays e.ask → IsIn m → IsIn (apply m e)
  entry_stays m e stays h =
      let n = with_collection m e.choice.collected in
      let there = collected_stays m e.choice.collected h in
      carried_stays n e.ask e.answer e.choice.fresh there (stays n e.answer e.choice.fresh there)

  -- a refused ask leaves it so, whatever it is
  pub refused_stays : (m : Machine) (e : Entry) (by : Refusal) → e.answer ≡ Refused by → IsIn m → IsIn (apply m e)
  refused_stays m e by refused h =
      let n = with_collection m e.choice.collected in
      subst (λ a. IsIn (carried n e.ask a e.choice.fresh)) (sym refused) (collected_stays m e.choice.collected h)
