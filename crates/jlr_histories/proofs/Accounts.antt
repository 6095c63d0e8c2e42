-- What a machine keeps of jobs, and which asks leave it.
use Rattle.std.proofs.Common.{replicate, ◌≡◌, ℕ, ◌+◌, Bool, true, false, List, [], ◌∷◌, ◌++◌, map, refl, ◌∙◌, Option, Some, None}
use Rattle.std.proofs.Common.{option_and_then, slice_get}
use Rattle.std.proofs.lemmas.Bool.{both_ways}
use Rattle.jlr_types.specs.declared.FieldValue.TheVariants.{Int as IntValue, Ref as RefValue}
use Rattle.jlr_machine.specs.declared.object.Object.{Object}
use Rattle.jlr_machine.specs.declared.object.Contents.TheVariants.{Typed, Elements}
use Rattle.jlr_machine.specs.declared.object.Object.TheVariants.{Plain, Reference, Queue, Cleaner}
use Rattle.jlr_machine.specs.declared.object.RefState.TheVariants.{Fresh}
use Rattle.jlr_machine.specs.declared.machine.Machine.{Machine}
use Rattle.jlr_machine.specs.declared.machine.Job.{Job as JobOf}
use Rattle.jlr_machine.specs.declared.machine.Failure.{Failure}
use Rattle.jlr_machine.specs.declared.machine.Call.TheVariants.{Free}
use Rattle.jlr_machine.specs.declared.machine.ResourceState.TheVariants.{Idle}
use Rattle.jlr_machine.specs.declared.ask.Outcome.{Outcome}
use Rattle.jlr_machine.specs.declared.ask.Outcome.TheVariants.{Ok as OutcomeOk, Failed}
use Rattle.jlr_machine.specs.declared.ask.Handed.{Handed}
use Rattle.jlr_machine.specs.declared.ask.Handed.TheVariants.{Queued as HandedQueued, Lined as HandedLined, Skipped, Nothing}
use Rattle.jlr_machine.specs.declared.ask.Ask.{Ask}
use Rattle.jlr_machine.specs.declared.ask.Ask.TheVariants.{New, Put, Get, SetInt, Dup, MakeRef, Deref, Clear, Enqueue, MakeQueue, Poll}
use Rattle.jlr_machine.specs.declared.ask.Ask.TheVariants.{Remove, MakeCleaner, Register, Clean, Prepare, Opened, CheckOut, CheckIn, Close}
use Rattle.jlr_machine.specs.declared.ask.Ask.TheVariants.{Finish, Bind, Find, HandOver, TakeUp, Array}
use Rattle.jlr_machine.specs.declared.ask.Answer.{Answer}
use Rattle.jlr_machine.specs.declared.ask.Answer.TheVariants.{Prepared, Refused}
use Rattle.jlr_machine.specs.declared.entry.Collected.{Collected}
use Rattle.jlr_machine.specs.Objects.{at, as_reference, with_reference, with_field, queue_ahead}
use Rattle.jlr_machine.specs.Lookups.{slot_named, guard_named, on, without_job, last_256, with_state, with_object, with_handle, with_new}
use Rattle.jlr_machine.specs.Lookups.{with_call, bound, blank}
use Rattle.jlr_machine.specs.Refusals.{given}
use Rattle.jlr_machine.specs.Calls.{after, handed, made, registered, with_given, to_queue, unreferred, enqueued, polled, poll_given}
use Rattle.jlr_machine.specs.Calls.{delivered, handed_over, guard_fenced, fence_of, opened, checked_out, checked_in, noted, prepared_in}
use Rattle.jlr_machine.specs.Run.{with_collection, carried}
use Rattle.jlr_laws.proofs.Keyed.{keyed_with}

-- ---- The account

-- those that run, how many were taken up, and what is recorded of those that are over
pub record Account : Type 0 where
  pub jobs : List JobOf
  pub taken : ℕ
  pub ok : ℕ
  pub failed : ℕ
  pub notes : List ℕ
  pub faults : List Failure

abbrev pub account : Machine → Account
account m = record { jobs = m.jobs; taken = m.taken; ok = m.ok; failed = m.failed; notes = m.notes; faults = m.faults }

abbrev pub action_key : JobOf → ℕ
action_key job = job.action

-- with one more that runs
abbrev pub begun : Machine → JobOf → Account
begun m job = record (account m) { jobs = keyed_with action_key m.jobs job; taken = m.taken + 1 }

-- with one that is over
abbrev pub ended : Machine → JobOf → Outcome → Account
ended m job OutcomeOk = record (account m) { jobs = without_job m.jobs job.action; ok = m.ok + 1; notes = noted m.notes job.work }
ended m job (Failed fault) = record (account m) {
  jobs = without_job m.jobs job.action;
  failed = m.failed + 1;
  faults = last_256 (m.faults ++ record { action = job.action; fault = fault } ∷ []);
}

-- ---- Changes that leave it

kept_on : {A : Type 0} (m : Machine) (o : Option A) (f : A → Machine) → ((x : A) → account (f x) ≡ account m)
    → account (on o f m) ≡ account m
kept_on m None f h = refl
kept_on m (Some x) f h = h x

given_kept : (m : Machine) (k : ℕ) (o : Option ℕ) → account (with_given m k o) ≡ account m
given_kept m k o = kept_on m o (with_handle m k) (λ s. refl)

to_queue_kept : (m : Machine) (s : ℕ) (o : Option ℕ) → account (to_queue m s o) ≡ account m
to_queue_kept m s None = refl
to_queue_kept m s (Some q) = refl

enqueued_kept : (m : Machine) (s : ℕ) → account (enqueued m s) ≡ account m
enqueued_kept m s = to_queue_kept (with_object m s (with_reference unreferred)) s
    (option_and_then queue_ahead (option_and_then as_reference (at m.objects s)))

polled_kept : (m : Machine) (q : ℕ) (o : Option ℕ) → account (polled m q o) ≡ account m
polled_kept m q None = refl
polled_kept m q (Some s) = refl

poll_kept : (m : Machine) (k h : ℕ) (o : Option ℕ) → account (poll_given m k h o) ≡ account m
poll_kept m k h o =
    kept_on m (slot_named m k h) (λ q. with_given (polled m q o) k o) (λ q. given_kept (polled m q o) k o ∙ polled_kept m q o)

made_kept : (m : Machine) (k : ℕ) (fresh : List ℕ) (o : Object) → account (made m k fresh o) ≡ account m
made_kept m k fresh o = kept_on m (slice_get fresh 0) (λ s. with_handle (with_new m s o) k s) (λ s. refl)

prepared_kept : (m : Machine) (k : ℕ) (fresh : List ℕ) (rid : ℕ) → account (prepared_in m k fresh rid) ≡ account m
prepared_kept m k [] rid = refl
prepared_kept m k (g ∷ []) rid = refl
prepared_kept m k (g ∷ c ∷ []) rid = refl
prepared_kept m k (g ∷ c ∷ x ∷ rest) rid = refl

delivered_kept : (m : Machine) (s : ℕ) (h : Handed) → account (delivered m s h) ≡ account m
delivered_kept m s HandedQueued = enqueued_kept m s
delivered_kept m s HandedLined = refl
delivered_kept m s Skipped = refl
delivered_kept m s Nothing = refl

handed_over_kept : (m : Machine) (slots : List ℕ) → account (handed_over m slots) ≡ account m
handed_over_kept m [] = refl
handed_over_kept m (s ∷ rest) =
    elim (at m.objects s) as (λ o. account (elim o as (λ _. Machine) [
      | None ↦ record m { pending = rest }
      | Some o ↦
          delivered (record m { pending = rest }) s (handed o)
    ]) ≡ account m) [
      | None ↦ refl
      | Some o ↦ delivered_kept (record m { pending = rest }) s (handed o)
    ]

-- an ask that takes a job up, or ends one
abbrev pub works : Ask → Bool
works (Clean k h) = true
works (Close k h) = true
works (Finish by action outcome) = true
works TakeUp = true
works _ = false

pub kept : (m : Machine) (ask : Ask) (a : Answer) (fresh : List ℕ) → works ask ≡ false → account (after m ask a fresh) ≡ account m
kept m (New k layout) a fresh t = made_kept m k fresh (Plain (Typed (map blank layout)))
kept m (Array k size) a fresh t = made_kept m k fresh (Plain (Elements (replicate size None)))
kept m (Put k h f v) a fresh t =
    kept_on m (slot_named m k h) (λ s. with_object m s (with_field f (RefValue (slot_named m k v)))) (λ s. refl)
kept m (Get k h f) a fresh t = given_kept m k (given m (Get k h f))
kept m (SetInt k h f v) a fresh t = kept_on m (slot_named m k h) (λ s. with_object m s (with_field f (IntValue v))) (λ s. refl)
kept m (Dup k h) a fresh t = given_kept m k (given m (Dup k h))
kept m (MakeRef k kind h q) a fresh t =
    made_kept m k fresh (Reference (record { kind = kind; referent = slot_named m k h; queue = slot_named m k q; state = Fresh }))
kept m (Deref k h) a fresh t = given_kept m k (given m (Deref k h))
kept m (Clear k h) a fresh t = kept_on m (slot_named m k h) (λ s. with_object m s (with_reference unreferred)) (λ s. refl)
kept m (Enqueue k h) a fresh t = kept_on m (slot_named m k h) (enqueued m) (enqueued_kept m)
kept m (MakeQueue k) a fresh t = made_kept m k fresh (Queue [])
kept m (Poll k h) a fresh t = poll_kept m k h (given m (Poll k h))
kept m (Remove k h) a fresh t = poll_kept m k h (given m (Remove k h))
kept m (MakeCleaner k) a fresh t = made_kept m k fresh Cleaner
kept m (Register k d h note) a fresh t = made_kept m k fresh (registered m k h note)
kept m (Prepare k) (Prepared rid) fresh t = prepared_kept m k fresh rid
kept m (Prepare k) a fresh t = refl
kept m (Opened k OutcomeOk) a fresh t = kept_on m (guard_fenced m k) (λ g. opened m k g OutcomeOk)
    (λ g. given_kept (with_call (with_state m g.rid Idle) k None Free) k (fence_of m k))
kept m (Opened k (Failed fault)) a fresh t = kept_on m (guard_fenced m k) (λ g. opened m k g (Failed fault)) (λ g. refl)
kept m (CheckOut k h) a fresh t = kept_on m (guard_named m k h) (checked_out m k (slot_named m k h)) (λ g. refl)
kept m (CheckIn k outcome) a fresh t = kept_on m (guard_fenced m k) (checked_in m k) (λ g. refl)
kept m (Bind k name h) a fresh t = kept_on m (slot_named m k h) (λ s. record m { names = bound m.names name s }) (λ s. refl)
kept m (Find k name) a fresh t = given_kept m k (given m (Find k name))
kept m HandOver a fresh t = handed_over_kept m m.pending
kept m (Clean k h) a fresh t = absurd (both_ways true t refl)
kept m (Close k h) a fresh t = absurd (both_ways true t refl)
kept m (Finish by action outcome) a fresh t = absurd (both_ways true t refl)
kept m TakeUp a fresh t = absurd (both_ways true t refl)
kept m ask a fresh t = refl

pub collected_kept : (m : Machine) (o : Option Collected) → account (with_collection m o) ≡ account m
collected_kept m None = refl
collected_kept m (Some x) = refl

pub carried_kept : (n : Machine) (ask : Ask) (a : Answer) (fresh : List ℕ) → account (after n ask a fresh) ≡ account n
    → account (carried n ask a fresh) ≡ account n
carried_kept n ask (Refused by) fresh h = refl
carried_kept n ask a fresh h = h
