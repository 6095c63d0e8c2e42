-- One ask more of a loop.
use Rattle.std.proofs.Common.{◌≡◌, ◌≢◌, ℕ, List, [], ◌∷◌, ◌++◌, Option, Some, None, Result, Ok, Err, refl, sym, inl, inr, subst}
use Rattle.std.proofs.lemmas.List.{append-nil}
use Rattle.jlr_types.specs.declared.Refusal.TheVariants.{NoMemory}
use Rattle.jlr_types.specs.declared.limits.Limits.{Limits}
use Rattle.jlr_machine.specs.declared.ask.Answer.{Answer}
use Rattle.jlr_cleaner.specs.declared.job.Job.{Job}
use Rattle.jlr_device.specs.Handling.{Handling}
use Rattle.jlr_event.specs.declared.event.Event.{Event}
use Rattle.jlr_machine.specs.declared.ask.Answer.TheVariants.{Refused}
use Rattle.jlr_machine.specs.declared.ask.Ask.TheVariants.{Remove, TakeUp}
use Rattle.jlr_event.specs.declared.event.Event.TheVariants.{Ask as Asks}
use Rattle.jlr_event.specs.declared.event.Reply.{Reply}
use Rattle.jlr_event.specs.declared.event.Reply.TheVariants.{Answered}
use Rattle.jlr_session.specs.Asks.{TellsFinished, job_by}
use Rattle.jlr_log.specs.Seeing.{Seen}
use Rattle.jlr_hall.specs.declared.step.Step.{Step}
use Rattle.jlr_hall.specs.OneHistory.{IsWhole}
use Rattle.jlr_hall.specs.Asking.{Asked, AskedIn, HasItsResource, found}
use Rattle.jlr_hall.specs.Due.{HasLine, HasPending, IsDueAt, IsDueIn}
use Rattle.jlr_hall.specs.Locking.{Under}
use Rattle.jlr_hall.specs.Loops.{AsksOnly, AsksInTurn, Cleans, CleansIn, IsCleaners, job_handed}

module _ {R : Type 0} (limits : Limits) where
  -- an ask where it may be asked in the history that it found
  pub record AskedAt (may : List (Step R) → Event R → Type 0) (old : Seen (Step R)) (e : Event R) (reply : Reply R)
      (new : Seen (Step R)) : Type 0 where
    pub asked : Asked limits old e reply new
    pub may_be : may (found limits old e reply new asked) e

  -- one that may be asked in any
  pub asked_anywhere : (may : List (Step R) → Event R → Type 0) (old : Seen (Step R)) (e : Event R) (reply : Reply R) (new : Seen (Step R))
      → ((log : List (Step R)) → may log e) → Asked limits old e reply new → AskedAt may old e reply new
  asked_anywhere may old e reply new is a = record { asked = a; may_be = is (found limits old e reply new a) }

  -- one that may be asked in the history that lay under the lock
  pub asked_there : (may : List (Step R) → Event R → Type 0) (log : List (Step R)) (old : Seen (Step R)) (e : Event R) (reply : Reply R)
      (new : Seen (Step R))
      → may log e → AskedIn limits log old e reply new → AskedAt may old e reply new
  asked_there may log old e reply new is a = record { asked = a.0; may_be = subst (λ (l : List (Step R)). may l e) (sym a.1) is }

  chain_more : (may : List (Step R) → Event R → Type 0) (p : Seen (Step R)) (asks : List (Event R × Reply R)) (q r : Seen (Step R))
      (e : Event R) (reply : Reply R) → AsksInTurn limits may p asks q
      → AskedAt may q e reply r → AsksInTurn limits may p (asks ++ (e, reply) ∷ []) r
  chain_more may p [] q r e reply c a =
      let b = subst (λ (x : Seen (Step R)). AskedAt may x e reply r) c a in
      (r, b.asked, b.may_be, refl)
  chain_more may p (x ∷ asks) q r e reply c a = (c.0, c.1, c.2, chain_more may c.0 asks q r e reply c.3 a)

  -- ---- What a look at the book under the lock tells

  pub due_there : (u v : Under R) → u ≡ v → IsWhole limits u.book u.log → IsDueIn u.book u.log → IsDueAt limits v.log
  due_there u v is whole due = subst (λ (w : Under R). IsDueAt limits w.log) is (u.book, whole, due)

  pub pending_there : (u v : Under R) → u ≡ v → IsWhole limits u.book u.log → (u.book.core.machine.pending ≢ []) → HasPending limits v.log
  pending_there u v is whole some = subst (λ (w : Under R). HasPending limits w.log) is (u.book, whole, some)

  pub line_there : (u v : Under R) → u ≡ v → IsWhole limits u.book u.log → (u.book.core.machine.line ≢ []) → HasLine limits v.log
  line_there u v is whole some = subst (λ (w : Under R). HasLine limits w.log) is (u.book, whole, some)

  -- a seat stays the one that it is
  pub same_seat : (old new : Seen (Step R)) (e : Event R) (reply : Reply R) → Asked limits old e reply new → new.seat ≡ old.seat
  same_seat old new e reply (inl x) = x.seat
  same_seat old new e reply (inr x) = x.seat

  -- a seat declines a `Remove` by itself
  pub declines_remove : (p : Seen (Step R)) (mutator queue : ℕ)
      → Asked limits p (Asks (Remove mutator queue)) (Answered (Refused NoMemory) None) p
  declines_remove p mutator queue = inr (record {
    seat = refl;
    between = [];
    others = refl;
    known = sym (append-nil _);
    ends_nothing = refl;
    by = NoMemory;
    why = inl refl;
    refused = refl;
  })

  -- ---- The marker and the handler

  pub asks_none : (may : List (Step R) → Event R → Type 0) (p : Seen (Step R)) → AsksOnly limits may p p
  asks_none may p = ([], refl)

  pub asks_more : (may : List (Step R) → Event R → Type 0) (e : Event R) (reply : Reply R) (old mid new : Seen (Step R))
      → AsksOnly limits may old mid → AskedAt may mid e reply new → AsksOnly limits may old new
  asks_more may e reply old mid new h a = (h.0 ++ (e, reply) ∷ [], chain_more may old h.0 mid new e reply h.1 a)

-- ---- The cleaner

module _ {R : Type 0} (handling : Handling R) (limits : Limits) where
  pub cleans_none : (p : Seen (Step R)) → CleansIn handling limits p None p
  cleans_none p = ([], refl, refl)

  cleans_more : (first mid last : Option (Job R)) (asks : List (Event R × Reply R)) (x : Event R × Reply R) → Cleans handling first asks mid
      → Cleans handling mid (x ∷ []) last → Cleans handling first (asks ++ x ∷ []) last
  cleans_more first mid last [] x c d = subst (λ (r : Option (Job R)). Cleans handling r (x ∷ []) last) c d
  cleans_more None mid last (y ∷ asks) x c d = (c.0, c.1, cleans_more (job_handed (job_by y.1)) mid last asks x c.2 d)
  cleans_more (Some job) mid last (y ∷ asks) x c d = (c.0, cleans_more None mid last asks x c.1 d)

  -- a take-up, and the job that it gave, if any
  takes : (reply : Reply R) (old mid new : Seen (Step R)) → CleansIn handling limits old None mid
      → AskedAt limits (IsCleaners limits) mid (Asks TakeUp) reply new → HasItsResource reply
      → CleansIn handling limits old (job_handed (job_by reply)) new
  takes reply old mid new h asked its = (
    h.0 ++ (Asks TakeUp, reply) ∷ [],
    chain_more limits (IsCleaners limits) old h.0 mid new (Asks TakeUp) reply h.1 asked,
    cleans_more None None (job_handed (job_by reply)) h.0 (Asks TakeUp, reply) h.2 (refl, its, refl),
  )

  -- where something stood in the line
  taken_up : (log : List (Step R)) (reply : Reply R) (mid new : Seen (Step R)) → HasLine limits log
      → AskedIn limits log mid (Asks TakeUp) reply new → AskedAt limits (IsCleaners limits) mid (Asks TakeUp) reply new
  taken_up log reply mid new line a = asked_there limits (IsCleaners limits) log mid (Asks TakeUp) reply new (λ _. line) a

  pub takes_job : (log : List (Step R)) (reply : Reply R) (job : Job R) (old mid new : Seen (Step R))
      → CleansIn handling limits old None mid → HasLine limits log → AskedIn limits log mid (Asks TakeUp) reply new → HasItsResource reply
      → job_by reply ≡ Ok job
      → CleansIn handling limits old (Some job) new
  takes_job log reply job old mid new h line asked its is =
      subst (λ (r : Result (Job R) Answer). CleansIn handling limits old (job_handed r) new) is
      (takes reply old mid new h (taken_up log reply mid new line asked) its)

  pub takes_none : (log : List (Step R)) (reply : Reply R) (answer : Answer) (old mid new : Seen (Step R))
      → CleansIn handling limits old None mid → HasLine limits log → AskedIn limits log mid (Asks TakeUp) reply new → HasItsResource reply
      → job_by reply ≡ Err answer
      → CleansIn handling limits old None new
  takes_none log reply answer old mid new h line asked its is =
      subst (λ (r : Result (Job R) Answer). CleansIn handling limits old (job_handed r) new) is
      (takes reply old mid new h (taken_up log reply mid new line asked) its)

  -- the end of the job that runs
  no_take_up : (job : Job R) (event : Event R) → TellsFinished handling 255 job event → (log : List (Step R)) → IsCleaners limits log event
  no_take_up job event told log is = absurd (cc (told.2, is))

  pub finishes : (job : Job R) (event : Event R) (reply : Reply R) → TellsFinished handling 255 job event → (old mid new : Seen (Step R))
      → CleansIn handling limits old (Some job) mid → Asked limits mid event reply new → CleansIn handling limits old None new
  finishes job event reply told old mid new h asked = (
    h.0 ++ (event, reply) ∷ [],
    chain_more limits (IsCleaners limits) old h.0 mid new event reply h.1
        (asked_anywhere limits (IsCleaners limits) mid event reply new (no_take_up job event told) asked),
    cleans_more None (Some job) None h.0 (event, reply) h.2 (told, refl),
  )
