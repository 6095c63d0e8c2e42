-- What each ask of mutator 0, of the handler and of the cleaner does to mutator 0, where it is recorded.
use Rattle.std.proofs.Common.{◌≡◌, ap, ℕ, List, Option, Some, None, Result, true, false, inl, inr, refl, sym, subst}
use Rattle.std.specs.Prelude.{MatchResult}
use Rattle.jlr_types.specs.declared.Fault.{Fault}
use Rattle.jlr_types.specs.declared.Refusal.{Refusal}
use Rattle.jlr_machine.specs.declared.machine.Machine.{Machine}
use Rattle.jlr_machine.specs.declared.machine.Call.TheVariants.{Free, Opening as CallOpening, Out as CallOut, Job as CallJob}
use Rattle.jlr_machine.specs.declared.ask.CallOutcome.{CallOutcome}
use Rattle.jlr_machine.specs.declared.ask.Outcome.{Outcome}
use Rattle.jlr_machine.specs.declared.ask.Ask.{Ask}
use Rattle.jlr_machine.specs.declared.ask.Ask.TheVariants as ask
use Rattle.jlr_machine.specs.declared.ask.Answer.{Answer}
use Rattle.jlr_machine.specs.declared.ask.Answer.TheVariants.{Out, Refused}
use Rattle.jlr_machine.specs.declared.entry.Entry.{Entry}
use Rattle.jlr_machine.specs.Chosen.{Chosen}
use Rattle.jlr_machine.specs.Refusals.{is_end}
use Rattle.jlr_machine.specs.Run.{IsLegal, apply}
use Rattle.jlr_machine.specs.WellFormed.{IsCallOf}
use Rattle.jlr_resource.specs.Resources.{Resources}
use Rattle.jlr_cleaner.specs.declared.job.Job.{Job as JobOf}
use Rattle.jlr_event.specs.declared.event.Event.{Event}
use Rattle.jlr_event.specs.declared.event.Event.TheVariants as event
use Rattle.jlr_event.specs.declared.event.Reply.{Reply}
use Rattle.jlr_event.specs.declared.event.Reply.TheVariants.{Answered}
use Rattle.jlr_event.specs.Events.{ask_of, answer_in, resource_of_reply, outcome_of}
use Rattle.jlr_book.specs.Cores.{GoesOut, entry_of}
use Rattle.jlr_session.specs.Asks.{room_prepared, prepared_by, out_with, out_by, job_with, job_by}
use Rattle.jlr_book.specs.Histories.{History}
use Rattle.jlr_book.specs.Rules.{BookSteps}
use Rattle.jlr_prog.specs.Solos.{at_book}
use Rattle.jlr_book.specs.Histories.{cleaner_seat, handler_seat}
use Rattle.jlr_prog.specs.Wholes.{WholeRun, WholeSteps, at_whole}
use Rattle.jlr_prog.proofs.Staying.{Stays, entry_stays, hand_over_stays, take_up_stays, finish_stays}
use Rattle.jlr_prog.proofs.Calls.{IsHere, WasRefused, BeginsToOpen, BeginsToCall, BeginsToWork, prepare_begins, check_out_begins}
use Rattle.jlr_prog.proofs.Calls.{opened_ends, check_in_ends, finish_ends}
use Rattle.jlr_prog.proofs.Recorded.{Follows, IsWhole, LeadsOn, recorded, end_recorded}
use Rattle.jlr_prog.proofs.Turning.{IsSettledAlong}

-- mutator 0 is about to open a file or to join a socket; it has one out for a call
abbrev pub IsOpening : Machine → Type 0
IsOpening n = (rid : ℕ) × IsCallOf n 0 (CallOpening rid)

abbrev pub IsOut : Machine → Type 0
IsOut n = (rid : ℕ) × IsCallOf n 0 (CallOut rid)

prepared_leads : (answer : Answer) (n : Machine) → BeginsToOpen answer n
    → MatchResult (room_prepared answer) (λ _. IsOpening n) (λ _. IsHere n)
prepared_leads answer n (inl b) = subst (λ a. MatchResult (room_prepared a) (λ _. IsOpening n) (λ _. IsHere n)) (sym b.1) (b.0, b.2)
prepared_leads answer n (inr r) = subst (λ a. MatchResult (room_prepared a) (λ _. IsOpening n) (λ _. IsHere n)) (sym r.0.1) r.1

module _ {R : Type 0} (m : Machine) (front : List Entry) where
  -- ---- Asks that leave mutator 0 alone

  abbrev pub IsAskOf : ℕ → (Machine → Type 0) → (Machine → Type 0) → Event R → Type 0
  IsAskOf seat P Q e = (h k : History R) (x : WholeRun R) (reply : Reply R) → BookSteps seat h e reply k → IsWhole m front P h x
      → Follows m front Q seat e reply k x

  abbrev pub IsAskFrom : (Machine → Type 0) → (Machine → Type 0) → Event R → Type 0
  IsAskFrom = IsAskOf 0

  -- an ask that is no end, of a mutator that has no call in flight
  from_here : (Q : Machine → Type 0) (e : Event R) (asked : Ask) → ask_of e ≡ Some asked → is_end asked ≡ false
      → (seat : ℕ) (h k : History R) (x : WholeRun R) (reply : Reply R) → BookSteps seat h e reply k
      → LeadsOn IsHere Q e asked reply → ((n : Machine) → IsHere n → (by : Refusal) (resource : Option R)
      → reply ≡ Answered (Refused by) resource → Q n) → IsWhole m front IsHere h x → Follows m front Q seat e reply k x
  from_here Q e asked is end seat h k x reply steps leads nowhere w =
      recorded m front IsHere Q e asked is end (λ n seen here. here) seat h k x reply steps leads
      (λ n by resource same said here. nowhere n here by resource said) w

  stays_leads : (e : Event R) (asked : Ask) → Stays Free asked → (reply : Reply R) → LeadsOn IsHere IsHere e asked reply
  stays_leads e asked stays reply h k chosen s n answer resource r w here l = entry_stays Free n (entry_of asked answer chosen) stays here

  pub stays_along : (seat : ℕ) (e : Event R) (asked : Ask) → ask_of e ≡ Some asked → is_end asked ≡ false → Stays Free asked
      → IsAskOf seat IsHere IsHere e
  stays_along seat e asked is end stays h k x reply steps w =
      from_here IsHere e asked is end seat h k x reply steps (stays_leads e asked stays reply) (λ n here by resource said. here) w

  end_stays_along : (seat : ℕ) (e : Event R) (asked : Ask) → ask_of e ≡ Some asked → is_end asked ≡ true → Stays Free asked
      → IsAskOf seat IsHere IsHere e
  end_stays_along seat e asked is end stays h k x reply steps w =
      end_recorded m front IsHere IsHere e asked is end seat h k x reply steps (stays_leads e asked stays reply) w

  -- of the handler and the cleaner, whose seats the book tells
  of_handler : (h : History R) (x : WholeRun R) (e : Event R) (reply : Reply R) (y : WholeRun R) → x.book ≡ h
      → WholeSteps (handler_seat h) x e reply y → WholeSteps (handler_seat x.book) x e reply y
  of_handler h x e reply y is steps = subst (λ b. WholeSteps (handler_seat b) x e reply y) (sym is) steps

  of_cleaner : (h : History R) (x : WholeRun R) (e : Event R) (reply : Reply R) (y : WholeRun R) → x.book ≡ h
      → WholeSteps (cleaner_seat h) x e reply y → WholeSteps (cleaner_seat x.book) x e reply y
  of_cleaner h x e reply y is steps = subst (λ b. WholeSteps (cleaner_seat b) x e reply y) (sym is) steps

  pub settled_along : IsSettledAlong {R = R} at_book at_whole (IsWhole m front IsHere)
  settled_along = record {
    hands_over = λ h k x reply steps w.
        let d = stays_along (handler_seat h) (event.Ask ask.HandOver) ask.HandOver refl refl (hand_over_stays Free) h k x reply steps w in
        (d.0, of_handler h x (event.Ask ask.HandOver) reply d.0 w.is d.1, d.2);
    takes_up = λ h k x reply steps w.
        let d = stays_along (cleaner_seat h) (event.Ask ask.TakeUp) ask.TakeUp refl refl (take_up_stays Free) h k x reply steps w in
        (d.0, of_cleaner h x (event.Ask ask.TakeUp) reply d.0 w.is d.1, d.2);
    finishes = λ action outcome h k x reply steps w.
        let e : Event R = event.Ask (ask.Finish 255 action outcome) in
        let d = end_stays_along (cleaner_seat h) e (ask.Finish 255 action outcome) refl refl (finish_stays Free action outcome) h k x reply
        steps w in
        (d.0, of_cleaner h x e reply d.0 w.is d.1, d.2);
    same_pending = λ h x w. ap {A = History R} {B = List ℕ} (λ b. b.core.machine.pending) w.is;
    same_line = λ h x w. ap {A = History R} {B = List ℕ} (λ b. b.core.machine.line) w.is;
  }

  -- ---- Calls: a first ask that begins one where its reply leads on, and the second asks that may follow, which end it

  pub record IsCallAlong {Y : Type 0} (first : Event R) (leads : Reply R → Result Y Answer) (comes_to : Y → Event R → Type 0)
      (T : Y → Machine → Type 0) : Type 0 where
    pub begins : (h k : History R) (x : WholeRun R) (reply : Reply R) → BookSteps 0 h first reply k → IsWhole m front IsHere h x
        → Follows m front (λ n. MatchResult (leads reply) (λ w. T w n) (λ _. IsHere n)) 0 first reply k x
    pub ends : (w : Y) (second : Event R) → comes_to w second → IsAskFrom (T w) IsHere second

  -- ---- A file is opened, or a socket is joined

  opened_along : (outcome : Result R Fault) → IsAskFrom IsOpening IsHere (event.Opened 0 outcome)
  opened_along outcome h k x reply steps a =
      end_recorded m front IsOpening IsHere (event.Opened 0 outcome) (ask.Opened 0 (outcome_of outcome)) refl refl 0 h k x reply steps
      (λ h k chosen s n answer resource r w busy l. opened_ends n (outcome_of outcome) answer chosen busy.0 w busy.1 l) a

  pub opens_along : (comes_to : Unit {0} → Event R → Type 0)
      → ((u : Unit {0}) (e : Event R) → comes_to u e → (outcome : Result R Fault) × (e ≡ event.Opened 0 outcome))
      → IsCallAlong (event.Ask (ask.Prepare 0)) prepared_by comes_to (λ u. IsOpening)
  opens_along comes_to second = record {
    begins = λ h k x reply steps a.
        let Q : Machine → Type 0 = λ n. MatchResult (prepared_by reply) (λ _. IsOpening n) (λ _. IsHere n) in
        from_here Q (event.Ask (ask.Prepare 0)) (ask.Prepare 0) refl refl 0 h k x reply steps
        (λ h k chosen s n answer resource r w here l.
        let o : Machine = apply n (entry_of (ask.Prepare 0) answer chosen) in
        subst (λ q. MatchResult (prepared_by q) (λ _. IsOpening o) (λ _. IsHere o)) (sym r)
        (prepared_leads answer o (prepare_begins n answer chosen here l)))
        (λ n here by resource said. subst (λ q. MatchResult (prepared_by q) (λ _. IsOpening n) (λ _. IsHere n)) (sym said) here) a;
    ends = λ u e c. let o = second u e c in subst (IsAskFrom IsOpening IsHere) (sym o.1) (opened_along o.0);
  }

  -- ---- A file or a socket is read or written

  -- with the answer goes the file or the socket
  out_goes : (t : Resources R) (rid : ℕ) (resource : Option R) (n : Machine) → GoesOut t None (Some (Out rid)) resource
      → IsCallOf n 0 (CallOut rid)
      → MatchResult (out_with (Out rid) resource) (λ _. IsOut n) (λ _. IsHere n)
  out_goes t rid None n goes b = absurd goes
  out_goes t rid (Some value) n goes b = (rid, b)

  out_refused : (answer : Answer) (resource : Option R) (n : Machine) → WasRefused answer → IsHere n
      → MatchResult (out_with answer resource) (λ _. IsOut n) (λ _. IsHere n)
  out_refused answer resource n r here = subst (λ a. MatchResult (out_with a resource) (λ _. IsOut n) (λ _. IsHere n)) (sym r.1) here

  out_leads : (t : Resources R) (answer : Answer) (resource : Option R) (n : Machine) → GoesOut t None (Some answer) resource
      → BeginsToCall answer n
      → MatchResult (out_with answer resource) (λ _. IsOut n) (λ _. IsHere n)
  out_leads t answer resource n goes (inl b) =
      subst (λ a. MatchResult (out_with a resource) (λ _. IsOut n) (λ _. IsHere n)) (sym b.1)
      (out_goes t b.0 resource n (subst (λ a. GoesOut t None (Some a) resource) b.1 goes) b.2)
  out_leads t answer resource n goes (inr r) = out_refused answer resource n r.0 r.1

  checked_in_along : (outcome : CallOutcome) (value : R) → IsAskFrom IsOut IsHere (event.CheckIn 0 outcome value)
  checked_in_along outcome value h k x reply steps a =
      end_recorded m front IsOut IsHere (event.CheckIn 0 outcome value) (ask.CheckIn 0 outcome) refl refl 0 h k x reply steps
      (λ h k chosen s n answer resource r w busy l. check_in_ends n outcome answer chosen busy.0 w busy.1 l) a

  pub calls_along : (guard : ℕ) (comes_to : R → Event R → Type 0)
      → ((value : R) (e : Event R) → comes_to value e → (outcome : CallOutcome) × (back : R) × (e ≡ event.CheckIn 0 outcome back))
      → IsCallAlong (event.Ask (ask.CheckOut 0 guard)) out_by comes_to (λ value. IsOut)
  calls_along guard comes_to second = record {
    begins = λ h k x reply steps a.
        let Q : Machine → Type 0 = λ n. MatchResult (out_by reply) (λ _. IsOut n) (λ _. IsHere n) in
        from_here Q (event.Ask (ask.CheckOut 0 guard)) (ask.CheckOut 0 guard) refl refl 0 h k x reply steps
        (λ h k chosen s n answer resource r w here l.
        let o : Machine = apply n (entry_of (ask.CheckOut 0 guard) answer chosen) in
        let goes = subst (λ q. GoesOut h.table None (answer_in q) (resource_of_reply q)) r s.goes_out in
        subst (λ q. MatchResult (out_by q) (λ _. IsOut o) (λ _. IsHere o)) (sym r)
        (out_leads h.table answer resource o goes (check_out_begins n guard answer chosen here l)))
        (λ n here by resource said. subst (λ q. MatchResult (out_by q) (λ _. IsOut n) (λ _. IsHere n)) (sym said) here) a;
    ends = λ value e c. let o = second value e c in subst (IsAskFrom IsOut IsHere) (sym o.2) (checked_in_along o.0 o.1);
  }

  -- ---- A cleaning action is taken up

  abbrev pub IsAtWork : JobOf R → Machine → Type 0
  IsAtWork job n = IsCallOf n 0 (CallJob job.action)

  job_leads : (answer : Answer) (resource : Option R) (n : Machine) → BeginsToWork answer n
      → MatchResult (job_with answer resource) (λ job. IsAtWork job n) (λ _. IsHere n)
  job_leads answer resource n (inl b) = subst (λ a. MatchResult (job_with a resource) (λ job. IsAtWork job n) (λ _. IsHere n)) (sym b.2) b.3
  job_leads answer resource n (inr r) = elim r.0 [
    | inl done ↦ subst (λ a. MatchResult (job_with a resource) (λ job. IsAtWork job n) (λ _. IsHere n)) (sym done) r.1
    | inr refused ↦ subst (λ a. MatchResult (job_with a resource) (λ job. IsAtWork job n) (λ _. IsHere n)) (sym refused.1) r.1
  ]

  finished_along : (job : JobOf R) (outcome : Outcome) → IsAskFrom (IsAtWork job) IsHere (event.Ask (ask.Finish 0 job.action outcome))
  finished_along job outcome h k x reply steps a =
      end_recorded m front (IsAtWork job) IsHere (event.Ask (ask.Finish 0 job.action outcome)) (ask.Finish 0 job.action outcome) refl refl 0
      h k x reply steps
      (λ h k chosen s n answer resource r w busy l. finish_ends n job.action outcome answer chosen w busy l) a

  pub works_along : (first : Event R) (asked : Ask) → ask_of first ≡ Some asked → is_end asked ≡ false
      → ((n : Machine) (answer : Answer) (chosen : Chosen) → IsHere n → IsLegal n (entry_of asked answer chosen)
      → BeginsToWork answer (apply n (entry_of asked answer chosen)))
      → (comes_to : JobOf R → Event R → Type 0) → ((job : JobOf R) (e : Event R) → comes_to job e → (outcome : Outcome)
      × (e ≡ event.Ask (ask.Finish 0 job.action outcome)))
      → IsCallAlong first job_by comes_to IsAtWork
  works_along first asked is end starts comes_to second = record {
    begins = λ h k x reply steps a.
        let Q : Machine → Type 0 = λ n. MatchResult (job_by reply) (λ job. IsAtWork job n) (λ _. IsHere n) in
        from_here Q first asked is end 0 h k x reply steps
        (λ h k chosen s n answer resource r w here l.
        let o : Machine = apply n (entry_of asked answer chosen) in
        subst (λ q. MatchResult (job_by q) (λ job. IsAtWork job o) (λ _. IsHere o)) (sym r)
        (job_leads answer resource o (starts n answer chosen here l)))
        (λ n here by resource said. subst (λ q. MatchResult (job_by q) (λ job. IsAtWork job n) (λ _. IsHere n)) (sym said) here) a;
    ends = λ job e c. let o = second job e c in subst (IsAskFrom (IsAtWork job) IsHere) (sym o.1) (finished_along job o.0);
  }
