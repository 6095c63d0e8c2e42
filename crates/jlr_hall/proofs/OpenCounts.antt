-- No more resources are open than entries were made, so that the counts fit.
use Rattle.std.proofs.Common.{◌≡◌, ◌<◌, ◌≤◌, ◌+◌, ◌-◌, ◌^◌, ℕ, Bool, true, false, cond, List, [], ◌∷◌, ◌++◌, length, length-append, is_some}
use Rattle.std.proofs.Common.{refl, ap, arith}
use Rattle.std.specs.Prelude.{◌==◌, fold}
use Rattle.jlr_types.specs.declared.limits.Limits.{Limits}
use Rattle.jlr_machine.specs.declared.ask.Answer.TheVariants.{Handle}
use Rattle.jlr_machine.specs.Chosen.{Chosen}
use Rattle.jlr_event.specs.declared.event.Event.{Event}
use Rattle.jlr_machine.specs.declared.ask.Ask.TheVariants.{Clean, Close, Leave}
use Rattle.jlr_event.specs.declared.event.Event.TheVariants.{Ask as Asks, Opened}
use Rattle.jlr_event.specs.declared.event.Reply.{Reply}
use Rattle.jlr_event.specs.declared.event.Reply.TheVariants.{Answered}
use Rattle.jlr_event.specs.Events.{answer_in, resource_of_reply}
use Rattle.jlr_log.specs.Views.{own}
use Rattle.jlr_core.specs.Runs.{AreAnswered}
use Rattle.jlr_book.specs.Histories.{History, IsHistory, last}
use Rattle.jlr_book.specs.Led.{shut}
use Rattle.jlr_hall.specs.declared.dues.Dues.{Dues}
use Rattle.jlr_hall.specs.declared.step.Step.{Step}
use Rattle.jlr_hall.specs.OneHistory.{Trace, add, behind, step_entry, events_of, is_refused_reply, new_trace, replies_of, seat_of, step}
use Rattle.jlr_hall.specs.OneHistory.{trace, trace_of}
use Rattle.jlr_hall.specs.Due.{count_after}
use Rattle.jlr_hall.specs.Locking.{IsLocked, count_at}

-- the number of the last entry
abbrev size : Trace → ℕ
size t = t.base + length t.entries

no_less : (n x : ℕ) → n ≤ n + x
no_less n x = omega arith

one_less : (b : Bool) (n x : ℕ) → cond b (n - 1) n ≤ n + x
one_less true n x = omega arith
one_less false n x = omega arith

none_left : (b : Bool) (n x : ℕ) → cond b n 0 ≤ n + x
none_left true n x = omega arith
none_left false n x = omega arith

module _ {R : Type 0} where
  -- a step that opens a resource is an entry
  counted_once : (n seat : ℕ) (e : Event R) (reply : Reply R) (cuts : Bool) (c : Chosen)
      → count_after n e reply ≤ n + length (step_entry (step seat e reply cuts) c)
  counted_once n seat (Opened k outcome) (Answered (Handle h) resource) cuts c = omega arith
  counted_once n seat (Asks (Clean k h)) reply cuts c =
      one_less (is_some (resource_of_reply reply)) n (length (step_entry (step seat (Asks (Clean k h)) reply cuts) c))
  counted_once n seat (Asks (Close k h)) reply cuts c =
      one_less (is_some (resource_of_reply reply)) n (length (step_entry (step seat (Asks (Close k h)) reply cuts) c))
  counted_once n seat (Asks (Leave k)) reply cuts c =
      none_left (is_refused_reply (answer_in reply)) n (length (step_entry (step seat (Asks (Leave k)) reply cuts) c))
  counted_once n seat e reply cuts c = no_less n (length (step_entry (step seat e reply cuts) c))

  added_size : (t : Trace) (e : Step R) (c : Chosen) → size (add t e c) ≡ size t + length (step_entry e c)
  added_size t e c =
      elim e.cuts as (λ b. size (cond b (trace (t.base + length t.entries) (shut (behind t.image t.entries)) (step_entry e c))
      (trace t.base t.image (t.entries ++ step_entry e c)))
      ≡ size t + length (step_entry e c)) [
        | true ↦ refl
        | false ↦ omega (arith, length-append t.entries (step_entry e c))
      ]

  counted_fits : (seat n : ℕ) (t : Trace) (log : List (Step R)) (choices : List Chosen)
      → AreAnswered (events_of log) (replies_of log) choices
      → fold (λ (m : ℕ) (e : Step R). count_after m e.event e.reply) n (own seat_of seat log) + size t ≤ n + size (trace_of t log choices)
  counted_fits seat n t [] [] a = omega arith
  counted_fits seat n t (e ∷ log) (c ∷ choices) a =
      let more = added_size t e c in
      elim (e.seat == seat) as (λ b. fold (λ (m : ℕ) (x : Step R). count_after m x.event x.reply) n
      (cond b (e ∷ own seat_of seat log) (own seat_of seat log)) + size t ≤ n + size (trace_of (add t e c) log choices)) [
        | true ↦ omega (
          arith,
          more,
          counted_once n e.seat e.event e.reply e.cuts c,
          counted_fits seat (count_after n e.event e.reply) (add t e c) log choices a.1,
        )
        | false ↦ omega (arith, more, counted_fits seat n (add t e c) log choices a.1)
      ]
  counted_fits seat n t [] (c ∷ choices) a = absurd a
  counted_fits seat n t (e ∷ log) [] a = absurd a

  pub count_fits : (limits : Limits) (h : History R) (d : Dues) (log : List (Step R)) (seat : ℕ) → seat < 256 → IsHistory h
      → IsLocked limits h d log → count_at seat d + 1 < 2 ^ 64
  count_fits limits h d log seat sits is l =
      let run = (l.whole).run in
      let below = counted_fits seat 0 (new_trace limits) log run.choices run.answered in
      let there : size (trace_of (new_trace limits) log run.choices) ≡ last h = ap size (l.whole).traced in
      omega (arith, below, there, (l.shows).counts seat sits, is.fits)
