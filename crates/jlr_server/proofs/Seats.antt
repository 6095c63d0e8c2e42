-- A session leaves a seat the one that it is.
use Rattle.std.proofs.Common.{◌≡◌, ℕ, List, Option, Some, None, Result, Ok, Err, refl, ap, ◌∙◌, inl, inr}
use Rattle.std.specs.Prelude.{MatchResult}
use Rattle.jlr_types.specs.declared.Refusal.{Refusal}
use Rattle.jlr_types.specs.declared.limits.Limits.{Limits}
use Rattle.jlr_machine.specs.declared.ask.Answer.{Answer}
use Rattle.jlr_machine.specs.declared.ask.Answer.TheVariants.{Refused}
use Rattle.jlr_event.specs.declared.event.Event.{Event}
use Rattle.jlr_event.specs.declared.event.Event.TheVariants as event
use Rattle.jlr_machine.specs.declared.ask.Ask.{Ask}
use Rattle.jlr_machine.specs.declared.ask.Ask.TheVariants as ask
use Rattle.jlr_event.specs.declared.event.Reply.{Reply}
use Rattle.jlr_device.specs.Handling.{Handling}
use Rattle.jlr_wire.specs.declared.command.Command.{Command}
use Rattle.jlr_wire.specs.declared.command.Command.TheVariants.{Open, Connect, Read, Write, Clean, Close}
use Rattle.jlr_session.specs.Calls.{Opening}
use Rattle.jlr_session.specs.Carrying.{Carrying}
use Rattle.jlr_event.specs.Events.{said_by}
use Rattle.jlr_session.specs.Asks.{AsksOnce, AsksTwice, CarriesOut, by_asks, ask_by}
use Rattle.jlr_session.specs.Serving.{Follows, IsTurnedAway, Serves}
use Rattle.jlr_session.specs.declared.shell.SessionEnd.{SessionEnd}
use Rattle.jlr_session.proofs.Following.{IsFollowed, ended_along}
use Rattle.jlr_log.specs.Seeing.{Seen}
use Rattle.jlr_hall.specs.declared.step.Step.{Step}
use Rattle.jlr_hall.specs.Asking.{Asked}
use Rattle.jlr_hall.specs.Ports.{by_seat}
use Rattle.jlr_hall.proofs.Turns.{same_seat}

-- what holds of anything
abbrev anything : Carrying (Unit {0})
anything = record { command = λ old command said new. Unit {0}; settling = λ old new. Unit {0} }

module _ {R : Type 0} (limits : Limits) where
  once : (first : Option Ask) (p : Seen (Step R)) (said : Answer) (q : Seen (Step R)) → AsksOnce (by_seat limits) first p said q
      → q.seat ≡ p.seat
  once None p said q a = ap (λ (x : Seen (Step R)). x.seat) a.1
  once (Some asked) p said q a = same_seat limits p q (event.Ask asked) a.0 a.1

  second : {X : Type 0} (led : Result X Answer) (comes_to : X → Event R → Type 0) (rests : Type 0) (p : Seen (Step R)) (said : Answer)
      (q : Seen (Step R))
      → MatchResult led (λ x. (second : Event R) × (last : Reply R) × comes_to x second × Asked limits p second last q
      × (said ≡ said_by last)) (λ answer. (said ≡ answer) × (q ≡ p) × rests)
      → q.seat ≡ p.seat
  second (Ok x) comes_to rests p said q m = same_seat limits p q m.0 m.1 m.3
  second (Err answer) comes_to rests p said q m = ap (λ (x : Seen (Step R)). x.seat) m.1

  twice : {X : Type 0} (first : Ask) (leads : Reply R → Result X Answer) (comes_to : X → Event R → Type 0) (rests : Type 0)
      (p : Seen (Step R)) (said : Answer) (q : Seen (Step R))
      → AsksTwice (by_seat limits) first leads comes_to rests p said q → q.seat ≡ p.seat
  twice first leads comes_to rests p said q a = second (leads a.0) comes_to rests a.1 said q a.3
      ∙ same_seat limits p a.1 (event.Ask first) a.0 a.2

  module _ {D : Type 0} (device : Opening D R) (resource : Handling R) where
    carried : (m : ℕ) (c : Command) (p : Seen (Step R)) (d : D) (said : Answer) (q : Seen (Step R)) (d' : D)
        → CarriesOut (by_seat limits) device resource m c p d said q d' → q.seat ≡ p.seat
    carried m (Open mode path) p d said q d' a = twice _ _ _ _ p said q a
    carried m (Connect path) p d said q d' a = twice _ _ _ _ p said q a
    carried m (Read h count) p d said q d' a = twice _ _ _ _ p said q a.0
    carried m (Write h bytes) p d said q d' a = twice _ _ _ _ p said q a.0
    carried m (Clean c) p d said q d' a = twice _ _ _ _ p said q a.0
    carried m (Close h) p d said q d' a = twice _ _ _ _ p said q a.0
    carried m c p d said q d' a = once (ask_by m c) p said q a.0

    followed : (seat : ℕ) → IsFollowed (by_asks (by_seat limits) device resource) anything (λ h x. h.0.seat ≡ seat)
    followed seat = record {
      commands = λ old new x c said not_bye a same. (tt, tt, carried old.0.seat c old.0 old.1 said new.0 new.1 a ∙ same);
      settlings = λ old new x a same. (tt, tt, ap (λ (p : Seen (Step R)). p.seat) a.0 ∙ same);
    }

    turned_away : (by : Refusal) (end : SessionEnd) (p : Seen (Step R)) (out : List ℕ) (q : Seen (Step R))
        → IsTurnedAway (by_seat limits) by end p out q → q.seat ≡ p.seat
    turned_away by end p out q (inl t) = ap (λ (x : Seen (Step R)). x.seat) t.2
    turned_away by end p out q (inr t) = ap (λ (x : Seen (Step R)). x.seat) t.3

    after_join : (answer : Answer) (at_end : Type 0) (end : SessionEnd) (bytes : List ℕ) (p : Seen (Step R)) (d : D) (out : List ℕ)
        (q : Seen (Step R)) (d' : D)
        → Follows (by_seat limits) device resource answer at_end end bytes p d out q d' → q.seat ≡ p.seat
    after_join (Refused by) at_end end bytes p d out q d' f = turned_away by end p out q f.0
    after_join answer at_end end bytes p d out q d' f =
        let lines = ended_along (by_asks (by_seat limits) device resource) anything (λ h x. h.0.seat ≡ p.seat) (followed p.seat) at_end end
        bytes (p, d) (f.0, d') out tt f.2 refl in
        same_seat limits f.0 q (event.Ask (ask.Leave f.0.seat)) f.1 f.3 ∙ lines.2

    pub session_stays : (at_end : Type 0) (end : SessionEnd) (bytes : List ℕ) (p : Seen (Step R)) (d : D) (out : List ℕ) (q : Seen (Step R))
        (d' : D)
        → Serves (by_seat limits) device resource at_end end bytes p d out q d' → q.seat ≡ p.seat
    session_stays at_end end bytes p d out q d' s =
        after_join (said_by s.0) at_end end bytes s.1 d out q d' s.3 ∙ same_seat limits p s.1 (event.Ask (ask.Join p.seat)) s.0 s.2
