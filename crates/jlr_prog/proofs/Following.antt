-- What a session does over a book it does over the book with its earlier entries as well, and mutator 0 stays joined.
use Rattle.std.proofs.Common.{◌≡◌, false, ℕ, List, Option, Some, None, Result, Ok, Err, refl, sym, ◌∙◌, ap, subst}
use Rattle.std.specs.Prelude.{MatchResult, ⊤}
use Rattle.jlr_types.specs.declared.RefKind.TheVariants as kind
use Rattle.jlr_machine.specs.declared.machine.Machine.{Machine}
use Rattle.jlr_machine.specs.declared.machine.Call.TheVariants.{Free}
use Rattle.jlr_machine.specs.declared.ask.Ask.{Ask}
use Rattle.jlr_machine.specs.declared.ask.Ask.TheVariants as ask
use Rattle.jlr_machine.specs.declared.ask.Answer.{Answer}
use Rattle.jlr_machine.specs.declared.entry.Entry.{Entry}
use Rattle.jlr_machine.specs.Lookups.{slot_named}
use Rattle.jlr_machine.specs.Refusals.{given, is_end}
use Rattle.jlr_laws.proofs.Frames.{no_some}
use Rattle.jlr_event.specs.declared.event.Event.{Event}
use Rattle.jlr_event.specs.declared.event.Event.TheVariants as event
use Rattle.jlr_event.specs.declared.event.Reply.{Reply}
use Rattle.jlr_event.specs.Events.{ask_of, outcome_of, said_by}
use Rattle.jlr_wire.specs.declared.command.Command.{Command}
use Rattle.jlr_wire.specs.declared.command.Command.TheVariants.{New, Put, Get, SetInt, Dup, Drop, Soft, Weak, Phantom, Deref}
use Rattle.jlr_wire.specs.declared.command.Command.TheVariants.{Clear, Enqueue, Queue, Poll, Remove, Cleaner, Register}
use Rattle.jlr_wire.specs.declared.command.Command.TheVariants.{Clean, Open, Connect, Read, Write, Close, Bind, Find}
use Rattle.jlr_wire.specs.declared.command.Command.TheVariants.{Bye, Array}
use Rattle.jlr_cleaner.specs.declared.job.Job.{Job as JobOf}
use Rattle.jlr_device.specs.Handling.{Handling}
use Rattle.jlr_session.specs.Calls.{Opening}
use Rattle.jlr_session.specs.Asks.{AsksOnce, AsksTwice, CarriesOut, by_asks, ask_by, prepared_by, out_by, job_by, TellsOpened}
use Rattle.jlr_session.specs.Asks.{TellsConnected, TellsRead, TellsWritten, TellsFinished}
use Rattle.jlr_session.specs.Sessions.{Ended}
use Rattle.jlr_session.specs.declared.shell.SessionEnd.{SessionEnd}
use Rattle.jlr_session.proofs.Following.{IsFollowed, ended_along}
use Rattle.jlr_book.specs.Histories.{History}
use Rattle.jlr_book.specs.Rules.{BookSteps}
use Rattle.jlr_prog.specs.Solos.{at_book, by_book}
use Rattle.jlr_prog.specs.Wholes.{WholeRun, WholeSteps, at_whole, by_whole}
use Rattle.jlr_prog.proofs.Staying.{Stays, changed, given_stays, made_stays, put_stays, asked_enqueue_stays, asked_poll_stays, bound_stays}
use Rattle.jlr_prog.proofs.Calls.{IsHere, clean_begins, close_begins}
use Rattle.jlr_prog.proofs.Recorded.{IsWhole}
use Rattle.jlr_prog.proofs.Asked.{IsAskFrom, IsCallAlong, stays_along, settled_along, opens_along, calls_along, works_along}
use Rattle.jlr_prog.proofs.Turning.{settles_along}

-- ---- Commands that ask once

-- there is an ask, which is no end, and it leaves mutator 0 alone
abbrev StaysIn : Option Ask → Type 0
StaysIn (Some asked) = (is_end asked ≡ false) × Stays Free asked
StaysIn None = ⊥

abbrev AsksQuietly : Option Ask → Type 0
AsksQuietly o = (a : Ask) → o ≡ Some a → StaysIn (Some a)

quietly : (a : Ask) → StaysIn (Some a) → AsksQuietly (Some a)
quietly a stays b is = subst StaysIn is stays

asks_quietly : (c : Command) → AsksQuietly (ask_by 0 c)
asks_quietly (New layout) = quietly (ask.New 0 layout) (refl, λ m a fresh x. made_stays Free m _ fresh x)
asks_quietly (Array length) = quietly (ask.Array 0 length) (refl, λ m a fresh x. made_stays Free m _ fresh x)
asks_quietly (Put h f v) = quietly (ask.Put 0 h f v) (refl, λ m a fresh x. put_stays Free m _ (slot_named m 0 h) x)
asks_quietly (Get h f) = quietly (ask.Get 0 h f) (refl, λ m a fresh x. given_stays Free m (given m (ask.Get 0 h f)) x)
asks_quietly (SetInt h f n) = quietly (ask.SetInt 0 h f n) (refl, λ m a fresh x. put_stays Free m _ (slot_named m 0 h) x)
asks_quietly (Dup h) = quietly (ask.Dup 0 h) (refl, λ m a fresh x. given_stays Free m (given m (ask.Dup 0 h)) x)
asks_quietly (Drop h) = quietly (ask.Drop 0 h) (refl, λ m a fresh x. changed Free m _ (λ s. refl) x)
asks_quietly (Soft h q) = quietly (ask.MakeRef 0 kind.Soft h q) (refl, λ m a fresh x. made_stays Free m _ fresh x)
asks_quietly (Weak h q) = quietly (ask.MakeRef 0 kind.Weak h q) (refl, λ m a fresh x. made_stays Free m _ fresh x)
asks_quietly (Phantom h q) = quietly (ask.MakeRef 0 kind.Phantom h q) (refl, λ m a fresh x. made_stays Free m _ fresh x)
asks_quietly (Deref r) = quietly (ask.Deref 0 r) (refl, λ m a fresh x. given_stays Free m (given m (ask.Deref 0 r)) x)
asks_quietly (Clear r) = quietly (ask.Clear 0 r) (refl, λ m a fresh x. put_stays Free m _ (slot_named m 0 r) x)
asks_quietly (Enqueue r) = quietly (ask.Enqueue 0 r) (refl, λ m a fresh x. asked_enqueue_stays Free m (slot_named m 0 r) x)
asks_quietly Queue = quietly (ask.MakeQueue 0) (refl, λ m a fresh x. made_stays Free m _ fresh x)
asks_quietly (Poll q) = quietly (ask.Poll 0 q) (refl, λ m a fresh x. asked_poll_stays Free m (slot_named m 0 q) (given m (ask.Poll 0 q)) x)
asks_quietly (Remove q) =
    quietly (ask.Remove 0 q) (refl, λ m a fresh x. asked_poll_stays Free m (slot_named m 0 q) (given m (ask.Remove 0 q)) x)
asks_quietly Cleaner = quietly (ask.MakeCleaner 0) (refl, λ m a fresh x. made_stays Free m _ fresh x)
asks_quietly (Register c h note) = quietly (ask.Register 0 c h note) (refl, λ m a fresh x. made_stays Free m _ fresh x)
asks_quietly (Bind name h) = quietly (ask.Bind 0 name h) (refl, λ m a fresh x. bound_stays Free m _ (slot_named m 0 h) (λ s y. y) x)
asks_quietly (Find name) = quietly (ask.Find 0 name) (refl, λ m a fresh x. given_stays Free m (given m (ask.Find 0 name)) x)
asks_quietly (Open mode path) = λ e is. no_some e is
asks_quietly (Connect path) = λ e is. no_some e is
asks_quietly (Read h count) = λ e is. no_some e is
asks_quietly (Write h bytes) = λ e is. no_some e is
asks_quietly (Clean c) = λ e is. no_some e is
asks_quietly (Close h) = λ e is. no_some e is
asks_quietly Bye = λ e is. no_some e is
asks_quietly command = quietly _ (refl, λ m a fresh x. x)

module _ {R : Type 0} (m : Machine) (front : List Entry) where
  quiet_along : (e : Event R) (o : Option Ask) → ask_of e ≡ o → StaysIn o → IsAskFrom m front IsHere IsHere e
  quiet_along e (Some asked) is stays = stays_along m front 0 e asked is stays.0 stays.1
  quiet_along e None is stays = absurd stays

  module _ {D : Type 0} (device : Opening D R) (resource : Handling R) where
    once_along : (first : Option Ask) → AsksQuietly first → (h k : History R) (said : Answer) (x : WholeRun R)
        → AsksOnce (by_book resource) first h said k → IsWhole m front IsHere h x
        → (y : WholeRun R) × AsksOnce (by_whole resource) first x said y × IsWhole m front IsHere k y
    once_along None quiet h k said x a s = (x, (a.0, refl), subst (λ l. IsWhole m front IsHere l x) (sym a.1) s)
    once_along (Some first) quiet h k said x a s =
        let d = quiet_along (event.Ask first) (Some first) refl (quiet first refl) h k x a.0 a.1 s in (d.0, (a.0, d.1, a.2), d.2)

    -- ---- Commands that ask twice

    second_along : {Y : Type 0} (first : Event R) (leads : Reply R → Result Y Answer) (comes_to : Y → Event R → Type 0)
        (T : Y → Machine → Type 0) → IsCallAlong m front first leads comes_to T
        → (rests : Type 0) (led : Result Y Answer) (h k : History R) (said : Answer) (x : WholeRun R)
        → MatchResult led (λ w. (second : Event R) × (last : Reply R) × comes_to w second × BookSteps 0 h second last k
        × (said ≡ said_by last)) (λ answer. (said ≡ answer) × (k ≡ h) × rests)
        → IsWhole m front (λ n. MatchResult led (λ w. T w n) (λ _. IsHere n)) h x
        → (y : WholeRun R) × MatchResult led (λ w. (second : Event R) × (last : Reply R) × comes_to w second × WholeSteps 0 x second last y
        × (said ≡ said_by last)) (λ answer. (said ≡ answer) × (y ≡ x) × rests)
        × IsWhole m front IsHere k y
    second_along first leads comes_to T f rests (Ok w) h k said x a s = let d = f.ends w a.0 a.2 h k x a.1 a.3 s in
        (d.0, (a.0, a.1, a.2, d.1, a.4), d.2)
    second_along first leads comes_to T f rests (Err answer) h k said x a s =
        (x, (a.0, refl, a.2), subst (λ l. IsWhole m front IsHere l x) (sym a.1) s)

    twice_along : {Y : Type 0} (first : Ask) (leads : Reply R → Result Y Answer) (comes_to : Y → Event R → Type 0)
        (T : Y → Machine → Type 0) → IsCallAlong m front (event.Ask first) leads comes_to T
        → (rests : Type 0) (h k : History R) (said : Answer) (x : WholeRun R)
        → AsksTwice (by_book resource) first leads comes_to rests h said k → IsWhole m front IsHere h x
        → (y : WholeRun R) × AsksTwice (by_whole resource) first leads comes_to rests x said y × IsWhole m front IsHere k y
    twice_along first leads comes_to T f rests h k said x a s =
        let d = f.begins h a.1 x a.0 a.2 s in
        let e = second_along (event.Ask first) leads comes_to T f rests (leads a.0) a.1 k said d.0 a.3 d.2 in
        (e.0, (a.0, d.0, d.1, e.1), e.2)

    -- ---- Commands

    carried_along : (c : Command) (h k : History R) (d d' : D) (said : Answer) (x : WholeRun R)
        → CarriesOut (by_book resource) device resource 0 c h d said k d' → IsWhole m front IsHere h x
        → (y : WholeRun R) × CarriesOut (by_whole resource) device resource 0 c x d said y d' × IsWhole m front IsHere k y
    carried_along (Open mode path) h k d d' said x a s =
        let comes_to : Unit {0} → Event R → Type 0 = λ u. TellsOpened device 0 mode path d d' in
        twice_along (ask.Prepare 0) prepared_by comes_to _ (opens_along m front comes_to (λ u e t. (t.0, t.2))) (d' ≡ d) h k said x a s
    carried_along (Connect path) h k d d' said x a s =
        let comes_to : Unit {0} → Event R → Type 0 = λ u. TellsConnected device 0 path d d' in
        twice_along (ask.Prepare 0) prepared_by comes_to _ (opens_along m front comes_to (λ u e t. (t.0, t.2))) (d' ≡ d) h k said x a s
    carried_along (Read g count) h k d d' said x a s =
        let comes_to : R → Event R → Type 0 = TellsRead resource 0 count in
        let t = twice_along (ask.CheckOut 0 g) out_by comes_to _ (calls_along m front g comes_to (λ value e t. (t.0, t.1, t.3))) ⊤ h k said
        x a.0 s in
        (t.0, (t.1, a.1), t.2)
    carried_along (Write g bytes) h k d d' said x a s =
        let comes_to : R → Event R → Type 0 = TellsWritten resource 0 bytes in
        let t = twice_along (ask.CheckOut 0 g) out_by comes_to _ (calls_along m front g comes_to (λ value e t. (t.0, t.1, t.3))) ⊤ h k said
        x a.0 s in
        (t.0, (t.1, a.1), t.2)
    carried_along (Clean c) h k d d' said x a s =
        let comes_to : JobOf R → Event R → Type 0 = TellsFinished resource 0 in
        let t = twice_along (ask.Clean 0 c) job_by comes_to _
        (works_along m front (event.Ask (ask.Clean 0 c)) (ask.Clean 0 c) refl refl (λ n answer chosen. clean_begins n c answer chosen)
        comes_to (λ job e t. (outcome_of t.0, t.2))) ⊤ h k said x a.0 s in
        (t.0, (t.1, a.1), t.2)
    carried_along (Close g) h k d d' said x a s =
        let comes_to : JobOf R → Event R → Type 0 = TellsFinished resource 0 in
        let t = twice_along (ask.Close 0 g) job_by comes_to _
        (works_along m front (event.Ask (ask.Close 0 g)) (ask.Close 0 g) refl refl (λ n answer chosen. close_begins n g answer chosen)
        comes_to (λ job e t. (outcome_of t.0, t.2))) ⊤ h k said x a.0 s in
        (t.0, (t.1, a.1), t.2)
    carried_along c h k d d' said x a s = let t = once_along (ask_by 0 c) (asks_quietly c) h k said x a.0 s in (t.0, (t.1, a.1), t.2)

    -- a device is the same in both
    abbrev pub Along : History R × D → WholeRun R × D → Type 0
    Along h x = IsWhole m front IsHere h.0 x.0 × (h.1 ≡ x.1)

    pub followed : IsFollowed (by_asks (by_book resource) device resource) (by_asks (by_whole resource) device resource) Along
    followed = record {
      commands = λ old new history c said n a r.
          let d = carried_along c old.0 new.0 old.1 new.1 said history.0 a r.0 in (
            (d.0, new.1),
            subst (λ (e : D). CarriesOut (by_whole resource) device resource 0 c history.0 e said d.0 new.1) r.1 d.1,
            (d.2, refl),
          );
      settlings = λ old new history a r.
          let d = settles_along at_book at_whole (IsWhole m front IsHere) (settled_along m front) resource old.0 new.0 history.0 a.0 r.0 in
          ((d.0, history.1), (d.1, refl), (d.2, a.1 ∙ r.1));
    }

    -- what the lines come to
    pub lines_along : (at_end : Type 0) (end : SessionEnd) (bytes : List ℕ) (h k : History R) (d d' : D) (out : List ℕ) (x : WholeRun R)
        → Ended (by_asks (by_book resource) device resource) at_end end bytes (h, d) out (k, d') → IsWhole m front IsHere h x
        → (y : WholeRun R) × Ended (by_asks (by_whole resource) device resource) at_end end bytes (x, d) out (y, d')
        × IsWhole m front IsHere k y
    lines_along at_end end bytes h k d d' out x a s =
        let e = ended_along (by_asks (by_book resource) device resource) (by_asks (by_whole resource) device resource) Along followed at_end
        end bytes (h, d) (k, d') out (x, d) a (s, refl) in
        let same : e.0 ≡ (e.0.0, d') = ap (λ (c : D). (e.0.0, c)) (sym e.2.1) in
        (e.0.0, subst (λ q. Ended (by_asks (by_whole resource) device resource) at_end end bytes (x, d) out q) same e.1, e.2.0)
