-- What the asks that have nothing to do with a resource answer and leave.
use Rattle.std.proofs.Common.{replicate, ◌≡◌, ℕ, Bool, true, false, List, [], ◌∷◌, map, refl, sym, ◌∙◌, ap, Option, Some, None, option_map}
use Rattle.std.proofs.Common.{option_and_then, slice_get}
use Rattle.std.proofs.lemmas.Bool.{both_ways}
use Rattle.jlr_types.specs.declared.FieldValue.{FieldValue}
use Rattle.jlr_types.specs.declared.FieldValue.TheVariants.{Int as IntValue, Ref as RefValue}
use Rattle.jlr_machine.specs.declared.object.Object.{Object}
use Rattle.jlr_machine.specs.declared.object.Contents.TheVariants.{Typed, Elements}
use Rattle.jlr_machine.specs.declared.object.Object.TheVariants.{Plain, Reference, Queue, Cleaner}
use Rattle.jlr_machine.specs.declared.object.RefState.TheVariants.{Fresh}
use Rattle.jlr_machine.specs.declared.machine.Machine.{Machine}
use Rattle.jlr_machine.specs.declared.ask.Handed.{Handed}
use Rattle.jlr_machine.specs.declared.ask.Handed.TheVariants.{Queued as HandedQueued, Lined as HandedLined, Skipped, Nothing}
use Rattle.jlr_machine.specs.declared.ask.Ask.{Ask}
use Rattle.jlr_machine.specs.declared.ask.Ask.TheVariants.{New, Put, Get, SetInt, Int, Dup, MakeRef, Deref, Refers}
use Rattle.jlr_machine.specs.declared.ask.Ask.TheVariants.{Clear, Enqueue, Enqueued, MakeQueue, Poll, Remove, MakeCleaner, Register, Clean}
use Rattle.jlr_machine.specs.declared.ask.Ask.TheVariants.{Prepare, Opened, CheckOut, CheckIn, Close, Finish, Bind, Find}
use Rattle.jlr_machine.specs.declared.ask.Ask.TheVariants.{HandOver, TakeUp, Collect, Array}
use Rattle.jlr_machine.specs.declared.ask.Answer.{Answer}
use Rattle.jlr_machine.specs.declared.ask.Answer.TheVariants.{Handle, Job, Prepared, Out as OutAnswer, Refused}
use Rattle.jlr_machine.specs.declared.entry.Collected.{Collected}
use Rattle.jlr_machine.specs.Objects.{at, as_reference, with_reference, with_field, queue_ahead}
use Rattle.jlr_machine.specs.Lookups.{slot_named, field_named, on, with_object, with_handle, with_new, bound, blank}
use Rattle.jlr_machine.specs.Refusals.{given}
use Rattle.jlr_machine.specs.Calls.{after, new_handle, handle_given, number_in, handed, hand_over_answer, made, registered, with_given}
use Rattle.jlr_machine.specs.Calls.{to_queue, unreferred, enqueued, polled, poll_given, delivered, handed_over}
use Rattle.jlr_machine.specs.Run.{Answers}
use Rattle.jlr_laws.proofs.Frames.{no_some, some_same}
use Rattle.jlr_histories.specs.ResourceLives.{ended_by, deed_of}

-- an answer that hands out a resource, or a job
abbrev pub hands_out : Answer → Bool
hands_out (Prepared rid) = true
hands_out (OutAnswer rid) = true
hands_out (Job action work) = true
hands_out _ = false

-- an ask that has to do with a resource
abbrev pub touches : Ask → Bool
touches (Clean k h) = true
touches (Prepare k) = true
touches (Opened k outcome) = true
touches (CheckOut k h) = true
touches (CheckIn k outcome) = true
touches (Close k h) = true
touches (Finish by action outcome) = true
touches TakeUp = true
touches _ = false

-- the answer hands nothing out, and the resources are the same
pub record IsStill (m n : Machine) (a : Answer) : Type 0 where
  pub nothing : hands_out a ≡ false
  pub same : n.resources ≡ m.resources

-- ---- Answers

-- an answer, if there is one, does not pass
abbrev pub Never : (Answer → Bool) → Option Answer → Type 0
Never p o = (a : Answer) → o ≡ Some a → p a ≡ false

pub plain : (p : Answer → Bool) (x : Answer) → p x ≡ false → Never p (Some x)
plain p x h a e = ap p (sym (some_same x a e)) ∙ h

pub mapped : {A : Type 0} (p : Answer → Bool) (f : A → Answer) → ((x : A) → p (f x) ≡ false) → (o : Option A) → Never p (option_map f o)
mapped p f h None a e = no_some a e
mapped p f h (Some x) a e = plain p (f x) (h x) a e

handle : (m : Machine) (k : ℕ) → Never hands_out (new_handle m k)
handle m k = mapped hands_out _ (λ s. refl) (at m.mutators k)

object_given : (m : Machine) (k : ℕ) (o : Option ℕ) → Never hands_out (handle_given m k o)
object_given m k None = plain hands_out (Handle 0) refl
object_given m k (Some s) = handle m k

number : (o : Option FieldValue) → Never hands_out (option_and_then number_in o)
number None a e = no_some a e
number (Some (IntValue n)) a e = plain hands_out _ refl a e
number (Some (RefValue s)) a e = no_some a e

handed_on : (m : Machine) (slots : List ℕ) → Never hands_out (hand_over_answer m slots)
handed_on m [] = plain hands_out _ refl
handed_on m (s ∷ slots) = mapped hands_out _ (λ o. refl) (at m.objects s)

-- ---- Changes

on_same : {A : Type 0} (m : Machine) (o : Option A) (f : A → Machine) → ((x : A) → (f x).resources ≡ m.resources)
    → (on o f m).resources ≡ m.resources
on_same m None f h = refl
on_same m (Some x) f h = h x

given_same : (m : Machine) (k : ℕ) (o : Option ℕ) → (with_given m k o).resources ≡ m.resources
given_same m k o = on_same m o (with_handle m k) (λ s. refl)

to_queue_same : (m : Machine) (s : ℕ) (o : Option ℕ) → (to_queue m s o).resources ≡ m.resources
to_queue_same m s None = refl
to_queue_same m s (Some q) = refl

enqueued_same : (m : Machine) (s : ℕ) → (enqueued m s).resources ≡ m.resources
enqueued_same m s = to_queue_same (with_object m s (with_reference unreferred)) s
    (option_and_then queue_ahead (option_and_then as_reference (at m.objects s)))

polled_same : (m : Machine) (q : ℕ) (o : Option ℕ) → (polled m q o).resources ≡ m.resources
polled_same m q None = refl
polled_same m q (Some s) = refl

poll_same : (m : Machine) (k h : ℕ) (o : Option ℕ) → (poll_given m k h o).resources ≡ m.resources
poll_same m k h o =
    on_same m (slot_named m k h) (λ q. with_given (polled m q o) k o) (λ q. given_same (polled m q o) k o ∙ polled_same m q o)

made_same : (m : Machine) (k : ℕ) (fresh : List ℕ) (o : Object) → (made m k fresh o).resources ≡ m.resources
made_same m k fresh o = on_same m (slice_get fresh 0) (λ s. with_handle (with_new m s o) k s) (λ s. refl)

delivered_same : (m : Machine) (s : ℕ) (h : Handed) → (delivered m s h).resources ≡ m.resources
delivered_same m s HandedQueued = enqueued_same m s
delivered_same m s HandedLined = refl
delivered_same m s Skipped = refl
delivered_same m s Nothing = refl

handed_over_same : (m : Machine) (slots : List ℕ) → (handed_over m slots).resources ≡ m.resources
handed_over_same m [] = refl
handed_over_same m (s ∷ rest) =
    elim (at m.objects s) as (λ o. (elim o as (λ _. Machine) [
      | None ↦ record m { pending = rest }
      | Some o ↦
          delivered (record m { pending = rest }) s (handed o)
    ]).resources ≡ m.resources) [
      | None ↦ refl
      | Some o ↦ delivered_same (record m { pending = rest }) s (handed o)
    ]

-- ---- Each ask

pub other_still : (m : Machine) (ask : Ask) (o : Option Collected) (a : Answer) (fresh : List ℕ) → touches ask ≡ false → Answers m ask o a
    → IsStill m (after m ask a fresh) a
other_still m (New k layout) o a fresh t h =
    record { nothing = handle m k a h; same = made_same m k fresh (Plain (Typed (map blank layout))) }
other_still m (Array k size) o a fresh t h =
    record { nothing = handle m k a h; same = made_same m k fresh (Plain (Elements (replicate size None))) }
other_still m (Put k d f v) o a fresh t h = record {
  nothing = plain hands_out _ refl a h;
  same = on_same m (slot_named m k d) (λ s. with_object m s (with_field f (RefValue (slot_named m k v)))) (λ s. refl);
}
other_still m (Get k d f) o a fresh t h =
    record { nothing = object_given m k (given m (Get k d f)) a h; same = given_same m k (given m (Get k d f)) }
other_still m (SetInt k d f v) o a fresh t h = record {
  nothing = plain hands_out _ refl a h;
  same = on_same m (slot_named m k d) (λ s. with_object m s (with_field f (IntValue v))) (λ s. refl);
}
other_still m (Int k d f) o a fresh t h = record { nothing = number (field_named m k d f) a h; same = refl }
other_still m (Dup k d) o a fresh t h =
    record { nothing = object_given m k (given m (Dup k d)) a h; same = given_same m k (given m (Dup k d)) }
other_still m (MakeRef k kind d q) o a fresh t h =
    record {
      nothing = handle m k a h;
      same =
          made_same m k fresh (Reference (record { kind = kind; referent = slot_named m k d; queue = slot_named m k q; state = Fresh }));
    }
other_still m (Deref k d) o a fresh t h =
    record { nothing = object_given m k (given m (Deref k d)) a h; same = given_same m k (given m (Deref k d)) }
other_still m (Refers k r d) o a fresh t h = record { nothing = mapped hands_out _ (λ x. refl) _ a h; same = refl }
other_still m (Clear k d) o a fresh t h = record {
  nothing = plain hands_out _ refl a h;
  same = on_same m (slot_named m k d) (λ s. with_object m s (with_reference unreferred)) (λ s. refl);
}
other_still m (Enqueue k d) o a fresh t h =
    record { nothing = mapped hands_out _ (λ x. refl) _ a h; same = on_same m (slot_named m k d) (enqueued m) (enqueued_same m) }
other_still m (Enqueued k d) o a fresh t h = record { nothing = mapped hands_out _ (λ x. refl) _ a h; same = refl }
other_still m (MakeQueue k) o a fresh t h = record { nothing = handle m k a h; same = made_same m k fresh (Queue []) }
other_still m (Poll k d) o a fresh t h =
    record { nothing = object_given m k (given m (Poll k d)) a h; same = poll_same m k d (given m (Poll k d)) }
other_still m (Remove k d) o a fresh t h =
    record { nothing = object_given m k (given m (Remove k d)) a h; same = poll_same m k d (given m (Remove k d)) }
other_still m (MakeCleaner k) o a fresh t h = record { nothing = handle m k a h; same = made_same m k fresh Cleaner }
other_still m (Register k d x note) o a fresh t h = record { nothing = handle m k a h; same = made_same m k fresh (registered m k x note) }
other_still m (Bind k name d) o a fresh t h = record {
  nothing = plain hands_out _ refl a h;
  same = on_same m (slot_named m k d) (λ s. record m { names = bound m.names name s }) (λ s. refl);
}
other_still m (Find k name) o a fresh t h = record { nothing = handle m k a h; same = given_same m k (given m (Find k name)) }
other_still m HandOver o a fresh t h = record { nothing = handed_on m m.pending a h; same = handed_over_same m m.pending }
other_still m Collect o a fresh t h = record { nothing = ap hands_out h; same = refl }
other_still m (Clean k d) o a fresh t h = absurd (both_ways true t refl)
other_still m (Prepare k) o a fresh t h = absurd (both_ways true t refl)
other_still m (Opened k outcome) o a fresh t h = absurd (both_ways true t refl)
other_still m (CheckOut k d) o a fresh t h = absurd (both_ways true t refl)
other_still m (CheckIn k outcome) o a fresh t h = absurd (both_ways true t refl)
other_still m (Close k d) o a fresh t h = absurd (both_ways true t refl)
other_still m (Finish by action outcome) o a fresh t h = absurd (both_ways true t refl)
other_still m TakeUp o a fresh t h = absurd (both_ways true t refl)
other_still m asked o a fresh t h = record { nothing = plain hands_out _ refl a h; same = refl }

-- an answer that hands out nothing lets nothing begin
pub no_deed : (m : Machine) (ask : Ask) (a : Answer) → hands_out a ≡ false → ended_by m ask ≡ None → deed_of m ask a ≡ None
no_deed m ask (Prepared rid) h e = absurd (both_ways true h refl)
no_deed m ask (OutAnswer rid) h e = absurd (both_ways true h refl)
no_deed m ask (Job action work) h e = absurd (both_ways true h refl)
no_deed m ask (Refused by) h e = refl
no_deed m ask a h e = e

pub touches_not : (m : Machine) (ask : Ask) → touches ask ≡ false → ended_by m ask ≡ None
touches_not m (Opened k outcome) t = absurd (both_ways true t refl)
touches_not m (CheckIn k outcome) t = absurd (both_ways true t refl)
touches_not m (Finish by action outcome) t = absurd (both_ways true t refl)
touches_not m ask t = refl
