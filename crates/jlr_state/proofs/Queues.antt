-- Enqueueing, polling and handing over, as entries.
use Rattle.std.proofs.Common.{◌≡◌, ◌&&◌, ℕ, Bool, true, false, not, List, [], ◌∷◌, ◌++◌, drop, length, Option, Some, None, is_some}
use Rattle.std.proofs.Common.{option_and_then, option_map, nat_lt, slice_get, Ok, refl, sym, ◌∙◌, ap, subst}
use Rattle.jlr_machine.specs.declared.machine.Machine.{Machine}
use Rattle.jlr_machine.specs.declared.machine.Session.{Session}
use Rattle.jlr_machine.specs.declared.object.Reference.{Reference as ReferenceOf}
use Rattle.jlr_machine.specs.declared.object.RefState.TheVariants.{Queued as IsQueued}
use Rattle.jlr_machine.specs.declared.ask.Handed.{Handed}
use Rattle.jlr_machine.specs.declared.ask.Handed.TheVariants.{Queued, Lined, Skipped, Nothing}
use Rattle.jlr_machine.specs.declared.ask.Ask.TheVariants.{Enqueue, Poll, Remove}
use Rattle.jlr_machine.specs.declared.ask.Answer.{Answer}
use Rattle.jlr_machine.specs.declared.ask.Answer.TheVariants.{Handle, Truth}
use Rattle.jlr_machine.specs.Objects.{Table, as_members, as_reference, at, change_at, occupied, some_and, with_members, with_reference}
use Rattle.jlr_machine.specs.Lookups.{free_handle, has_free_handle, on, slot_named, with_object}
use Rattle.jlr_machine.specs.Refusals.{front, given, refusal}
use Rattle.jlr_machine.specs.Calls.{after, delivered, enqueued, handed, handed_over, handle_given, may_enqueue, new_handle, polled, reply}
use Rattle.jlr_machine.specs.Calls.{to_queue, unreferred, with_given}
use Rattle.jlr_laws.proofs.Frames.{change_as_long, no_some, some_same}
use Rattle.jlr_state.specs.State.{Answered}

-- ---- Nothing is made or removed

queue_as_long : (m : Machine) (s : ℕ) (q : Option ℕ) → length (to_queue m s q).objects ≡ length m.objects
queue_as_long m s None = refl
queue_as_long m s (Some q) =
    change_as_long (change_at m.objects s (with_reference (λ r. record r { state = IsQueued; queue = None }))) q
    (with_members (λ members. members ++ s ∷ []))
    ∙ change_as_long m.objects s (with_reference (λ r. record r { state = IsQueued; queue = None }))

enqueued_as_long : (m : Machine) (s : ℕ) → length (enqueued m s).objects ≡ length m.objects
enqueued_as_long m s = queue_as_long (with_object m s (with_reference unreferred)) s _
    ∙ change_as_long m.objects s (with_reference unreferred)

pub enqueued_long : (m n : Machine) (s : ℕ) → n ≡ enqueued m s → length n.objects ≡ length m.objects
enqueued_long m n s e = ap (λ (x : Machine). length x.objects) e ∙ enqueued_as_long m s

delivered_as_long : (m : Machine) (s : ℕ) (h : Handed) → length (delivered m s h).objects ≡ length m.objects
delivered_as_long m s Queued = enqueued_as_long m s
delivered_as_long m s Lined = change_as_long m.objects s _
delivered_as_long m s Skipped = refl
delivered_as_long m s Nothing = refl

handed_over_as_long : (m : Machine) (l : List ℕ) → length (handed_over m l).objects ≡ length m.objects
handed_over_as_long m [] = refl
handed_over_as_long m (s ∷ rest) = elim (at m.objects s) as (λ o. length
    (elim o as (λ _. Machine) [
      | None ↦ record m { pending = rest }
      | Some p ↦
          delivered (record m { pending = rest }) s (handed p)
    ]).objects ≡ length m.objects) [
      | None ↦ refl
      | Some p ↦ delivered_as_long (record m { pending = rest }) s (handed p)
    ]

pub handed_over_long : (m n : Machine) → n ≡ handed_over m m.pending → length n.objects ≡ length m.objects
handed_over_long m n e = ap (λ (x : Machine). length x.objects) e ∙ handed_over_as_long m m.pending

polled_as_long : (m : Machine) (q : ℕ) (o : Option ℕ) → length (polled m q o).objects ≡ length m.objects
polled_as_long m q None = refl
polled_as_long m q (Some s) = change_as_long (change_at m.objects q (with_members (drop 1))) s _
    ∙ change_as_long m.objects q (with_members (drop 1))

pub polled_long : (m n : Machine) (q : ℕ) (o : Option ℕ) → n ≡ polled m q o → length n.objects ≡ length m.objects
polled_long m n q o e = ap (λ (x : Machine). length x.objects) e ∙ polled_as_long m q o

polled_same : (m : Machine) (q : ℕ) (o : Option ℕ) → (polled m q o).mutators ≡ m.mutators
polled_same m q None = refl
polled_same m q (Some s) = refl

pub polled_mutators : (m n : Machine) (q : ℕ) (o : Option ℕ) → n ≡ polled m q o → n.mutators ≡ m.mutators
polled_mutators m n q o e = ap (λ (x : Machine). x.mutators) e ∙ polled_same m q o

-- ---- Enqueueing

truth_of : (o : Option ReferenceOf) (b : Bool) → Some b ≡ option_and_then (λ r. Some (may_enqueue r)) o
    → option_map (λ x. Truth (may_enqueue x)) o ≡ Some (Truth b)
truth_of None b e = no_some b (sym e)
truth_of (Some r) b e = ap (λ x. Some (Truth x)) (some_same (may_enqueue r) b (sym e))

pub enqueue_reply : (m : Machine) (k h s : ℕ) (b : Bool) → slot_named m k h ≡ Some s
    → Some b ≡ option_and_then (λ r. Some (may_enqueue r)) (option_and_then as_reference (at m.objects s))
    → reply m (Enqueue k h) ≡ Some (Truth b)
enqueue_reply m k h s b named e =
    ap (λ o. option_map (λ x. Truth (may_enqueue x)) (option_and_then as_reference (option_and_then (at m.objects) o))) named
    ∙ truth_of (option_and_then as_reference (at m.objects s)) b e

pub enqueue_after : (m : Machine) (k h s : ℕ) → slot_named m k h ≡ Some s → enqueued m s ≡ after m (Enqueue k h) (Truth true) []
enqueue_after m k h s named = ap (λ o. on o (enqueued m) m) (sym named)

-- ---- Polling

new_alike : (m n : Machine) (k : ℕ) → n.mutators ≡ m.mutators → new_handle n k ≡ new_handle m k
new_alike m n k e = ap (λ (t : Table Session). option_map (λ s. Handle (free_handle s)) (at t k)) e

given_alike : (m n : Machine) (k : ℕ) (o : Option ℕ) → n.mutators ≡ m.mutators → handle_given n k o ≡ handle_given m k o
given_alike m n k None e = refl
given_alike m n k (Some s) e = new_alike m n k e

pub poll_answered :
    (m mid n : Machine) (k h q : ℕ) (o : Option ℕ) (a : Answer) → refusal m (Poll k h) ≡ None → slot_named m k h ≡ Some q
    → o ≡ option_and_then front (option_and_then as_members (at m.objects q))
    → mid ≡ polled m q o → handle_given mid k o ≡ Some a → n ≡ with_given mid k o → Answered m (Poll k h) (Ok a) n
poll_answered m mid n k h q o a allowed named is mid_is handle left =
    let gives : given m (Poll k h) ≡ o =
    ap (λ s. option_and_then front (option_and_then as_members (option_and_then (at m.objects) s))) named ∙ sym is in (
      allowed,
      ap (handle_given m k) gives ∙ sym (given_alike m mid k o (polled_mutators m mid q o mid_is)) ∙ handle,
      left
          ∙ ap (λ x. with_given x k o) mid_is
          ∙ ap (λ s. on s (λ x. with_given (polled m x o) k o) m) (sym named)
          ∙ ap (λ g. on (slot_named m k h) (λ x. with_given (polled m x g) k g) m) (sym gives),
    )

pub remove_answered :
    (m mid n : Machine) (k h q : ℕ) (o : Option ℕ) (a : Answer) → refusal m (Remove k h) ≡ None → slot_named m k h ≡ Some q
    → o ≡ option_and_then front (option_and_then as_members (at m.objects q))
    → mid ≡ polled m q o → handle_given mid k o ≡ Some a → n ≡ with_given mid k o → Answered m (Remove k h) (Ok a) n
remove_answered m mid n k h q o a allowed named is mid_is handle left =
    let gives : given m (Remove k h) ≡ o =
    ap (λ s. option_and_then front (option_and_then as_members (option_and_then (at m.objects) s))) named ∙ sym is in (
      allowed,
      ap (handle_given m k) gives ∙ sym (given_alike m mid k o (polled_mutators m mid q o mid_is)) ∙ handle,
      left
          ∙ ap (λ x. with_given x k o) mid_is
          ∙ ap (λ s. on s (λ x. with_given (polled m x o) k o) m) (sym named)
          ∙ ap (λ g. on (slot_named m k h) (λ x. with_given (polled m x g) k g) m) (sym gives),
    )

pub same_room : (m n : Machine) (k : ℕ) (o : Option ℕ) → n.mutators ≡ m.mutators → (is_some o && not (has_free_handle m k)) ≡ false
    → (is_some o && not (has_free_handle n k)) ≡ false
same_room m n k o e h =
    subst (λ (t : Table Session). (is_some o && not (some_and (λ s. nat_lt (occupied s.handles) 250) (at t k))) ≡ false) (sym e) h

front_first : (l : List ℕ) → front l ≡ slice_get l 0
front_first [] = refl
front_first (x ∷ l) = refl

pub fronts_first : (o : Option (List ℕ)) → option_and_then front o ≡ option_and_then (λ members. slice_get members 0) o
fronts_first None = refl
fronts_first (Some l) = front_first l
