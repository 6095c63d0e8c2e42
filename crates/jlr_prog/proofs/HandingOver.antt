-- A step of the handler where something is pending took something off the list, which is then shorter, or it was refused.
use Rattle.std.proofs.Common.{◌≡◌, ◌≢◌, ℕ, ◌<◌, ◌⊎◌, inl, inr, Bool, true, false, nat_lt, List, [], ◌∷◌, length, Option, Some, None, refl}
use Rattle.std.proofs.Common.{sym, ◌∙◌, ap, subst, option_map, arith}
use Rattle.jlr_types.specs.declared.limits.Limits.{Limits}
use Rattle.jlr_types.specs.declared.Refusal.{Refusal}
use Rattle.jlr_types.specs.declared.Refusal.TheVariants.{NoMemory, HeapFull, Exhausted}
use Rattle.jlr_machine.specs.declared.object.Object.{Object}
use Rattle.jlr_machine.specs.declared.object.Object.TheVariants.{Plain, Reference, Queue, Cleaner, Cleanable, Guard}
use Rattle.jlr_machine.specs.declared.object.RefState.{RefState}
use Rattle.jlr_machine.specs.declared.object.RefState.TheVariants.{Fresh, Pending, Queued, Removed}
use Rattle.jlr_machine.specs.declared.object.CleanState.{CleanState}
use Rattle.jlr_machine.specs.declared.object.CleanState.TheVariants.{Armed, Pending as PendingClean, Lined, Spent}
use Rattle.jlr_machine.specs.declared.machine.Machine.{Machine}
use Rattle.jlr_machine.specs.declared.ask.Handed.{Handed as HandedOver}
use Rattle.jlr_machine.specs.declared.ask.Handed.TheVariants.{Queued as HandedQueued, Lined as HandedLined, Skipped, Nothing}
use Rattle.jlr_machine.specs.declared.ask.Ask.{Ask}
use Rattle.jlr_machine.specs.declared.ask.Ask.TheVariants.{HandOver}
use Rattle.jlr_machine.specs.declared.ask.Answer.{Answer}
use Rattle.jlr_machine.specs.declared.ask.Answer.TheVariants.{Handed, Refused}
use Rattle.jlr_machine.specs.Chosen.{Chosen}
use Rattle.jlr_machine.specs.declared.entry.Collected.{Collected}
use Rattle.jlr_machine.specs.Objects.{at}
use Rattle.jlr_machine.specs.Refusals.{is_end}
use Rattle.jlr_machine.specs.Calls.{handed, handed_reference, handed_cleanable, hand_over_answer, handed_over, delivered, to_queue}
use Rattle.jlr_machine.specs.Run.{IsLegal, MayCollect, Answers, with_collection, apply}
use Rattle.jlr_machine.specs.Run.IsLegal.{carried_out, refused, heap_full, out_of_memory}
use Rattle.jlr_laws.proofs.Frames.{some_same}
use Rattle.jlr_laws.proofs.LegalKept.{no_need}
use Rattle.jlr_event.specs.declared.event.Event.{Event}
use Rattle.jlr_event.specs.declared.event.Event.TheVariants as event
use Rattle.jlr_machine.specs.declared.ask.Ask.TheVariants as ask
use Rattle.jlr_event.specs.declared.event.Reply.{Reply}
use Rattle.jlr_event.specs.declared.event.Reply.TheVariants.{Answered, Marked}
use Rattle.jlr_event.specs.Events.{ask_of, answer_in}
use Rattle.jlr_book.specs.Cores.{entry_of, Kept, StandsIn, Steps}
use Rattle.jlr_book.specs.Histories.{History, IsHistory}
use Rattle.jlr_book.specs.Rules.{AsksBy, BookSteps, Cuts, EndsBy, GivesUp, Readies, StepsBy, was_refused}
use Rattle.jlr_prog.specs.Settling.{HandsOver}
use Rattle.jlr_prog.specs.Solos.{at_book}
use Rattle.jlr_book.specs.Histories.{handler_seat}
use Rattle.jlr_prog.specs.OneTurn.{IsTurn, turn_by}
use Rattle.jlr_book.specs.Writing.{Stands}
use Rattle.jlr_prog.specs.declared.solo.solo.Turn.{Turn}
use Rattle.jlr_prog.specs.declared.solo.solo.Turn.TheVariants as turn
use Rattle.jlr_book.proofs.Entering.{abandons, closed}

-- ---- Steps of any kind

-- the pending list or the line of the machine is that of the core
pub same_part : {R A : Type 0} (core : Kept R) (m : Machine) (part : Machine → A) → ((m : Machine) → part (record m { seen = [] }) ≡ part m)
    → StandsIn core m → part core.machine ≡ part m
same_part core m part unseen s = ap part s.same ∙ unseen m

-- an ask that was answered is a legal entry of the machine; that it is answered by a piece of marking cannot be
abbrev pub Entered : {R : Type 0} → Kept R → Kept R → Ask → Answer → Type 0
Entered old new ask answer = (m : Machine) × (n : Machine) × (chosen : Chosen) × StandsIn old m × StandsIn new n
    × IsLegal m (entry_of ask answer chosen) × (n ≡ apply m (entry_of ask answer chosen))

pub entered : {R : Type 0} (old new : Kept R) (e : Event R) (reply : Reply R) (ask : Ask) → ask_of e ≡ Some ask → Stands old
    → Steps old e reply new
    → (answer : Answer) × (answer_in reply ≡ Some answer) × Entered old new ask answer
entered old new e (Answered answer resource) ask is stands s =
    let x = s.1.entry stands.0 stands.1 in
    let l = subst (λ a. Rattle.jlr_book.specs.Cores.EntersLegally stands.0 a (Some answer) s.0 x.0) is x.1 in
    (answer, refl, (stands.0, x.0, s.0, stands.1, x.2, l.0, l.1))
entered old new e (Marked progress) ask is stands s =
    let x = s.1.entry stands.0 stands.1 in
    absurd (subst (λ a. Rattle.jlr_book.specs.Cores.EntersLegally stands.0 a None s.0 x.0) is x.1)

-- what an answer comes to: work, or none since it is a refusal
abbrev pub ComesTo : Type 0 → Answer → Type 0
ComesTo work answer = work ⊎ ((by : Refusal) × (answer ≡ Refused by))

-- ---- Steps of the book

pub stands_in : {R : Type 0} (h : History R) → IsHistory h → Stands h.core
stands_in h is = (is.ends.0, is.ends.2, is.ends.3)

-- a core that stands where the book's does, but perhaps with its cycle closed
abbrev pub IsReady : {R : Type 0} → History R → Kept R → Type 0
IsReady h core = (closed core.machine ≡ closed h.core.machine) × Stands core

gave_up : {R : Type 0} (h ready : History R) (open_then : Bool) → h.core.machine.cycle_open ≡ open_then → Stands h.core
    → GivesUp open_then h.core ready.core → IsReady h ready.core
gave_up h ready true was st g =
    let a = abandons h.core ready.core _ g.0 g.1 st was in
    (ap {A = Machine} {B = Machine} closed a.1, a.2)
gave_up h ready false was st g = (ap {A = _} {B = Machine} (λ c. closed c.machine) g, subst Stands (sym g) st)

made_ready : {R : Type 0} (h ready : History R) → Stands h.core → Readies h ready → IsReady h ready.core
made_ready {R} h ready st = elim (nat_lt (length h.entries)
    h.limits.trace) as (λ b. elim b as (λ _. Type 0) [ true ↦ ready ≡ h | false ↦ Cuts h ready ] → IsReady h ready.core) [
      | true ↦ λ same. (
        ap {A = History R} {B = Machine} (λ b. closed b.core.machine) same,
        subst (λ (b : History R). Stands b.core) (sym same) st,
      )
      | false ↦ λ c. gave_up h ready h.core.machine.cycle_open refl st c.gives_up
    ]

-- an ask that is no end: the core is asked, perhaps after a cut, or the book refuses
pub asked : {R : Type 0} (seat : ℕ) (old new : History R) (e : Event R) (reply : Reply R) (ask : Ask) → ask_of e ≡ Some ask
    → is_end ask ≡ false → IsHistory old → BookSteps seat old e reply new
    → ((core : Kept R) × IsReady old core × Steps core e reply new.core) ⊎ was_refused reply
asked {R} seat old new e reply ask is end h steps =
    let by : AsksBy seat old e reply new = subst (λ b.
    elim b as (λ _. Type 0) [ true ↦ EndsBy seat old e reply new | false ↦ AsksBy seat old e reply new ]) end
    (subst (λ o. StepsBy seat o old e reply new) is steps) in
    elim by [
      | inl x ↦ inl (x.ready.core, made_ready old x.ready (stands_in old h) x.readies, (x.enters.chosen, x.enters.step))
      | inr d ↦ elim (d.why) [
        | inl w ↦ inr (NoMemory, ap answer_in w.1)
        | inr w ↦ inr (Exhausted, ap answer_in w.1)
      ]
    ]

-- and the limits stay
ready_limits : {R : Type 0} (h ready : History R) → Readies h ready → ready.limits ≡ h.limits
ready_limits {R} h ready = elim (nat_lt (length h.entries)
    h.limits.trace) as (λ b. elim b as (λ _. Type 0) [ true ↦ ready ≡ h | false ↦ Cuts h ready ] → ready.limits ≡ h.limits) [
      | true ↦ λ same. ap {A = History R} {B = Limits} (λ b. b.limits) same
      | false ↦ λ c. c.limits
    ]

pub same_limits : {R : Type 0} (seat : ℕ) (old new : History R) (e : Event R) (reply : Reply R) (ask : Ask) → ask_of e ≡ Some ask
    → is_end ask ≡ false → BookSteps seat old e reply new → new.limits ≡ old.limits
same_limits {R} seat old new e reply ask is end steps =
    let by : AsksBy seat old e reply new = subst (λ b.
    elim b as (λ _. Type 0) [ true ↦ EndsBy seat old e reply new | false ↦ AsksBy seat old e reply new ]) end
    (subst (λ o. StepsBy seat o old e reply new) is steps) in
    elim by [
      | inl x ↦ ap {A = History R} {B = Limits} (λ b. b.limits) x.enters.adds ∙ ready_limits old x.ready x.readies
      | inr d ↦ ap {A = History R} {B = Limits} (λ b. b.limits) d.same
    ]

-- an end: the core is asked
pub ended : {R : Type 0} (seat : ℕ) (old new : History R) (e : Event R) (reply : Reply R) (ask : Ask) → ask_of e ≡ Some ask
    → is_end ask ≡ true → BookSteps seat old e reply new → Steps old.core e reply new.core
ended seat old new e reply ask is end steps =
    let by : EndsBy seat old e reply new = subst (λ b.
    elim b as (λ _. Type 0) [ true ↦ EndsBy seat old e reply new | false ↦ AsksBy seat old e reply new ]) end
    (subst (λ o. StepsBy seat o old e reply new) is steps) in
    elim by [
      | inl x ↦ (x.0.chosen, x.0.step)
      | inr t ↦ t.steps
    ]

-- ---- The handler

-- an object that is handed over is not nothing
reference_is_some : (state : RefState) → handed_reference state ≢ Nothing
reference_is_some Fresh = λ e. cc
reference_is_some Pending = λ e. cc
reference_is_some Queued = λ e. cc
reference_is_some Removed = λ e. cc

cleanable_is_some : (state : CleanState) → handed_cleanable state ≢ Nothing
cleanable_is_some Armed = λ e. cc
cleanable_is_some PendingClean = λ e. cc
cleanable_is_some Lined = λ e. cc
cleanable_is_some Spent = λ e. cc

object_is_some : (o : Object) → handed o ≢ Nothing
object_is_some (Plain fields) = λ e. cc
object_is_some (Reference r) = reference_is_some r.state
object_is_some (Queue members) = λ e. cc
object_is_some Cleaner = λ e. cc
object_is_some (Cleanable c) = cleanable_is_some c.state
object_is_some (Guard g) = λ e. cc

-- and the rest of the list is what is left
to_queue_pending : (m : Machine) (s : ℕ) (q : Option ℕ) → (to_queue m s q).pending ≡ m.pending
to_queue_pending m s None = refl
to_queue_pending m s (Some q) = refl

delivered_pending : (m : Machine) (s : ℕ) (h : HandedOver) → (delivered m s h).pending ≡ m.pending
delivered_pending m s HandedQueued = to_queue_pending _ s _
delivered_pending m s HandedLined = refl
delivered_pending m s Skipped = refl
delivered_pending m s Nothing = refl

rest_is_left : (m : Machine) (s : ℕ) (rest : List ℕ) → (handed_over m (s ∷ rest)).pending ≡ rest
rest_is_left m s rest =
    let P : Option Object → Machine =
    λ o. elim o [ None ↦ record m { pending = rest } | Some o ↦ delivered (record m { pending = rest }) s (handed o) ] in
    elim (at m.objects s) as (λ o. (P o).pending ≡ rest) [
      | None ↦ refl
      | Some o ↦ delivered_pending (record m { pending = rest }) s (handed o)
    ]

abbrev Took : Answer → Type 0
Took answer = (h : HandedOver) × (h ≢ Nothing) × (answer ≡ Handed h)

-- the answer for a list that is not empty, and what is left of it
one_handed : (answer : Answer) (o : Option Object) → option_map (λ o. Handed (handed o)) o ≡ Some answer → Took answer
one_handed answer None e = cc e
one_handed answer (Some o) e = (handed o, object_is_some o, sym (some_same _ answer e))

answered : (m : Machine) (pending : List ℕ) (answer : Answer) → pending ≢ [] → hand_over_answer m pending ≡ Some answer → Took answer
    × (length (handed_over m pending).pending < length pending)
answered m [] answer some e = absurd (some refl)
answered m (s ∷ rest) answer some e = (one_handed answer (at m.objects s) e, omega (arith, ap length (rest_is_left m s rest)))

abbrev Shorter : Machine → Answer → Chosen → Type 0
Shorter m answer chosen = length (apply m (entry_of HandOver answer chosen)).pending < length m.pending

carried : (m : Machine) (answer : Answer) (fresh : List ℕ) (c : Option Collected) → m.pending ≢ [] → MayCollect m HandOver c
    → Answers (with_collection m c) HandOver c answer
    → Took answer × Shorter m answer (record { collected = c; fresh = fresh })
carried m answer fresh (Some c) some may e = absurd (no_need m may.0)
carried m answer fresh None some may e =
    let t = answered m m.pending answer some e in
    (t.0, subst (λ a. Shorter m a (record { collected = None; fresh = fresh })) (sym t.0.2) t.1)

comes_to : (m : Machine) (answer : Answer) (chosen : Chosen) → m.pending ≢ [] → IsLegal m (entry_of HandOver answer chosen)
    → ComesTo (Took answer × Shorter m answer chosen) answer
comes_to m answer chosen some (carried_out c) = inl (carried m answer chosen.fresh chosen.collected some c.collection c.answers)
comes_to m answer chosen some (refused r) = inr (r.by, r.answers)
comes_to m answer chosen some (heap_full r) = inr (HeapFull, r.answers)
comes_to m answer chosen some (out_of_memory r) = inr (NoMemory, r.answers)

stepped : {R : Type 0} (old new : Kept R) (answer : Answer) → old.machine.pending ≢ [] → Entered old new HandOver answer
    → ComesTo (Took answer × (length new.machine.pending < length old.machine.pending)) answer
stepped old new answer some x =
    let same : old.machine.pending ≡ x.0.pending = same_part old x.0 (λ m. m.pending) (λ m. refl) x.3 in
    elim (comes_to x.0 answer x.2 (λ e. some (same ∙ e)) x.5) [
      | inl t ↦
          let shorter : length x.1.pending < length x.0.pending =
          subst (λ (n : Machine). length n.pending < length x.0.pending) (sym x.6) t.1 in
          inl (t.0, omega (arith, shorter, ap length same, ap length (same_part new x.1 (λ m. m.pending) (λ m. refl) x.4)))
      | inr r ↦ inr r
    ]

-- the same over a book
handed_there : {R : Type 0} (seat : ℕ) (old new : History R) (reply : Reply R) → IsHistory old → old.core.machine.pending ≢ []
    → BookSteps seat old (event.Ask ask.HandOver) reply new
    → ((handed : HandedOver) × (handed ≢ Nothing) × (answer_in reply ≡ Some (Handed handed))
    × (length new.core.machine.pending < length old.core.machine.pending)) ⊎ was_refused reply
handed_there seat old new reply h some steps = elim (asked seat old new (event.Ask ask.HandOver) reply HandOver refl refl h steps) [
  | inl x ↦
      let same : x.0.machine.pending ≡ old.core.machine.pending = ap {A = Machine} {B = List ℕ} (λ n. n.pending) x.1.0 in
      let y = entered x.0 new.core (event.Ask ask.HandOver) reply HandOver refl x.1.1 x.2 in
      elim (stepped x.0 new.core y.0 (λ e. some (sym same ∙ e)) y.2) [
        | inl w ↦ inl (w.0.0, w.0.1, y.1 ∙ ap Some w.0.2, omega (arith, w.1, ap length same))
        | inr r ↦ inr (r.0, y.1 ∙ ap Some r.1)
      ]
  | inr r ↦ inr r
]

-- ---- Which turn it was

took_turn : (h : HandedOver) → turn_by (Handed h) ≡ turn.Worked
took_turn h = refl

refusal_worked : {P : Type 0} → turn.Refused ≡ turn.Worked → P
refusal_worked e = cc e

-- a turn that worked
pub worked : {H R : Type 0} (asks : H → Event R → Reply R → H → Type 0) (works : H → H → Type 0) (e : Event R) (old new : H) (t : Turn)
    → t ≡ turn.Worked → IsTurn asks works e t old new → works old new
worked asks works e old new t is h = subst (λ t. IsTurn asks works e t old new) is h

-- and one that was refused
pub refused_turn : {H R : Type 0} (asks : H → Event R → Reply R → H → Type 0) (works : H → H → Type 0) (e : Event R) (old new : H)
    (t : Turn) → t ≡ turn.Refused → IsTurn asks works e t old new
    → (last : Reply R) × asks old e last new × was_refused last
refused_turn asks works e old new t is h = subst (λ t. IsTurn asks works e t old new) is h

-- an ask that was refused, whatever a turn would be
pub no_turn : {H R : Type 0} (asks : H → Event R → Reply R → H → Type 0) (works : H → H → Type 0) (old new : H) (e : Event R)
    (reply : Reply R) (answer : Answer) (t : Turn)
    → answer_in reply ≡ Some answer → t ≡ turn_by answer → asks old e reply new → was_refused reply → {P : Type 0}
    → IsTurn asks works e t old new × (t ≡ turn.Worked → P)
no_turn asks works old new e reply answer t is which s r {P} =
    let said : answer ≡ Refused r.0 = some_same answer (Refused r.0) (sym is ∙ r.1) in
    let same : t ≡ turn.Refused = which ∙ ap turn_by said in
    (subst (λ t. IsTurn asks works e t old new) (sym same) (reply, s, r), λ w. refusal_worked (sym same ∙ w))

pub handed_turn : {R : Type 0} (old new : History R) (reply : Reply R) (answer : Answer) (t : Turn) → answer_in reply ≡ Some answer
    → t ≡ turn_by answer
    → IsHistory old → old.core.machine.pending ≢ [] → BookSteps (handler_seat old) old (event.Ask ask.HandOver) reply new
    → IsTurn (at_book {R = R}).hands (HandsOver at_book) (event.Ask ask.HandOver) t old new
    × (t ≡ turn.Worked → length new.core.machine.pending < length old.core.machine.pending)
handed_turn old new reply answer t is which h some s =
    elim (handed_there (handler_seat old) old new reply h some s) [
      | inl w ↦
          let said : answer ≡ Handed w.0 = some_same answer (Handed w.0) (sym is ∙ w.2) in
          let worked : t ≡ turn.Worked = which ∙ ap turn_by said ∙ took_turn w.0 in (
            subst (λ t. IsTurn at_book.hands (HandsOver at_book) (event.Ask ask.HandOver) t old new) (sym worked)
                (some, reply, s, (w.0, w.1, w.2)),
            λ _. w.3,
          )
      | inr r ↦ no_turn at_book.hands (HandsOver at_book) old new (event.Ask ask.HandOver) reply answer t is which s r
    ]

pub never_marked : {R P : Type 0} (old new : History R) (reply : Reply R) → answer_in reply ≡ None → IsHistory old
    → old.core.machine.pending ≢ [] → BookSteps (handler_seat old) old (event.Ask ask.HandOver) reply new → P
never_marked old new reply none h some s =
    elim (handed_there (handler_seat old) old new reply h some s) [
      | inl w ↦ cc (none, w.2)
      | inr r ↦ cc (none, r.1)
    ]
