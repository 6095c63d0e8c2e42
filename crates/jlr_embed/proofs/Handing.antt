-- Steps of the handler: each leaves less pending, and one follows the other.
use Rattle.std.proofs.Common.{◌≡◌, ◌≢◌, ℕ, ◌<◌, List, [], ◌∷◌, ◌++◌, length, Option, Some, None, refl, sym, ◌∙◌, ap, subst, arith}
use Rattle.jlr_machine.specs.declared.object.Object.{Object}
use Rattle.jlr_machine.specs.declared.machine.Machine.{Machine}
use Rattle.jlr_machine.specs.declared.ask.Handed.{Handed}
use Rattle.jlr_machine.specs.declared.ask.Handed.TheVariants.{Queued, Lined, Skipped, Nothing}
use Rattle.jlr_machine.specs.declared.ask.Ask.TheVariants as ask
use Rattle.jlr_machine.specs.declared.ask.Answer.{Answer}
use Rattle.jlr_machine.specs.declared.ask.Answer.TheVariants as answer
use Rattle.jlr_machine.specs.Chosen.{Chosen}
use Rattle.jlr_machine.specs.declared.entry.Collected.{Collected}
use Rattle.jlr_machine.specs.Objects.{at}
use Rattle.jlr_machine.specs.Calls.{handed, handed_over, delivered, to_queue}
use Rattle.jlr_machine.specs.Run.{IsLegal, MayCollect, apply}
use Rattle.jlr_machine.specs.Run.IsLegal.{carried_out, refused, heap_full, out_of_memory}
use Rattle.jlr_laws.proofs.LegalKept.{no_need}
use Rattle.jlr_event.specs.declared.event.Event.TheVariants.{Ask as Asks}
use Rattle.jlr_event.specs.declared.event.Reply.TheVariants.{Answered}
use Rattle.jlr_steps.specs.Cores.{Kept, StandsIn}
use Rattle.jlr_steps.specs.Events.{entry_of}
use Rattle.jlr_steps.specs.Steps.{IsStep, Steps}
use Rattle.jlr_embed.specs.Standing.{StandsForMachine}
use Rattle.jlr_embed.specs.Settling.{HandsOverSteps}

-- ---- What is left of the list

to_queue_pending : (m : Machine) (s : ℕ) (q : Option ℕ) → (to_queue m s q).pending ≡ m.pending
to_queue_pending m s None = refl
to_queue_pending m s (Some q) = refl

delivered_pending : (m : Machine) (s : ℕ) (h : Handed) → (delivered m s h).pending ≡ m.pending
delivered_pending m s Queued = to_queue_pending _ s _
delivered_pending m s Lined = refl
delivered_pending m s Skipped = refl
delivered_pending m s Nothing = refl

rest_is_left : (m : Machine) (s : ℕ) (rest : List ℕ) → (handed_over m (s ∷ rest)).pending ≡ rest
rest_is_left m s rest =
    let P : Option Object → Machine =
    λ o. elim o [ None ↦ record m { pending = rest } | Some o ↦ delivered (record m { pending = rest }) s (handed o) ] in
    elim (at m.objects s) as (λ o. (P o).pending ≡ rest) [
      | None ↦ refl
      | Some o ↦ delivered_pending (record m { pending = rest }) s (handed o)
    ]

one_less : (m : Machine) (pending : List ℕ) → pending ≢ [] → length (handed_over m pending).pending < length pending
one_less m [] some = absurd (some refl)
one_less m (s ∷ rest) some = omega (arith, ap length (rest_is_left m s rest))

-- ---- A legal entry, and a step

abbrev Shorter : Machine → Answer → Chosen → Type 0
Shorter m a chosen = length (apply m (entry_of ask.HandOver a chosen)).pending < length m.pending

carried : (m : Machine) (what : Handed) (fresh : List ℕ) (c : Option Collected) → m.pending ≢ [] → MayCollect m ask.HandOver c
    → Shorter m (answer.Handed what) (record { collected = c; fresh = fresh })
carried m what fresh (Some c) some may = absurd (no_need m may.0)
carried m what fresh None some may = one_less m m.pending some

shorter : (m : Machine) (what : Handed) (chosen : Chosen) → m.pending ≢ [] → IsLegal m (entry_of ask.HandOver (answer.Handed what) chosen)
    → Shorter m (answer.Handed what) chosen
shorter m what chosen some (carried_out c) = carried m what chosen.fresh chosen.collected some c.collection
shorter m what chosen some (refused r) = cc r.answers
shorter m what chosen some (heap_full r) = cc r.answers
shorter m what chosen some (out_of_memory r) = cc r.answers

same_pending : {R : Type 0} (core : Kept R) (m : Machine) → StandsIn core m → core.machine.pending ≡ m.pending
same_pending core m s = ap {A = Machine} {B = List ℕ} (λ n. n.pending) s.same

pub less_pending : {R : Type 0} (old new : Kept R) (what : Handed) (chosen : Chosen)
    → IsStep old (Asks ask.HandOver) (Answered (answer.Handed what) None) chosen new → StandsForMachine old → old.machine.pending ≢ []
    → length new.machine.pending < length old.machine.pending
less_pending old new what chosen step stands some =
    let m = stands.0 in
    let x = step.entry m stands.1 in
    let same = same_pending old m stands.1 in
    let less = shorter m what chosen (λ e. some (same ∙ e)) x.1.0 in
    let here : length x.0.pending < length m.pending = subst (λ (n : Machine). length n.pending < length m.pending) (sym x.1.1) less in
    omega (arith, here, ap length same, ap length (same_pending new x.0 x.2))

-- ---- One step more

pub more : {R : Type 0} (all : List Handed) (what : Handed) (old mid new : Kept R) → HandsOverSteps all old mid
    → mid.machine.pending ≢ [] → Steps mid (Asks ask.HandOver) (Answered (answer.Handed what) None) new
    → HandsOverSteps (all ++ what ∷ []) old new
more {R} [] what old mid new h some s = (
  subst (λ (m : Kept R). m.machine.pending ≢ []) h some,
  new,
  subst (λ (m : Kept R). Steps m (Asks ask.HandOver) (Answered (answer.Handed what) None) new) h s,
  refl,
)
more (x ∷ all) what old mid new h some s = (h.0, h.1, h.2, more all what h.1 mid new h.3 some s)
