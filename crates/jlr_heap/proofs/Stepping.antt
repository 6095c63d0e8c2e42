-- What a step of the book is to the core, and so what its answer is.
use Rattle.std.proofs.Common.{◌≡◌, ◌⊎◌, inl, inr, ℕ, Bool, true, false, nat_lt, Option, Some, None, is_none, length, refl, sym, ap, subst}
use Rattle.jlr_types.specs.declared.Refusal.{Refusal}
use Rattle.jlr_types.specs.declared.Refusal.TheVariants.{NoMemory, Exhausted}
use Rattle.jlr_types.specs.declared.Progress.{Progress}
use Rattle.jlr_machine.specs.declared.machine.Machine.{Machine}
use Rattle.jlr_machine.specs.declared.ask.Ask.{Ask}
use Rattle.jlr_machine.specs.declared.ask.Answer.{Answer}
use Rattle.jlr_machine.specs.declared.ask.Answer.TheVariants.{Refused}
use Rattle.jlr_machine.specs.Refusals.{is_end}
use Rattle.jlr_laws.proofs.Frames.{some_same}
use Rattle.jlr_event.specs.declared.event.Event.{Event}
use Rattle.jlr_event.specs.declared.event.Reply.{Reply}
use Rattle.jlr_event.specs.declared.event.Reply.TheVariants.{Answered, Marked}
use Rattle.jlr_event.specs.Events.{ask_of, answer_in, resource_of_event, resource_of_reply}
use Rattle.jlr_steps.specs.Cores.{Kept}
use Rattle.jlr_steps.specs.Steps.{Steps}
use Rattle.jlr_embed.specs.Kinds.{GoesBack, is_told, kind_asked, suits}
use Rattle.jlr_embed.proofs.Fitting.{goes, goes_back, kind_told, not_marked}
use Rattle.jlr_book.specs.Histories.{History, IsHistory}
use Rattle.jlr_book.specs.Rules.{AsksBy, BookSteps, Cuts, EndsBy, GivesUp, Readies, StepsBy}
use Rattle.jlr_book.specs.Writing.{Stands}
use Rattle.jlr_book.proofs.Entering.{abandons, closed}

-- ---- The core is asked, perhaps after a cut, or the book refuses

stands_in : {R : Type 0} (h : History R) → IsHistory h → Stands h.core
stands_in h is = (is.ends.0, is.ends.2, is.ends.3)

-- a core that stands where the book's does, but perhaps with its cycle closed
abbrev pub IsReady : {R : Type 0} → History R → Kept R → Type 0
IsReady h core = (closed core.machine ≡ closed h.core.machine) × Stands core

gave_up : {R : Type 0} (h ready : History R) (open_then : Bool) → h.core.machine.cycle_open ≡ open_then → Stands h.core
    → GivesUp open_then h.core ready.core → IsReady h ready.core
gave_up h ready true was st g =
    let a = abandons h.core ready.core _ g.0 g.1 st was in
    (ap {A = Machine} {B = Machine} closed a.1, a.2)
gave_up h ready false was st g = (ap {A = _} {B = Machine} (λ c. closed c.machine) g, subst Stands (sym g) st)

made_ready : {R : Type 0} (h ready : History R) → Stands h.core → Readies h ready → IsReady h ready.core
made_ready {R} h ready st = elim (nat_lt (length h.entries)
    h.limits.trace) as (λ b. elim b as (λ _. Type 0) [ true ↦ ready ≡ h | false ↦ Cuts h ready ] → IsReady h ready.core) [
      | true ↦ λ same. (
        ap {A = History R} {B = Machine} (λ b. closed b.core.machine) same,
        subst (λ (b : History R). Stands b.core) (sym same) st,
      )
      | false ↦ λ c. gave_up h ready h.core.machine.cycle_open refl st c.gives_up
    ]

abbrev pub Asked : {R : Type 0} → History R → Event R → Reply R → History R → Type 0
Asked {R} old e reply new = ((core : Kept R) × IsReady old core × Steps core e reply new.core)
    ⊎ ((by : Refusal) × (reply ≡ Answered (Refused by) (resource_of_event e)))

pub asked : {R : Type 0} (seat : ℕ) (old new : History R) (e : Event R) (reply : Reply R) (ask : Ask) → ask_of e ≡ Some ask → IsHistory old
    → BookSteps seat old e reply new → Asked old e reply new
asked {R} seat old new e reply ask is h steps =
    let st = stands_in old h in
    let known : StepsBy seat (Some ask) old e reply new = subst (λ o. StepsBy seat o old e reply new) is steps in
    elim (is_end ask) as (λ b. elim b as (λ _. Type 0) [ true ↦ EndsBy seat old e reply new | false ↦ AsksBy seat old e reply new ]
    → Asked old e reply new) [
      | true ↦ λ by. elim by [
        | inl x ↦ inl (old.core, (refl, st), (x.0.chosen, x.0.step))
        | inr t ↦ inl (old.core, (refl, st), t.steps)
      ]
      | false ↦ λ by. elim by [
        | inl x ↦ inl (x.ready.core, made_ready old x.ready st x.readies, (x.enters.chosen, x.enters.step))
        | inr d ↦ elim (d.why) [
          | inl w ↦ inr (NoMemory, w.1)
          | inr w ↦ inr (Exhausted, w.1)
        ]
      ]
    ] known

-- ---- The answer

with_ask : (o : Option Ask) → is_none o ≡ false → (ask : Ask) × (o ≡ Some ask)
with_ask None e = cc e
with_ask (Some ask) e = (ask, refl)

module _ {R : Type 0} (seat : ℕ) (old new : History R) (e : Event R) (some : is_none (ask_of e) ≡ false) (h : IsHistory old) where
  known : (reply : Reply R) → BookSteps seat old e reply new → Asked old e reply new
  known reply steps = let a = with_ask (ask_of e) some in asked seat old new e reply a.0 a.1 h steps

  pub never_marked : (p : Progress) → BookSteps seat old e (Marked p) new → ⊥
  never_marked p steps = elim (known (Marked p) steps) [
    | inl c ↦ not_marked c.0 new.core e (Marked p) c.2.0 c.2.1 (c.1.1.0, c.1.1.1) p refl some
    | inr d ↦ cc d.1
  ]

  module _ (a : Answer) (out : Option R) (steps : BookSteps seat old e (Answered a out) new) where
    said : (by : Refusal) → Answered a out ≡ Answered (Refused by) (resource_of_event e) → a ≡ Refused by
    said by is = some_same a (Refused by) (ap answer_in is)

    pub kind_answered : is_told (kind_asked (ask_of e)) a ≡ true
    kind_answered = elim (known (Answered a out) steps) [
      | inl c ↦ kind_told c.0 new.core e a out c.2.0 c.2.1 (c.1.1.0, c.1.1.1)
      | inr d ↦ subst (λ x. is_told (kind_asked (ask_of e)) x ≡ true) (sym (said d.0 d.1)) refl
    ]

    pub suits_answered : suits a out ≡ true
    suits_answered = elim (known (Answered a out) steps) [
      | inl c ↦ goes c.0.table (resource_of_event e) a out c.2.1.goes_out
      | inr d ↦ subst (λ x. suits x out ≡ true) (sym (said d.0 d.1)) refl
    ]

    pub back_answered : GoesBack (resource_of_event e) a out
    back_answered = elim (known (Answered a out) steps) [
      | inl c ↦ goes_back c.0.table (resource_of_event e) a out c.2.1.goes_out
      | inr d ↦ subst (λ x. GoesBack (resource_of_event e) x out) (sym (said d.0 d.1)) (ap resource_of_reply d.1)
    ]
