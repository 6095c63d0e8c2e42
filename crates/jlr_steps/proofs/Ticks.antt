-- A cycle keeps what it blackened and made, and ticks at most as often as the objects in all cells take ticks together.
use Rattle.std.proofs.Common.{◌≡◌, ◌≤◌, ◌<◌, ◌+◌, ◌-◌, ◌*◌, ◌/◌, ◌⊎◌, ◌&&◌, ℕ, zero, suc, Bool, true, false, cond, not, inl, inr, List, []}
use Rattle.std.proofs.Common.{◌∷◌, length, Option, Some, None, is_some, refl, sym, subst, ap, ◌∙◌, arith}
use Rattle.std.specs.Prelude.{nat_eq, slice_get}
use Rattle.std.proofs.lemmas.Bool.{and_parts, both_ways, eqb-true}
use Rattle.jlr_types.specs.declared.Progress.{Progress}
use Rattle.jlr_types.specs.declared.Progress.TheVariants.{Idle}
use Rattle.jlr_soft.specs.declared.policy.Mode.TheVariants.{Policy}
use Rattle.jlr_machine.specs.declared.ask.Ask.{Ask}
use Rattle.jlr_machine.specs.declared.ask.Ask.TheVariants.{Collect}
use Rattle.jlr_machine.specs.declared.ask.Answer.{Answer}
use Rattle.jlr_machine.specs.declared.ask.Answer.TheVariants.{Truth}
use Rattle.jlr_machine.specs.Chosen.{Chosen}
use Rattle.jlr_machine.specs.declared.entry.Collected.{Collected}
use Rattle.jlr_machine.specs.Objects.{Heap, ◌∋◌}
use Rattle.jlr_laws.proofs.Frames.{no_some}
use Rattle.jlr_marks.specs.declared.part.Part.{Part}
use Rattle.jlr_marks.specs.Marking.{Marking, is_marked, marked, place, place_in}
use Rattle.jlr_barrier.specs.Parts.{ticks_at}
use Rattle.jlr_marker.specs.Following.{keeps}
use Rattle.jlr_marker.specs.Spending.{by_colour, spent_at, total}
use Rattle.jlr_marker.specs.Marks.{MarksOn}
use Rattle.jlr_marker.proofs.Totals.{by_cases, colour_black, colour_grey, colour_white, total_within}
use Rattle.jlr_event.specs.declared.event.Event.{Event}
use Rattle.jlr_event.specs.declared.event.Reply.{Reply}
use Rattle.jlr_event.specs.Events.{ask_of, answer_in}
use Rattle.jlr_steps.specs.Cores.{Kept}
use Rattle.jlr_steps.specs.Cycles.{CountsItsCycles, GoesThrough, IsInCycle, TakesAtMost, blackened_in, made_in, ticks_taken}
use Rattle.jlr_state.specs.Marks.{AnswersPiece, MarksStay, budget_of, has_grey, ticks_between}
use Rattle.jlr_state.specs.Policy.{KeepsByPolicy, KeepsMarked}
use Rattle.jlr_steps.specs.Steps.{IsStep}

-- ---- How far a cell came, in ticks, where the object at a slot takes at most f of them

abbrev stage : (ℕ → ℕ) → Marking → ℕ → ℕ
stage f m x = by_colour m x (place m x / 64) (f x)

abbrev stages : (ℕ → ℕ) → Marking → ℕ → ℕ
stages f m n = total (stage f m) n

-- an array in progress ends after the place that was reached
abbrev IsPlaced : (ℕ → ℕ) → Marking → Type 0
IsPlaced f m = (p : Part) → m.part ≡ Some p → p.place < 64 * f p.slot

place_within : (f : ℕ → ℕ) (m : Marking) (x : ℕ) → IsPlaced f m → place m x / 64 ≤ f x
place_within f m x placed =
    elim m.part as (λ o. m.part ≡ o → place_in o x / 64 ≤ f x) [
      | None ↦ λ e. omega arith
      | Some p ↦ λ e. elim (nat_eq p.slot x) as (λ b. nat_eq p.slot x ≡ b → cond b p.place 0 / 64 ≤ f x) [
        | true ↦ λ same. subst (λ z. p.place / 64 ≤ f z) (eqb-true p.slot x same) (omega (arith, placed p e))
        | false ↦ λ other. omega arith
      ] refl
    ] refl

stage_within : (f : ℕ → ℕ) (m : Marking) (x : ℕ) → IsPlaced f m → stage f m x ≤ f x
stage_within f m x placed =
    by_cases m x (λ white. omega (arith, colour_white m x (place m x / 64) (f x) white))
    (λ on grey. omega (arith, colour_grey m x (place m x / 64) (f x) on grey, place_within f m x placed))
    (λ on dark. omega (arith, colour_black m x (place m x / 64) (f x) on dark))

total_sum : (f g : ℕ → ℕ) (n : ℕ) → total (λ x. f x + g x) n ≡ total f n + total g n
total_sum f g zero = refl
total_sum f g (suc n) = let before = total_sum f g n in omega (arith, before)

-- ---- The marks stay

stay_placed : (f : ℕ → ℕ) (old new : Marking) → MarksStay old new → IsPlaced f old → IsPlaced f new
stay_placed f old new s placed p e = placed p (sym s.part ∙ e)

stay_stages : (f : ℕ → ℕ) (old new : Marking) (n : ℕ) → MarksStay old new → IsPlaced f old → stages f old n ≤ stages f new n
stay_stages f old new n s placed =
    total_within (stage f old) (stage f new) n
    (λ x.
    let same : place new x ≡ place old x = ap (λ o. place_in o x) s.part in
    by_cases old x (λ white. omega (arith, colour_white old x (place old x / 64) (f x) white))
    (λ was grey. by_cases new x (λ off. absurd (both_ways (is_marked new x) off (s.kept x was)))
    (λ on still. omega
    (arith, colour_grey old x (place old x / 64) (f x) was grey, colour_grey new x (place new x / 64) (f x) on still, same))
    (λ on dark. omega (
      arith,
      colour_grey old x (place old x / 64) (f x) was grey,
      colour_black new x (place new x / 64) (f x) on dark,
      place_within f old x placed,
    )))
    (λ was dark. by_cases new x (λ off. absurd (both_ways (is_marked new x) off (s.kept x was)))
    (λ on grey. elim (s.fresh x grey) [ inl before ↦ absurd (both_ways (old.grey ∋ x) dark before) | inr white ↦ absurd (white was) ])
    (λ on still. omega (
      arith,
      colour_black old x (place old x / 64) (f x) was dark,
      colour_black new x (place new x / 64) (f x) on still,
    ))))

-- ---- A piece of marking

module _ (f : ℕ → ℕ) (kept : ℕ → Bool) (heap : Heap) (budget ticks : ℕ) (progress : Progress) (old new : Marking)
    (m : MarksOn kept heap budget ticks progress old new) (most : (x : ℕ) → ticks_at heap x ≤ f x) where
  piece_placed : IsPlaced f old → IsPlaced f new
  piece_placed placed p e = elim (m.part p e) [ inl was ↦ placed p was | inr below ↦ omega (arith, below, most p.slot) ]

  abbrev before : ℕ → ℕ
  before x = spent_at heap old x

  abbrev after : ℕ → ℕ
  after x = spent_at heap new x

  -- each cell comes as far on as ticks are spent on it
  one_cell : (x : ℕ) → stage f old x + after x ≤ stage f new x + before x
  one_cell x =
      let b = m.blackening in
      let t = ticks_at heap x in
      let p = place old x / 64 in
      let q = place new x / 64 in
      let k = f x in
      by_cases old x
      (λ white.
      let a1 = colour_white old x p k white in
      let a2 = colour_white old x p t white in
      by_cases new x (λ off. omega (arith, a1, a2, colour_white new x q k off, colour_white new x q t off))
      (λ on grey. omega (arith, a1, a2, colour_grey new x q k on grey, colour_grey new x q t on grey))
      (λ on dark. omega (arith, a1, a2, colour_black new x q k on dark, colour_black new x q t on dark, most x)))
      (λ was grey.
      let a1 = colour_grey old x p k was grey in
      let a2 = colour_grey old x p t was grey in
      by_cases new x (λ off. absurd (both_ways (is_marked new x) off (b.kept x was)))
      (λ on still. omega (arith, a1, a2, colour_grey new x q k on still, colour_grey new x q t on still))
      (λ on dark. omega (arith, a1, a2, colour_black new x q k on dark, colour_black new x q t on dark, most x)))
      (λ was dark.
      let a1 = colour_black old x p k was dark in
      let a2 = colour_black old x p t was dark in
      by_cases new x (λ off. absurd (both_ways (is_marked new x) off (b.kept x was)))
      (λ on grey. elim (b.fresh x grey) [ inl old_grey ↦ absurd (both_ways (old.grey ∋ x) dark old_grey) | inr white ↦ absurd (white was) ])
      (λ on still. omega (arith, a1, a2, colour_black new x q k on still, colour_black new x q t on still)))

  piece_stages : stages f old (length heap) + ticks ≤ stages f new (length heap)
  piece_stages =
      let n = length heap in
      let all = total_within (λ x. stage f old x + after x) (λ x. stage f new x + before x) n one_cell in
      omega (arith, all, total_sum (stage f old) after n, total_sum (stage f new) before n, m.blackening.spends)

-- ---- One step

piece_on : (b : Bool) (A B : Type 0) → b ≡ true → (elim b as (λ _. Type 0) [ true ↦ A | false ↦ B ]) → A
piece_on true A B e a = a
piece_on false A B e a = absurd (both_ways false refl e)

module _ {R : Type 0} (old : Kept R) (e : Event R) (r : Reply R) (c : Chosen) (new : Kept R) (s : IsInCycle old e r c new) where
  abbrev marks : ℕ → Progress → Type 0
  marks budget progress =
      MarksOn (keeps (record { soft_age = old.soft_age; mode = Policy }) old.clock) old.machine.objects budget
      (ticks_between old.machine.objects old.marking new.marking) progress old.marking new.marking

  abbrev answered : Option ℕ → Type 0
  answered b = AnswersPiece b old.soft_age old.clock old.machine old.marking old.condemned r new.marking new.condemned

  marks_on : (budget : ℕ) → answered (Some budget) → (progress : Progress) × marks budget progress
  marks_on budget m = (
    m.0,
    (piece_on old.machine.cycle_open (marks budget m.0 × (new.condemned ≡ old.condemned))
        ((m.0 ≡ Idle) × (new.marking ≡ old.marking) × (new.condemned ≡ old.condemned - budget)) s.before m.2).0,
  )

  counted_by : (b : Option ℕ) → budget_of e ≡ b → answered b
      → marked new.marking + length old.marking.grey ≡ marked old.marking + length new.marking.grey + blackened_in b old.marking
      new.marking + made_in b c
  counted_by None is m = omega (arith, (s.step.blackens is (λ _. s.before) s.still).0)
  counted_by (Some budget) is m = let k = marks_on budget m in omega (arith, k.1.blackening.black.2)

  counted : marked new.marking + length old.marking.grey
      ≡ marked old.marking + length new.marking.grey + blackened_in (budget_of e) old.marking new.marking + made_in (budget_of e) c
  counted = counted_by (budget_of e) refl s.step.marking

  few_by : (b : Option ℕ) → answered b → (blackened_in b old.marking new.marking ≡ 0) ⊎ (marked new.marking ≤ length old.machine.objects)
  few_by None m = inl refl
  few_by (Some budget) m = let k = marks_on budget m in inr k.1.within

  few : (blackened_in (budget_of e) old.marking new.marking ≡ 0) ⊎ (marked new.marking ≤ length old.machine.objects)
  few = few_by (budget_of e) s.step.marking

  ticked_by : (b : Option ℕ) → answered b → blackened_in b old.marking new.marking ≤ ticks_taken b old.machine.objects old.marking
      new.marking
  ticked_by None m = omega arith
  ticked_by (Some budget) m = let k = marks_on budget m in omega (arith, k.1.blackening.black.1, k.1.blackening.black.2)

  ticked : blackened_in (budget_of e) old.marking new.marking ≤ ticks_taken (budget_of e) old.machine.objects old.marking new.marking
  ticked = ticked_by (budget_of e) s.step.marking

  abbrev cells : ℕ
  cells = length old.machine.objects

  module _ (f : ℕ → ℕ) (most : (x : ℕ) → ticks_at old.machine.objects x ≤ f x) where
    on_by : (b : Option ℕ) → budget_of e ≡ b → answered b → IsPlaced f old.marking → IsPlaced f new.marking
        × (stages f old.marking cells + ticks_taken b old.machine.objects old.marking new.marking ≤ stages f new.marking cells)
    on_by None is m placed =
        let stays = (s.step.blackens is (λ _. s.before) s.still).1 in
        (stay_placed f old.marking new.marking stays placed, omega (arith, stay_stages f old.marking new.marking cells stays placed))
    on_by (Some budget) is m placed =
        let k = marks_on budget m in
        let t = ticks_between old.machine.objects old.marking new.marking in
        let by = keeps (record { soft_age = old.soft_age; mode = Policy }) old.clock in (
          piece_placed f by old.machine.objects budget t k.0 old.marking new.marking k.1 most placed,
          piece_stages f by old.machine.objects budget t k.0 old.marking new.marking k.1 most,
        )

    goes_on : IsPlaced f old.marking → IsPlaced f new.marking
        × (stages f old.marking cells + ticks_taken (budget_of e) old.machine.objects old.marking new.marking ≤ stages f new.marking cells)
    goes_on placed = on_by (budget_of e) refl s.step.marking placed

-- ---- All steps

-- so many are black in this core
abbrev AreBlack : {R : Type 0} → Kept R → ℕ → Type 0
AreBlack core n = marked core.marking ≡ length core.marking.grey + n

all_counted : {R : Type 0} (core : Kept R) (events : List (Event R)) (replies : List (Reply R)) (choices : List Chosen) (heaps : List Heap)
    (black ticks made : ℕ) (last : Kept R) (n : ℕ) → GoesThrough core events replies choices heaps black ticks made last
    → AreBlack core n → AreBlack last (n + black + made) × ((black ≡ 0) ⊎ (n + black ≤ length core.machine.objects)) × (black ≤ ticks)
all_counted {R} core [] [] [] heaps black ticks made last n g are =
    (subst (λ (k : Kept R). AreBlack k (n + black + made)) (sym g.0) (omega (arith, are, g.2, g.4)), inl g.2, omega (arith, g.2))
all_counted {R} core (e ∷ events) (r ∷ replies) (c ∷ choices) heaps black ticks made last n g are =
    let next = g.0 in
    let step = g.5 in
    let b = blackened_in (budget_of e) core.marking next.marking in
    let k = made_in (budget_of e) c in
    let one = counted core e r c next step in
    let rest = all_counted next events replies choices g.1 g.2 g.3 g.4 last (n + b + k) g.6 (omega (arith, one, are)) in
    let sum : n + b + k + g.2 + g.4 ≡ n + black + made = omega (arith, g.8, g.10) in (
      subst (λ x. AreBlack last x) sum rest.0,
      elim rest.1 [
        | inr more ↦ inr (omega (arith, more, g.8, step.step.cells))
        | inl none ↦ elim (few core e r c next step) [
          | inl nothing ↦ inl (omega (arith, g.8, none, nothing))
          | inr within ↦ inr (omega (arith, within, one, are, g.8, none))
        ]
      ],
      omega (arith, rest.2, ticked core e r c next step, g.8, g.9),
    )
all_counted core [] [] (z ∷ choices) heaps black ticks made last n g are = absurd g
all_counted core [] (y ∷ replies) [] heaps black ticks made last n g are = absurd g
all_counted core [] (y ∷ replies) (z ∷ choices) heaps black ticks made last n g are = absurd g
all_counted core (x ∷ events) [] [] heaps black ticks made last n g are = absurd g
all_counted core (x ∷ events) [] (z ∷ choices) heaps black ticks made last n g are = absurd g
all_counted core (x ∷ events) (y ∷ replies) [] heaps black ticks made last n g are = absurd g

all_ticked : {R : Type 0} (f : ℕ → ℕ) (core : Kept R) (events : List (Event R)) (replies : List (Reply R)) (choices : List Chosen)
    (heaps : List Heap) (black ticks made : ℕ) (last : Kept R) (n : ℕ)
    → GoesThrough core events replies choices heaps black ticks made last → TakesAtMost f heaps → length core.machine.objects ≡ n
    → IsPlaced f core.marking → IsPlaced f last.marking × (stages f core.marking n + ticks ≤ stages f last.marking n)
all_ticked {R} f core [] [] [] heaps black ticks made last n g most cells placed = (
  subst (λ (k : Kept R). IsPlaced f k.marking) (sym g.0) placed,
  subst (λ (k : Kept R). stages f core.marking n + ticks ≤ stages f k.marking n) (sym g.0) (omega (arith, g.3)),
)
all_ticked {R} f core (e ∷ events) (r ∷ replies) (c ∷ choices) heaps black ticks made last n g most cells placed =
    let next = g.0 in
    let step = g.5 in
    let each : TakesAtMost f (core.machine.objects ∷ g.1) = subst (TakesAtMost f) g.7 most in
    let t = ticks_taken (budget_of e) core.machine.objects core.marking next.marking in
    let one = goes_on core e r c next step f each.0 placed in
    let here : stages f core.marking n + t ≤ stages f next.marking n =
    subst (λ k. stages f core.marking k + t ≤ stages f next.marking k) cells one.1 in
    let rest = all_ticked f next events replies choices g.1 g.2 g.3 g.4 last n g.6 each.1 (step.step.cells ∙ cells) one.0 in
    (rest.0, omega (arith, here, rest.1, g.9))
all_ticked f core [] [] (z ∷ choices) heaps black ticks made last n g most cells placed = absurd g
all_ticked f core [] (y ∷ replies) [] heaps black ticks made last n g most cells placed = absurd g
all_ticked f core [] (y ∷ replies) (z ∷ choices) heaps black ticks made last n g most cells placed = absurd g
all_ticked f core (x ∷ events) [] [] heaps black ticks made last n g most cells placed = absurd g
all_ticked f core (x ∷ events) [] (z ∷ choices) heaps black ticks made last n g most cells placed = absurd g
all_ticked f core (x ∷ events) (y ∷ replies) [] heaps black ticks made last n g most cells placed = absurd g

-- ---- The collection

none_grey : (grey : List ℕ) → not (is_some (slice_get grey 0)) ≡ true → length grey ≡ 0
none_grey [] e = refl
none_grey (x ∷ grey) e = absurd (both_ways false refl e)

truth_same : (a b : Bool) → ◌≡◌ {A = Option Answer} (Some (Truth a)) (Some (Truth b)) → a ≡ b
truth_same true true e = refl
truth_same false false e = refl
truth_same true false e = absurd (cc e)
truth_same false true e = absurd (cc e)

collected : {R : Type 0} (last : Kept R) (event : Event R) (reply : Reply R) (chosen : Chosen) (new : Kept R) (n : ℕ) → AreBlack last n
    → IsStep last event reply chosen new → ask_of event ≡ Some Collect → answer_in reply ≡ Some (Truth true)
    → (c : Collected) → chosen.collected ≡ Some c → length c.kept ≡ n
collected last event reply chosen new n black s is on c told =
    let both = truth_same (last.machine.cycle_open && not (has_grey last.marking)) true (sym (s.collects is) ∙ on) in
    let grey = none_grey last.marking.grey (and_parts last.machine.cycle_open (not (has_grey last.marking)) both).1 in
    let kept : KeepsMarked last.machine last.marking chosen =
    subst (λ (a : Option Ask). KeepsByPolicy last.soft_age last.clock last.machine last.marking a chosen) is s.policy in
    omega (arith, (kept c told).1, black, grey)

pub counts_its_cycles : {R : Type 0} (core : Kept R) → CountsItsCycles core
counts_its_cycles core event reply chosen first s is shut events replies choices heaps black ticks made last g =
    let begun = s.begins is shut in
    let all = all_counted first events replies choices heaps black ticks made last 0 g (omega (arith, begun.none_black)) in
    let n = length first.machine.objects in
    record {
      all_black = omega (arith, all.0);
      few = elim all.1 [ inl none ↦ omega (arith, none) | inr few ↦ omega (arith, few) ];
      ticked = all.2;
      most =
          λ f within.
          let none_placed : IsPlaced f first.marking = λ p e. no_some p (sym begun.no_part ∙ e) in
          let ticked = all_ticked f first events replies choices heaps black ticks made last n g within refl none_placed in
          omega (arith, ticked.1, total_within (stage f last.marking) f n (λ x. stage_within f last.marking x ticked.0));
      kept = λ e r x n step is on c told. omega (arith, collected last e r x n (0 + black + made) all.0 step is on c told);
    }
