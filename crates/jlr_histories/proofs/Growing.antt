-- What was seen stays seen as long as the cycle is open.
use Rattle.std.proofs.Common.{◌≡◌, ℕ, ◌<◌, true, false, List, [], length, inl, inr, refl, sym, ◌∙◌, ap, subst, Option, Some, None}
use Rattle.std.proofs.lemmas.Bool.{both_ways}
use Rattle.jlr_types.specs.declared.Refusal.{Refusal}
use Rattle.jlr_machine.specs.declared.machine.Machine.{Machine}
use Rattle.jlr_machine.specs.declared.ask.Ask.{Ask}
use Rattle.jlr_machine.specs.declared.ask.Ask.TheVariants.{Begin}
use Rattle.jlr_machine.specs.declared.ask.Answer.{Answer}
use Rattle.jlr_machine.specs.declared.ask.Answer.TheVariants.{Refused}
use Rattle.jlr_machine.specs.Chosen.{Chosen}
use Rattle.jlr_machine.specs.declared.entry.Collected.{Collected}
use Rattle.jlr_machine.specs.declared.entry.Entry.{Entry}
use Rattle.jlr_machine.specs.Objects.{◌∈◌}
use Rattle.jlr_machine.specs.Calls.{after}
use Rattle.jlr_machine.specs.Collection.{after_collection}
use Rattle.jlr_machine.specs.Run.{MayCollect, with_collection, carried, no_choice, done, IsLegal}
use Rattle.jlr_machine.specs.Run.IsLegal.{carried_out, refused, heap_full, out_of_memory}
use Rattle.jlr_laws.proofs.LegalKept.{no_need}
use Rattle.jlr_histories.specs.CycleLaws.{SeenStaysSeen}
use Rattle.jlr_histories.proofs.Asks.{leaves_cycle}
use Rattle.jlr_histories.proofs.Cells.{same_cells}
use Rattle.jlr_histories.proofs.Seen.{seen_is_seen}

-- the cycle of m goes on in n: what was seen is kept, and so are the places that it names
pub record GoesOnIn (m n : Machine) : Type 0 where
  pub seen : n.seen ≡ m.seen
  pub cells : length n.objects ≡ length m.objects

-- where the cycle is open afterwards
abbrev pub StillOpen : Machine → Machine → Type 0
StillOpen m n = n.cycle_open ≡ true → GoesOnIn m n

-- ---- An ask that is carried out

seen_kept : (m : Machine) (ask : Ask) (a : Answer) (fresh : List ℕ) → (after m ask a fresh).cycle_open ≡ true
    → (after m ask a fresh).seen ≡ m.seen
seen_kept m ask a fresh = elim (leaves_cycle m m.cycle_open m.seen ask a fresh) [
  | inl same ↦ λ _. ap (λ (n : Machine). n.seen) same
  | inr (inl begins) ↦ subst (λ ask. (after m ask a fresh).cycle_open ≡ true → (after m ask a fresh).seen ≡ m.seen) (sym begins) (λ _. refl)
  | inr (inr abandons) ↦ subst (λ ask. (after m ask a fresh).cycle_open ≡ true → (after m ask a fresh).seen ≡ m.seen) (sym abandons)
      (λ e. absurd (both_ways false refl e))
]

-- only a Begin opens a cycle
stays_shut : (m : Machine) (ask : Ask) (a : Answer) (fresh : List ℕ) → (ask ≡ Begin → ⊥) → m.cycle_open ≡ false
    → (after m ask a fresh).cycle_open ≡ false
stays_shut m ask a fresh other shut = elim (leaves_cycle m false m.seen ask a fresh) [
  | inl same ↦ subst (λ (n : Machine). (after n ask a fresh).cycle_open ≡ false) (ap (λ b. record m { cycle_open = b }) (sym shut))
      (ap (λ (n : Machine). n.cycle_open) same)
  | inr (inl begins) ↦ absurd (other begins)
  | inr (inr abandons) ↦ subst (λ ask. (after m ask a fresh).cycle_open ≡ false) (sym abandons) refl
]

carried_on : (m : Machine) (ask : Ask) (a : Answer) (fresh : List ℕ) → StillOpen m (carried m ask a fresh)
carried_on m ask (Refused by) fresh = λ _. record { seen = refl; cells = refl }
carried_on m ask a fresh = λ e. record { seen = seen_kept m ask a fresh e; cells = same_cells m ask a fresh }

pub carried_shut : (m : Machine) (ask : Ask) (a : Answer) (fresh : List ℕ) → (ask ≡ Begin → ⊥) → m.cycle_open ≡ false
    → (carried m ask a fresh).cycle_open ≡ false
carried_shut m ask (Refused by) fresh other shut = shut
carried_shut m ask a fresh other shut = stays_shut m ask a fresh other shut

-- no collection comes with a Begin
pub collects_for_no_begin : (m : Machine) (ask : Ask) (c : Collected) → MayCollect m ask (Some c) → ask ≡ Begin → ⊥
collects_for_no_begin m ask c may begins = no_need m (subst (λ ask. MayCollect m ask (Some c)) begins may).0

done_on : (m : Machine) (o : Option Collected) (ask : Ask) (a : Answer) (fresh : List ℕ) → MayCollect m ask o
    → StillOpen m (carried (with_collection m o) ask a fresh)
done_on m None ask a fresh may = carried_on m ask a fresh
done_on m (Some c) ask a fresh may =
    λ e. absurd (both_ways _ (carried_shut (after_collection m c.kept c.pending) ask a fresh (collects_for_no_begin m ask c may) refl) e)

-- ---- An entry

unchanged_on : (m : Machine) (e : Entry) (by : Refusal) → e.answer ≡ Refused by → e.choice ≡ no_choice → StillOpen m (done m e)
unchanged_on m e by answers nothing =
    let same : done m e ≡ m = ap (λ (c : Chosen). carried (with_collection m c.collected) e.ask e.answer c.fresh) nothing
    ∙ ap (λ a. carried m e.ask a []) answers in
    subst (StillOpen m) (sym same) (λ _. record { seen = refl; cells = refl })

pub collected_shut : (m : Machine) (e : Entry) (c : Collected) (by : Refusal) → e.answer ≡ Refused by
    → e.choice ≡ record { collected = Some c; fresh = [] } → (done m e).cycle_open ≡ false
collected_shut m e c by answers collects =
    ap (λ (x : Chosen). (carried (with_collection m x.collected) e.ask e.answer x.fresh).cycle_open) collects
    ∙ ap (λ a. (carried (after_collection m c.kept c.pending) e.ask a []).cycle_open) answers

pub goes_on_in : (m : Machine) (e : Entry) → IsLegal m e → StillOpen m (done m e)
goes_on_in m e (carried_out c) = done_on m e.choice.collected e.ask e.answer e.choice.fresh c.collection
goes_on_in m e (refused c) = unchanged_on m e c.by c.answers c.nothing
goes_on_in m e (heap_full c) =
    λ still. absurd (both_ways (done m e).cycle_open (collected_shut m e c.clearing _ c.answers c.collects) still)
goes_on_in m e (out_of_memory c) = unchanged_on m e _ c.answers c.nothing

pub seen_stays_seen : SeenStaysSeen
seen_stays_seen m e s w legal h still =
    let on = goes_on_in m e legal still in
    seen_is_seen (done m e) s still (subst (λ l. s ∈ l) (sym on.seen) h) (subst (λ cells. s < cells) (sym on.cells) (w.seen_within s h))

-- ---- A cycle that is open afterwards was open, or the ask is a Begin

asked_opens : (m : Machine) (ask : Ask) (a : Answer) (fresh : List ℕ) → (after m ask a fresh).cycle_open ≡ true → m.cycle_open ≡ false
    → ask ≡ Begin
asked_opens m ask a fresh opened shut = elim (leaves_cycle m false m.seen ask a fresh) [
  | inl same ↦ absurd (both_ways (after m ask a fresh).cycle_open
      (subst (λ (n : Machine). (after n ask a fresh).cycle_open ≡ false) (ap (λ b. record m { cycle_open = b }) (sym shut))
      (ap (λ (n : Machine). n.cycle_open) same)) opened)
  | inr (inl begins) ↦ begins
  | inr (inr abandons) ↦ absurd (both_ways false refl (subst (λ ask. (after m ask a fresh).cycle_open ≡ true) abandons opened))
]

carried_opens : (m : Machine) (ask : Ask) (a : Answer) (fresh : List ℕ) → (carried m ask a fresh).cycle_open ≡ true → m.cycle_open ≡ false
    → ask ≡ Begin
carried_opens m ask (Refused by) fresh opened shut = absurd (both_ways m.cycle_open shut opened)
carried_opens m ask a fresh opened shut = asked_opens m ask a fresh opened shut

done_opens : (m : Machine) (o : Option Collected) (ask : Ask) (a : Answer) (fresh : List ℕ) → MayCollect m ask o
    → (carried (with_collection m o) ask a fresh).cycle_open ≡ true → m.cycle_open ≡ false → ask ≡ Begin
done_opens m None ask a fresh may opened shut = carried_opens m ask a fresh opened shut
done_opens m (Some c) ask a fresh may opened shut =
    absurd (collects_for_no_begin m ask c may (carried_opens (after_collection m c.kept c.pending) ask a fresh opened refl))

unchanged_opens : (m : Machine) (e : Entry) (by : Refusal) → e.answer ≡ Refused by → e.choice ≡ no_choice → (done m e).cycle_open ≡ true
    → m.cycle_open ≡ false → e.ask ≡ Begin
unchanged_opens m e by answers nothing opened shut =
    let same : done m e ≡ m = ap (λ (c : Chosen). carried (with_collection m c.collected) e.ask e.answer c.fresh) nothing
    ∙ ap (λ a. carried m e.ask a []) answers in
    absurd (both_ways m.cycle_open shut (subst (λ (n : Machine). n.cycle_open ≡ true) same opened))

pub opens_by_begin : (m : Machine) (e : Entry) → IsLegal m e → (done m e).cycle_open ≡ true → m.cycle_open ≡ false → e.ask ≡ Begin
opens_by_begin m e (carried_out c) opened shut = done_opens m e.choice.collected e.ask e.answer e.choice.fresh c.collection opened shut
opens_by_begin m e (refused c) opened shut = unchanged_opens m e c.by c.answers c.nothing opened shut
opens_by_begin m e (heap_full c) opened shut =
    absurd (both_ways (done m e).cycle_open (collected_shut m e c.clearing _ c.answers c.collects) opened)
opens_by_begin m e (out_of_memory c) opened shut = unchanged_opens m e _ c.answers c.nothing opened shut
