-- What was seen changes nothing of what an entry leaves.
use Rattle.std.proofs.Common.{◌≡◌, ℕ, List, [], inl, inr, refl, sym, ◌∙◌, ap, subst, Option, Some, None}
use Rattle.jlr_machine.specs.declared.machine.Machine.{Machine}
use Rattle.jlr_machine.specs.declared.ask.Ask.{Ask}
use Rattle.jlr_machine.specs.declared.ask.Ask.TheVariants.{Begin, Abandon}
use Rattle.jlr_machine.specs.declared.ask.Answer.{Answer}
use Rattle.jlr_machine.specs.declared.ask.Answer.TheVariants.{Refused}
use Rattle.jlr_machine.specs.declared.entry.Collected.{Collected}
use Rattle.jlr_machine.specs.Calls.{after}
use Rattle.jlr_machine.specs.Run.{carried, with_collection}
use Rattle.jlr_histories.specs.CycleLaws.{with_seen, LeavesTheSameWhateverWasSeen}
use Rattle.jlr_histories.proofs.Asks.{with_cycle, leaves_cycle}

module _ (m : Machine) (slots : List ℕ) (ask : Ask) (a : Answer) (fresh : List ℕ) where
  abbrev SameAfter : Ask → Type 0
  SameAfter ask = with_seen (after (with_seen m slots) ask a fresh) [] ≡ with_seen (after m ask a fresh) []

  of_begin : ask ≡ Begin → SameAfter ask
  of_begin e = subst SameAfter (sym e) refl

  of_abandon : ask ≡ Abandon → SameAfter ask
  of_abandon e = subst SameAfter (sym e) refl

  same_after : SameAfter ask
  same_after = elim (leaves_cycle m m.cycle_open slots ask a fresh) [
    | inl e ↦ elim (leaves_cycle m m.cycle_open m.seen ask a fresh) [
      | inl own ↦
          let still : (after m ask a fresh).cycle_open ≡ m.cycle_open = ap (λ (n : Machine). n.cycle_open) own in
          ap (λ n. with_seen n []) e ∙ ap (λ b. with_cycle (after m ask a fresh) b []) (sym still)
      | inr (inl begins) ↦ of_begin begins
      | inr (inr abandons) ↦ of_abandon abandons
    ]
    | inr (inl begins) ↦ of_begin begins
    | inr (inr abandons) ↦ of_abandon abandons
  ]

same_carried : (m : Machine) (slots : List ℕ) (ask : Ask) (a : Answer) (fresh : List ℕ)
    → with_seen (carried (with_seen m slots) ask a fresh) [] ≡ with_seen (carried m ask a fresh) []
same_carried m slots ask (Refused by) fresh = refl
same_carried m slots ask a fresh = same_after m slots ask a fresh

same_done : (m : Machine) (slots : List ℕ) (o : Option Collected) (ask : Ask) (a : Answer) (fresh : List ℕ)
    → with_seen (carried (with_collection (with_seen m slots) o) ask a fresh) [] ≡ with_seen (carried (with_collection m o) ask a fresh) []
same_done m slots None ask a fresh = same_carried m slots ask a fresh
same_done m slots (Some c) ask a fresh = refl

pub leaves_the_same : LeavesTheSameWhateverWasSeen
leaves_the_same m slots e = same_done m slots e.choice.collected e.ask e.answer e.choice.fresh
