-- Which slots can lose a referent.
use Rattle.std.proofs.Common.{◌≡◌, ℕ, ◌<◌, true, false, List, length, refl, sym, ◌∙◌, ap, inl, inr}
use Rattle.std.specs.List.{list_all}
use Rattle.std.proofs.lemmas.Bool.{both_ways, and_parts, cases_lt}
use Rattle.jlr_machine.specs.Objects.{Heap, at, ◌∋◌, ◌∈◌, some_and}
use Rattle.jlr_laws.specs.Deciding.{goes_out, loses_referent}
use Rattle.jlr_laws.proofs.Checks.{at_beyond}
use Rattle.jlr_laws.proofs.Sets.{all_gives}

pub lose_below : (heap : Heap) (kept pending : List ℕ) → list_all (loses_referent heap kept) pending ≡ true → (s : ℕ) → s ∈ pending
    → s < length heap
lose_below heap kept pending h s m =
    let parts = and_parts (kept ∋ s) (some_and (goes_out kept) (at heap s)) (all_gives (loses_referent heap kept) pending s h m) in
    elim (cases_lt s (length heap)) [
      | inl below ↦ below
      | inr beyond ↦ absurd (both_ways false refl (sym (ap (some_and (goes_out kept)) (at_beyond heap s beyond)) ∙ parts.1))
    ]
