use Rattle.std.proofs.Common.{◌≡◌, ℕ, ◌<◌, arith, false}
use Rattle.std.proofs.lemmas.Bool.{both_ways}
use Rattle.std.specs.Prelude.{map}
use Rattle.jlr_sets.specs.SlotSets.{beyond, is_in}
use Rattle.jlr_sets.proofs.Below.{within_places}
use Rattle.jlr_sets.proofs.Beyond.{is_set, kept_there, not_kept}
use Rattle.jlr_cells.specs.Kinds.{IsNoArray, shown_kind}
use Rattle.jlr_cells.proofs.ByKind.{found_alike}
use Rattle.jlr_cells.proofs.kinds.Kinds.next_array.Goals as goal

pub returns : goal.returns
returns c =
    let arrays = c.self.inside.arrays in
    let kept = c.args.kept.now in
    let none : (s : ℕ) → is_in (beyond arrays kept) s ≡ false → is_in kept s ≡ false
    → IsNoArray (map shown_kind c.self.inside.labels.items) s =
    λ s off out array. both_ways (is_in kept s) out (kept_there arrays kept s off (c.self.invariant.array_found s array)) in
    rw (← c.self.view_is) (found_alike c.next_beyond.result
    (λ all s h out. none s (all s h) out)
    (λ slot first. (
      first.at_least,
      (let below : slot < _ = within_places arrays slot (is_set arrays kept slot first.inside) in
          omega (arith, below, c.self.invariant.array_places)),
      not_kept arrays kept slot first.inside,
      λ s a b out. none s (first.none_before s a b) out,
    ))
    c.next_beyond.ensures.first)
