use Rattle.std.proofs.Common.{◌≡◌, ℕ, suc, ◌+◌, ◌<◌, List, [], ◌∷◌, ◌++◌, length, take, get_or, sym, ap, subst, ◌∙◌, append_assoc, arith}
use Rattle.std.proofs.Math.Seq.{take-suc}
use Rattle.std.specs.List.{flat_map}
use Rattle.std.proofs.lemmas.Grind.{flat_map-append}
use Rattle.std.proofs.lemmas.List.{append-nil}
use Rattle.std.proofs.lemmas.List.Concat.{flat_map-cons}
use Rattle.std.proofs.lemmas.List.Elements.{All-from_recursion}
use Rattle.jlr_machine.specs.declared.entry.Entry.{Entry}
use Rattle.jlr_trace_entries.specs.Entries.{spelled_entry, EntryCounts}
use Rattle.jlr_trace.proofs.writing.put_entries.Goals as goal

pub put_entry-requires : goal.put_entry-requires
put_entry-requires c =
    let i = c.loop-entry.entry-index in
    let each = All-from_recursion (EntryCounts c.args.version) c.args.entries.now c.requires i c.entry-item.result c.loop-entry-test.true in
    subst (EntryCounts c.args.version) (sym c.entry-item.is) each

one_more : (spelled : Entry → List ℕ) (xs : List Entry) (i : ℕ) (x : Entry) → i < length xs → x ≡ get_or xs i x
    → flat_map spelled (take (i + 1) xs) ≡ flat_map spelled (take i xs) ++ spelled x
one_more spelled xs i x lt is =
    let one : i + 1 ≡ suc i = omega arith in
    let y : Entry = get_or xs i x in
    let front : List ℕ = flat_map spelled (take i xs) in
    ap (λ k. flat_map spelled (take k xs)) one
    ∙ ap (flat_map spelled) (take-suc xs i x lt)
    ∙ flat_map-append spelled (take i xs) (y ∷ [])
    ∙ ap (λ (t : List ℕ). front ++ t) (flat_map-cons spelled y [] ∙ append-nil (spelled y) ∙ ap spelled (sym is))

pub loop-entry-preserved : goal.loop-entry-preserved
loop-entry-preserved c =
    let spelled : Entry → List ℕ = spelled_entry c.args.version in
    let xs : List Entry = c.args.entries.now in
    let old : List ℕ = c.args.out.now.items in
    let front : List ℕ = flat_map spelled (take c.loop-entry.entry-index xs) in
    let last : List ℕ = spelled c.entry-item.result in
    let more = one_more spelled xs c.loop-entry.entry-index c.entry-item.result c.loop-entry-test.true c.entry-item.is in
    c.in_ok-put_entry.ensures
    ∙ ap (λ (m : List ℕ). m ++ last) c.loop-entry.invariant
    ∙ append_assoc old front last
    ∙ ap (λ (t : List ℕ). old ++ t) (sym more)
