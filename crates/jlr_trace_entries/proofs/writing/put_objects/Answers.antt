use Rattle.std.proofs.Common.{◌≡◌, ℕ, List, ◌++◌, length, sym, ap, subst, ◌∙◌, append_assoc}
use Rattle.std.specs.Prelude.{OnOk}
use Rattle.std.specs.List.{flat_map}
use Rattle.std.proofs.lemmas.Grind.{flat_map-append}
use Rattle.jlr_trace_fields.specs.Spelling.{spelled_32}
use Rattle.jlr_trace_fields.proofs.Writing.{joined, then_written}
use Rattle.jlr_trace_fields.specs.Records.{spelled_placed}
use Rattle.jlr_trace_entries.specs.Images.{listed_from, placed}
use Rattle.jlr_trace_entries.proofs.writing.put_objects.Goals as goal

pub returns : goal.returns
returns c =
    let old : List ℕ = c.args.out.now.items in
    let n : List ℕ = spelled_32 (length (listed_from placed 0 c.args.table.now ++ c.args.strays.now)) in
    let t : List ℕ = flat_map spelled_placed (listed_from placed 0 c.args.table.now) in
    let s : List ℕ = flat_map spelled_placed c.args.strays.now in
    let number : c.put_u32.new.out.items ≡ old ++ n =
    subst (λ k. c.put_u32.new.out.items ≡ old ++ spelled_32 k) c.placed_count.ensures c.in_ok-put_u32.ensures in
    let two : c.put_table.new.out.items ≡ old ++ (n ++ t) =
    joined old c.put_u32.new.out.items c.put_table.new.out.items n t number c.in_ok-put_table.ensures in
    let three : OnOk c.put_each.result (c.put_each.new.out.items ≡ old ++ ((n ++ t) ++ s)) =
    then_written c.put_each.result old c.put_table.new.out.items c.put_each.new.out.items (n ++ t) s two c.put_each.ensures in
    let regrouped : (n ++ t) ++ s ≡ n ++ flat_map spelled_placed (listed_from placed 0 c.args.table.now ++ c.args.strays.now) =
    append_assoc n t s ∙ ap (λ (x : List ℕ). n ++ x)
    (sym (flat_map-append spelled_placed (listed_from placed 0 c.args.table.now) c.args.strays.now)) in
    subst (λ (x : List ℕ). OnOk c.put_each.result (c.put_each.new.out.items ≡ old ++ x)) regrouped three
