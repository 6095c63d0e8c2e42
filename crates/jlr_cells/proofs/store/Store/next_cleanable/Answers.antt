use Rattle.std.proofs.Common.{◌∙◌, ℕ, arith, refl, sym}
use Rattle.std.specs.Prelude.{option_map}
use Rattle.jlr_cells.specs.Contents.{kind_of}
use Rattle.jlr_cells.proofs.ByKind.{found_alike, kind_seen, none_at_kind}
use Rattle.jlr_cells.proofs.Queues.{kind_count, length_seen, seen_as}
use Rattle.jlr_cells.proofs.store.Store.next_cleanable.Goals as goal

pub returns : goal.returns
returns c =
    let kinds = c.self.inside.kinds in
    let same = λ (s : ℕ). kind_seen c.self.inside.cells kinds s c.self.invariant.kept.by_kind
    ∙ sym (seen_as c.self.inside.cells c.self.inside.queues.lists c.args.self.now c.self.view_is (option_map kind_of) s
    (λ l m. refl)) in
    found_alike c.next_cleanable.result
    (λ none s h. none_at_kind kinds c.args.self.now s (same s) (none s h))
    (λ slot found. (
      found.0,
      omega (
        arith,
        found.1,
        length_seen c.self.inside.cells c.self.inside.queues.lists c.args.self.now c.self.view_is,
        kind_count c.self.inside.cells c.self.inside.queues.lists c.self.inside.queues.slots kinds c.self.inside.links c.self.invariant,
      ),
      λ s a b. none_at_kind kinds c.args.self.now s (same s) (found.2 s a b),
    ))
    c.next_cleanable.ensures
