use Rattle.std.proofs.Common.{◌≡◌, ◌<◌, ◌∙◌, [], inl, inr, true, false, ap, sym, length, map, set, arith, get_or-set_same, get_or-set_other}
use Rattle.std.proofs.Common.{length-set}
use Rattle.std.specs.Prelude.{is_some}
use Rattle.std.proofs.lemmas.Bool.{cases_eq, cases_lt, both_ways}
use Rattle.std.proofs.lemmas.List.{length-map}
use Rattle.jlr_machine.specs.Objects.{Heap, at, some_and, with_members}
use Rattle.jlr_sets.specs.SlotSets.{is_in}
use Rattle.jlr_sets.proofs.Below.{within_places}
use Rattle.jlr_sets.proofs.Beyond.{is_set, kept_there, not_kept}
use Rattle.jlr_cells.specs.Contents.{is_array, members_in}
use Rattle.jlr_cells.specs.Showing.{shown}
use Rattle.jlr_cells.proofs.Showing.{shown_hidden, used_changed}
use Rattle.jlr_cells.proofs.Shown.{cleared_at, members_arrays, same_arrays}
use Rattle.jlr_cells.proofs.objects.lists.clear_lists.Goals as goal

pub clear_members-requires : goal.clear_members-requires
clear_members-requires c =
    let i = c.loop-slot.invariant in
    let listed = c.loop-slot.listed in
    let below = within_places listed c.in-Some.slot (is_set listed c.args.kept.now c.in-Some.slot c.in-Some.ensures.first.inside) in
    omega (
      arith,
      below,
      i.places,
      c.requires.places,
      ap length i.used,
      length-map c.loop-slot.store is_some,
      length-map c.args.store.now is_some,
    )

pub remove-requires : goal.remove-requires
remove-requires c = within_places c.loop-slot.listed c.in-Some.slot
    (is_set c.loop-slot.listed c.args.kept.now c.in-Some.slot c.in-Some.ensures.first.inside)

pub overflow_add-from : goal.overflow_add-from
overflow_add-from c =
    let below = within_places c.loop-slot.listed c.in-Some.slot
    (is_set c.loop-slot.listed c.args.kept.now c.in-Some.slot c.in-Some.ensures.first.inside) in
    omega (arith, below, c.in-Some.ensures.few, c.number-from.ensures)

pub loop-slot-smaller : goal.loop-slot-smaller
loop-slot-smaller c =
    let below = within_places c.loop-slot.listed c.in-Some.slot
    (is_set c.loop-slot.listed c.args.kept.now c.in-Some.slot c.in-Some.ensures.first.inside) in
    let low = c.in-Some.ensures.first.at_least in
    omega (arith, below, low, c.loop-slot.invariant.places, c.number-from.ensures)

pub loop-slot-preserved : goal.loop-slot-preserved
loop-slot-preserved c =
    let i = c.loop-slot.invariant in
    let heap : Heap = c.loop-slot.store in
    let listed = c.loop-slot.listed in
    let kept = c.args.kept.now in
    let n = c.in-Some.slot in
    let first = c.in-Some.ensures.first in
    let below : n < length listed = within_places listed n (is_set listed kept n first.inside) in
    let e = c.clear_members.ensures in
    let e' = c.remove.ensures in
    record {
      same = ap (shown kept) e ∙ shown_hidden kept heap n _ (not_kept listed kept n first.inside) ∙ i.same;
      used = ap (λ (l : Heap). map is_some l) e ∙ used_changed heap n (with_members (λ _. [])) ∙ i.used;
      places = ap length e' ∙ length-set listed n false ∙ i.places;
      queues = λ s l h. elim (cases_eq s n) [
        | inl same ↦ absurd (both_ways (is_in c.remove.new.self s)
            (ap (λ p. is_in p s) e' ∙ ap (is_in (set listed n false)) same ∙ get_or-set_same listed n false false below) h)
        | inr d ↦
            let old : is_in listed s ≡ true = sym (ap (λ p. is_in p s) e' ∙ get_or-set_other listed n s false false d) ∙ h in
            elim (cases_lt s c.loop-slot.from) [
              | inl low ↦ i.queues s low old
              | inr high ↦ kept_there listed kept s (first.none_before s high (omega (arith, l, d, c.number-from.ensures))) old
            ]
      ];
      arrays = λ s. ap (λ (l : Heap). some_and is_array (at l s)) e
          ∙ same_arrays heap n s (with_members (λ _. [])) (members_arrays (λ _. [])) ∙ i.arrays s;
      members = λ s off. ap (λ (l : Heap). members_in (at l s)) e
          ∙ cleared_at heap n s (λ d. i.members s (sym (ap (λ p. is_in p s) e' ∙ get_or-set_other listed n s false false d) ∙ off));
    }

pub returns-clause-queues : goal.returns-clause-queues
returns-clause-queues c = λ s h. elim (cases_lt s c.loop-slot.from) [
  | inl low ↦ c.loop-slot.invariant.queues s low h
  | inr high ↦ kept_there c.loop-slot.listed c.args.kept.now s (c.in_default.ensures.first s high) h
]
