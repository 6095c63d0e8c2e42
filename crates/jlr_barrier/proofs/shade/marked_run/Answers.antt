use Rattle.std.proofs.Common.{◌≡◌, ◌⊎◌, ◌<◌, ◌≤◌, ◌+◌, ◌∙◌, ℕ, List, Option, Some, None, inl, inr, sym, arith, subst, length, drop, take}
use Rattle.std.proofs.lemmas.List.{get_or-drop, length-drop}
use Rattle.jlr_machine.specs.Objects.{◌∈◌, at}
use Rattle.jlr_cells.specs.Links.{linked}
use Rattle.jlr_marks.specs.Marking.{IsMarked, Marking}
use Rattle.jlr_barrier.proofs.Parts.{part_within}
use Rattle.jlr_barrier.proofs.Walking.{walk_gives, walk_from, item_in}
use Rattle.jlr_laws.proofs.Frames.{no_some, some_same}
use Rattle.jlr_barrier.proofs.shade.marked_run.Goals.{in-Some+else-not-is_marked, in_default}
use Rattle.jlr_barrier.proofs.shade.marked_run.Goals as goal

abbrev itself : Option ℕ → Option ℕ
itself o = o

pub loop-run-init : goal.loop-run-init
loop-run-init c = (omega arith, c.requires.there.0, (λ x h. h), (λ x h. inl h))

pub is_marked-requires : goal.is_marked-requires
is_marked-requires c =
    let links = c.args.elements.now in
    let rest = drop c.args.from links in
    let i = c.loop-run.run in
    let long = length-drop c.args.from links in
    let within : i < length rest = omega (arith, long, c.requires.there.1, c.loop-run-test.true) in
    let read : at rest i ≡ Some c.in-Some.slot = get_or-drop c.args.from links i None ∙ sym c.get.ensures ∙ c.in-Some.is in
    c.requires.within c.in-Some.slot (part_within links c.args.from c.in-Some.slot (item_in itself rest i None c.in-Some.slot within read))

pub returns-then-not-is_marked-clause-few : goal.returns-then-not-is_marked-clause-few
returns-then-not-is_marked-clause-few c = (c.loop-run.invariant.0, c.loop-run.invariant.1)

pub returns-then-not-is_marked-clause-more : goal.returns-then-not-is_marked-clause-more
returns-then-not-is_marked-clause-more c = c.loop-run.invariant.2

pub returns-then-not-is_marked-clause-marked : goal.returns-then-not-is_marked-clause-marked
returns-then-not-is_marked-clause-marked c = c.loop-run.invariant.3

-- one element more, which refers to nothing or to what is marked
goes_on : (rest : List (Option ℕ)) (known i count : ℕ) (m : Marking) (read : Option ℕ) → i < length rest → i < count → read ≡ at rest i
    → ((x : ℕ) → read ≡ Some x → IsMarked m x)
    → (known ≤ i) × (i ≤ count) × ((x : ℕ) → x ∈ linked (take known rest) → x ∈ linked (take i rest))
    × ((x : ℕ) → x ∈ linked (take i rest) → (x ∈ linked (take known rest)) ⊎ IsMarked m x)
    → (known ≤ i + 1) × (i + 1 ≤ count) × ((x : ℕ) → x ∈ linked (take known rest) → x ∈ linked (take (i + 1) rest))
    × ((x : ℕ) → x ∈ linked (take (i + 1) rest) → (x ∈ linked (take known rest)) ⊎ IsMarked m x)
goes_on rest known i count m read within more same marked before = (
  omega (arith, before.0),
  omega (arith, more),
  (λ x h. walk_from itself rest i None within x (inl (before.2 x h))),
  (λ x h. elim (walk_gives itself rest i None within x h) [
    | inl old ↦ before.3 x old
    | inr new ↦ inr (marked x (same ∙ new))
  ]),
)

pub loop-run-preserved : goal.loop-run-preserved
loop-run-preserved c =
    let links = c.args.elements.now in
    let rest = drop c.args.from links in
    let i = c.loop-run.run in
    let long = length-drop c.args.from links in
    let within : i < length rest = omega (arith, long, c.requires.there.1, c.loop-run-test.true) in
    let read : c.get.result ≡ at rest i = c.get.ensures ∙ sym (get_or-drop c.args.from links i None) in
    let marked : (x : ℕ) → c.get.result ≡ Some x → IsMarked c.args.marks.now x = elim c.match-get.branch [
      | in-Some+else-not-is_marked w ↦ λ x e. subst (IsMarked c.args.marks.now) (some_same w.in-Some.slot x (sym w.in-Some.is ∙ e))
          (sym w.is_marked.ensures ∙ w.if-not-is_marked.false)
      | in_default w ↦ λ x e. no_some x (sym w.in_default.is ∙ e)
    ] in
    goes_on rest c.args.known i c.args.count c.args.marks.now c.get.result within c.loop-run-test.true read marked c.loop-run.invariant

pub returns-clause-few : goal.returns-clause-few
returns-clause-few c = (c.loop-run.invariant.0, c.loop-run.invariant.1)

pub returns-clause-more : goal.returns-clause-more
returns-clause-more c = c.loop-run.invariant.2

pub returns-clause-marked : goal.returns-clause-marked
returns-clause-marked c = c.loop-run.invariant.3
