use Rattle.std.proofs.Common.{◌≡◌, ◌+◌, ◌<◌, ◌≤◌, inl, inr, ℕ, false, IsTrue, Option, Some, None, ap, length, refl, sym, subst, arith}
use Rattle.std.proofs.lemmas.Bool.{both_ways, cases_eq, cases_lt, false≢true}
use Rattle.jlr_machine.specs.declared.object.Object.{Object}
use Rattle.jlr_machine.specs.declared.object.Object.TheVariants as object
use Rattle.jlr_machine.specs.Refusals.{is_cleanable}
use Rattle.jlr_machine.specs.Objects.{Heap, at, ◌∈◌, some_and}
use Rattle.jlr_machine.specs.Edges.{active_cleanables, is_own_root}
use Rattle.jlr_marks.specs.Marking.{Marking, Shaded}
use Rattle.jlr_barrier.proofs.OwnRoots.{active_from, active_gives, active_within}
use Rattle.jlr_marks.proofs.Shading.{shaded_none, shaded_same, shaded_then}
use Rattle.jlr_barrier.proofs.shade.shade_cleanables.Goals as goal

-- the own roots below a slot
abbrev Below : Heap → ℕ → ℕ → Type 0
Below heap n x = (x < n) × IsTrue (is_own_root (at heap x))

not_own : (o : Option Object) → some_and is_cleanable o ≡ false → is_own_root o ≡ false
not_own None h = refl
not_own (Some (object.Plain fields)) h = refl
not_own (Some (object.Reference r)) h = refl
not_own (Some (object.Queue members)) h = refl
not_own (Some object.Cleaner) h = refl
not_own (Some (object.Cleanable c)) h = absurd (false≢true (sym h))
not_own (Some (object.Guard g)) h = refl

one_more : (heap : Heap) (n s k : ℕ) (a b c : Marking) → n ≤ s → k ≡ s + 1
    → ((x : ℕ) → n ≤ x → x < s → some_and is_cleanable (at heap x) ≡ false) → Shaded (Below heap n) a b
    → Shaded (λ x. (x ≡ s) × IsTrue (is_own_root (at heap s))) b c → Shaded (Below heap k) a c
one_more heap n s k a b c low next none before here =
    shaded_same _ _
    (λ x h. elim h [
      | inl o ↦ (omega (arith, o.0, low, next), o.1)
      | inr o ↦ (omega (arith, o.0, next), subst (λ y. IsTrue (is_own_root (at heap y))) (sym o.0) o.1)
    ])
    (λ x h. elim (cases_eq x s) [
      | inl e ↦ inr (e, subst (λ y. IsTrue (is_own_root (at heap y))) e h.1)
      | inr other ↦ elim (cases_lt x n) [
        | inl before ↦ inl (before, h.1)
        | inr after ↦
            absurd (both_ways (is_own_root (at heap x)) (not_own (at heap x) (none x after (omega (arith, other, h.0, next)))) h.1)
      ]
    ])
    a c (shaded_then _ _ a b c before here)

all_of : (heap : Heap) (n : ℕ) (a b : Marking) → ((x : ℕ) → n ≤ x → x < length heap → some_and is_cleanable (at heap x) ≡ false)
    → Shaded (Below heap n) a b → Shaded (λ x. x ∈ active_cleanables 0 heap) a b
all_of heap n a b none s =
    shaded_same _ _ (λ x h. active_from heap x h.1)
    (λ x h. elim (cases_lt x n) [
      | inl before ↦ (before, active_gives heap x h)
      | inr after ↦ absurd (both_ways (is_own_root (at heap x)) (not_own (at heap x) (none x after (active_within heap x h)))
          (active_gives heap x h))
    ])
    a b s

pub loop-from-init : goal.loop-from-init
loop-from-init c = shaded_none _ (λ x h. absurd (omega (arith, h.0))) c.args.marks.now

pub loop-from-preserved : goal.loop-from-preserved
loop-from-preserved c =
    let found = c.in-Some.ensures in
    one_more c.args.cells.now.objects c.loop-from.from c.in-Some.slot _ c.args.marks.now c.loop-from.marks c.shade_own_root.new.marks
    found.0 (ap (λ k. k + 1) c.number-from.ensures) found.2 c.loop-from.invariant c.shade_own_root.ensures

pub returns-in_default : goal.returns-in_default
returns-in_default c = all_of c.args.cells.now.objects c.loop-from.from c.args.marks.now c.loop-from.marks
    (λ x a b. c.in_default.ensures x a) c.loop-from.invariant

pub returns : goal.returns
returns c = all_of c.args.cells.now.objects c.loop-from.from c.args.marks.now c.loop-from.marks
    (λ x a b. absurd (omega (arith, a, b, c.cell_count-count.ensures, c.loop-from-test.false))) c.loop-from.invariant
