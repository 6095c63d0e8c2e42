-- How far a marking came: how many ticks it took, and how many elements of each array were followed.
use Rattle.std.specs.Prelude.{ℕ, zero, suc, ◌+◌, ◌/◌, cond, List, Option, Some, None, length}
use Rattle.jlr_machine.specs.declared.object.Contents.TheVariants.{Elements}
use Rattle.jlr_machine.specs.declared.object.Object.{Object}
use Rattle.jlr_machine.specs.declared.object.Object.TheVariants.{Plain}
use Rattle.jlr_machine.specs.Objects.{Heap, at, ◌∋◌}
use Rattle.jlr_marks.specs.Marking.{Marking, is_marked, place}
use Rattle.jlr_barrier.specs.Parts.{ticks_at}

-- a number that goes by colour: 0 for a white cell, one number for a grey one, and another for a black one
abbrev pub by_colour : Marking → ℕ → ℕ → ℕ → ℕ
by_colour m x grey black = cond (is_marked m x) (cond (m.grey ∋ x) grey black) 0

-- how many ticks were spent on the object at a slot: one for each part of it that was followed
abbrev pub spent_at : Heap → Marking → ℕ → ℕ
spent_at heap m x = by_colour m x (place m x / 64) (ticks_at heap x)

-- the sum of f over the numbers below n
abbrev pub total : (ℕ → ℕ) → ℕ → ℕ
total f zero = 0
total f (suc n) = total f n + f n

-- how many ticks were spent, and how many all objects take
abbrev pub ticks_spent : Heap → Marking → ℕ
ticks_spent heap m = total (spent_at heap m) (length heap)

abbrev pub ticks_for : Heap → ℕ
ticks_for heap = total (ticks_at heap) (length heap)

-- of the n elements of an array at a slot so many were followed, from the first on
abbrev pub so_far : Marking → ℕ → ℕ → ℕ
so_far m x n = by_colour m x (place m x) n

-- the elements of an array
abbrev pub elements_in : Option Object → Option (List (Option ℕ))
elements_in (Some (Plain (Elements elements))) = Some elements
elements_in _ = None

abbrev pub elements_at : Heap → ℕ → Option (List (Option ℕ))
elements_at heap x = elements_in (at heap x)
