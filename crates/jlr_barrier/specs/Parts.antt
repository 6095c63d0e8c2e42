-- What is followed of an object at one tick, and what is still to be followed.
use Rattle.std.specs.Prelude.{◌≡◌, ◌<◌, ℕ, ◌+◌, ◌-◌, ◌*◌, ◌/◌, cond, nat_lt, List, Option, Some, None, drop, length}
use Rattle.std.specs.Prelude.{take, option_and_then, option_to_list}
use Rattle.std.specs.List.{flat_map}
use Rattle.jlr_machine.specs.declared.object.Contents.{Contents}
use Rattle.jlr_machine.specs.declared.object.Contents.TheVariants.{Typed, Elements}
use Rattle.jlr_machine.specs.declared.object.Object.{Object}
use Rattle.jlr_machine.specs.declared.object.Object.TheVariants.{Plain}
use Rattle.jlr_machine.specs.Objects.{Heap, at}
use Rattle.jlr_machine.specs.Edges.{slots_in, strong_edges}
use Rattle.jlr_marks.specs.declared.part.Part.{Part}

-- ---- Fields, and elements from a place on

-- what at most 64 elements refer to, or all fields
abbrev pub slots_part : ℕ → Contents → List ℕ
slots_part from (Typed fields) = slots_in (Typed fields)
slots_part from (Elements elements) = slots_in (Elements (take 64 (drop from elements)))

-- what all elements refer to, or all fields
abbrev pub slots_ahead : ℕ → Contents → List ℕ
slots_ahead from (Typed fields) = slots_in (Typed fields)
slots_ahead from (Elements elements) = slots_in (Elements (drop from elements))

-- the place behind these 64, if there are elements from there on
abbrev pub place_after : ℕ → Contents → Option ℕ
place_after from (Typed fields) = None
place_after from (Elements elements) = cond (nat_lt (from + 64) (length elements)) (Some (from + 64)) None

-- how many parts there are
abbrev pub parts_of : Contents → ℕ
parts_of (Typed fields) = 1
parts_of (Elements elements) = 1 + (length elements - 1) / 64

-- ---- Objects: of all but an array one tick follows all strong edges

abbrev pub edges_part : ℕ → Object → List ℕ
edges_part from (Plain contents) = slots_part from contents
edges_part from o = strong_edges o

abbrev pub edges_ahead : ℕ → Object → List ℕ
edges_ahead from (Plain contents) = slots_ahead from contents
edges_ahead from o = strong_edges o

abbrev pub next_place : ℕ → Object → Option ℕ
next_place from (Plain contents) = place_after from contents
next_place from o = None

-- how many ticks it takes to follow an object
abbrev pub ticks_of : Object → ℕ
ticks_of (Plain contents) = parts_of contents
ticks_of o = 1

-- ---- The object at a slot, if there is one

abbrev pub part_at : Heap → ℕ → ℕ → List ℕ
part_at heap from x = flat_map (edges_part from) (option_to_list (at heap x))

abbrev pub ahead_at : Heap → ℕ → ℕ → List ℕ
ahead_at heap from x = flat_map (edges_ahead from) (option_to_list (at heap x))

abbrev pub next_at : Heap → ℕ → ℕ → Option ℕ
next_at heap from x = option_and_then (next_place from) (at heap x)

abbrev pub ticks_in : Option Object → ℕ
ticks_in None = 0
ticks_in (Some o) = ticks_of o

abbrev pub ticks_at : Heap → ℕ → ℕ
ticks_at heap x = ticks_in (at heap x)

-- before this place whole parts of the object at a slot were followed, and not all of them
abbrev pub IsBegun : Heap → ℕ → ℕ → Type 0
IsBegun heap from x = (k : ℕ) × (from ≡ 64 * k) × (k < ticks_at heap x)

-- An array lies at the slot, and has more elements than those before the place, which are whole parts
pub record IsInProgress (heap : Heap) (p : Part) : Type 0 where
  pub elements : List (Option ℕ)
  pub there : at heap p.slot ≡ Some (Plain (Elements elements))
  pub parts : ℕ
  pub whole : p.place ≡ 64 * parts
  pub more : p.place < length elements
