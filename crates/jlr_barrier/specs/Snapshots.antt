-- What holds of the marks at any time, so that a marker may run in steps, between which the program changes the graph.
use Rattle.std.specs.Prelude.{◌≡◌, ◌≤◌, ℕ, ◌⊎◌, Some, IsTrue, is_some, option_and_then, List, [], ◌∷◌, length}
use Rattle.jlr_machine.specs.Objects.{Heap, any_referent, at, ◌∈◌}
use Rattle.jlr_machine.specs.Edges.{edges_from}
use Rattle.jlr_machine.specs.Edges.Chain.{Strong}
use Rattle.jlr_machine.specs.Reachable.{IsReached}
use Rattle.jlr_marks.specs.Marking.{Marking, IsMarked, place}
use Rattle.jlr_marks.specs.declared.part.Part.{Part}
use Rattle.jlr_barrier.specs.Graphs.{Graph, Known, held}
use Rattle.jlr_barrier.specs.Parts.{IsInProgress, ahead_at}

-- ---- Paths

-- a path by these edges: the slots after the first, the last of which is the end
abbrev pub IsPathBy : (ℕ → ℕ → Type 0) → ℕ → List ℕ → ℕ → Type 0
IsPathBy E x [] y = x ≡ y
IsPathBy E x (z ∷ path) y = E x z × IsPathBy E z path y

-- such a path leads to y from a member of B
abbrev pub IsReachedBy : (ℕ → ℕ → Type 0) → (ℕ → Type 0) → ℕ → Type 0
IsReachedBy E B y = (x : ℕ) × B x × (path : List ℕ) × IsPathBy E x path y

-- ---- The graph as a marker sees it

-- strong edges, those that are still to be followed, and referents; roots; what is marked, what is grey, and what is
-- discovered
pub record Cycle : Type 1 where
  pub E : ℕ → ℕ → Type 0
  pub F : ℕ → ℕ → Type 0
  pub Q : ℕ → ℕ → Type 0
  pub R : ℕ → Type 0
  pub M : ℕ → Type 0
  pub G : ℕ → Type 0
  pub D : ℕ → Type 0

-- reached from a grey slot through unmarked ones, by edges that are still to be followed
abbrev pub IsProtected : Cycle → ℕ → Type 0
IsProtected c y = IsReachedBy (λ x z. c.F x z × (¬ (c.M z))) c.G y

abbrev pub IsSafe : Cycle → ℕ → Type 0
IsSafe c y = c.M y ⊎ IsProtected c y

-- What a root or a marked object leads to is marked or protected, or a grey object has still to follow it; of what is
-- unmarked no edge was followed; and a black object whose referent is neither is discovered
pub record IsSnapshot (c : Cycle) : Type 0 where
  pub grey : (x : ℕ) → c.G x → c.M x
  pub roots : (y : ℕ) → c.R y → IsSafe c y
  pub strong : (x y : ℕ) → c.M x → c.E x y → (c.G x × c.F x y) ⊎ IsSafe c y
  pub whole : (x y : ℕ) → c.E x y → c.M x ⊎ c.F x y
  pub referents : (x y : ℕ) → c.M x → c.Q x y → c.G x ⊎ (IsSafe c y ⊎ c.D x)

abbrev pub IsEdge : Heap → ℕ → ℕ → Type 0
IsEdge heap x y = y ∈ edges_from Strong heap x

abbrev pub RefersTo : Heap → ℕ → ℕ → Type 0
RefersTo heap x y = option_and_then any_referent (at heap x) ≡ Some y

abbrev pub cycle_of : Graph → Marking → Cycle
cycle_of g m = record {
  E = IsEdge g.objects;
  F = λ x y. y ∈ ahead_at g.objects (place m x) x;
  Q = RefersTo g.objects;
  R = λ y. y ∈ held g;
  M = IsMarked m;
  G = λ x. x ∈ m.grey;
  D = λ x. x ∈ m.discovered;
}

-- ---- What the calls of a heap need and leave

abbrev pub IsObject : Heap → ℕ → Type 0
IsObject heap s = IsTrue (is_some (at heap s))

-- what may become a root, and what a strong edge may lead to: it is marked, or strong edges lead to it from what is
-- held
abbrev pub IsInHand : Known → ℕ → Type 0
IsInHand k s = IsMarked k.marking s ⊎ IsReached Strong k.graph.objects (held k.graph) s

-- Where no cell is grey, the marked objects hold the roots and all that strong edges lead to from them; and each of
-- them whose referent is not marked is discovered
pub record HoldsWhole (k : Known) : Type 0 where
  pub long : length k.marking.bits ≡ length k.graph.objects
  pub objects : (s : ℕ) → IsMarked k.marking s → IsObject k.graph.objects s
  pub roots : (s : ℕ) → s ∈ held k.graph → IsMarked k.marking s
  pub closed : (x y : ℕ) → IsMarked k.marking x → IsEdge k.graph.objects x y → IsMarked k.marking y
  pub referents : (x y : ℕ) → IsMarked k.marking x → RefersTo k.graph.objects x y → IsMarked k.marking y
      ⊎ (x ∈ k.marking.discovered)

-- There is a link for each cell, of two lists; what is marked is an object; where a part of something was followed, it
-- is a grey array with more elements; and the marks are a snapshot
pub record FitsTogether (known : Known) (column lists : ℕ) : Type 0 where
  pub few : length known.graph.objects ≤ 65536
  pub bits : length known.marking.bits ≡ length known.graph.objects
  pub ages : length known.clock.last_gets ≡ length known.graph.objects
  pub links : length known.graph.objects ≡ column
  pub two : lists ≡ 2
  pub objects : (s : ℕ) → IsMarked known.marking s → IsObject known.graph.objects s
  pub started : (p : Part) → known.marking.part ≡ Some p → p.slot ∈ known.marking.grey
  pub placed : (p : Part) → known.marking.part ≡ Some p → IsInProgress known.graph.objects p
  pub snapshot : IsSnapshot (cycle_of known.graph known.marking)
