-- What a collection needs, and what it leaves.
use Rattle.std.specs.Prelude.{◌≡◌, ℕ, ◌++◌, IsTrue, List, is_some, length}
use Rattle.jlr_machine.specs.declared.machine.Machine.{Machine}
use Rattle.jlr_machine.specs.Objects.{◌∈◌, at, occupied}
use Rattle.jlr_machine.specs.Edges.{edges_from, roots}
use Rattle.jlr_machine.specs.Edges.Chain.{Strong}
use Rattle.jlr_machine.specs.Collection.{IsCollection, places_left}
use Rattle.jlr_machine.specs.Choices.{Choosing, collecting}
use Rattle.jlr_machine.specs.WellFormed.{IsWellFormed}
use Rattle.jlr_marks.specs.Marking.{IsMarked, Marking}
use Rattle.jlr_barrier.specs.Graphs.{Graph, held, in_machine}
use Rattle.jlr_process.specs.Settling.{marked_below}

-- The machine of which a heap keeps this part is well formed, and has no roots but those that the heap holds
pub record IsRooted (m : Machine) (g : Graph) : Type 0 where
  pub fit : IsWellFormed (in_machine m g)
  pub all_held : (s : ℕ) → s ∈ roots (in_machine m g) → s ∈ held g

-- Objects of a well-formed machine are marked, with a bit for each cell, among them all roots, and with an object all
-- that it leads to by strong edges
pub record IsMarkedWhole (m : Machine) (marking : Marking) : Type 0 where
  pub fit : IsWellFormed m
  pub long : length marking.bits ≡ length m.objects
  pub objects : (s : ℕ) → IsMarked marking s → IsTrue (is_some (at m.objects s))
  pub roots : (s : ℕ) → s ∈ roots m → IsMarked marking s
  pub closed : (s t : ℕ) → IsMarked marking s → t ∈ edges_from Strong m.objects s → IsMarked marking t

-- The marked objects are kept by a collection that counts them as reachable, the choice says so, and n is what it
-- leaves of m
pub record Flips (m : Machine) (marking : Marking) (old new : Choosing) (n : Machine) : Type 0 where
  pub pending : List ℕ
  pub chosen : new ≡ collecting old (marked_below marking (length m.objects)) pending
  pub collection : IsCollection m.objects (roots m ++ marked_below marking (length m.objects))
      (marked_below marking (length m.objects)) pending
  pub left : n ≡ record m {
    objects = places_left (marked_below marking (length m.objects)) pending 0 m.objects;
    pending = m.pending ++ pending;
  }
  pub counted : occupied n.objects ≡ length (marked_below marking (length m.objects))
