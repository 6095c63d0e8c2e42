-- What a heap is seen as: an object graph with its roots, a clock of collections, and a mark set.
use Rattle.std.specs.Prelude.{◌+◌, ◌^◌, ℕ, cond, nat_lt, Option, List, [], ◌++◌, None, replicate, slice_set}
use Rattle.std.specs.Prelude.{option_and_then}
use Rattle.jlr_machine.specs.declared.machine.Machine.{Machine}
use Rattle.jlr_machine.specs.declared.machine.Session.{Session}
use Rattle.jlr_machine.specs.declared.machine.Binding.{Binding}
use Rattle.jlr_machine.specs.Objects.{Heap, Table, as_reference, at, occupied}
use Rattle.jlr_machine.specs.Edges.{active_cleanables}
use Rattle.jlr_machine.specs.Refusals.{gotten}
use Rattle.jlr_roots.specs.Walk.{slots_held}
use Rattle.jlr_roots.specs.Naming.{named}
use Rattle.jlr_marks.specs.Marking.{Marking, unmarked}

-- the part of a machine that the heap keeps
pub record Graph : Type 0 where
  pub objects : Heap
  pub mutators : Table Session
  pub names : List Binding
  pub pending : List ℕ
  pub line : List ℕ

-- Time for the soft policy: how many collections have finished, and, by slot, that number when the object there was
-- made or, if it is a reference, last gave its referent. And for whoever begins cycles: how many cells were taken since
-- a collection finished last
pub record Clock : Type 0 where
  pub last_gets : List ℕ
  pub collections : ℕ
  pub since : ℕ

-- Of the cells without an object so many are condemned: what lay there is no object any more, and they are not free yet
pub record Known : Type 0 where
  pub graph : Graph
  pub clock : Clock
  pub marking : Marking
  pub condemned : ℕ

-- a heap that has no condemned cells
abbrev pub swept : Graph → Clock → Marking → Known
swept g c m = record { graph = g; clock = c; marking = m; condemned = 0 }

-- how many cells are not free
abbrev pub in_use : Known → ℕ
in_use k = occupied k.graph.objects + k.condemned

-- a machine of which the heap keeps its part
abbrev pub in_machine : Machine → Graph → Machine
in_machine m g =
    record m { objects = g.objects; mutators = g.mutators; names = g.names; pending = g.pending; line = g.line }

-- ---- A new heap

abbrev pub empty_graph : ℕ → ℕ → Graph
empty_graph cells sessions =
    record { objects = replicate cells None; mutators = replicate sessions None; names = []; pending = []; line = [] }

abbrev pub empty_known : ℕ → ℕ → Known
empty_known cells sessions =
    record {
      graph = empty_graph cells sessions;
      clock = record { last_gets = replicate cells 0; collections = 0; since = 0 };
      marking = unmarked cells;
      condemned = 0;
    }

-- ---- Changes

abbrev pub with_objects : Graph → Heap → Graph
with_objects g objects = record g { objects = objects }

abbrev pub with_mutators : Graph → Table Session → Graph
with_mutators g mutators = record g { mutators = mutators }

abbrev pub with_names : Graph → List Binding → Graph
with_names g names = record g { names = names }

abbrev pub with_pending : Graph → List ℕ → Graph
with_pending g pending = record g { pending = pending }

abbrev pub with_line : Graph → List ℕ → Graph
with_line g line = record g { line = line }

-- the reference at s gave its referent now
abbrev pub used_now : Clock → ℕ → Clock
used_now c s = record c { last_gets = slice_set c.last_gets s c.collections }

-- the object at s was made now, in a cell that was taken for it. The count of these saturates
abbrev pub made_now : Clock → ℕ → Clock
made_now c s = record c {
  last_gets = slice_set c.last_gets s c.collections;
  since = cond (nat_lt (c.since + 1) (2 ^ 32)) (c.since + 1) c.since;
}

-- one collection more has finished, and no cell was taken since. The count saturates
abbrev pub counted : Clock → Clock
counted c = record c {
  collections = cond (nat_lt (c.collections + 1) (2 ^ 64)) (c.collections + 1) c.collections;
  since = 0;
}

-- what the object at a slot gives, if it is a reference
abbrev pub gotten_at : Heap → ℕ → Option ℕ
gotten_at heap s = option_and_then gotten (option_and_then as_reference (at heap s))

-- ---- Roots

-- the slot that the call of a mutator holds
abbrev pub fence_at : Table Session → ℕ → Option ℕ
fence_at mutators k = option_and_then (λ s. s.fence) (at mutators k)

-- what the mutators' handles and fences hold, what the names stand for, the pending list and the line, and the
-- cleanables that are Armed or Pending
abbrev pub held : Graph → List ℕ
held g = slots_held g.mutators ++ named g.names ++ g.pending ++ g.line ++ active_cleanables 0 g.objects
