-- What the roots of a heap hold, kind by kind.
use Rattle.std.proofs.Common.{inl, inr, ◌++◌, ℕ, List}
use Rattle.jlr_machine.specs.Objects.{◌∈◌}
use Rattle.jlr_machine.specs.Edges.{active_cleanables}
use Rattle.jlr_roots.specs.Walk.{slots_held}
use Rattle.jlr_roots.specs.Naming.{named}
use Rattle.jlr_barrier.specs.Graphs.{Graph, held}
use Rattle.jlr_laws.proofs.Clearing.{in_append, in_left, in_right}

module _ (g : Graph) (x : ℕ) where
  abbrev by_mutators : List ℕ
  by_mutators = slots_held g.mutators ++ named g.names

  abbrev listed : List ℕ
  listed = by_mutators ++ g.pending ++ g.line

  before : x ∈ listed → x ∈ held g
  before h = in_left x listed (active_cleanables 0 g.objects) h

  from_mutators : x ∈ by_mutators → x ∈ held g
  from_mutators h = before (in_left x (by_mutators ++ g.pending) g.line (in_left x by_mutators g.pending h))

  pub by_session : x ∈ slots_held g.mutators → x ∈ held g
  by_session h = from_mutators (in_left x (slots_held g.mutators) (named g.names) h)

  pub by_name : x ∈ named g.names → x ∈ held g
  by_name h = from_mutators (in_right x (slots_held g.mutators) (named g.names) h)

  pub by_pending : x ∈ g.pending → x ∈ held g
  by_pending h = before (in_left x (by_mutators ++ g.pending) g.line (in_right x by_mutators g.pending h))

  pub by_line : x ∈ g.line → x ∈ held g
  by_line h = before (in_right x (by_mutators ++ g.pending) g.line h)

  pub by_itself : x ∈ active_cleanables 0 g.objects → x ∈ held g
  by_itself h = in_right x listed (active_cleanables 0 g.objects) h

  -- what is held, is held by one of these
  pub held_cases : {P : Type 0} → x ∈ held g → (x ∈ slots_held g.mutators → P) → (x ∈ named g.names → P) → (x ∈ g.pending → P)
      → (x ∈ g.line → P) → (x ∈ active_cleanables 0 g.objects → P) → P
  held_cases h session name pending line own = elim (in_append x listed (active_cleanables 0 g.objects) h) [
    | inl first ↦ elim (in_append x (by_mutators ++ g.pending) g.line first) [
      | inl second ↦ elim (in_append x by_mutators g.pending second) [
        | inl third ↦ elim (in_append x (slots_held g.mutators) (named g.names) third) [ inl a ↦ session a | inr b ↦ name b ]
        | inr b ↦ pending b
      ]
      | inr b ↦ line b
    ]
    | inr b ↦ own b
  ]
