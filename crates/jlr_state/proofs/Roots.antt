-- The roots of a core's machine are what its heap holds.
use Rattle.std.proofs.Common.{◌++◌, ℕ, Bool, List, [], refl, sym, subst, filter_map}
use Rattle.std.specs.Option.{option_to_list}
use Rattle.jlr_machine.specs.declared.machine.Machine.{Machine}
use Rattle.jlr_machine.specs.Objects.{◌∈◌}
use Rattle.jlr_machine.specs.Edges.{active_cleanables}
use Rattle.jlr_machine.specs.WellFormed.{IsWellFormed}
use Rattle.jlr_roots.specs.Naming.{named}
use Rattle.jlr_roots.specs.Walk.{slots_held, slots_of_session}
use Rattle.jlr_laws.proofs.Sets.{in_front}
use Rattle.jlr_laws.proofs.Clearing.{in_left, in_right}
use Rattle.jlr_laws.proofs.Frames.{root_gives, from_sessions, from_places, IsRoot}
use Rattle.jlr_laws.proofs.Frames.IsRoot.{held as by_handle, fencing, named as by_binding, waiting, lining, active}
use Rattle.jlr_barrier.specs.Graphs.{Graph, held}
use Rattle.jlr_barrier.proofs.OwnRoots.{active_from}
use Rattle.jlr_process.specs.Flipping.{IsRooted}
use Rattle.jlr_cleaner.specs.Cleanings.{Cleanings}
use Rattle.jlr_state.specs.State.{frame, machine_with}

module _ {R : Type 0} (c : Cleanings R) (g : Graph) (cycle : Bool) where
  abbrev m : Machine
  m = machine_with c g cycle

  -- ---- What is held first is held

  abbrev handled : List ℕ
  handled = slots_held g.mutators ++ named g.names

  abbrev waiting_too : List ℕ
  waiting_too = handled ++ g.pending

  abbrev lined_too : List ℕ
  lined_too = waiting_too ++ g.line

  of_handled : (s : ℕ) → s ∈ handled → s ∈ held g
  of_handled s h = in_left s lined_too (active_cleanables 0 g.objects) (in_left s waiting_too g.line (in_left s handled g.pending h))

  by_session : (s : ℕ) → s ∈ slots_held g.mutators → s ∈ held g
  by_session s h = of_handled s (in_left s (slots_held g.mutators) (named g.names) h)

  by_name : (s : ℕ) → s ∈ named g.names → s ∈ held g
  by_name s h = of_handled s (in_right s (slots_held g.mutators) (named g.names) h)

  by_pending : (s : ℕ) → s ∈ g.pending → s ∈ held g
  by_pending s h = in_left s lined_too (active_cleanables 0 g.objects) (in_left s waiting_too g.line (in_right s handled g.pending h))

  by_line : (s : ℕ) → s ∈ g.line → s ∈ held g
  by_line s h = in_left s lined_too (active_cleanables 0 g.objects) (in_right s waiting_too g.line h)

  is_held : (s : ℕ) → IsRoot m s → s ∈ held g
  is_held s (by_handle k h session e f) =
      by_session s (from_sessions slots_of_session g.mutators k session s e
      (in_left s (filter_map (λ h. h) session.handles) (option_to_list session.fence) (from_places session.handles h s f)))
  is_held s (fencing k session e f) =
      let there : s ∈ option_to_list session.fence = subst (λ o. s ∈ option_to_list o) (sym f) (in_front s s [] refl) in
      by_session s (from_sessions slots_of_session g.mutators k session s e
      (in_right s (filter_map (λ h. h) session.handles) (option_to_list session.fence) there))
  is_held s (by_binding h) = by_name s h
  is_held s (waiting h) = by_pending s h
  is_held s (lining h) = by_line s h
  is_held s (active h) = in_right s lined_too (active_cleanables 0 g.objects) (active_from g.objects s h)

  pub rooted : IsWellFormed m → IsRooted (frame c cycle) g
  rooted w = record { fit = w; all_held = λ s h. is_held s (root_gives m s h) }
