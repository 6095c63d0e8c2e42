-- Calls on mutators, names and queues keep a heap together.
use Rattle.std.proofs.Common.{◌≡◌, ℕ, inl, inr, IsTrue, List, [], ◌∷◌, ◌++◌, Option, Some, None, drop, length, sym, subst, ◌∙◌}
use Rattle.std.specs.Prelude.{IfNone, IfSome, Result, Ok, Err, OnErr, OnOk}
use Rattle.jlr_machine.specs.declared.machine.Session.{Session}
use Rattle.jlr_machine.specs.declared.machine.Binding.{Binding}
use Rattle.jlr_machine.specs.declared.machine.Call.{Call}
use Rattle.jlr_machine.specs.declared.machine.Call.TheVariants.{Free}
use Rattle.jlr_machine.specs.Objects.{Heap, Table, at, change_at, empty_at, set_at, some_and, with_members, with_reference, ◌∈◌}
use Rattle.jlr_machine.specs.Lookups.{bound, unbound}
use Rattle.jlr_machine.specs.Calls.{fresh_session}
use Rattle.jlr_machine.specs.Refusals.{is_queue, is_reference}
use Rattle.jlr_cells.specs.Contents.{member_in, next_in, unregistered}
use Rattle.jlr_roots.specs.Sessions.{session_in_call, with_slot, without_handle}
use Rattle.jlr_roots.specs.Walk.{slots_held, slots_of_session}
use Rattle.jlr_roots.specs.Naming.{named}
use Rattle.jlr_laws.proofs.Frames.{no_some, some_same}
use Rattle.jlr_marks.specs.Marking.{Marking, Shaded}
use Rattle.jlr_barrier.specs.Graphs.{Known, fence_at, with_objects}
use Rattle.jlr_barrier.specs.Snapshots.{FitsTogether, IsInHand, IsObject, IsSafe, cycle_of}
use Rattle.jlr_barrier.proofs.Fitting.{in_hand_safe, or_safe, other_clock, other_mutators, other_names}
use Rattle.jlr_barrier.proofs.Changing.{more_marks}
use Rattle.jlr_barrier.proofs.Retouching.{one_member_less, one_member_more, without_queue}
use Rattle.jlr_barrier.proofs.Holding.{changed_session, holds_by_call, holds_nothing, holds_one_less, holds_one_more, named_by_bound}
use Rattle.jlr_barrier.proofs.Holding.{named_by_unbound, other_session}

module _ (k : Known) (a b : ℕ) (f : FitsTogether k a b) where
  abbrev Safe : ℕ → Type 0
  Safe = IsSafe (cycle_of k.graph k.marking)

  abbrev with_names : List Binding → Known
  with_names names = record k { graph = record k.graph { names = names } }

  abbrev with_mutators : Table Session → Known
  with_mutators mutators = record k { graph = record k.graph { mutators = mutators } }

  -- ---- Names

  pub bound_fits : (names : List Binding) (name : List ℕ) (s : ℕ) → names ≡ bound k.graph.names name s → IsInHand k s
      → FitsTogether (with_names names) a b
  bound_fits names name s e held =
      other_names k names a b f (λ y h. or_safe k a b s y (y ∈ named k.graph.names) f held
      (named_by_bound k.graph.names name s y (subst (λ l. y ∈ named l) e h)))

  -- also where there was no memory for a new name
  pub bound_or_same_fits : {T E : Type 0} (Absent : Type 0) (r : Result T E) (names : List Binding) (name : List ℕ) (s : ℕ)
      → OnOk r (names ≡ bound k.graph.names name s)
      → OnErr r ((names ≡ k.graph.names) × Absent) → IsInHand k s → FitsTogether (with_names names) a b
  bound_or_same_fits Absent (Ok x) names name s ok err held = bound_fits names name s ok held
  bound_or_same_fits Absent (Err e) names name s ok err held = subst (λ (l : List Binding). FitsTogether (with_names l) a b) (sym err.0) f

  pub unbound_fits : (names : List Binding) (name : List ℕ) → names ≡ unbound k.graph.names name → FitsTogether (with_names names) a b
  unbound_fits names name e = other_names k names a b f (λ y h. inl (named_by_unbound k.graph.names name y (subst (λ l. y ∈ named l) e h)))

  -- ---- Mutators

  pub joined_fits : (mutators : Table Session) (m : ℕ) → mutators ≡ set_at k.graph.mutators m fresh_session
      → FitsTogether (with_mutators mutators) a b
  joined_fits mutators m e =
      other_mutators k mutators a b f
      (λ y h. other_session k.graph.mutators m (Some fresh_session) Safe
      (λ s same y h. holds_nothing y (subst (λ (t : Session). y ∈ slots_of_session t) (sym (some_same fresh_session s same)) h)) y
      (subst (λ l. y ∈ slots_held l) e h))

  pub left_fits : (mutators : Table Session) (m : ℕ) → mutators ≡ empty_at k.graph.mutators m → FitsTogether (with_mutators mutators) a b
  left_fits mutators m e =
      other_mutators k mutators a b f
      (λ y h. other_session k.graph.mutators m None Safe (λ s same y h. no_some s same) y (subst (λ l. y ∈ slots_held l) e h))

  given_fits : (mutators : Table Session) (m handle s : ℕ) → mutators ≡ change_at k.graph.mutators m (with_slot handle s) → IsInHand k s
      → FitsTogether (with_mutators mutators) a b
  given_fits mutators m handle s e held =
      other_mutators k mutators a b f
      (λ y h. changed_session k.graph.mutators m (with_slot handle s) Safe
      (λ t y h. elim (holds_one_more handle s t y h) [
        | inl o ↦ inl o
        | inr same ↦
            inr (subst Safe (sym same) (in_hand_safe k f.snapshot s held))
      ])
      y (subst (λ l. y ∈ slots_held l) e h))

  pub handle_fits : (handle : Option ℕ) (mutators : Table Session) (m s : ℕ) → IfNone handle (mutators ≡ k.graph.mutators)
      → IfSome handle (λ h. mutators ≡ change_at k.graph.mutators m (with_slot h s)) → IsInHand k s
      → FitsTogether (with_mutators mutators) a b
  handle_fits None mutators m s none some held = subst (λ l. FitsTogether (with_mutators l) a b) (sym none) f
  handle_fits (Some h) mutators m s none some held = given_fits mutators m h s some held

  pub dropped_fits : (mutators : Table Session) (m handle : ℕ) → mutators ≡ change_at k.graph.mutators m (without_handle handle)
      → FitsTogether (with_mutators mutators) a b
  dropped_fits mutators m handle e =
      other_mutators k mutators a b f
      (λ y h. changed_session k.graph.mutators m (without_handle handle) Safe (λ t y h. inl (holds_one_less handle t y h)) y
      (subst (λ l. y ∈ slots_held l) e h))

  pub called_fits : (mutators : Table Session) (m : ℕ) (fence : Option ℕ) (call : Call)
      → mutators ≡ change_at k.graph.mutators m (session_in_call fence call) → ((s : ℕ) → fence ≡ Some s → IsInHand k s)
      → FitsTogether (with_mutators mutators) a b
  called_fits mutators m fence call e held =
      other_mutators k mutators a b f
      (λ y h. changed_session k.graph.mutators m (session_in_call fence call) Safe
      (λ t y h. elim (holds_by_call fence call t y h) [ inl o ↦ inl o | inr there ↦ inr (in_hand_safe k f.snapshot y (held y there)) ])
      y (subst (λ l. y ∈ slots_held l) e h))

  -- ---- Members of a queue

  pub linked_fits : (cells : Heap) (q s : ℕ) → cells ≡ change_at k.graph.objects q (with_members (λ members. members ++ s ∷ []))
      → IsTrue (some_and is_queue (at k.graph.objects q)) → IsInHand k s
      → FitsTogether (record k { graph = with_objects k.graph cells }) a b
  linked_fits cells q s pushed there held =
      subst (λ h. FitsTogether (record k { graph = with_objects k.graph h }) a b) (sym pushed) (one_member_more k a b q f s held there)

-- ---- What is shaded, and what it held goes

pub ended_fits : (k : Known) (a b : ℕ) (n : Marking) (mutators : Table Session) (m : ℕ) (fence : Option ℕ) → FitsTogether k a b
    → fence ≡ fence_at k.graph.mutators m → Shaded (λ x. fence ≡ Some x) k.marking n
    → mutators ≡ change_at k.graph.mutators m (session_in_call None Free)
    → ((s : ℕ) → fence_at k.graph.mutators m ≡ Some s → IsObject k.graph.objects s)
    → FitsTogether (record k { graph = record k.graph { mutators = mutators }; marking = n }) a b
ended_fits k a b n mutators m fence f was shaded e objects =
    called_fits (record k { marking = n }) a b (more_marks (λ x. fence ≡ Some x) k a b n f (λ x there. objects x (sym was ∙ there)) shaded)
    mutators m None Free e (λ s none. no_some s none)

pub unlinked_fits : (k : Known) (a b : ℕ) (n : Marking) (cells : Heap) (q : ℕ) (member : Option ℕ) → FitsTogether k a b
    → member ≡ member_in (at k.graph.objects q) 0 → Shaded (λ x. member ≡ Some x) k.marking n
    → cells ≡ change_at k.graph.objects q (with_members (drop 1)) → IsTrue (some_and is_queue (at k.graph.objects q))
    → ((s : ℕ) → member_in (at k.graph.objects q) 0 ≡ Some s → IsObject k.graph.objects s)
    → FitsTogether (record k { graph = with_objects k.graph cells; marking = n }) a b
unlinked_fits k a b n cells q member f front shaded e there objects =
    subst (λ h. FitsTogether (record k { graph = with_objects k.graph h; marking = n }) a b) (sym e)
    (one_member_less (record k { marking = n }) a b q
    (more_marks (λ x. member ≡ Some x) k a b n f (λ x first. objects x (sym front ∙ first)) shaded)
    (λ y first. shaded.all y (front ∙ first)) there)

pub cut_fits : (k : Known) (a b : ℕ) (n : Marking) (cells : Heap) (s : ℕ) → FitsTogether k a b
    → Shaded (λ x. next_in (at k.graph.objects s) ≡ Some x) k.marking n → cells ≡ change_at k.graph.objects s (with_reference unregistered)
    → IsTrue (some_and is_reference (at k.graph.objects s))
    → ((y : ℕ) → next_in (at k.graph.objects s) ≡ Some y → IsObject k.graph.objects y)
    → FitsTogether (record k { graph = with_objects k.graph cells; marking = n }) a b
cut_fits k a b n cells s f shaded e there objects =
    subst (λ h. FitsTogether (record k { graph = with_objects k.graph h; marking = n }) a b) (sym e)
    (without_queue (record k { marking = n }) a b s (more_marks (λ x. next_in (at k.graph.objects s) ≡ Some x) k a b n f objects shaded)
    shaded.all there)

-- a reference gives what it refers to
pub given_referent_fits : (k : Known) (a b : ℕ) (n : Marking) (ages : List ℕ) (s : ℕ) (there : Option ℕ) → FitsTogether k a b
    → there ≡ Some s → Shaded (λ x. Some s ≡ Some x) k.marking n → length ages ≡ length k.clock.last_gets
    → ((x : ℕ) → there ≡ Some x → IsObject k.graph.objects x)
    → FitsTogether (record k { clock = record k.clock { last_gets = ages }; marking = n }) a b
given_referent_fits k a b n ages s there f e shaded long objects =
    other_clock (record k { marking = n }) (record k.clock { last_gets = ages }) a b
    (more_marks (λ x. Some s ≡ Some x) k a b n f (λ x same. objects x (e ∙ same)) shaded) long
