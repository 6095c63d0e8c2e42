-- The empty machine is well formed, and a well-formed heap's edges stay within it.
use Rattle.std.proofs.Common.{◌≡◌, ℕ, zero, suc, ◌+◌, ◌<◌, Bool, false, cond, List, [], ◌++◌, length, refl, sym, ◌∙◌, ap, subst, inl, inr}
use Rattle.std.proofs.Common.{arith, IsTrue, Option, Some, None, option_and_then, option_to_list, is_some, replicate, count_by, filter_map}
use Rattle.std.proofs.Common.{fold, ◌≤◌}
use Rattle.std.specs.List.{flat_map, IsDistinct}
use Rattle.std.proofs.lemmas.Bool.{both_ways, cases_lt}
use Rattle.std.proofs.lemmas.List.{length-replicate}
use Rattle.jlr_machine.specs.declared.object.Object.{Object}
use Rattle.jlr_machine.specs.declared.object.Object.TheVariants.{Plain, Reference, Queue, Cleanable, Guard}
use Rattle.jlr_machine.specs.declared.object.Cleanable.{Cleanable as CleanableOf}
use Rattle.jlr_machine.specs.declared.machine.Machine.{Machine}
use Rattle.jlr_machine.specs.declared.machine.Session.{Session}
use Rattle.jlr_machine.specs.Objects.{Table, at, ◌∈◌, as_reference, as_cleanable}
use Rattle.jlr_machine.specs.Edges.{active_cleanables, roots, edges, edges_from}
use Rattle.jlr_machine.specs.Lookups.{same_name}
use Rattle.jlr_machine.specs.Run.{empty, empty_from}
use Rattle.jlr_machine.specs.WellFormed.{IsObjectAt, IsWellFormed, IsImage, AreSlotsNamed, AreReferences, AreLists, AreActions}
use Rattle.jlr_machine.specs.WellFormed.{AreResources, AreCalls, ArePrivate, IsUnspent, state_at, clean_state_at, is_unspent_place}
use Rattle.jlr_machine.specs.Edges.Chain.{UpToPhantom}
use Rattle.jlr_laws.specs.Laws.{IsWithinHeap}
use Rattle.jlr_laws.proofs.Sets.{nothing}
use Rattle.jlr_laws.proofs.Checks.{at_beyond}

-- an object stands at a place of the heap
pub place_of : {A : Type 0} (table : Table A) (s : ℕ) → IsTrue (is_some (at table s)) → s < length table
place_of table s h =
    elim (cases_lt s (length table)) [ inl l ↦ l | inr b ↦ absurd (both_ways false refl (sym (ap is_some (at_beyond table s b)) ∙ h)) ]

pub well_formed_within : (m : Machine) → IsWellFormed m → IsWithinHeap m.objects (roots m)
well_formed_within m w =
    record {
      edges = λ x s e. place_of m.objects s (w.slots.edges x s e);
      base = λ s e. place_of m.objects s (w.slots.roots s e);
    }

-- ---- The empty machine

empty_at : {A : Type 0} (n s : ℕ) → ◌≡◌ {A = Option A} (at (replicate n None) s) None
empty_at zero s = refl
empty_at (suc n) zero = refl
empty_at (suc n) (suc s) = empty_at n s

none_there : {A : Type 0} {P : Type 0} (n s : ℕ) (x : A) → at (replicate n None) s ≡ Some x → P
none_there n s x e = absurd (both_ways false refl (ap is_some (sym (empty_at n s) ∙ e)))

no_some : {A : Type 0} {P : Type 0} (x : A) → ◌≡◌ {A = Option A} None (Some x) → P
no_some x e = absurd (both_ways false refl (ap is_some e))

no_sessions : (n : ℕ) → ◌≡◌ {A = List Session} (filter_map (λ s. s) (replicate n None)) []
no_sessions zero = refl
no_sessions (suc n) = no_sessions n

no_cleanables : (k n : ℕ) → active_cleanables k (replicate n None) ≡ []
no_cleanables k zero = refl
no_cleanables k (suc n) = no_cleanables (suc k) n

none_counted : (p : Option Object → Bool) (n : ℕ) → p None ≡ false → count_by p (replicate n None) ≡ 0
none_counted p zero e = refl
none_counted p (suc n) e = ap (λ b. fold (λ a x. a + cond (p x) 1 0) (0 + cond b 1 0) (replicate n None)) e ∙ none_counted p n e

module _ (cells session_count limit next_action : ℕ) where
  abbrev nobody_here : Machine
  nobody_here = empty_from cells session_count limit next_action

  no_edges : (s x : ℕ) → x ∈ edges_from UpToPhantom nobody_here.objects s → IsObjectAt nobody_here x
  no_edges s x h = nothing x (subst (λ o. x ∈ flat_map (edges UpToPhantom) (option_to_list o)) (empty_at cells s) h)

  no_roots : roots nobody_here ≡ []
  no_roots =
      ap (λ l. flat_map (λ s. filter_map (λ h. h) s.handles) l ++ flat_map (λ s. option_to_list s.fence) l ++ [] ++ [] ++ []
      ++ active_cleanables 0 (replicate cells None)) (no_sessions session_count)
      ∙ no_cleanables 0 cells

  slots_named : AreSlotsNamed nobody_here
  slots_named =
      record {
        edges = no_edges;
        roots = λ s h. nothing s (subst (λ l. s ∈ l) no_roots h);
        queues = λ s q r e f. none_there cells s (Reference r) e;
        guarded = λ s g e. none_there cells s (Guard g) e;
      }

  references : AreReferences nobody_here
  references =
      record {
        states = λ s r e. none_there cells s (Reference r) e;
        members = λ q s members e h. none_there cells q (Queue members) e;
        once = λ q members e. none_there cells q (Queue members) e;
        in_one = λ p q s xs ys e f g h. none_there cells p (Queue xs) e;
      }

  no_state : (s : ℕ) → state_at nobody_here s ≡ None
  no_state s = ap (λ o. option_and_then (λ r. Some r.state) (option_and_then as_reference o)) (empty_at cells s)

  no_clean_state : (s : ℕ) → clean_state_at nobody_here s ≡ None
  no_clean_state s = ap (λ o. option_and_then (λ c. Some c.state) (option_and_then as_cleanable o)) (empty_at cells s)

  lists : AreLists nobody_here
  lists =
      record {
        pending_once = refl;
        line_once = refl;
        pending_references = λ s e. no_some _ (sym (no_state s) ∙ e);
        pending_cleanables = λ s e. no_some _ (sym (no_clean_state s) ∙ e);
        pending_others = λ s h. nothing s h;
        lined = λ s e. no_some _ (sym (no_clean_state s) ∙ e);
        line_others = λ s h. nothing s h;
      }

  unspent_nowhere : {P : Type 0} (s : ℕ) (c : CleanableOf) → IsUnspent nobody_here s c → P
  unspent_nowhere s c u = none_there cells s (Cleanable c) u.there

  actions : 1 ≤ next_action → AreActions nobody_here
  actions started =
      record {
        cleanables = λ s t c d u v e. unspent_nowhere s c u;
        apart = λ s c u. unspent_nowhere s c u;
        jobs = refl;
        of_cleanables = λ s c e. none_there cells s (Cleanable c) e;
        of_jobs = tt;
        of_resources = tt;
        of_faults = tt;
        referents = λ s c e n. none_there cells s (Cleanable c) e;
        cleaners = omega arith;
        taken = refl;
        room = omega (arith, none_counted is_unspent_place cells refl, started);
      }

  resources : AreResources nobody_here
  resources =
      record {
        rising = refl;
        worked = λ rid action state e. no_some _ e;
        of_cleanables = λ s rid c u e. unspent_nowhere s c u;
        idle = λ s rid c u e n. unspent_nowhere s c u;
        of_jobs = λ job rid e f. no_some _ e;
        one_guard = λ s t g h e f k. none_there cells s (Guard g) e;
        guards = λ s g c e f. none_there cells s (Guard g) e;
        guarded = λ s rid c e f k. none_there cells s (Cleanable c) e;
      }

  calls : AreCalls nobody_here
  calls =
      record {
        calls = λ k s e. none_there session_count k s e;
        opening = λ rid action e. no_some _ e;
        out = λ rid action e. no_some _ e;
        one_call = λ j k call e f n. none_there session_count j e.0 e.1;
        jobs = λ job e n. no_some _ e;
      }

  unnamed : ArePrivate nobody_here
  unnamed =
      record {
        handles = λ k h s session e f. none_there session_count k session e;
        names = λ s h. nothing s h;
        fields = λ t s fields e h. none_there cells t (Plain fields) e;
        references = λ t s r e f. none_there cells t (Reference r) e;
      }

  names_distinct : IsDistinct same_name []
  unfolding IsDistinct
  names_distinct = tt

  pub empty_from_is_well_formed : 1 ≤ next_action → cells ≤ 65536 → session_count ≤ 64 → IsWellFormed nobody_here
  empty_from_is_well_formed started small few =
      record {
        limits = record {
          cells = subst (λ k. k ≤ 65536) (sym (length-replicate cells _)) small;
          sessions =
              subst (λ k. k ≤ 64) (sym (length-replicate session_count _)) few;
        };
        slots = slots_named;
        references = references;
        lists = lists;
        sessions = record {
          places = λ k s e. none_there session_count k s e;
          opening =
              λ k s e. none_there session_count k s e;
          names = names_distinct;
          names_limit = omega arith;
        };
        actions = actions started;
        resources = resources;
        calls = calls;
        unnamed = unnamed;
        faults = omega arith;
        notes = omega arith;
        seen_rising = refl;
        seen_within = λ s h. nothing s h;
        seen_in_cycle = λ _. refl;
      }

  pub empty_from_is_an_image : 1 ≤ next_action → cells ≤ 65536 → session_count ≤ 64 → IsImage nobody_here
  empty_from_is_an_image started small few = record { well_formed = empty_from_is_well_formed started small few; no_cycle = refl }

pub empty_is_well_formed : (cells session_count limit : ℕ) → cells ≤ 65536 → session_count ≤ 64
    → IsWellFormed (empty cells session_count limit)
empty_is_well_formed cells session_count limit = empty_from_is_well_formed cells session_count limit 1 (omega arith)
