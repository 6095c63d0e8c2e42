-- What the marked objects are: what a full collection under the policy keeps.
use Rattle.std.proofs.Common.{◌≡◌, ◌++◌, ℕ, ◌↔◌, Bool, List, [], length, IsTrue, is_some, refl, sym, ◌∙◌, ap, subst, inl, inr, arith}
use Rattle.jlr_machine.specs.declared.machine.Machine.{Machine}
use Rattle.jlr_machine.specs.Objects.{any_referent, at, ◌∈◌, ◌∋◌}
use Rattle.jlr_barrier.specs.Snapshots.{RefersTo}
use Rattle.jlr_laws.proofs.Fits.{referent_object}
use Rattle.jlr_machine.specs.Edges.{edges_from, roots}
use Rattle.jlr_machine.specs.Edges.Chain.{UpToSoft, UpToPhantom}
use Rattle.jlr_soft.specs.declared.policy.Policy.{Policy}
use Rattle.jlr_soft.specs.declared.policy.Mode.TheVariants.{ClearAll}
use Rattle.jlr_machine.specs.Choices.{Choosing, kept_by, pended_by}
use Rattle.jlr_machine.specs.Collection.{IsFullClearing}
use Rattle.jlr_machine.specs.WellFormed.{IsWellFormed}
use Rattle.jlr_roots.specs.Walk.{slots_held, slots_of_session}
use Rattle.jlr_laws.specs.Laws.{IsLeastMarking, IsFullMarking as IsMarkedBy, IsWithinHeap}
use Rattle.jlr_laws.proofs.Clearing.{edge_gives, edge_from, in_append, in_option}
use Rattle.jlr_laws.proofs.Frames.{in_sessions, in_places, no_some, root_from}
use Rattle.jlr_barrier.proofs.Held.{held_cases}
use Rattle.jlr_barrier.proofs.OwnRoots.{active_gives}
use Rattle.jlr_laws.proofs.Frames.IsRoot.{lining, active, held as by_handle, fencing, named as by_name, waiting}
use Rattle.jlr_laws.proofs.Empty.{well_formed_within}
use Rattle.jlr_laws.proofs.LawProofs.{comes_down_to_cutting_off, keeping_none_makes_clearing, policy_makes_full}
use Rattle.std.proofs.Common.{◌<◌, Some, None, filter_map, option_and_then, option_to_list}
use Rattle.jlr_barrier.specs.Graphs.{Clock, Graph, held, in_machine}
use Rattle.jlr_marks.specs.Marking.{Marking, IsMarked, is_marked}
use Rattle.jlr_process.specs.Settling.{marked_below}
use Rattle.jlr_process.specs.Flipping.{Flips}
use Rattle.jlr_process.proofs.Whole.{kept_is_marked}
use Rattle.jlr_marker.specs.Following.{IsFollowed, keeps}
use Rattle.jlr_sweep.specs.Collecting.{Collects, closed}
use Rattle.jlr_process.specs.Flipping.{IsRooted}
use Rattle.jlr_marker.proofs.Following.{follows_on, object_within}

module _ (f : Machine) (g : Graph) (rooted : IsRooted f g) where
  abbrev m : Machine
  m = in_machine f g

  -- ---- What is held is a root

  session_root : (s : ℕ) → s ∈ slots_held g.mutators → s ∈ roots m
  session_root s a =
      let r = in_sessions slots_of_session g.mutators s a in
      elim (in_append s (filter_map (λ h. h) r.1.handles) (option_to_list r.1.fence) r.3) [
        | inl by ↦ let p = in_places r.1.handles s by in root_from m s (by_handle r.0 p.0 r.1 r.2 p.1)
        | inr by ↦ root_from m s (fencing r.0 r.1 r.2 (in_option s r.1.fence by))
      ]

  pub held_root : (s : ℕ) → s ∈ held g → s ∈ roots m
  held_root s h =
      held_cases g s h (session_root s) (λ b. root_from m s (by_name b)) (λ b. root_from m s (waiting b)) (λ b. root_from m s (lining b))
      (λ own. root_from m s (active (active_gives g.objects s own)))

  -- ---- What marking asks for

  pub held_object : (s : ℕ) → s ∈ held g → IsTrue (is_some (at g.objects s))
  held_object s h = rooted.fit.slots.roots s (held_root s h)

  pub edge_object : (x y : ℕ) → y ∈ edges_from UpToSoft g.objects x → IsTrue (is_some (at g.objects y))
  edge_object x y h = rooted.fit.slots.edges x y (elim
      (edge_gives UpToSoft g.objects x y h) [
        | inl s ↦ edge_from UpToPhantom g.objects x y (inl s)
        | inr r ↦
            edge_from UpToPhantom g.objects x y (inr (r.0, refl, r.2))
      ])

  pub referent_inside : (x y : ℕ) → RefersTo g.objects x y → y < length g.objects
  referent_inside x y e =
      elim (at g.objects x) as (λ o. at g.objects x ≡ o → option_and_then any_referent o ≡ Some y → y < length g.objects) [
        | None ↦ λ f e. no_some y e
        | Some o ↦ λ f e. object_within g.objects y (referent_object (in_machine m g) rooted.fit x y o f e)
      ] refl e

  -- ---- What was kept

  module _ (kept_soft : ℕ → Bool) (marks : Marking) (long : length marks.bits ≡ length g.objects)
      (marked : (x : ℕ) → IsMarked marks x ↔ IsFollowed kept_soft g.objects (held g) x)
      (objects : (x : ℕ) → IsMarked marks x → IsTrue (is_some (at g.objects x))) where
    abbrev kept : List ℕ
    kept = marked_below marks (length g.objects)

    same : (x : ℕ) → (kept ∋ x) ≡ is_marked marks x
    same x = kept_is_marked marks (length g.objects) x (omega (arith, long))

    least : IsLeastMarking kept_soft g.objects (roots m) kept
    least =
        record {
          holds_base = λ s h. same s ∙ (marked s).1 (s, rooted.all_held s h, [], refl);
          closed = λ x y h e. let f = (marked x).0 (sym (same x) ∙ h) in same y
              ∙ (marked y).1 (follows_on kept_soft g.objects (held g) x y f e);
          least = λ s h. let f = (marked s).0 (sym (same s) ∙ h) in (f.0, held_root f.0 f.1, f.2, f.3);
        }

    pub collects : (old new : Choosing) (n : Machine) → Flips m marks old new n → Collects kept_soft m old new (closed n)
    collects old new n f =
        let within = well_formed_within m rooted.fit in
        let around : IsWithinHeap g.objects (roots m ++ kept) =
        record {
          edges = within.edges;
          base = λ s h. elim (in_append s (roots m) kept h) [
            | inl r ↦ within.base s r
            | inr k ↦
                (let there = objects s (sym (same s) ∙ k) in object_within g.objects s there)
          ];
        } in
        let cut = (comes_down_to_cutting_off g.objects (roots m ++ kept) kept f.pending around).0 f.collection in
        let by_policy : IsMarkedBy kept_soft g.objects (roots m) kept f.pending =
        record { marked = least; pended = cut.pended; once = cut.once; rising = cut.rising } in
        record {
          kept = kept;
          pending = f.pending;
          chosen = f.chosen;
          marked = by_policy;
          full = policy_makes_full m kept_soft kept f.pending within by_policy;
          left = ap {A = Machine} {B = Machine} closed f.left;
          counted = f.counted;
        }

-- where no soft reference is kept, all are cleared
pub clears_all : (m : Machine) (policy : Policy) (clock : Clock) (old new : Choosing) (n : Machine) → policy.mode ≡ ClearAll
    → IsWellFormed m → (c : Collects (keeps policy clock) m old new n) → IsFullClearing m c.kept c.pending
clears_all m policy clock old new n all w c =
    keeping_none_makes_clearing m (keeps policy clock) c.kept c.pending (well_formed_within m w) (λ s. rw all refl) c.marked

-- as the choice tells it
pub clears_told : (m : Machine) (policy : Policy) (clock : Clock) (old new : Choosing) (n : Machine) → policy.mode ≡ ClearAll
    → IsWellFormed m → Collects (keeps policy clock) m old new n → IsFullClearing m (kept_by new) (pended_by new)
clears_told m policy clock old new n all w c =
    subst (λ k. IsFullClearing m (kept_by k) (pended_by k)) (sym c.chosen) (clears_all m policy clock old new n all w c)
