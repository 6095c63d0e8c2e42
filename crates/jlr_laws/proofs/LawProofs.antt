-- The laws, from the lemmas.
use Rattle.std.proofs.Common.{◌≡◌, Bool, true, false, not, refl, ℕ, List, sym, ◌∙◌, ap, subst, ◌⊎◌, inl, inr, option_and_then, ◌++◌}
use Rattle.jlr_types.specs.declared.RefKind.{RefKind}
use Rattle.jlr_types.specs.declared.RefKind.TheVariants.{Soft, Weak, Phantom}
use Rattle.jlr_machine.specs.declared.machine.Machine.{Machine}
use Rattle.jlr_machine.specs.Objects.{Heap, at, ◌∈◌, ◌∋◌}
use Rattle.jlr_machine.specs.Edges.{referent, roots}
use Rattle.jlr_machine.specs.Reachable.{HasStrength}
use Rattle.jlr_machine.specs.Collection.{IsAllowed, Clears}
use Rattle.jlr_machine.specs.Edges.Chain.{Strong, UpToPhantom, UpToSoft}
use Rattle.jlr_laws.specs.Laws.{IsWithinHeap, IsSeenWithin, only, BackgroundComesDownToCuttingOff, PolicyMakesFull}
use Rattle.jlr_laws.specs.Laws.{KeepingNoneMakesClearing, RoundsFindWhatPathsReach, ClearsAsSpecified, RefersByKind}
use Rattle.jlr_laws.specs.Laws.{EachClearingIsAsSpecified, LeavesWhatItsStepsLeave, ComesDownToCuttingOff, SoftReferencesGoBeforeAFullHeap}
use Rattle.jlr_laws.proofs.Paths.{AreEdgesWithin, reached_sound, reached_complete}
use Rattle.jlr_laws.proofs.Clearing.{edge_from, cleared_or_kept, same_some, in_append, in_left, in_right}
use Rattle.jlr_laws.proofs.Agree.{narrow, agrees, at_base, decided_reachable, drop_decided, IsDropped, within_after}
use Rattle.jlr_laws.proofs.Least.{closed_strongly, inside_of_least, least_is_strong, strong_is_least}
use Rattle.jlr_laws.proofs.CutOff.{is_collection, is_cut_off}

pub rounds_find_what_paths_reach : RoundsFindWhatPathsReach
rounds_find_what_paths_reach chain heap B w s =
    (reached_sound chain heap B s, reached_complete chain heap B (narrow chain heap B w.edges) w.base s)

pub leaves_what_its_steps_leave : LeavesWhatItsStepsLeave
leaves_what_its_steps_leave heap B kept pending w c s = agrees heap B kept pending c w.edges s

pub comes_down_to_cutting_off : ComesDownToCuttingOff
comes_down_to_cutting_off heap B kept pending w = (
  (λ c. is_cut_off heap B kept pending c w.edges),
  (λ c. is_collection heap B kept w.edges c.holds_base (λ x y m e. c.closed x y m (edge_from Strong heap x y (inl e))) c.inside pending
      c.pended c.once c.rising),
)

pub within_background : (m : Machine) (kept : List ℕ) → IsWithinHeap m.objects (roots m) → IsSeenWithin m
    → ((s : ℕ) → s ∈ kept → s ∈ m.seen) → IsWithinHeap m.objects (roots m ++ kept)
within_background m kept w i seen =
    record { edges = w.edges; base = λ s h. elim (in_append s (roots m) kept h) [ inl r ↦ w.base s r | inr k ↦ i s (seen s k) ] }

pub background_comes_down : BackgroundComesDownToCuttingOff
background_comes_down m kept pending w i = (
  (λ b.
      let c = (comes_down_to_cutting_off m.objects (roots m ++ kept) kept pending (within_background m kept w i b.seen)).0 b.collection in
      record {
        seen = b.seen;
        objects = b.objects;
        holds_roots = λ s r. c.holds_base s (in_left s (roots m) kept r);
        closed = c.closed;
        pended = c.pended;
        once = c.once;
        rising = c.rising;
      }),
  (λ c.
      record {
        seen = c.seen;
        objects = c.objects;
        collection =
            (comes_down_to_cutting_off m.objects (roots m ++ kept) kept pending (within_background m kept w i c.seen)).1
            (record {
              holds_base = λ s h. elim (in_append s (roots m) kept h) [ inl r ↦ c.holds_roots s r | inr k ↦ k ];
              closed = c.closed;
              inside = λ s k. at_base UpToSoft (only kept m.objects) (roots m ++ kept) s (in_right s (roots m) kept k);
              pended = c.pended;
              once = c.once;
              rising = c.rising;
            });
      }),
)

pub policy_makes_full : PolicyMakesFull
policy_makes_full m keeps kept pending w c =
    (comes_down_to_cutting_off m.objects (roots m) kept pending w).1
    (record {
      holds_base = c.marked.holds_base;
      closed = closed_strongly keeps m.objects (roots m) kept c.marked;
      inside = inside_of_least keeps m.objects (roots m) kept c.marked;
      pended = c.pended;
      once = c.once;
      rising = c.rising;
    })

pub keeping_none_makes_clearing : KeepingNoneMakesClearing
keeping_none_makes_clearing m keeps kept pending w none c =
    record {
      full = policy_makes_full m keeps kept pending w c;
      strongly =
          λ s. (least_is_strong keeps m.objects (roots m) kept c.marked none s, strong_is_least keeps m.objects (roots m) kept c.marked s);
    }

-- ---- One clearing

module _ (kind : RefKind) (C : ℕ → Type 0) (B : List ℕ) (old new : Heap) (c : Clears kind C old new) (dec : (x : ℕ) → C x ⊎ ¬ (C x))
    (allowed : IsAllowed kind old B C) where
  -- a referent that was lost is of the set
  lost : (s x : ℕ) → RefersByKind kind old s x → ¬ (at new s ≡ at old s) → C x
  lost s x e n = elim (cleared_or_kept kind C old new c dec s) [
    | inl k ↦ subst C (same_some k.0 x (sym k.3 ∙ sym (ap (option_and_then (referent kind)) k.2) ∙ e)) k.4
    | inr k ↦ absurd (n k.1)
  ]

  pub as_specified : ClearsAsSpecified kind B old new
  as_specified =
      record {
        found = λ s x e n. allowed.members x (lost s x e n);
        all = λ s x e n t f. c.cleared t (x, f, lost s x e n);
        chained = λ s x e n y t r path f. c.cleared t (y, f, allowed.closed x y (lost s x e n) r path);
      }

-- all that is so reachable is an allowed set
whole_set : (kind : RefKind) (heap : Heap) (B : List ℕ) → IsAllowed kind heap B (HasStrength kind heap B)
whole_set kind heap B = record { members = λ x r. r; closed = λ x y r s path. s }

pub each_clearing_is_as_specified : EachClearingIsAsSpecified
each_clearing_is_as_specified heap B kept pending w c =
    let within_soft : AreEdgesWithin UpToPhantom c.soft_left =
    within_after Soft (IsDropped heap B kept) heap c.soft_left c.soft.1 (drop_decided heap B kept w.edges) w.edges in
    let weak_set : (s : ℕ) → HasStrength Weak c.soft_left B s ⊎ ¬ (HasStrength Weak c.soft_left B s) =
    decided_reachable Weak c.soft_left B within_soft in
    let within_weak : AreEdgesWithin UpToPhantom c.weak_left =
    within_after Weak (HasStrength Weak c.soft_left B) c.soft_left c.weak_left c.weak weak_set within_soft in
    record {
      soft = as_specified Soft (IsDropped heap B kept) B heap c.soft_left c.soft.1 (drop_decided heap B kept w.edges) c.soft.0;
      weak = as_specified Weak (HasStrength Weak c.soft_left B) B c.soft_left c.weak_left c.weak weak_set (whole_set Weak c.soft_left B);
      all_weak = λ x t r e. c.weak.cleared t (x, e, r);
      phantom = as_specified Phantom (HasStrength Phantom c.weak_left B) B c.weak_left c.phantom_left c.phantom
          (decided_reachable Phantom c.weak_left B within_weak) (whole_set Phantom c.weak_left B);
      all_phantom = λ x t r e. c.phantom.cleared t (x, e, r);
    }

not_kept : (b : Bool) → (b ≡ true → ⊥) → not b ≡ true
not_kept true h = absurd (h refl)
not_kept false h = refl

pub soft_references_go : SoftReferencesGoBeforeAFullHeap
soft_references_go m kept pending w c x t r e =
    let dropped : IsDropped m.objects (roots m) kept x = (r, not_kept (kept ∋ x) (λ k. r.0 ((c.strongly x).0 k))) in
    c.full.soft.1.cleared t (x, e, dropped)
