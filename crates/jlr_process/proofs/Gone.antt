-- What makes a collection of the marked objects go through, and what it is.
use Rattle.std.proofs.Common.{◌≡◌, ◌<◌, ℕ, true, false, List, ◌++◌, length, Some, None, option_and_then, IsTrue}
use Rattle.std.proofs.Common.{is_some, refl, sym, ◌∙◌, arith}
use Rattle.std.proofs.lemmas.Bool.{both_ways}
use Rattle.jlr_machine.specs.declared.machine.Machine.{Machine}
use Rattle.jlr_machine.specs.Objects.{at, ◌∋◌, any_referent, is_distinct}
use Rattle.jlr_machine.specs.Edges.{roots}
use Rattle.jlr_machine.specs.Collection.{IsCollection}
use Rattle.jlr_machine.specs.ReachSet.{up_to}
use Rattle.jlr_laws.proofs.Sets.{in_filter, in_up_to}
use Rattle.jlr_laws.proofs.Empty.{well_formed_within}
use Rattle.jlr_laws.proofs.Fits.{referent_object}
use Rattle.jlr_laws.proofs.Frames.{no_some, place_within}
use Rattle.jlr_laws.proofs.LawProofs.{background_comes_down}
use Rattle.jlr_laws.proofs.SeenKept.{rising_filter}
use Rattle.jlr_marks.specs.Marking.{Marking, is_marked}
use Rattle.jlr_process.specs.Settling.{is_losing, marked_below}
use Rattle.jlr_barrier.specs.Graphs.{Known, in_machine}
use Rattle.jlr_barrier.specs.Snapshots.{HoldsWhole}
use Rattle.jlr_process.specs.Flipping.{IsMarkedWhole, IsRooted}
use Rattle.jlr_process.proofs.Whole.{pended, same}

-- ---- A well-formed machine whose marked objects are kept

module _ (m : Machine) (marking : Marking) (w : IsMarkedWhole m marking) where
  abbrev kept : List ℕ
  kept = marked_below marking (length m.objects)

  object_within : (s : ℕ) → IsTrue (is_some (at m.objects s)) → s < length m.objects
  object_within s h = elim (at m.objects s) as (λ o. at m.objects s ≡ o → IsTrue (is_some o) → s < length m.objects) [
    | None ↦
        λ e h. absurd (both_ways false refl h)
    | Some o ↦ λ e h. place_within m.objects s o e
  ] refl h

  pub referent_within : (s x : ℕ) → option_and_then any_referent (at m.objects s) ≡ Some x → x < length m.objects
  referent_within s x e =
      elim (at m.objects s) as (λ o. at m.objects s ≡ o → option_and_then any_referent o ≡ Some x → x < length m.objects) [
        | None ↦ λ f e. no_some x e
        | Some o ↦ λ f e. object_within x (referent_object m w.fit s x o f e)
      ] refl e

  -- it is a collection that counts what it keeps as reachable, where these become pending
  pub collection : (lost : List ℕ) → is_distinct lost ≡ true → ((x : ℕ) → (lost ∋ x) ≡ is_losing marking m.objects x)
      → IsCollection m.objects (roots m ++ kept) kept lost
  collection lost once same_lost =
      let seen : Machine = record m { seen = kept } in
      let b =
      (background_comes_down seen kept lost (well_formed_within m w.fit)
      (λ s h. let i = in_up_to 0 (length m.objects) s (in_filter (is_marked marking) (up_to 0 (length m.objects)) s h).1 in
      omega (arith, i.1))).1
      (record {
        seen = λ s h. h;
        objects = λ s h. w.objects s (sym (same marking m.objects w.long s) ∙ h);
        holds_roots = λ s h. same marking m.objects w.long s ∙ w.roots s h;
        closed = λ x y h e. same marking m.objects w.long y ∙ w.closed x y (sym (same marking m.objects w.long x) ∙ h) e;
        pended = pended marking m.objects w.long lost same_lost;
        once = once;
        rising = rising_filter (is_marked marking) 0 (length m.objects);
      }) in
      b.collection

-- ---- Where no cell is grey

-- what is marked holds the roots of a rooted machine, and all that they lead to
pub whole : (f : Machine) (k : Known) → IsRooted f k.graph → HoldsWhole k → IsMarkedWhole (in_machine f k.graph) k.marking
whole f k rooted holds =
    record {
      fit = rooted.fit;
      long = holds.long;
      objects = holds.objects;
      roots = λ s h. holds.roots s (rooted.all_held s h);
      closed = λ s t on e. holds.closed s t on e;
    }
