-- What changes of one object do to its strong edges, its referent, and whether it is a root by itself.
use Rattle.std.proofs.Common.{◌≡◌, ℕ, ◌⊎◌, inl, inr, true, false, cond, IsTrue, List, [], ◌∷◌, ◌++◌, Some, None, drop, option_map, refl}
use Rattle.std.proofs.Common.{sym, subst, ap, ◌∙◌}
use Rattle.std.specs.Option.{option_to_list}
use Rattle.std.proofs.lemmas.Bool.{both_ways}
use Rattle.jlr_machine.specs.declared.object.Object.{Object}
use Rattle.jlr_machine.specs.declared.object.Object.TheVariants.{Plain, Reference, Queue, Cleaner, Cleanable, Guard}
use Rattle.jlr_machine.specs.declared.object.Reference.{Reference as ReferenceOf}
use Rattle.jlr_machine.specs.declared.object.Cleanable.{Cleanable as CleanableOf}
use Rattle.jlr_machine.specs.declared.object.CleanState.{CleanState}
use Rattle.jlr_machine.specs.declared.object.RefState.{RefState}
use Rattle.jlr_machine.specs.Objects.{any_referent, as_fields, at, change_at, is_unqueued, queue_ahead, some_and, with_cleanable}
use Rattle.jlr_machine.specs.Objects.{with_members, with_reference, ◌∈◌}
use Rattle.jlr_machine.specs.Edges.{strong_edges, is_active, is_own_root}
use Rattle.jlr_machine.specs.Calls.{spent, unreferred}
use Rattle.jlr_machine.specs.Refusals.{is_cleanable, is_queue, is_reference}
use Rattle.jlr_cells.specs.Contents.{in_clean_state, in_state, member_in, next_in, next_in_queue, unregistered, watching}
use Rattle.jlr_cells.specs.Contents.{cleanable_without_referent}
use Rattle.jlr_laws.proofs.Sets.{nothing, in_cons, in_rest}
use Rattle.jlr_laws.proofs.Clearing.{in_append, in_left, in_option}
use Rattle.jlr_laws.proofs.Frames.{no_some, some_same}
use Rattle.jlr_marks.specs.Marking.{IsMarked}
use Rattle.jlr_barrier.specs.Graphs.{Known, with_objects}
use Rattle.jlr_barrier.specs.Snapshots.{FitsTogether, IsInHand, IsSafe, cycle_of}
use Rattle.jlr_barrier.proofs.Fitting.{in_hand_safe}
use Rattle.jlr_barrier.proofs.Changing.{Retouches, altered_object, there_is}

-- ---- Fields and elements are as before

reference_fields : (f : ReferenceOf → ReferenceOf) (o : Object) → as_fields (with_reference f o) ≡ as_fields o
reference_fields f (Plain fields) = refl
reference_fields f (Reference r) = refl
reference_fields f (Queue members) = refl
reference_fields f Cleaner = refl
reference_fields f (Cleanable c) = refl
reference_fields f (Guard g) = refl

cleanable_fields : (f : CleanableOf → CleanableOf) (o : Object) → as_fields (with_cleanable f o) ≡ as_fields o
cleanable_fields f (Plain fields) = refl
cleanable_fields f (Reference r) = refl
cleanable_fields f (Queue members) = refl
cleanable_fields f Cleaner = refl
cleanable_fields f (Cleanable c) = refl
cleanable_fields f (Guard g) = refl

members_fields : (f : List ℕ → List ℕ) (o : Object) → as_fields (with_members f o) ≡ as_fields o
members_fields f (Plain fields) = refl
members_fields f (Reference r) = refl
members_fields f (Queue members) = refl
members_fields f Cleaner = refl
members_fields f (Cleanable c) = refl
members_fields f (Guard g) = refl

-- ---- A reference or a cleanable of which only that changes

module _ (f : ReferenceOf → ReferenceOf) (ahead : (r : ReferenceOf) → queue_ahead (f r) ≡ queue_ahead r)
    (refers : (r : ReferenceOf) (y : ℕ) → (f r).referent ≡ Some y → r.referent ≡ Some y) where
  same_edges : (o : Object) → strong_edges (with_reference f o) ≡ strong_edges o
  same_edges (Plain fields) = refl
  same_edges (Reference r) = ap option_to_list (ahead r)
  same_edges (Queue members) = refl
  same_edges Cleaner = refl
  same_edges (Cleanable c) = refl
  same_edges (Guard g) = refl

  no_new_referent : (o : Object) (y : ℕ) → any_referent (with_reference f o) ≡ Some y → any_referent o ≡ Some y
  no_new_referent (Plain fields) y e = e
  no_new_referent (Reference r) y e = refers r y e
  no_new_referent (Queue members) y e = e
  no_new_referent Cleaner y e = e
  no_new_referent (Cleanable c) y e = e
  no_new_referent (Guard g) y e = e

  no_new_root : (o : Object) → IsTrue (is_own_root (Some (with_reference f o))) → IsTrue (is_own_root (Some o))
  no_new_root (Plain fields) h = h
  no_new_root (Reference r) h = h
  no_new_root (Queue members) h = h
  no_new_root Cleaner h = h
  no_new_root (Cleanable c) h = h
  no_new_root (Guard g) h = h

  pub of_reference : Retouches (with_reference f)
  of_reference = record { fields = reference_fields f; edges = same_edges; refers = no_new_referent; own = no_new_root }

module _ (f : CleanableOf → CleanableOf) where
  pub cleanable_edges : (o : Object) → strong_edges (with_cleanable f o) ≡ strong_edges o
  cleanable_edges (Plain fields) = refl
  cleanable_edges (Reference r) = refl
  cleanable_edges (Queue members) = refl
  cleanable_edges Cleaner = refl
  cleanable_edges (Cleanable c) = refl
  cleanable_edges (Guard g) = refl

  module _ (refers : (c : CleanableOf) (y : ℕ) → (f c).referent ≡ Some y → c.referent ≡ Some y) where
    pub cleanable_refers : (o : Object) (y : ℕ) → any_referent (with_cleanable f o) ≡ Some y → any_referent o ≡ Some y
    cleanable_refers (Plain fields) y e = e
    cleanable_refers (Reference r) y e = e
    cleanable_refers (Queue members) y e = e
    cleanable_refers Cleaner y e = e
    cleanable_refers (Cleanable c) y e = refers c y e
    cleanable_refers (Guard g) y e = e

  module _ (active : (c : CleanableOf) → IsTrue (is_active (f c).state) → IsTrue (is_active c.state)) where
    pub cleanable_own : (o : Object) → IsTrue (is_own_root (Some (with_cleanable f o))) → IsTrue (is_own_root (Some o))
    cleanable_own (Plain fields) h = h
    cleanable_own (Reference r) h = h
    cleanable_own (Queue members) h = h
    cleanable_own Cleaner h = h
    cleanable_own (Cleanable c) h = active c h
    cleanable_own (Guard g) h = h

pub unreferred_retouches : Retouches (with_reference unreferred)
unreferred_retouches = of_reference unreferred (λ r. refl) (λ r y e. no_some y e)

pub without_referent_retouches : Retouches (with_cleanable cleanable_without_referent)
without_referent_retouches = record {
  fields = cleanable_fields cleanable_without_referent;
  edges = cleanable_edges cleanable_without_referent;
  refers = cleanable_refers cleanable_without_referent (λ c y e. no_some y e);
  own = cleanable_own cleanable_without_referent (λ c h. h);
}

pub spent_retouches : Retouches (with_cleanable spent)
spent_retouches = record {
  fields = cleanable_fields spent;
  edges = cleanable_edges spent;
  refers = cleanable_refers spent (λ c y e. no_some y e);
  own = cleanable_own spent (λ c h. absurd (both_ways false refl h));
}

-- ---- A cleanable in another state, or with a referent

module _ (k : Known) (a b s : ℕ) (f : FitsTogether k a b) where
  abbrev Safe : ℕ → Type 0
  Safe = IsSafe (cycle_of k.graph k.marking)

  in_hand : (y : ℕ) → IsInHand k y → Safe y
  in_hand y h = in_hand_safe k f.snapshot y h

  own_in_state : (state : CleanState) → (IsTrue (is_active state) → Safe s) → (o : Object)
      → IsTrue (is_own_root (Some (with_cleanable (in_clean_state state) o))) → IsTrue (is_own_root (Some o)) ⊎ Safe s
  own_in_state state root (Plain fields) h = inl h
  own_in_state state root (Reference r) h = inl h
  own_in_state state root (Queue members) h = inl h
  own_in_state state root Cleaner h = inl h
  own_in_state state root (Cleanable c) h = inr (root h)
  own_in_state state root (Guard g) h = inl h

  pub another_clean_state : (state : CleanState) → (IsTrue (is_active state) → IsInHand k s)
      → IsTrue (some_and is_cleanable (at k.graph.objects s))
      → FitsTogether (record k { graph = with_objects k.graph (change_at k.graph.objects s (with_cleanable (in_clean_state state))) }) a b
  another_clean_state state root there =
      altered_object k a b s (with_cleanable (in_clean_state state)) f
      (λ o e. record {
        fields = cleanable_fields (in_clean_state state) o;
        gained = λ y h. inl (subst (λ l. y ∈ l) (cleanable_edges (in_clean_state state) o) h);
        lost = λ y h. inl (subst (λ l. y ∈ l) (sym (cleanable_edges (in_clean_state state) o)) h);
        refers = λ y h. inl (cleanable_refers (in_clean_state state) (λ c y e. e) o y h);
        own = own_in_state state (λ h. in_hand s (root h)) o;
      })
      (there_is is_cleanable (at k.graph.objects s) there)

  refers_watching : (t : ℕ) → Safe t → (o : Object) (y : ℕ) → any_referent (with_cleanable (watching t) o) ≡ Some y
      → (any_referent o ≡ Some y) ⊎ Safe y
  refers_watching t safe (Plain fields) y e = inl e
  refers_watching t safe (Reference r) y e = inl e
  refers_watching t safe (Queue members) y e = inl e
  refers_watching t safe Cleaner y e = inl e
  refers_watching t safe (Cleanable c) y e = inr (subst Safe (some_same t y e) safe)
  refers_watching t safe (Guard g) y e = inl e

  pub now_watching : (t : ℕ) → IsInHand k t → IsTrue (some_and is_cleanable (at k.graph.objects s))
      → FitsTogether (record k { graph = with_objects k.graph (change_at k.graph.objects s (with_cleanable (watching t))) }) a b
  now_watching t held there =
      altered_object k a b s (with_cleanable (watching t)) f
      (λ o e. record {
        fields = cleanable_fields (watching t) o;
        gained = λ y h. inl (subst (λ l. y ∈ l) (cleanable_edges (watching t) o) h);
        lost = λ y h. inl (subst (λ l. y ∈ l) (sym (cleanable_edges (watching t) o)) h);
        refers = refers_watching t (in_hand t held) o;
        own = λ h. inl (cleanable_own (watching t) (λ c h. h) o h);
      })
      (there_is is_cleanable (at k.graph.objects s) there)

  -- ---- A reference in another state, with the same queue ahead

  same_ahead : (state : RefState) (o : Object) → next_in_queue (with_reference (in_state state) o) ≡ next_in_queue o
      → strong_edges (with_reference (in_state state) o) ≡ strong_edges o
  same_ahead state (Plain fields) e = refl
  same_ahead state (Reference r) e = ap option_to_list e
  same_ahead state (Queue members) e = refl
  same_ahead state Cleaner e = refl
  same_ahead state (Cleanable c) e = refl
  same_ahead state (Guard g) e = refl

  state_refers : (state : RefState) (o : Object) (y : ℕ) → any_referent (with_reference (in_state state) o) ≡ Some y
      → any_referent o ≡ Some y
  state_refers state (Plain fields) y e = e
  state_refers state (Reference r) y e = e
  state_refers state (Queue members) y e = e
  state_refers state Cleaner y e = e
  state_refers state (Cleanable c) y e = e
  state_refers state (Guard g) y e = e

  state_own : (state : RefState) (o : Object) → IsTrue (is_own_root (Some (with_reference (in_state state) o)))
      → IsTrue (is_own_root (Some o))
  state_own state (Plain fields) h = h
  state_own state (Reference r) h = h
  state_own state (Queue members) h = h
  state_own state Cleaner h = h
  state_own state (Cleanable c) h = h
  state_own state (Guard g) h = h

  pub another_state : (state : RefState) → next_in (option_map (with_reference (in_state state)) (at k.graph.objects s)) ≡ next_in
      (at k.graph.objects s) → IsTrue (some_and is_reference (at k.graph.objects s))
      → FitsTogether (record k { graph = with_objects k.graph (change_at k.graph.objects s (with_reference (in_state state))) }) a b
  another_state state edge there =
      altered_object k a b s (with_reference (in_state state)) f
      (λ o e.
      let same = same_ahead state o (subst (λ z. next_in (option_map (with_reference (in_state state)) z) ≡ next_in z) e edge) in
      record {
        fields = reference_fields (in_state state) o;
        gained = λ y h. inl (subst (λ l. y ∈ l) same h);
        lost = λ y h. inl (subst (λ l. y ∈ l) (sym same) h);
        refers = λ y h. inl (state_refers state o y h);
        own = λ h. inl (state_own state o h);
      })
      (there_is is_reference (at k.graph.objects s) there)

  -- ---- A reference registered with no queue any more, once the queue that was ahead is marked

  none_ahead : (r : ReferenceOf) (y : ℕ) → y ∈ option_to_list (queue_ahead (unregistered r)) → ⊥
  none_ahead r y h = elim (is_unqueued r.state) as (λ z. y ∈ option_to_list (cond z None None) → ⊥) [
    | true ↦ λ h. nothing y h
    | false ↦
        λ h. nothing y h
  ] h

  unregistered_gains : (o : Object) (y : ℕ) → y ∈ strong_edges (with_reference unregistered o) → y ∈ strong_edges o
  unregistered_gains (Plain fields) y h = h
  unregistered_gains (Reference r) y h = absurd (none_ahead r y h)
  unregistered_gains (Queue members) y h = h
  unregistered_gains Cleaner y h = h
  unregistered_gains (Cleanable c) y h = h
  unregistered_gains (Guard g) y h = h

  unregistered_loses : (o : Object) (y : ℕ) → y ∈ strong_edges o → (y ∈ strong_edges (with_reference unregistered o))
      ⊎ (next_in_queue o ≡ Some y)
  unregistered_loses (Plain fields) y h = inl h
  unregistered_loses (Reference r) y h = inr (in_option y (queue_ahead r) h)
  unregistered_loses (Queue members) y h = inl h
  unregistered_loses Cleaner y h = inl h
  unregistered_loses (Cleanable c) y h = inl h
  unregistered_loses (Guard g) y h = inl h

  unregistered_refers : (o : Object) (y : ℕ) → any_referent (with_reference unregistered o) ≡ Some y → any_referent o ≡ Some y
  unregistered_refers (Plain fields) y e = e
  unregistered_refers (Reference r) y e = e
  unregistered_refers (Queue members) y e = e
  unregistered_refers Cleaner y e = e
  unregistered_refers (Cleanable c) y e = e
  unregistered_refers (Guard g) y e = e

  unregistered_own : (o : Object) → IsTrue (is_own_root (Some (with_reference unregistered o))) → IsTrue (is_own_root (Some o))
  unregistered_own (Plain fields) h = h
  unregistered_own (Reference r) h = h
  unregistered_own (Queue members) h = h
  unregistered_own Cleaner h = h
  unregistered_own (Cleanable c) h = h
  unregistered_own (Guard g) h = h

  pub without_queue : ((y : ℕ) → next_in (at k.graph.objects s) ≡ Some y → IsMarked k.marking y)
      → IsTrue (some_and is_reference (at k.graph.objects s))
      → FitsTogether (record k { graph = with_objects k.graph (change_at k.graph.objects s (with_reference unregistered)) }) a b
  without_queue marked there =
      altered_object k a b s (with_reference unregistered) f
      (λ o e. record {
        fields = reference_fields unregistered o;
        gained = λ y h. inl (unregistered_gains o y h);
        lost = λ y h. elim (unregistered_loses o y h) [ inl still ↦ inl still | inr next ↦ inr (marked y (ap next_in e ∙ next)) ];
        refers = λ y h. inl (unregistered_refers o y h);
        own = λ h. inl (unregistered_own o h);
      })
      (there_is is_reference (at k.graph.objects s) there)

  -- ---- Members of a queue

  members_refers : (g : List ℕ → List ℕ) (o : Object) (y : ℕ) → any_referent (with_members g o) ≡ Some y → any_referent o ≡ Some y
  members_refers g (Plain fields) y e = e
  members_refers g (Reference r) y e = e
  members_refers g (Queue members) y e = e
  members_refers g Cleaner y e = e
  members_refers g (Cleanable c) y e = e
  members_refers g (Guard x) y e = e

  members_own : (g : List ℕ → List ℕ) (o : Object) → IsTrue (is_own_root (Some (with_members g o))) → IsTrue (is_own_root (Some o))
  members_own g (Plain fields) h = h
  members_own g (Reference r) h = h
  members_own g (Queue members) h = h
  members_own g Cleaner h = h
  members_own g (Cleanable c) h = h
  members_own g (Guard x) h = h

  longer_gains : (t : ℕ) (o : Object) (y : ℕ) → y ∈ strong_edges (with_members (λ members. members ++ t ∷ []) o) → (y ∈ strong_edges o)
      ⊎ (y ≡ t)
  longer_gains t (Plain fields) y h = inl h
  longer_gains t (Reference r) y h = inl h
  longer_gains t (Queue members) y h =
      elim (in_append y members (t ∷ []) h) [ inl o ↦ inl o | inr n ↦ elim (in_cons y t [] n) [ inl e ↦ inr e | inr z ↦ nothing y z ] ]
  longer_gains t Cleaner y h = inl h
  longer_gains t (Cleanable c) y h = inl h
  longer_gains t (Guard g) y h = inl h

  longer_keeps : (t : ℕ) (o : Object) (y : ℕ) → y ∈ strong_edges o → y ∈ strong_edges (with_members (λ members. members ++ t ∷ []) o)
  longer_keeps t (Plain fields) y h = h
  longer_keeps t (Reference r) y h = h
  longer_keeps t (Queue members) y h = in_left y members (t ∷ []) h
  longer_keeps t Cleaner y h = h
  longer_keeps t (Cleanable c) y h = h
  longer_keeps t (Guard g) y h = h

  pub one_member_more : (t : ℕ) → IsInHand k t → IsTrue (some_and is_queue (at k.graph.objects s))
      → FitsTogether (record k { graph = with_objects k.graph (change_at k.graph.objects s (with_members (λ members. members ++ t ∷ []))) })
      a b
  one_member_more t held there =
      altered_object k a b s (with_members (λ members. members ++ t ∷ [])) f
      (λ o e. record {
        fields = members_fields (λ members. members ++ t ∷ []) o;
        gained = λ y h. elim (longer_gains t o y h) [ inl was ↦ inl was | inr same ↦ inr (subst Safe (sym same) (in_hand t held)) ];
        lost = λ y h. inl (longer_keeps t o y h);
        refers = λ y h. inl (members_refers (λ members. members ++ t ∷ []) o y h);
        own = λ h. inl (members_own (λ members. members ++ t ∷ []) o h);
      })
      (there_is is_queue (at k.graph.objects s) there)

  shorter_gains : (o : Object) (y : ℕ) → y ∈ strong_edges (with_members (drop 1) o) → y ∈ strong_edges o
  shorter_gains (Plain fields) y h = h
  shorter_gains (Reference r) y h = h
  shorter_gains (Queue []) y h = h
  shorter_gains (Queue (x ∷ members)) y h = in_rest y x members h
  shorter_gains Cleaner y h = h
  shorter_gains (Cleanable c) y h = h
  shorter_gains (Guard g) y h = h

  shorter_loses : (o : Object) (y : ℕ) → y ∈ strong_edges o → (y ∈ strong_edges (with_members (drop 1) o)) ⊎ (member_in (Some o) 0 ≡ Some y)
  shorter_loses (Plain fields) y h = inl h
  shorter_loses (Reference r) y h = inl h
  shorter_loses (Queue []) y h = inl h
  shorter_loses (Queue (x ∷ members)) y h = elim (in_cons y x members h) [ inl e ↦ inr (ap (λ z. Some z) (sym e)) | inr i ↦ inl i ]
  shorter_loses Cleaner y h = inl h
  shorter_loses (Cleanable c) y h = inl h
  shorter_loses (Guard g) y h = inl h

  pub one_member_less : ((y : ℕ) → member_in (at k.graph.objects s) 0 ≡ Some y → IsMarked k.marking y)
      → IsTrue (some_and is_queue (at k.graph.objects s))
      → FitsTogether (record k { graph = with_objects k.graph (change_at k.graph.objects s (with_members (drop 1))) }) a b
  one_member_less marked there =
      altered_object k a b s (with_members (drop 1)) f
      (λ o e. record {
        fields = members_fields (drop 1) o;
        gained = λ y h. inl (shorter_gains o y h);
        lost = λ y h. elim (shorter_loses o y h) [ inl still ↦ inl still | inr first ↦ inr (marked y (ap (λ z. member_in z 0) e ∙ first)) ];
        refers = λ y h. inl (members_refers (drop 1) o y h);
        own = λ h. inl (members_own (drop 1) o h);
      })
      (there_is is_queue (at k.graph.objects s) there)
