-- What settling one place leaves.
use Rattle.std.proofs.Common.{◌≡◌, ◌&&◌, ℕ, zero, suc, Bool, true, false, cond, not, List, [], ◌∷◌, ◌++◌, Option, Some, None, slice_set}
use Rattle.std.proofs.Common.{is_some, refl, sym, subst, ap, ◌∙◌}
use Rattle.std.specs.Prelude.{option_map}
use Rattle.jlr_machine.specs.declared.object.Object.{Object}
use Rattle.jlr_machine.specs.declared.object.Object.TheVariants.{Reference, Cleanable}
use Rattle.jlr_machine.specs.declared.object.Reference.{Reference as ReferenceOf}
use Rattle.jlr_machine.specs.declared.object.Cleanable.{Cleanable as CleanableOf}
use Rattle.jlr_machine.specs.declared.object.CleanState.TheVariants.{Pending as PendingClean}
use Rattle.jlr_machine.specs.declared.object.RefState.TheVariants.{Pending}
use Rattle.jlr_machine.specs.Objects.{Table, Heap, any_referent, at, change_at, ◌∋◌, is_fresh, occupied, is_unqueued, with_cleanable}
use Rattle.jlr_machine.specs.Objects.{with_reference, some_and}
use Rattle.jlr_machine.specs.Calls.{unreferred}
use Rattle.jlr_machine.specs.Collection.{is_ready}
use Rattle.jlr_cells.specs.Contents.{in_clean_state, in_state, next_in, cleanable_without_referent}
use Rattle.std.proofs.lemmas.Bool.{and_parts}
use Rattle.jlr_laws.proofs.Frames.{fresh_unqueued, set_same, place_within}
use Rattle.jlr_barrier.specs.Graphs.{Graph, with_objects, with_pending}
use Rattle.jlr_marks.specs.Marking.{Marking, is_marked}
use Rattle.jlr_machine.specs.Choices.{Choosing}
use Rattle.jlr_laws.proofs.ObjectsKept.{count_pointwise}
use Rattle.jlr_process.specs.Settling.{SettlesSlots, cleared, loses, marked_referent, only_if, settled_object, with_settled}

set_twice : {A : Type 0} (table : Table A) (n : ℕ) (v w : Option A) → slice_set (slice_set table n v) n w ≡ slice_set table n w
set_twice [] n v w = refl
set_twice (x ∷ table) zero v w = refl
set_twice (x ∷ table) (suc n) v w = ap (λ l. x ∷ l) (set_twice table n v w)

-- an object is changed twice
pub changed_twice : (heap : Heap) (s : ℕ) (o : Object) (f g : Object → Object) → at heap s ≡ Some o
    → change_at (change_at heap s f) s g ≡ slice_set heap s (Some (g (f o)))
changed_twice heap s o f g here =
    let once : change_at heap s f ≡ slice_set heap s (Some (f o)) = ap (λ p. slice_set heap s (option_map f p)) here in
    ap (λ h. change_at h s g) once
    ∙ ap (λ p. slice_set (slice_set heap s (Some (f o))) s (option_map g p)) (set_same heap s (Some (f o)) (place_within heap s o here))
    ∙ set_twice heap s (Some (f o)) (Some (g (f o)))

is_lost : (m : Marking) (o : Object) (x : ℕ) → any_referent o ≡ Some x → is_marked m x ≡ false → is_ready o ≡ true → loses m o ≡ true
is_lost m o x refers unmarked ready =
    ap (λ t. is_ready o && some_and (λ y. not (is_marked m y)) t) refers
    ∙ ap (λ b. is_ready o && not b) unmarked
    ∙ ap (λ b. b && true) ready

-- a ready reference with a referent that is not marked loses it, and becomes Pending
settled_lost : (m : Marking) (r : ReferenceOf) (x : ℕ) → r.referent ≡ Some x → is_marked m x ≡ false → is_ready (Reference r) ≡ true
    → settled_object m (Reference r) ≡ Reference (record r { referent = None; state = Pending })
settled_lost m r x refers unmarked ready =
    let gone : marked_referent m r.referent ≡ None = ap (marked_referent m) refers ∙ ap (λ b. cond b (Some x) None) unmarked in
    ap {A = Option ℕ} {B = Object} (λ t. Reference (record r { referent = t; state = cond (loses m (Reference r)) Pending r.state })) gone
    ∙ ap {A = Bool} {B = Object} (λ b. Reference (record r { referent = None; state = cond b Pending r.state }))
    (is_lost m (Reference r) x refers unmarked ready)

pub handed_over :
    (m : Marking) (g a b d : Graph) (s x : ℕ) (r : ReferenceOf) → at g.objects s ≡ Some (Reference r) → r.referent ≡ Some x
    → is_marked m x ≡ false → is_ready (Reference r) ≡ true
    → a ≡ with_objects g (change_at g.objects s (with_reference unreferred))
    → b ≡ with_objects a (change_at a.objects s (with_reference (in_state Pending))) → d ≡ with_pending b (b.pending ++ s ∷ [])
    → d ≡ with_settled m g s (Reference r)
handed_over m g a b d s x r here refers unmarked ready ea eb ed =
    let first : Graph = with_objects g (change_at g.objects s (with_reference unreferred)) in
    let put : Heap → List ℕ → Graph = λ h l. record g { objects = h; pending = l } in
    ed
    ∙ ap (λ k. with_pending k (k.pending ++ s ∷ []))
    (eb ∙ ap (λ k. with_objects k (change_at k.objects s (with_reference (in_state Pending)))) ea)
    ∙ ap (λ h. put h (g.pending ++ s ∷ [])) (changed_twice g.objects s (Reference r) (with_reference unreferred)
    (with_reference (in_state Pending)) here)
    ∙ ap (λ o. put (slice_set g.objects s (Some o)) (g.pending ++ s ∷ [])) (sym (settled_lost m r x refers unmarked ready))
    ∙ ap (λ l. put (slice_set g.objects s (Some (settled_object m (Reference r)))) (g.pending ++ only_if l s))
    (sym (is_lost m (Reference r) x refers unmarked ready))

-- an Armed cleanable with a referent that is not marked loses it, and becomes Pending
settled_cleanable : (m : Marking) (c : CleanableOf) (x : ℕ) → c.referent ≡ Some x → is_marked m x ≡ false → is_ready (Cleanable c) ≡ true
    → settled_object m (Cleanable c) ≡ Cleanable (record c { referent = None; state = PendingClean })
settled_cleanable m c x refers unmarked ready =
    let gone : marked_referent m c.referent ≡ None = ap (marked_referent m) refers ∙ ap (λ b. cond b (Some x) None) unmarked in
    ap {A = Option ℕ} {B = Object} (λ t. Cleanable (record c { referent = t; state = cond (loses m (Cleanable c)) PendingClean c.state }))
    gone
    ∙ ap {A = Bool} {B = Object} (λ b. Cleanable (record c { referent = None; state = cond b PendingClean c.state }))
    (is_lost m (Cleanable c) x refers unmarked ready)

pub cleanable_handed_over :
    (m : Marking) (g a b d : Graph) (s x : ℕ) (c : CleanableOf) → at g.objects s ≡ Some (Cleanable c) → c.referent ≡ Some x
    → is_marked m x ≡ false → is_ready (Cleanable c) ≡ true
    → a ≡ with_objects g (change_at g.objects s (with_cleanable cleanable_without_referent))
    → b ≡ with_objects a (change_at a.objects s (with_cleanable (in_clean_state PendingClean)))
    → d ≡ with_pending b (b.pending ++ s ∷ [])
    → d ≡ with_settled m g s (Cleanable c)
cleanable_handed_over m g a b d s x c here refers unmarked ready ea eb ed =
    let put : Heap → List ℕ → Graph = λ h l. record g { objects = h; pending = l } in
    ed
    ∙ ap (λ k. with_pending k (k.pending ++ s ∷ []))
    (eb ∙ ap (λ k. with_objects k (change_at k.objects s (with_cleanable (in_clean_state PendingClean)))) ea)
    ∙ ap (λ h. put h (g.pending ++ s ∷ [])) (changed_twice g.objects s (Cleanable c) (with_cleanable cleanable_without_referent)
    (with_cleanable (in_clean_state PendingClean)) here)
    ∙ ap (λ o. put (slice_set g.objects s (Some o)) (g.pending ++ s ∷ [])) (sym (settled_cleanable m c x refers unmarked ready))
    ∙ ap (λ l. put (slice_set g.objects s (Some (settled_object m (Cleanable c)))) (g.pending ++ only_if l s))
    (sym (is_lost m (Cleanable c) x refers unmarked ready))

-- what is ahead of a ready reference that lost its referent stays ahead of it once it is Pending
pub same_queue_ahead : (heap other : Heap) (s : ℕ) (r : ReferenceOf) → at heap s ≡ Some (Reference r)
    → other ≡ change_at heap s (with_reference unreferred) → is_ready (Reference r) ≡ true
    → next_in (option_map (with_reference (in_state Pending)) (at other s)) ≡ next_in (at other s)
same_queue_ahead heap other s r here e ready =
    let there : at other s ≡ Some (Reference (unreferred r)) =
    ap (λ h. at h s) e ∙ set_same heap s (option_map (with_reference unreferred) (at heap s)) (place_within heap s (Reference r) here)
    ∙ ap (option_map (with_reference unreferred)) here in
    let unqueued : is_unqueued r.state ≡ true = fresh_unqueued r.state (and_parts (is_fresh r.state) (is_some r.queue) ready).0 in
    subst (λ o. next_in (option_map (with_reference (in_state Pending)) o) ≡ next_in o) (sym there)
    (ap (λ b. cond b r.queue None) (sym unqueued))

-- ---- How many objects there are

still_some : (b : Bool) (f : Object → Object) (o : Option Object) → is_some (cond b (option_map f o) o) ≡ is_some o
still_some true f None = refl
still_some true f (Some o) = refl
still_some false f o = refl

either_some : (b : Bool) (o p : Option Object) → is_some o ≡ is_some p → is_some (cond b o p) ≡ is_some p
either_some true o p e = e
either_some false o p e = refl

-- what is cleared stays an object
pub as_many : (m : Marking) (slots : List ℕ) (old : Graph) (before : Choosing) (lost : List ℕ) (new : Graph) (after : Choosing)
    → SettlesSlots m slots old before lost new after → occupied new.objects ≡ occupied old.objects
as_many m slots old before lost new after clears =
    count_pointwise is_some new.objects old.objects clears.long
    (λ s. ap is_some (clears.objects s) ∙ either_some (slots ∋ s) (cleared m s (at old.objects s)) (at old.objects s)
    (still_some (is_marked m s) (settled_object m) (at old.objects s)))
