-- Changes that may be made in another order: what takes memory comes first.
use Rattle.std.proofs.Common.{◌≡◌, ℕ, suc, zero, ◌+◌, ◌≤◌, true, false, List, [], ◌∷◌, Option, Some, None, option_map, option_and_then}
use Rattle.std.proofs.Common.{length, drop, slice_get, refl, sym, ◌∙◌, ap, subst, arith}
use Rattle.std.specs.Prelude.{if◌then◌else◌}
use Rattle.std.proofs.lemmas.List.{drop-drop}
use Rattle.jlr_machine.specs.declared.object.Object.{Object}
use Rattle.jlr_machine.specs.declared.object.Object.TheVariants.{Plain, Reference, Queue, Cleaner, Cleanable, Guard}
use Rattle.jlr_machine.specs.declared.object.Reference.{Reference as ReferenceOf}
use Rattle.jlr_machine.specs.declared.object.Cleanable.{Cleanable as CleanableOf}
use Rattle.jlr_machine.specs.declared.machine.Machine.{Machine}
use Rattle.jlr_machine.specs.declared.machine.ResourceState.{ResourceState}
use Rattle.jlr_machine.specs.declared.machine.ResourceState.TheVariants.{Closing}
use Rattle.jlr_machine.specs.Objects.{Table, at, change_at, some_and, is_lined, as_reference, queue_ahead, with_reference}
use Rattle.jlr_machine.specs.Lookups.{with_object, cleanable_at, rid_of}
use Rattle.jlr_machine.specs.Calls.{to_queue, enqueued, taken_up, with_work_state, from_lined, line_taken}
use Rattle.jlr_plain_asks.specs.Changes.{appended, change_of, taken_by_cleaner}
use Rattle.jlr_plain_asks.specs.declared.changes.objects.Change.TheVariants.{Unrefer, Enqueue}

-- ---- Two objects

both : {A : Type 0} (f g : A → A) (o : Option A) → ((x : A) → g (f x) ≡ f (g x))
    → option_map g (option_map f o) ≡ option_map f (option_map g o)
both f g None same = refl
both {A} f g (Some x) same = ap {A = A} {B = Option A} (λ y. Some y) (same x)

pub changes_commute : {A : Type 0} (t : Table A) (n k : ℕ) (f g : A → A) → ((x : A) → g (f x) ≡ f (g x))
    → change_at (change_at t n f) k g ≡ change_at (change_at t k g) n f
changes_commute [] n k f g same = refl
changes_commute {A} (x ∷ xs) zero zero f g same = ap {A = Option A} {B = Table A} (λ o. o ∷ xs) (both f g x same)
changes_commute (x ∷ xs) zero (suc k) f g same = refl
changes_commute (x ∷ xs) (suc n) zero f g same = refl
changes_commute {A} (x ∷ xs) (suc n) (suc k) f g same = ap {A = Table A} {B = Table A} (λ t. x ∷ t) (changes_commute xs n k f g same)

-- a change of a reference and one of a queue
apart : (s : ℕ) (f : ReferenceOf → ReferenceOf) (o : Object) → with_reference f (appended s o) ≡ appended s (with_reference f o)
apart s f (Plain contents) = refl
apart s f (Reference r) = refl
apart s f (Queue members) = refl
apart s f Cleaner = refl
apart s f (Cleanable c) = refl
apart s f (Guard g) = refl

-- the queue grows, before the reference loses its referent and is enqueued
grown_first : (m : Machine) (s q : ℕ) → with_object (with_object (with_object m q (appended s)) s (change_of Unrefer)) s (change_of Enqueue)
    ≡ to_queue (with_object m s (change_of Unrefer)) s (Some q)
grown_first m s q =
    ap {A = Table Object} {B = Machine} (λ t. record m { objects = t })
    (ap {A = Table Object} {B = Table Object} (λ t. change_at t s (change_of Enqueue))
    (changes_commute m.objects q s (appended s) (change_of Unrefer) (λ o. apart s _ o))
    ∙ changes_commute (change_at m.objects s (change_of Unrefer)) q s (appended s) (change_of Enqueue) (λ o. apart s _ o))

pub enqueued_by : (m : Machine) (s q : ℕ) → Some q ≡ option_and_then queue_ahead (option_and_then as_reference (at m.objects s))
    → with_object (with_object (with_object m q (appended s)) s (change_of Unrefer)) s (change_of Enqueue) ≡ enqueued m s
enqueued_by m s q e = grown_first m s q ∙ ap {A = Option ℕ} {B = Machine} (λ o. to_queue (with_object m s (change_of Unrefer)) s o) e

-- ---- The pending list

first_is : (l : List ℕ) (s : ℕ) → slice_get l 0 ≡ Some s → l ≡ s ∷ drop 1 l
first_is [] s e = cc e
first_is (x ∷ l) s e = cc e

-- ---- The line

work_apart : (m : Machine) (rest : List ℕ) (rid : Option ℕ) (state : ResourceState)
    → with_work_state (record m { line = rest }) rid state ≡ record (with_work_state m rid state) { line = rest }
work_apart m rest None state = refl
work_apart m rest (Some rid) state = refl

work_keeps : (m : Machine) (rid : Option ℕ) (state : ResourceState) → (with_work_state m rid state).line ≡ m.line
work_keeps m None state = refl
work_keeps m (Some rid) state = refl

taken_keeps : (m : Machine) (s : ℕ) (c : CleanableOf) → (taken_up m 255 s c).line ≡ m.line
taken_keeps m s c = work_keeps _ (rid_of c.work) Closing

taken_apart : (m : Machine) (rest : List ℕ) (s : ℕ) (c : CleanableOf)
    → taken_up (record m { line = rest }) 255 s c ≡ record (taken_up m 255 s c) { line = rest }
taken_apart m rest s c = work_apart _ rest (rid_of c.work) Closing

taken_last : (m : Machine) (k : ℕ) (rest : List ℕ) (s : ℕ) (o : Option CleanableOf) → drop k m.line ≡ rest
    → record (taken_by_cleaner m s o) { line = drop k (taken_by_cleaner m s o).line }
    ≡ elim o [ None ↦ record m { line = rest } | Some c ↦ taken_up (record m { line = rest }) 255 s c ]
taken_last m k rest s None e = ap {A = List ℕ} {B = Machine} (λ l. record m { line = l }) e
taken_last m k rest s (Some c) e =
    ap {A = List ℕ} {B = Machine} (λ l. record (taken_up m 255 s c) { line = l })
    (ap {A = List ℕ} {B = List ℕ} (drop k) (taken_keeps m s c) ∙ e)
    ∙ sym (taken_apart m rest s c)

-- those before the first Lined one
abbrev After : Machine → List ℕ → List ℕ → Type 0
After m l lined = (k : ℕ) × (length l ≡ k + length lined) × (drop k l ≡ lined)

one_more : (m : Machine) (s : ℕ) (l lined : List ℕ) → After m l lined → After m (s ∷ l) lined
one_more m s l lined u = (suc u.0, omega (arith, u.1), u.2)

unlined : (m : Machine) (l : List ℕ) → After m l (from_lined m l)
unlined m [] = (0, refl, refl)
unlined m (s ∷ l) =
    elim (some_and (λ c. is_lined c.state) (cleanable_at m s)) as (λ b. After m (s ∷ l) (if b then s ∷ l else from_lined m l)) [
      | true ↦ (0, omega arith, refl)
      | false ↦ one_more m s l (from_lined m l) (unlined m l)
    ]

pub unlined_many : (m : Machine) (l : List ℕ) → length (from_lined m l) ≤ length l
unlined_many m l = let u = unlined m l in omega (arith, u.1)

-- those before the first Lined one leave the line with it
pub taken_by : (m n : Machine) (s before : ℕ) → slice_get (from_lined m m.line) 0 ≡ Some s
    → before + length (from_lined m m.line) ≡ length m.line
    → n ≡ taken_by_cleaner m s (cleanable_at m s) → record n { line = drop (before + 1) n.line } ≡ line_taken m (from_lined m m.line)
taken_by m n s before first count is =
    let u = unlined m m.line in
    let same : u.0 ≡ before = omega (arith, count, u.1) in
    let lined : drop before m.line ≡ from_lined m m.line = subst (λ k. drop k m.line ≡ from_lined m m.line) same u.2 in
    let rest : drop (before + 1) m.line ≡ drop 1 (from_lined m m.line) = sym (drop-drop 1 before m.line)
    ∙ ap {A = List ℕ} {B = List ℕ} (drop 1) lined in
    ap {A = Machine} {B = Machine} (λ x. record x { line = drop (before + 1) x.line }) is
    ∙ taken_last m (before + 1) (drop 1 (from_lined m m.line)) s (cleanable_at m s) rest
    ∙ sym (ap {A = List ℕ} {B = Machine} (line_taken m) (first_is (from_lined m m.line) s first))
