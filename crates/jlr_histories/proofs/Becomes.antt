-- What one entry may make of an object: of the same kind, and if it is a reference or a cleanable, further on its way.
use Rattle.std.proofs.Common.{length-set, ◌≡◌, ℕ, Bool, true, false, cond, List, refl, sym, ◌⊎◌, inl, inr, Option, Some, None}
use Rattle.std.proofs.Common.{is_some}
use Rattle.std.proofs.lemmas.Bool.{both_ways, and_parts}
use Rattle.jlr_types.specs.declared.FieldValue.{FieldValue}
use Rattle.jlr_machine.specs.declared.object.Object.{Object}
use Rattle.jlr_machine.specs.declared.object.Object.TheVariants.{Plain, Reference, Queue, Cleaner, Cleanable, Guard}
use Rattle.jlr_machine.specs.declared.object.Reference.{Reference as ReferenceOf}
use Rattle.jlr_machine.specs.declared.object.Cleanable.{Cleanable as CleanableOf}
use Rattle.jlr_machine.specs.declared.object.RefState.{RefState}
use Rattle.jlr_machine.specs.declared.object.RefState.TheVariants.{Fresh, Pending, Queued, Removed}
use Rattle.jlr_machine.specs.declared.object.CleanState.{CleanState}
use Rattle.jlr_machine.specs.declared.object.CleanState.TheVariants.{Armed, Pending as PendingClean, Lined, Spent}
use Rattle.jlr_machine.specs.Objects.{with_value, ◌∋◌, with_field, with_reference, with_members, with_cleanable, is_fresh, is_armed}
use Rattle.jlr_machine.specs.Collection.{is_ready, referent_if_kept, left_of}
use Rattle.jlr_types.specs.declared.FieldValue.TheVariants.{Int, Ref}
use Rattle.jlr_machine.specs.declared.object.Contents.{Contents}
use Rattle.jlr_machine.specs.declared.object.Contents.TheVariants.{Typed, Elements}
use Rattle.jlr_machine.specs.Calls.{spent}
use Rattle.jlr_histories.specs.Sizes.{IsSameSize}
use Rattle.jlr_histories.specs.Lives.{StaysOrGoes, may_become, may_come_after, IsReferenceOn, IsCleanableOn}

-- the referent of a reference goes only where P holds
pub record IsKept (P : Type 0) (r t : ReferenceOf) : Type 0 where
  pub on : IsReferenceOn r t
  pub referent : (t.referent ≡ r.referent) ⊎ P

pub same_size : (x : Contents) → IsSameSize x x
same_size (Typed x) = refl
same_size (Elements x) = refl

size_with_value : (f : ℕ) (v : FieldValue) (x : Contents) → IsSameSize x (with_value f v x)
size_with_value f v (Typed x) = sym (length-set x f v)
size_with_value f (Ref s) (Elements x) = sym (length-set x f s)
size_with_value f (Int n) (Elements x) = refl

abbrev pub Becomes : Type 0 → Object → Object → Type 0
Becomes P (Reference r) (Reference t) = IsKept P r t
Becomes P (Cleanable c) (Cleanable d) = IsCleanableOn c d
Becomes P (Plain x) (Plain y) = IsSameSize x y
Becomes P (Queue x) (Queue y) = Unit {0}
Becomes P (Guard x) (Guard y) = Unit {0}
Becomes P Cleaner Cleaner = Unit {0}
Becomes P _ _ = ⊥

-- nothing arises of nothing, and an object may go
abbrev pub Follows : Type 0 → Option Object → Option Object → Type 0
Follows P o None = Unit {0}
Follows P None (Some p) = ⊥
Follows P (Some o) (Some p) = Becomes P o p

-- what a plain object becomes is plain, and as large
pub plain_forth : (P : Type 0) (x : Contents) (o : Object) → Becomes P (Plain x) o → (y : Contents) × (o ≡ Plain y) × IsSameSize x y
plain_forth P x (Plain y) h = (y, refl, h)
plain_forth P x (Reference r) h = absurd h
plain_forth P x (Queue members) h = absurd h
plain_forth P x Cleaner h = absurd h
plain_forth P x (Cleanable c) h = absurd h
plain_forth P x (Guard g) h = absurd h

-- ---- The same object

state_stays : (s : RefState) → may_become s s ≡ true
state_stays Fresh = refl
state_stays Pending = refl
state_stays Queued = refl
state_stays Removed = refl

clean_state_stays : (s : CleanState) → may_come_after s s ≡ true
clean_state_stays Armed = refl
clean_state_stays PendingClean = refl
clean_state_stays Lined = refl
clean_state_stays Spent = refl

pub same_reference : (P : Type 0) (r : ReferenceOf) → IsKept P r r
same_reference P r =
    record { on = record { kind = refl; referent = inl refl; queue = inl refl; state = state_stays r.state }; referent = inl refl }

pub same_cleanable : (c : CleanableOf) → IsCleanableOn c c
same_cleanable c = record { action = refl; work = refl; referent = inl refl; state = clean_state_stays c.state }

pub same_object : (P : Type 0) (o : Object) → Becomes P o o
same_object P (Plain x) = same_size x
same_object P (Reference r) = same_reference P r
same_object P (Queue x) = tt
same_object P Cleaner = tt
same_object P (Cleanable c) = same_cleanable c
same_object P (Guard g) = tt

pub same_place : (P : Type 0) (o : Option Object) → Follows P o o
same_place P None = tt
same_place P (Some o) = same_object P o

-- ---- A changed object

pub with_field_on : (P : Type 0) (f : ℕ) (v : FieldValue) (o : Object) → Becomes P o (with_field f v o)
with_field_on P f v (Plain x) = size_with_value f v x
with_field_on P f v (Reference r) = same_reference P r
with_field_on P f v (Queue x) = tt
with_field_on P f v Cleaner = tt
with_field_on P f v (Cleanable c) = same_cleanable c
with_field_on P f v (Guard g) = tt

pub with_reference_on : (P : Type 0) (f : ReferenceOf → ReferenceOf) (o : Object) → ((r : ReferenceOf) → o ≡ Reference r → IsKept P r (f r))
    → Becomes P o (with_reference f o)
with_reference_on P f (Plain x) h = same_size x
with_reference_on P f (Reference r) h = h r refl
with_reference_on P f (Queue x) h = tt
with_reference_on P f Cleaner h = tt
with_reference_on P f (Cleanable c) h = same_cleanable c
with_reference_on P f (Guard g) h = tt

pub with_cleanable_on : (P : Type 0) (f : CleanableOf → CleanableOf) (o : Object)
    → ((c : CleanableOf) → o ≡ Cleanable c → IsCleanableOn c (f c)) → Becomes P o (with_cleanable f o)
with_cleanable_on P f (Plain x) h = same_size x
with_cleanable_on P f (Reference r) h = same_reference P r
with_cleanable_on P f (Queue x) h = tt
with_cleanable_on P f Cleaner h = tt
with_cleanable_on P f (Cleanable c) h = h c refl
with_cleanable_on P f (Guard g) h = tt

-- a change of a queue's members comes on top of any other
pub members_too : (P : Type 0) (f : List ℕ → List ℕ) (o p : Object) → Becomes P o p → Becomes P o (with_members f p)
members_too P f o (Plain x) h = h
members_too P f o (Reference r) h = h
members_too P f (Queue y) (Queue x) h = tt
members_too P f (Plain y) (Queue x) h = h
members_too P f (Reference y) (Queue x) h = h
members_too P f Cleaner (Queue x) h = h
members_too P f (Cleanable y) (Queue x) h = h
members_too P f (Guard y) (Queue x) h = h
members_too P f o Cleaner h = h
members_too P f o (Cleanable c) h = h
members_too P f o (Guard g) h = h

-- any cleanable may be spent
spent_state : (s : CleanState) → may_come_after s Spent ≡ true
spent_state Armed = refl
spent_state PendingClean = refl
spent_state Lined = refl
spent_state Spent = refl

pub spent_on : (c : CleanableOf) → IsCleanableOn c (spent c)
spent_on c = record { action = refl; work = refl; referent = inr refl; state = spent_state c.state }

-- ---- An object that a collection leaves

referent_left : (kept : List ℕ) (o : Option ℕ) → StaysOrGoes o (referent_if_kept kept o)
referent_left kept None = inl refl
referent_left kept (Some x) = elim (kept ∋ x) as (λ b. StaysOrGoes (Some x) (cond b (Some x) None)) [ true ↦ inl refl | false ↦ inr refl ]

pended_state : (b : Bool) (s : RefState) → (b ≡ true → is_fresh s ≡ true) → may_become s (cond b Pending s) ≡ true
pended_state false s h = state_stays s
pended_state true Fresh h = refl
pended_state true Pending h = absurd (both_ways false refl (h refl))
pended_state true Queued h = absurd (both_ways false refl (h refl))
pended_state true Removed h = absurd (both_ways false refl (h refl))

pended_clean_state : (b : Bool) (s : CleanState) → (b ≡ true → is_armed s ≡ true) → may_come_after s (cond b PendingClean s) ≡ true
pended_clean_state false s h = clean_state_stays s
pended_clean_state true Armed h = refl
pended_clean_state true PendingClean h = absurd (both_ways false refl (h refl))
pended_clean_state true Lined h = absurd (both_ways false refl (h refl))
pended_clean_state true Spent h = absurd (both_ways false refl (h refl))

pub left_on : (P : Type 0) → P → (kept : List ℕ) (b : Bool) (o : Object) → (b ≡ true → is_ready o ≡ true) → Becomes P o (left_of kept b o)
left_on P p kept b (Plain x) h = same_size x
left_on P p kept b (Reference r) h =
    record {
      on = record {
        kind = refl;
        referent = referent_left kept r.referent;
        queue =
            inl refl;
        state = pended_state b r.state (λ e. (and_parts (is_fresh r.state) (is_some r.queue) (h e)).0);
      };
      referent = inr p;
    }
left_on P p kept b (Queue x) h = tt
left_on P p kept b Cleaner h = tt
left_on P p kept b (Cleanable c) h =
    record { action = refl; work = refl; referent = referent_left kept c.referent; state = pended_clean_state b c.state h }
left_on P p kept b (Guard g) h = tt

-- ---- What an object became, and what it was

pub reference_forth : (P : Type 0) (r : ReferenceOf) (p : Object) → Becomes P (Reference r) p → (t : ReferenceOf) × (p ≡ Reference t)
    × IsKept P r t
reference_forth P r (Plain x) h = absurd h
reference_forth P r (Reference t) h = (t, refl, h)
reference_forth P r (Queue x) h = absurd h
reference_forth P r Cleaner h = absurd h
reference_forth P r (Cleanable c) h = absurd h
reference_forth P r (Guard g) h = absurd h

pub cleanable_forth : (P : Type 0) (c : CleanableOf) (p : Object) → Becomes P (Cleanable c) p → (d : CleanableOf) × (p ≡ Cleanable d)
    × IsCleanableOn c d
cleanable_forth P c (Plain x) h = absurd h
cleanable_forth P c (Reference r) h = absurd h
cleanable_forth P c (Queue x) h = absurd h
cleanable_forth P c Cleaner h = absurd h
cleanable_forth P c (Cleanable d) h = (d, refl, h)
cleanable_forth P c (Guard g) h = absurd h

pub cleanable_back : (P : Type 0) (o : Object) (d : CleanableOf) → Becomes P o (Cleanable d) → (c : CleanableOf) × (o ≡ Cleanable c)
    × IsCleanableOn c d
cleanable_back P (Plain x) d h = absurd h
cleanable_back P (Reference r) d h = absurd h
cleanable_back P (Queue x) d h = absurd h
cleanable_back P Cleaner d h = absurd h
cleanable_back P (Cleanable c) d h = (c, refl, h)
cleanable_back P (Guard g) d h = absurd h
