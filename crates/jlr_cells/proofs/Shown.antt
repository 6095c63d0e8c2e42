-- One object, as callers see it and as it lies.
use Rattle.std.proofs.Common.{◌≡◌, ℕ, zero, suc, ◌<◌, Bool, true, false, cond, List, [], ◌∷◌, Option, Some, None, length, map, replicate}
use Rattle.std.proofs.Common.{set, refl, sym, ap, ◌∙◌, inl, inr, arith, subst, length-set, get_or-set_same, get_or-set_other}
use Rattle.std.specs.Prelude.{is_some, option_map}
use Rattle.std.proofs.lemmas.Bool.{cases_Bool, cases_eq, cases_lt, both_ways}
use Rattle.std.proofs.lemmas.List.{get_or_past, length-map, length-replicate}
use Rattle.jlr_machine.specs.declared.object.Contents.TheVariants.{Typed, Elements}
use Rattle.jlr_machine.specs.declared.object.Object.{Object}
use Rattle.jlr_machine.specs.declared.object.Object.TheVariants.{Plain, Reference, Queue, Cleaner, Cleanable, Guard}
use Rattle.jlr_machine.specs.declared.object.Reference.{Reference as ReferenceOf}
use Rattle.jlr_machine.specs.declared.object.Cleanable.{Cleanable as CleanableOf}
use Rattle.jlr_types.specs.declared.FieldValue.{FieldValue}
use Rattle.jlr_machine.specs.Refusals.{is_cleanable}
use Rattle.jlr_machine.specs.Objects.{◌∈◌, Heap, at, change_at, occupied, some_and, with_cleanable, with_field, with_members}
use Rattle.jlr_machine.specs.Objects.{with_reference}
use Rattle.jlr_sets.specs.SlotSets.{is_in, slots_of}
use Rattle.jlr_laws.proofs.Sets.{nothing}
use Rattle.jlr_cells.specs.Contents.{is_array, members_in, object_of}
use Rattle.jlr_cells.specs.declared.shape.Shape.{Shape}
use Rattle.jlr_cells.specs.declared.shape.Shape.TheVariants as shape
use Rattle.jlr_sets.proofs.Counts.{in_none}
use Rattle.jlr_cells.specs.Showing.{shown}
use Rattle.jlr_cells.specs.Holding.{AreShown, Holding}
use Rattle.jlr_cells.proofs.Showing.{at-shown, changed_some, length-shown, occupied-shown, shown_changed, used_at}

-- a change that gives no members, and makes no arrays
pub record GivesNone (f : Object → Object) : Type 0 where
  pub none : (o : Object) → members_in (Some o) ≡ [] → members_in (Some (f o)) ≡ []
  pub arrays : (o : Object) → is_array (f o) ≡ is_array o

reference_gives_none_members : (f : ReferenceOf → ReferenceOf) (o : Object) → members_in (Some o) ≡ []
    → members_in (Some (with_reference f o)) ≡ []
reference_gives_none_members f (Plain fields) h = refl
reference_gives_none_members f (Reference r) h = refl
reference_gives_none_members f (Queue l) h = h
reference_gives_none_members f Cleaner h = refl
reference_gives_none_members f (Cleanable c) h = refl
reference_gives_none_members f (Guard g) h = refl

reference_gives_none_arrays : (f : ReferenceOf → ReferenceOf) (o : Object) → is_array (with_reference f o) ≡ is_array o
reference_gives_none_arrays f (Plain fields) = refl
reference_gives_none_arrays f (Reference r) = refl
reference_gives_none_arrays f (Queue l) = refl
reference_gives_none_arrays f Cleaner = refl
reference_gives_none_arrays f (Cleanable c) = refl
reference_gives_none_arrays f (Guard g) = refl

pub reference_gives_none : (f : ReferenceOf → ReferenceOf) → GivesNone (with_reference f)
reference_gives_none f = record { none = reference_gives_none_members f; arrays = reference_gives_none_arrays f }

cleanable_gives_none_members : (f : CleanableOf → CleanableOf) (o : Object) → members_in (Some o) ≡ []
    → members_in (Some (with_cleanable f o)) ≡ []
cleanable_gives_none_members f (Plain fields) h = refl
cleanable_gives_none_members f (Reference r) h = refl
cleanable_gives_none_members f (Queue l) h = h
cleanable_gives_none_members f Cleaner h = refl
cleanable_gives_none_members f (Cleanable c) h = refl
cleanable_gives_none_members f (Guard g) h = refl

cleanable_gives_none_arrays : (f : CleanableOf → CleanableOf) (o : Object) → is_array (with_cleanable f o) ≡ is_array o
cleanable_gives_none_arrays f (Plain fields) = refl
cleanable_gives_none_arrays f (Reference r) = refl
cleanable_gives_none_arrays f (Queue l) = refl
cleanable_gives_none_arrays f Cleaner = refl
cleanable_gives_none_arrays f (Cleanable c) = refl
cleanable_gives_none_arrays f (Guard g) = refl

pub cleanable_gives_none : (f : CleanableOf → CleanableOf) → GivesNone (with_cleanable f)
cleanable_gives_none f = record { none = cleanable_gives_none_members f; arrays = cleanable_gives_none_arrays f }

field_gives_none_members : (i : ℕ) (v : FieldValue) (o : Object) → members_in (Some o) ≡ [] → members_in (Some (with_field i v o)) ≡ []
field_gives_none_members i v (Plain fields) h = refl
field_gives_none_members i v (Reference r) h = refl
field_gives_none_members i v (Queue l) h = h
field_gives_none_members i v Cleaner h = refl
field_gives_none_members i v (Cleanable c) h = refl
field_gives_none_members i v (Guard g) h = refl

field_gives_none_arrays : (i : ℕ) (v : FieldValue) (o : Object) → is_array (with_field i v o) ≡ is_array o
field_gives_none_arrays i v (Plain (Typed fields)) = refl
field_gives_none_arrays i v (Plain (Elements elements)) = refl
field_gives_none_arrays i v (Reference r) = refl
field_gives_none_arrays i v (Queue l) = refl
field_gives_none_arrays i v Cleaner = refl
field_gives_none_arrays i v (Cleanable c) = refl
field_gives_none_arrays i v (Guard g) = refl

pub field_gives_none : (i : ℕ) (v : FieldValue) → GivesNone (with_field i v)
field_gives_none i v = record { none = field_gives_none_members i v; arrays = field_gives_none_arrays i v }

members_give : (f : List ℕ → List ℕ) → f [] ≡ [] → (o : Object) → members_in (Some o) ≡ [] → members_in (Some (with_members f o)) ≡ []
members_give f e (Plain fields) h = refl
members_give f e (Reference r) h = refl
members_give f e (Queue l) h = ap f h ∙ e
members_give f e Cleaner h = refl
members_give f e (Cleanable c) h = refl
members_give f e (Guard g) h = refl

pub members_arrays : (f : List ℕ → List ℕ) (o : Object) → is_array (with_members f o) ≡ is_array o
members_arrays f (Plain fields) = refl
members_arrays f (Reference r) = refl
members_arrays f (Queue l) = refl
members_arrays f Cleaner = refl
members_arrays f (Cleanable c) = refl
members_arrays f (Guard g) = refl

pub members_give_none : (f : List ℕ → List ℕ) → f [] ≡ [] → GivesNone (with_members f)
members_give_none f e = record { none = members_give f e; arrays = members_arrays f }

pub given_none : (f : Object → Object) (o : Option Object) → GivesNone f → members_in o ≡ [] → members_in (option_map f o) ≡ []
given_none f None g h = refl
given_none f (Some o) g h = g.none o h

-- whether an array lies somewhere does not change where an object does
pub same_arrays : (heap : Heap) (s k : ℕ) (f : Object → Object) → ((o : Object) → is_array (f o) ≡ is_array o)
    → some_and is_array (at (change_at heap s f) k) ≡ some_and is_array (at heap k)
same_arrays [] s k f same = refl
same_arrays (None ∷ heap) zero zero f same = refl
same_arrays (Some o ∷ heap) zero zero f same = same o
same_arrays (o ∷ heap) zero (suc k) f same = refl
same_arrays (o ∷ heap) (suc s) zero f same = refl
same_arrays (o ∷ heap) (suc s) (suc k) f same = same_arrays heap s k f same

no_members_left : (o : Option Object) → members_in (option_map (with_members (λ _. [])) o) ≡ []
no_members_left None = refl
no_members_left (Some (Plain fields)) = refl
no_members_left (Some (Reference r)) = refl
no_members_left (Some (Queue l)) = refl
no_members_left (Some Cleaner) = refl
no_members_left (Some (Cleanable c)) = refl
no_members_left (Some (Guard g)) = refl

-- a queue loses its members
pub cleared_at : (heap : Heap) (n s : ℕ) → (¬ (s ≡ n) → members_in (at heap s) ≡ [])
    → members_in (at (change_at heap n (with_members (λ _. []))) s) ≡ []
cleared_at heap n s others = elim (cases_eq s n) [
  | inr d ↦ ap members_in (get_or-set_other heap n s (option_map (with_members (λ _. [])) (at heap n)) None d) ∙ others d
  | inl same ↦ ap (λ k. members_in (at (change_at heap n (with_members (λ _. []))) k)) same ∙ (elim (cases_lt n (length heap)) [
    | inl within ↦ ap members_in (get_or-set_same heap n (option_map (with_members (λ _. [])) (at heap n)) None within)
        ∙ no_members_left (at heap n)
    | inr past ↦ ap members_in (get_or_past (change_at heap n (with_members (λ _. []))) n None
        (omega (arith, past, length-set heap n (option_map (with_members (λ _. [])) (at heap n)))))
  ])
]

-- a new object has no members
pub new_none : (made : Shape) → members_in (Some (object_of made)) ≡ []
new_none (shape.Plain layout) = refl
new_none (shape.Reference kind referent queue) = refl
new_none shape.Queue = refl
new_none shape.Cleaner = refl
new_none (shape.Cleanable referent action work) = refl
new_none (shape.Guard rid cleanable) = refl

-- what has members is an object
pub object_of_member : (x : ℕ) (o : Option Object) → x ∈ members_in o → is_some o ≡ true
object_of_member x None h = absurd (nothing x h)
object_of_member x (Some o) h = refl

one_of : (b : Bool) (o : Option Object) → some_and is_cleanable o ≡ false → some_and is_cleanable (cond b o None) ≡ false
one_of true o none = none
one_of false o none = refl

module _ (store : Heap) (occ used listed : List Bool) (are : AreShown store occ used listed) (v : Heap) (view : shown occ store ≡ v) where
  pub seen : (s : ℕ) → at v s ≡ cond (is_in occ s) (at store s) None
  seen s = ap (λ (h : Heap). at h s) (sym view) ∙ at-shown occ store s

  pub long : length v ≡ length store
  long = ap length (sym view) ∙ length-shown occ store

  pub counted : occupied v ≡ length (slots_of occ)
  counted = ap (λ (h : Heap). occupied h) (sym view) ∙ occupied-shown occ store are.places are.objects

  -- where callers see an object, they see what lies there
  pub in_set : (s : ℕ) → is_some (at v s) ≡ true → is_in occ s ≡ true
  in_set s h = elim (cases_Bool (is_in occ s)) [
    | inl on ↦ on
    | inr off ↦ absurd (both_ways (is_some (at v s)) (ap is_some (seen s ∙ ap (λ b. cond b (at store s) None) off)) h)
  ]

  pub in_sight : (s : ℕ) → is_in occ s ≡ true → at v s ≡ at store s
  in_sight s on = seen s ∙ ap (λ b. cond b (at store s) None) on

  pub there : (s : ℕ) → is_some (at v s) ≡ true → at v s ≡ at store s
  there s h = in_sight s (in_set s h)

  -- callers see no cleanable where none lies
  pub no_more : (s : ℕ) → some_and is_cleanable (at store s) ≡ false → some_and is_cleanable (at v s) ≡ false
  no_more s none = ap (some_and is_cleanable) (seen s) ∙ one_of (is_in occ s) (at store s) none

  pub hidden : (s : ℕ) → is_in occ s ≡ false → at v s ≡ None
  hidden s off = seen s ∙ ap (λ b. cond b (at store s) None) off

  pub holds_below : (f : Option Object → Bool) (s : ℕ) → ((o : Option Object) → f o ≡ true → is_some o ≡ true) → f (at v s) ≡ true
      → f (at store s) ≡ true
  holds_below f s gives h = ap f (sym (there s (gives (at v s) h))) ∙ h

  -- the object at a slot changes
  pub changed_view : (s : ℕ) (f : Object → Object) (store' : Heap) → is_some (at v s) ≡ true → store' ≡ change_at store s f
      → shown occ store' ≡ change_at v s f
  changed_view s f store' h e =
      ap (shown occ) e
      ∙ shown_changed occ store s (option_map f (at store s)) (in_set s h)
      ∙ ap (λ (l : Heap). set l s (option_map f (at store s))) view
      ∙ ap (λ o. set v s (option_map f o)) (sym (there s h))

  changed_length : (s : ℕ) (f : Object → Object) (store' : Heap) → store' ≡ change_at store s f → length store' ≡ length store
  changed_length s f store' e = ap length e ∙ length-set store s (option_map f (at store s))

  still : (s : ℕ) (f : Object → Object) → GivesNone f → members_in (at store s) ≡ [] → members_in (at (change_at store s f) s) ≡ []
  still s f gives none = elim (cases_lt s (length store)) [
    | inl within ↦ ap members_in (get_or-set_same store s (option_map f (at store s)) None within) ∙ given_none f (at store s) gives none
    | inr past ↦ ap members_in (get_or_past (change_at store s f) s None
        (omega (arith, past, length-set store s (option_map f (at store s)))))
  ]

  pub changed_are : (s : ℕ) (f : Object → Object) (store' : Heap) → GivesNone f → store' ≡ change_at store s f
      → AreShown store' occ used listed
  changed_are s f store' gives e = record {
    places = are.places ∙ sym (changed_length s f store' e);
    uses = are.uses ∙ sym (changed_length s f store' e);
    free = λ k off. ap (λ (l : Heap). some_and is_array (at l k)) e ∙ same_arrays store s k f gives.arrays ∙ are.free k off;
    lists = are.lists ∙ sym (changed_length s f store' e);
    objects = λ k h. ap (λ (l : Heap). is_some (at l k)) e ∙ changed_some store s k f ∙ are.objects k h;
    queues = are.queues;
    members = λ k off. ap (λ (l : Heap). members_in (at l k)) e ∙ (elim (cases_eq k s) [
      | inr d ↦ ap members_in (get_or-set_other store s k (option_map f (at store s)) None d) ∙ are.members k off
      | inl same ↦ ap (λ n. members_in (at (change_at store s f) n)) same
          ∙ still s f gives (ap (λ n. members_in (at store n)) (sym same) ∙ are.members k off)
    ]);
  }

  unlisted : (s : ℕ) → is_in occ s ≡ false → is_in listed s ≡ false
  unlisted s off =
      elim (cases_Bool (is_in listed s)) [ inr without ↦ without | inl with' ↦ absurd (both_ways (is_in occ s) off (are.queues s with')) ]

  -- what is in no queue that callers see is in none
  pub in_no_list : (s x : ℕ) → ((k : ℕ) → x ∈ members_in (at v k) → ⊥) → x ∈ members_in (at store s) → ⊥
  in_no_list s x apart h = elim (cases_Bool (is_in occ s)) [
    | inl on ↦ apart s (subst (λ o. x ∈ members_in o) (sym (in_sight s on)) h)
    | inr off ↦ nothing x (subst (λ l. x ∈ l) (are.members s (unlisted s off)) h)
  ]

  pub inside : (s : ℕ) → is_some (at v s) ≡ true → s < length store
  inside s h = elim (cases_lt s (length store)) [
    | inl low ↦ low
    | inr past ↦ absurd (both_ways (is_some (at v s)) (ap is_some (get_or_past v s None (omega (arith, past, long)))) h)
  ]

  -- a queue that callers see is given a member
  pub pushed_are : (s : ℕ) (f : Object → Object) (store' : Heap) (listed' : List Bool) → is_some (at v s) ≡ true
      → ((o : Object) → is_array (f o) ≡ is_array o) → store' ≡ change_at store s f → listed' ≡ set listed s true
      → AreShown store' occ used listed'
  pushed_are s f store' listed' h arrays e e' =
      subst (λ l. AreShown store' occ used l) (sym e') (record {
        places = are.places ∙ sym (changed_length s f store' e);
        uses = are.uses ∙ sym (changed_length s f store' e);
        free = λ k off. ap (λ (l : Heap). some_and is_array (at l k)) e ∙ same_arrays store s k f arrays ∙ are.free k off;
        lists = length-set listed s true ∙ are.lists ∙ sym (changed_length s f store' e);
        objects = λ k on. ap (λ (l : Heap). is_some (at l k)) e ∙ changed_some store s k f ∙ are.objects k on;
        queues = λ k on. elim (cases_eq k s) [
          | inl same ↦ ap (is_in occ) same ∙ in_set s h
          | inr d ↦ are.queues k (sym (get_or-set_other listed s k true false d) ∙ on)
        ];
        members = λ k off. elim (cases_eq k s) [
          | inl same ↦ absurd (both_ways (is_in (set listed s true) k) off
              (ap (is_in (set listed s true)) same ∙ get_or-set_same listed s true false (omega (arith, inside s h, are.lists))))
          | inr d ↦ ap (λ (l : Heap). members_in (at l k)) e ∙ ap members_in (get_or-set_other store s k (option_map f (at store s)) None d)
              ∙ are.members k (sym (get_or-set_other listed s k true false d) ∙ off)
        ];
      })

  -- fewer objects are kept, and the queues elsewhere lose their members
  pub kept_are : (kept : List Bool) (store' : Heap) (listed' : List Bool) → length kept ≡ length v
      → ((s : ℕ) → is_in kept s ≡ true → is_some (at v s) ≡ true)
      → map is_some store' ≡ map is_some store → length listed' ≡ length listed → ((s : ℕ) → is_in listed' s ≡ true → is_in kept s ≡ true)
      → ((s : ℕ) → some_and is_array (at store' s) ≡ some_and is_array (at store s))
      → ((s : ℕ) → is_in listed' s ≡ false → members_in (at store' s) ≡ []) → AreShown store' kept used listed'
  kept_are kept store' listed' fits within same same_lists queues arrays members =
      let same_long : length store' ≡ length store = omega (arith, ap length same, length-map store' is_some, length-map store is_some) in
      record {
        places = fits ∙ long ∙ sym same_long;
        uses = are.uses ∙ sym same_long;
        free = λ s off. arrays s ∙ are.free s off;
        lists = same_lists ∙ are.lists ∙ sym same_long;
        objects = λ s h. sym (used_at store' s) ∙ ap (λ l. is_in l s) same ∙ used_at store s ∙ are.objects s (in_set s (within s h));
        queues = queues;
        members = members;
      }

-- a new object, in a cell that is not occupied
module _ (store : Heap) (occ used listed : List Bool) (are : AreShown store occ used listed) (s : ℕ) (within : s < length store)
    (off : is_in occ s ≡ false) where
  not_listed : is_in listed s ≡ false
  not_listed =
      elim (cases_Bool (is_in listed s)) [ inr without ↦ without | inl with' ↦ absurd (both_ways (is_in occ s) off (are.queues s with')) ]

  -- what lay there had no members
  pub none_lay : members_in (at store s) ≡ []
  none_lay = are.members s not_listed

  pub put_are : (made : Object) → members_in (Some made) ≡ [] → AreShown (set store s (Some made)) (set occ s true) (set used s true) listed
  put_are made bare = record {
    uses = length-set used s true ∙ are.uses ∙ sym (length-set store s (Some made));
    free = λ k off. elim (cases_eq k s) [
      | inl same ↦ absurd (both_ways (is_in (set used s true) k) off
          (ap (is_in (set used s true)) same ∙ get_or-set_same used s true false (omega (arith, within, are.uses))))
      | inr d ↦ ap (some_and is_array) (get_or-set_other store s k (Some made) None d)
          ∙ are.free k (sym (get_or-set_other used s k true false d) ∙ off)
    ];
    places = length-set occ s true ∙ are.places ∙ sym (length-set store s (Some made));
    lists = are.lists ∙ sym (length-set store s (Some made));
    objects = λ k h. elim (cases_eq k s) [
      | inl same ↦ ap (λ n. is_some (at (set store s (Some made)) n)) same ∙ ap is_some (get_or-set_same store s (Some made) None within)
      | inr d ↦ ap is_some (get_or-set_other store s k (Some made) None d) ∙ are.objects k (sym (get_or-set_other occ s k true false d) ∙ h)
    ];
    queues = λ k on. elim (cases_eq k s) [
      | inl same ↦ ap (is_in (set occ s true)) same ∙ get_or-set_same occ s true false (omega (arith, within, are.places))
      | inr d ↦ get_or-set_other occ s k true false d ∙ are.queues k on
    ];
    members = λ k clear. elim (cases_eq k s) [
      | inl same ↦ ap (λ n. members_in (at (set store s (Some made)) n)) same
          ∙ ap members_in (get_or-set_same store s (Some made) None within) ∙ bare
      | inr d ↦ ap members_in (get_or-set_other store s k (Some made) None d) ∙ are.members k clear
    ];
  }

no_members : (n s : ℕ) → members_in (at (replicate n None) s) ≡ []
no_members zero s = refl
no_members (suc n) zero = refl
no_members (suc n) (suc s) = no_members n s

no_array : (n s : ℕ) → some_and is_array (at (replicate n None) s) ≡ false
no_array zero s = refl
no_array (suc n) zero = refl
no_array (suc n) (suc s) = no_array n s

-- new cells
pub new_are : (n : ℕ) (store : Heap) (occ used listed : List Bool) → store ≡ replicate n None → occ ≡ replicate n false
    → used ≡ replicate n false → listed ≡ replicate n false → AreShown store occ used listed
new_are n store occ used listed e e' u f =
    rw (e, e', u, f) (record {
      uses = length-replicate {A = Bool} n false ∙ sym (length-replicate {A = Option Object} n None);
      free = λ s h. no_array n s;
      places = length-replicate {A = Bool} n false ∙ sym (length-replicate {A = Option Object} n None);
      lists = length-replicate {A = Bool} n false ∙ sym (length-replicate {A = Option Object} n None);
      objects = λ s h. absurd (both_ways (is_in (replicate n false) s) (in_none n s) h);
      queues = λ s h. h;
      members = λ s h. no_members n s;
    })

-- what is seen is the same where its parts are
pub same_holding : (a b : Holding) → a.objects ≡ b.objects → a.condemned ≡ b.condemned → a ≡ b
same_holding a b e n = ap (λ (o : Heap). record { objects = o; condemned = a.condemned }) e
    ∙ ap (λ (k : ℕ). record { objects = b.objects; condemned = k }) n
