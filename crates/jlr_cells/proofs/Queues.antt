-- The members of queues, which stand in lists beside the objects.
use Rattle.std.proofs.Common.{◌≡◌, ◌⊎◌, inl, inr, ℕ, zero, suc, ◌<◌, Bool, true, List, [], ◌∷◌, Option, Some, None, length, set}
use Rattle.std.proofs.Common.{get_or, replicate, refl, sym, ap, ◌∙◌, arith, subst, length-set, get_or-set_same, get_or-set_other}
use Rattle.std.specs.Prelude.{is_some, option_map, slice_get, slice_index_or}
use Rattle.std.proofs.lemmas.Bool.{cases_eq}
use Rattle.std.proofs.lemmas.List.{length-map, map-set, length-replicate}
use Rattle.jlr_machine.specs.declared.object.Contents.TheVariants.{Typed, Elements}
use Rattle.jlr_machine.specs.declared.object.Object.{Object}
use Rattle.jlr_machine.specs.declared.object.Object.TheVariants.{Plain, Reference, Queue, Cleaner, Cleanable, Guard}
use Rattle.jlr_machine.specs.declared.object.Reference.{Reference as ReferenceOf}
use Rattle.jlr_machine.specs.declared.object.Cleanable.{Cleanable as CleanableOf}
use Rattle.jlr_types.specs.declared.FieldValue.{FieldValue}
use Rattle.jlr_types.specs.declared.FieldValue.TheVariants as field
use Rattle.jlr_machine.specs.Edges.{slot_in}
use Rattle.jlr_machine.specs.Objects.{◌∈◌, Heap, at, change_at, occupied, some_and, with_cleanable, with_field, with_members}
use Rattle.jlr_machine.specs.Objects.{with_reference}
use Rattle.jlr_machine.specs.Refusals.{is_plain, is_queue}
use Rattle.jlr_laws.proofs.ObjectsKept.{count_pointwise}
use Rattle.jlr_laws.proofs.Sets.{nothing}
use Rattle.jlr_links.specs.Lists.{list_at}
use Rattle.jlr_cells.specs.declared.cell.Cell.{Cell}
use Rattle.jlr_cells.specs.declared.cell.Cell.TheVariants as cell
use Rattle.jlr_cells.specs.declared.shape.Kind.{Kind}
use Rattle.jlr_cells.specs.declared.shape.Kind.TheVariants as kind
use Rattle.jlr_cells.specs.Contents.{kind_in, kind_of, member_in, members_in, object_in, objects_in, with_list, with_lists}
use Rattle.jlr_cells.specs.Links.{cell_links}
use Rattle.jlr_cells.specs.Keeping.{AreOfQueues, AreWhole}
use Rattle.jlr_cells.proofs.Slots.{at-read, change_at-objects_in, object_of_queue, within_cells}
use Rattle.jlr_cells.proofs.ByKind.{kind_at}

-- ---- One object

-- what does not look at members is the same of an object without them
pub unlisted : {X : Type 0} (f : Option Object → X) (members : List ℕ) (o : Option Object)
    → ((l m : List ℕ) → f (Some (Queue l)) ≡ f (Some (Queue m))) → f (with_list members o) ≡ f o
unlisted f members None blind = refl
unlisted f members (Some (Plain fields)) blind = refl
unlisted f members (Some (Reference r)) blind = refl
unlisted f members (Some (Queue l)) blind = blind members l
unlisted f members (Some Cleaner) blind = refl
unlisted f members (Some (Cleanable c)) blind = refl
unlisted f members (Some (Guard g)) blind = refl

-- a change that leaves members alone
abbrev pub LeavesMembers : (Object → Object) → Type 0
LeavesMembers f = (members : List ℕ) (o : Object) → with_members (λ _. members) (f o) ≡ f (with_members (λ _. members) o)

pub reference_leaves : (f : ReferenceOf → ReferenceOf) → LeavesMembers (with_reference f)
reference_leaves f members (Plain fields) = refl
reference_leaves f members (Reference r) = refl
reference_leaves f members (Queue l) = refl
reference_leaves f members Cleaner = refl
reference_leaves f members (Cleanable c) = refl
reference_leaves f members (Guard g) = refl

pub cleanable_leaves : (f : CleanableOf → CleanableOf) → LeavesMembers (with_cleanable f)
cleanable_leaves f members (Plain fields) = refl
cleanable_leaves f members (Reference r) = refl
cleanable_leaves f members (Queue l) = refl
cleanable_leaves f members Cleaner = refl
cleanable_leaves f members (Cleanable c) = refl
cleanable_leaves f members (Guard g) = refl

pub field_leaves : (i : ℕ) (v : FieldValue) → LeavesMembers (with_field i v)
field_leaves i v members (Plain fields) = refl
field_leaves i v members (Reference r) = refl
field_leaves i v members (Queue l) = refl
field_leaves i v members Cleaner = refl
field_leaves i v members (Cleanable c) = refl
field_leaves i v members (Guard g) = refl

list_changed : (f : Object → Object) (members : List ℕ) (o : Option Object) → LeavesMembers f
    → with_list members (option_map f o) ≡ option_map f (with_list members o)
list_changed f members None leaves = refl
list_changed f members (Some o) leaves = ap (λ x. Some x) (leaves members o)

members_changed : (g : List ℕ → List ℕ) (members : List ℕ) (o : Option Object)
    → with_list (g members) o ≡ option_map (with_members g) (with_list members o)
members_changed g members None = refl
members_changed g members (Some (Plain fields)) = refl
members_changed g members (Some (Reference r)) = refl
members_changed g members (Some (Queue l)) = refl
members_changed g members (Some Cleaner) = refl
members_changed g members (Some (Cleanable c)) = refl
members_changed g members (Some (Guard g')) = refl

-- a queue in a cell is one without members
bare : (c : Cell) → with_list [] (object_in c) ≡ object_in c
bare cell.Free = refl
bare (cell.Plain fields) = refl
bare (cell.Array elements) = refl
bare (cell.Reference r) = refl
bare cell.Queue = refl
bare cell.Cleaner = refl
bare (cell.Cleanable c) = refl
bare (cell.Guard g) = refl

-- the members that an object is given, where it is a queue or they are none
given_none : (o : Option Object) → members_in (with_list [] o) ≡ []
given_none None = refl
given_none (Some (Plain fields)) = refl
given_none (Some (Reference r)) = refl
given_none (Some (Queue l)) = refl
given_none (Some Cleaner) = refl
given_none (Some (Cleanable c)) = refl
given_none (Some (Guard g)) = refl

given_queue : (members : List ℕ) (o : Option Object) → option_map kind_of o ≡ Some kind.Queue → members_in (with_list members o) ≡ members
given_queue members None e = cc
given_queue members (Some (Plain (Typed fields))) e = cc
given_queue members (Some (Plain (Elements elements))) e = cc
given_queue members (Some (Reference r)) e = cc
given_queue members (Some (Queue l)) e = refl
given_queue members (Some Cleaner) e = cc
given_queue members (Some (Cleanable c)) e = cc
given_queue members (Some (Guard g)) e = cc

pub queue_kind : (o : Option Object) → some_and is_queue o ≡ true → option_map kind_of o ≡ Some kind.Queue
queue_kind None h = cc
queue_kind (Some (Plain fields)) h = cc
queue_kind (Some (Reference r)) h = cc
queue_kind (Some (Queue l)) h = refl
queue_kind (Some Cleaner) h = cc
queue_kind (Some (Cleanable c)) h = cc
queue_kind (Some (Guard g)) h = cc

plain_listed : (members : List ℕ) (o : Option Object) → some_and is_plain o ≡ true → with_list members o ≡ o
plain_listed members None h = refl
plain_listed members (Some (Plain fields)) h = refl
plain_listed members (Some (Reference r)) h = refl
plain_listed members (Some (Queue l)) h = cc
plain_listed members (Some Cleaner) h = refl
plain_listed members (Some (Cleanable c)) h = refl
plain_listed members (Some (Guard g)) h = refl

pub member_listed : (o : Option Object) (place : ℕ) → member_in o place ≡ slice_get (members_in o) place
member_listed None place = refl
member_listed (Some (Plain fields)) place = refl
member_listed (Some (Reference r)) place = refl
member_listed (Some (Queue members)) place = refl
member_listed (Some Cleaner) place = refl
member_listed (Some (Cleanable c)) place = refl
member_listed (Some (Guard g)) place = refl

-- ---- All objects

pub at-with_lists : (heap : Heap) (lists : List (List ℕ)) (s : ℕ) → at (with_lists heap lists) s ≡ with_list (list_at lists s) (at heap s)
at-with_lists [] lists s = refl
at-with_lists (o ∷ heap) [] zero = refl
at-with_lists (o ∷ heap) [] (suc s) = at-with_lists heap [] s
at-with_lists (o ∷ heap) (l ∷ lists) zero = refl
at-with_lists (o ∷ heap) (l ∷ lists) (suc s) = at-with_lists heap lists s

pub long-with_lists : (heap : Heap) (lists : List (List ℕ)) → length (with_lists heap lists) ≡ length heap
long-with_lists [] lists = refl
long-with_lists (o ∷ heap) [] = ap suc (long-with_lists heap [])
long-with_lists (o ∷ heap) (l ∷ lists) = ap suc (long-with_lists heap lists)

with_lists-set : (heap : Heap) (lists : List (List ℕ)) (s : ℕ) (o : Option Object)
    → with_lists (set heap s o) lists ≡ set (with_lists heap lists) s (with_list (list_at lists s) o)
with_lists-set [] lists s o = refl
with_lists-set (x ∷ heap) [] zero o = refl
with_lists-set (x ∷ heap) [] (suc s) o = ap (λ l. with_list [] x ∷ l) (with_lists-set heap [] s o)
with_lists-set (x ∷ heap) (l ∷ lists) zero o = refl
with_lists-set (x ∷ heap) (l ∷ lists) (suc s) o = ap (λ m. with_list l x ∷ m) (with_lists-set heap lists s o)

with_lists-list : (heap : Heap) (lists : List (List ℕ)) (s : ℕ) (members : List ℕ) → s < length lists
    → with_lists heap (set lists s members) ≡ set (with_lists heap lists) s (with_list members (at heap s))
with_lists-list [] lists s members h = refl
with_lists-list (x ∷ heap) [] s members h = absurd (omega (arith, h))
with_lists-list (x ∷ heap) (l ∷ lists) zero members h = refl
with_lists-list (x ∷ heap) (l ∷ lists) (suc s) members h =
    ap (λ m. with_list l x ∷ m) (with_lists-list heap lists s members (omega (arith, h)))

pub at_unlisted : {X : Type 0} (f : Option Object → X) (heap : Heap) (lists : List (List ℕ)) (s : ℕ)
    → ((l m : List ℕ) → f (Some (Queue l)) ≡ f (Some (Queue m))) → f (at (with_lists heap lists) s) ≡ f (at heap s)
at_unlisted f heap lists s blind = ap f (at-with_lists heap lists s) ∙ unlisted f (list_at lists s) (at heap s) blind

pub occupied-with_lists : (heap : Heap) (lists : List (List ℕ)) → occupied (with_lists heap lists) ≡ occupied heap
occupied-with_lists heap lists =
    count_pointwise is_some (with_lists heap lists) heap (long-with_lists heap lists) (λ s. at_unlisted is_some heap lists s (λ l m. refl))

-- ---- Changes

-- the object in a cell changes, but for its members
pub changed_object :
    (cells : List Cell) (lists : List (List ℕ)) (s : ℕ) (c d : Cell) (f : Object → Object) → s < length cells → c ≡ get_or cells s c
    → object_in d ≡ option_map f (object_in c) → LeavesMembers f
    → with_lists (objects_in (set cells s d)) lists ≡ change_at (with_lists (objects_in cells) lists) s f
changed_object cells lists s c d f within read becomes leaves =
    let heap = objects_in cells in
    ap (λ h. with_lists h lists) (change_at-objects_in cells s c d f within read becomes)
    ∙ with_lists-set heap lists s (option_map f (at heap s))
    ∙ ap (set (with_lists heap lists) s) (list_changed f (list_at lists s) (at heap s) leaves
    ∙ ap (option_map f) (sym (at-with_lists heap lists s)))

-- the members of a queue change
pub changed_members :
    (heap : Heap) (lists : List (List ℕ)) (s : ℕ) (g : List ℕ → List ℕ) → s < length lists
    → with_lists heap (set lists s (g (list_at lists s))) ≡ change_at (with_lists heap lists) s (with_members g)
changed_members heap lists s g within =
    with_lists-list heap lists s (g (list_at lists s)) within
    ∙ ap (set (with_lists heap lists) s) (members_changed g (list_at lists s) (at heap s)
    ∙ ap (option_map (with_members g)) (sym (at-with_lists heap lists s)))

-- something else stands where nothing with members lay
pub written_object : (cells : List Cell) (lists : List (List ℕ)) (s : ℕ) (c : Cell) → list_at lists s ≡ []
    → with_lists (objects_in (set cells s c)) lists ≡ set (with_lists (objects_in cells) lists) s (object_in c)
written_object cells lists s c none =
    let heap = objects_in cells in
    ap (λ h. with_lists h lists) (map-set object_in cells s c)
    ∙ with_lists-set heap lists s (object_in c)
    ∙ ap (set (with_lists heap lists) s) (ap (λ l. with_list l (object_in c)) none ∙ bare c)

-- ---- What is kept of queues

module _ (cells : List Cell) (lists : List (List ℕ)) (slots : ℕ) (kinds : List (Option Kind)) (links : List (List (Option ℕ)))
    (whole : AreWhole cells lists slots kinds links) where
  kinds_read : (s : ℕ) → slice_index_or kinds s None ≡ option_map kind_of (at (objects_in cells) s)
  kinds_read s = ap (λ l. slice_index_or l s None) whole.kept.by_kind ∙ kind_at cells s

  pub list_count : length lists ≡ length cells
  list_count = whole.members.list_count ∙ ap length whole.kept.by_kind ∙ length-map cells kind_in

  pub slot_count : slots ≡ length cells
  slot_count = whole.members.slot_count ∙ ap length whole.kept.by_kind ∙ length-map cells kind_in

  pub kind_count : length kinds ≡ length cells
  kind_count = ap length whole.kept.by_kind ∙ length-map cells kind_in

  pub link_count : length links ≡ length cells
  link_count = ap length whole.kept.by_links ∙ length-map cells cell_links

  -- the members of the queue at a slot are its list
  pub members_at : (s : ℕ) → members_in (at (with_lists (objects_in cells) lists) s) ≡ list_at lists s
  members_at s =
      ap members_in (at-with_lists (objects_in cells) lists s)
      ∙ elim (whole.members.only s) [
        | inl none ↦ ap (λ l. members_in (with_list l (at (objects_in cells) s))) none ∙ given_none (at (objects_in cells) s) ∙ sym none
        | inr queue ↦ given_queue (list_at lists s) (at (objects_in cells) s) (sym (kinds_read s) ∙ queue)
      ]

  -- the list of a queue may change
  pub queue_changed : (s : ℕ) (members : List ℕ) → some_and is_queue (at (objects_in cells) s) ≡ true
      → AreWhole cells (set lists s members) slots kinds links
  queue_changed s members queue = record {
    kept = whole.kept;
    members = record {
      list_count = length-set lists s members ∙ whole.members.list_count;
      slot_count = whole.members.slot_count;
      only = λ k. elim (cases_eq k s) [
        | inl same ↦ inr (ap (λ x. slice_index_or kinds x None) same ∙ kinds_read s ∙ queue_kind (at (objects_in cells) s) queue)
        | inr other ↦ subst (λ l. (l ≡ []) ⊎ (slice_index_or kinds k None ≡ Some kind.Queue))
            (sym (get_or-set_other lists s k members [] other)) (whole.members.only k)
      ];
    };
  }

-- a slot that has no list gets an object of some kind
pub kinds_set : (kinds : List (Option Kind)) (lists : List (List ℕ)) (slots s : ℕ) (k : Option Kind) → AreOfQueues kinds lists slots
    → list_at lists s ≡ [] → AreOfQueues (set kinds s k) lists slots
kinds_set kinds lists slots s k of none = record {
  list_count = of.list_count ∙ sym (length-set kinds s k);
  slot_count = of.slot_count ∙ sym (length-set kinds s k);
  only = λ j. elim (cases_eq j s) [
    | inl same ↦ inl (ap (list_at lists) same ∙ none)
    | inr other ↦ subst (λ o. (list_at lists j ≡ []) ⊎ (o ≡ Some kind.Queue)) (sym (get_or-set_other kinds s j k None other)) (of.only j)
  ];
}

-- a list is emptied
pub emptied : (kinds : List (Option Kind)) (lists : List (List ℕ)) (slots s : ℕ) → AreOfQueues kinds lists slots → s < length lists
    → AreOfQueues kinds (set lists s []) slots
emptied kinds lists slots s of within = record {
  list_count = length-set lists s [] ∙ of.list_count;
  slot_count = of.slot_count;
  only = λ j. elim (cases_eq j s) [
    | inl same ↦ inl (ap (list_at (set lists s [])) same ∙ get_or-set_same lists s [] [] within)
    | inr other ↦ subst (λ l. (l ≡ []) ⊎ (slice_index_or kinds j None ≡ Some kind.Queue)) (sym (get_or-set_other lists s j [] [] other))
        (of.only j)
  ];
}

-- empty lists
none_of : (n s : ℕ) → list_at (replicate n []) s ≡ []
none_of zero s = refl
none_of (suc n) zero = refl
none_of (suc n) (suc s) = none_of n s

pub new_lists : (kinds : List (Option Kind)) (lists : List (List ℕ)) (slots count : ℕ) → kinds ≡ replicate count None
    → lists ≡ replicate count [] → slots ≡ count → AreOfQueues kinds lists slots
new_lists kinds lists slots count none empty long =
    let kind_count : length kinds ≡ count = ap length none ∙ length-replicate count None in
    record {
      list_count = ap length empty ∙ length-replicate count [] ∙ sym kind_count;
      slot_count = long ∙ sym kind_count;
      only = λ s. inl (ap (λ l. list_at l s) empty ∙ none_of count s);
    }

pub nothing_listed : (count : ℕ) (lists : List (List ℕ)) → with_lists (replicate count None) lists ≡ replicate count None
nothing_listed zero lists = refl
nothing_listed (suc n) [] = ap (λ l. None ∷ l) (nothing_listed n [])
nothing_listed (suc n) (l ∷ lists) = ap (λ m. None ∷ m) (nothing_listed n lists)

-- ---- As callers see the objects

-- what does not look at members
abbrev pub IsBlind : {X : Type 0} → (Option Object → X) → Type 0
IsBlind f = (l m : List ℕ) → f (Some (Queue l)) ≡ f (Some (Queue m))

module _ (cells : List Cell) (lists : List (List ℕ)) (v : Heap) (view : with_lists (objects_in cells) lists ≡ v) where
  pub seen_as : {X : Type 0} (f : Option Object → X) (s : ℕ) → IsBlind f → f (at v s) ≡ f (at (objects_in cells) s)
  seen_as f s blind = ap (λ (h : Heap). f (at h s)) (sym view) ∙ at_unlisted f (objects_in cells) lists s blind

  pub holds_at : (f : Option Object → Bool) (s t : ℕ) → IsBlind f → t ≡ s → f (at v s) ≡ true → f (at (objects_in cells) t) ≡ true
  holds_at f s t blind same holds = ap (λ x. f (at (objects_in cells) x)) same ∙ sym (seen_as f s blind) ∙ holds

  pub length_seen : length v ≡ length cells
  length_seen = ap length (sym view) ∙ long-with_lists (objects_in cells) lists ∙ length-map cells object_in

  -- a plain object is the very object in its cell
  pub plain_at : (s : ℕ) → some_and is_plain (at (objects_in cells) s) ≡ true → at v s ≡ at (objects_in cells) s
  plain_at s plain = ap (λ (h : Heap). at h s) (sym view) ∙ at-with_lists (objects_in cells) lists s
      ∙ plain_listed (list_at lists s) (at (objects_in cells) s) plain

  pub within : (s t : ℕ) → t ≡ s → is_some (at v s) ≡ true → t < length cells
  within s t same holds = within_cells cells t (holds_at is_some s t (λ l m. refl) same holds)

  pub holds_in : (f : Option Object → Bool) (s t : ℕ) (c : Cell) → IsBlind f → t ≡ s → f (at v s) ≡ true → t < length cells
      → c ≡ get_or cells t c → f (object_in c) ≡ true
  holds_in f s t c blind same holds below read = ap f (sym (at-read cells t c below read)) ∙ holds_at f s t blind same holds

  pub seen_in : {X : Type 0} (f : Option Object → X) (s t : ℕ) (c : Cell) → IsBlind f → t ≡ s → t < length cells → c ≡ get_or cells t c
      → f (at v s) ≡ f (object_in c)
  seen_in f s t c blind same below read = seen_as f s blind ∙ ap (λ x. f (at (objects_in cells) x)) (sym same)
      ∙ ap f (at-read cells t c below read)

  pub changed_at : (s t : ℕ) (c d : Cell) (f : Object → Object) → t ≡ s → t < length cells → c ≡ get_or cells t c
      → object_in d ≡ option_map f (object_in c) → LeavesMembers f
      → with_lists (objects_in (set cells t d)) lists ≡ change_at v s f
  changed_at s t c d f same below read becomes leaves =
      changed_object cells lists t c d f below read becomes leaves ∙ ap (λ x. change_at (with_lists (objects_in cells) lists) x f) same
      ∙ ap (λ (h : Heap). change_at h s f) view

module _ (cells : List Cell) (lists : List (List ℕ)) (slots : ℕ) (kinds : List (Option Kind)) (links : List (List (Option ℕ)))
    (whole : AreWhole cells lists slots kinds links) (v : Heap) (view : with_lists (objects_in cells) lists ≡ v) where
  pub list_there : (s t : ℕ) → t ≡ s → some_and is_queue (at v s) ≡ true → t < length lists
  list_there s t same queue =
      omega (arith, within cells lists v view s t same (object_of_queue (at v s) queue), list_count cells lists slots kinds links whole)

  pub members_seen : (s t : ℕ) → t ≡ s → list_at lists t ≡ members_in (at v s)
  members_seen s t same =
      ap (list_at lists) same ∙ sym (members_at cells lists slots kinds links whole s) ∙ ap (λ (h : Heap). members_in (at h s)) view

  pub first_seen : (s t : ℕ) → t ≡ s → slice_get (list_at lists t) 0 ≡ member_in (at v s) 0
  first_seen s t same = ap (λ l. slice_get l 0) (members_seen s t same) ∙ sym (member_listed (at v s) 0)

  -- a queue's list is another
  pub whole_with : (s t : ℕ) (members : List ℕ) (lists' : List (List ℕ)) (slots' : ℕ) → t ≡ s → some_and is_queue (at v s) ≡ true
      → lists' ≡ set lists t members → slots' ≡ slots
      → AreWhole cells lists' slots' kinds links
  whole_with s t members lists' slots' same queue e e' =
      subst (λ l. AreWhole cells l slots' kinds links) (sym e)
      (subst (λ n. AreWhole cells (set lists t members) n kinds links) (sym e')
      (queue_changed cells lists slots kinds links whole t members
      (holds_at cells lists v view (some_and is_queue) s t (λ l m. refl) same queue)))

  pub seen_with : (s t : ℕ) (g : List ℕ → List ℕ) (lists' : List (List ℕ)) → t ≡ s → some_and is_queue (at v s) ≡ true
      → lists' ≡ set lists t (g (list_at lists t))
      → with_lists (objects_in cells) lists' ≡ change_at v s (with_members g)
  seen_with s t g lists' same queue e =
      ap (with_lists (objects_in cells)) e
      ∙ changed_members (objects_in cells) lists t g (list_there s t same queue)
      ∙ ap (λ x. change_at (with_lists (objects_in cells) lists) x (with_members g)) same
      ∙ ap (λ (h : Heap). change_at h s (with_members g)) view

-- a list with a slot in it is there
pub list_within : (lists : List (List ℕ)) (t x : ℕ) → x ∈ list_at lists t → t < length lists
list_within [] t x h = nothing x h
list_within (l ∷ lists) zero x h = omega arith
list_within (l ∷ lists) (suc t) x h = let below : t < length lists = list_within lists t x h in omega (arith, below)

-- the target of a field's value
pub set_target : (value : FieldValue) (s : ℕ) → slot_in value ≡ Some s → value ≡ field.Ref (Some s)
set_target (field.Int n) s e = cc
set_target (field.Ref target) s e = ap (λ o. field.Ref o) e
