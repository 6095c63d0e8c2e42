-- What one entry leaves at each slot, from the changes that it is made of.
use Rattle.std.proofs.Common.{◌≡◌, ℕ, ◌≤◌, false, List, [], length, refl, sym, ◌∙◌, ap, subst, inl, inr, arith, Option, Some, None}
use Rattle.std.proofs.Common.{option_map}
use Rattle.std.proofs.lemmas.Bool.{cases_eq, cases_lt, both_ways}
use Rattle.std.proofs.lemmas.List.{length-set}
use Rattle.jlr_machine.specs.declared.object.Object.{Object}
use Rattle.jlr_machine.specs.declared.object.Object.TheVariants.{Reference, Cleanable}
use Rattle.jlr_machine.specs.declared.object.RefState.TheVariants.{Fresh}
use Rattle.jlr_machine.specs.declared.object.CleanState.TheVariants.{Armed}
use Rattle.jlr_machine.specs.declared.machine.Machine.{Machine}
use Rattle.jlr_machine.specs.Objects.{Table, at, change_at, ◌∋◌, ◌∈◌, with_members}
use Rattle.jlr_machine.specs.Lookups.{with_object, on}
use Rattle.jlr_laws.proofs.Checks.{at_beyond}
use Rattle.jlr_laws.proofs.Frames.{set_same, set_other}
use Rattle.jlr_histories.proofs.Becomes.{Becomes, Follows, same_place, members_too}

-- ---- What is left

-- a machine of which each object follows the one that was there; a referent may go where P holds
pub record IsOver (P : ℕ → Type 0) (m n : Machine) : Type 0 where
  pub follows : (s : ℕ) → Follows (P s) (at m.objects s) (at n.objects s)
  pub next : n.next_action ≡ m.next_action

-- a new object: references are Fresh, cleanables Armed and have the next action
abbrev pub IsNewAt : ℕ → Option Object → Type 0
IsNewAt next (Some (Reference r)) = r.state ≡ Fresh
IsNewAt next (Some (Cleanable c)) = (c.state ≡ Armed) × (c.action ≡ next)
IsNewAt next _ = Unit {0}

-- a machine with new objects in the fresh slots, and all others as they were
pub record IsMaking (m n : Machine) (fresh : List ℕ) : Type 0 where
  pub others : (s : ℕ) → (fresh ∋ s) ≡ false → at n.objects s ≡ at m.objects s
  pub new : (s : ℕ) → s ∈ fresh → IsNewAt m.next_action (at n.objects s)
  pub next : m.next_action ≤ n.next_action

-- a machine with new objects in the fresh slots, in which all others follow those that were there
pub record IsStep (P : ℕ → Type 0) (m n : Machine) (fresh : List ℕ) : Type 0 where
  pub follows : (s : ℕ) → (fresh ∋ s) ≡ false → Follows (P s) (at m.objects s) (at n.objects s)
  pub new : (s : ℕ) → s ∈ fresh → IsNewAt m.next_action (at n.objects s)
  pub next : m.next_action ≤ n.next_action

pub over_and_making : (P : ℕ → Type 0) (m between n : Machine) (fresh : List ℕ) → IsOver P m between → IsMaking between n fresh
    → IsStep P m n fresh
over_and_making P m between n fresh a b =
    record {
      follows = λ s f. subst (Follows (P s) (at m.objects s)) (sym (b.others s f)) (a.follows s);
      new = λ s h. subst (λ k. IsNewAt k (at n.objects s)) a.next (b.new s h);
      next = omega (arith, a.next, b.next);
    }

pub over_alone : (P : ℕ → Type 0) (m n : Machine) (fresh : List ℕ) → fresh ≡ [] → IsOver P m n → IsStep P m n fresh
over_alone P m n fresh e a =
    record {
      follows = λ s f. a.follows s;
      new = λ s h. absurd (both_ways false refl (subst (λ l. s ∈ l) e h));
      next = omega (arith, a.next);
    }

-- ---- The same objects

pub record IsQuiet (m n : Machine) : Type 0 where
  pub objects : n.objects ≡ m.objects
  pub next : n.next_action ≡ m.next_action
  pub taken : n.taken ≡ m.taken

pub quiet : (m : Machine) → IsQuiet m m
quiet m = record { objects = refl; next = refl; taken = refl }

pub quiet_on : {A : Type 0} (m : Machine) (o : Option A) (f : A → Machine) → ((x : A) → IsQuiet m (f x)) → IsQuiet m (on o f m)
quiet_on m None f h = quiet m
quiet_on m (Some x) f h = h x

pub quiet_over : (P : ℕ → Type 0) (m n : Machine) → IsQuiet m n → IsOver P m n
quiet_over P m n q = record {
  follows = λ s. subst (λ heap. Follows (P s) (at m.objects s) (at heap s)) (sym q.objects)
      (same_place (P s) (at m.objects s));
  next = q.next;
}

pub over_quiet : (P : ℕ → Type 0) (m between n : Machine) → IsOver P m between → n.objects ≡ between.objects
    → n.next_action ≡ between.next_action → IsOver P m n
over_quiet P m between n a e f =
    record { follows = λ s. subst (λ heap. Follows (P s) (at m.objects s) (at heap s)) (sym e) (a.follows s); next = f ∙ a.next }

pub over_on : {A : Type 0} (P : ℕ → Type 0) (m : Machine) (o : Option A) (f : A → Machine) → ((x : A) → o ≡ Some x → IsOver P m (f x))
    → IsOver P m (on o f m)
over_on P m None f h = quiet_over P m m (quiet m)
over_on P m (Some x) f h = h x refl

-- ---- One object changed

-- what a table with a changed place has there
pub changed_is : {A : Type 0} (table : Table A) (n : ℕ) (f : A → A) → at (change_at table n f) n ≡ option_map f (at table n)
changed_is table n f = elim (cases_lt n (length table)) [
  | inl l ↦ set_same table n (option_map f (at table n)) l
  | inr b ↦
      let long : length (change_at table n f) ≤ n = subst (λ k. k ≤ n) (sym (length-set table n (option_map f (at table n)))) b in
      at_beyond (change_at table n f) n long ∙ sym (ap (option_map f) (at_beyond table n b))
]

pub changed_beside : {A : Type 0} (table : Table A) (n j : ℕ) (f : A → A) → (j ≡ n → ⊥) → at (change_at table n f) j ≡ at table j
changed_beside table n j f d = set_other table n j (option_map f (at table n)) d

pub mapped : (P : Type 0) (f : Object → Object) (o : Option Object) → ((x : Object) → o ≡ Some x → Becomes P x (f x))
    → Follows P o (option_map f o)
mapped P f None h = tt
mapped P f (Some x) h = h x refl

-- a change on top of one that left the object at s alone
pub changed_over : (P : ℕ → Type 0) (m between : Machine) (s : ℕ) (f : Object → Object) → IsOver P m between
    → at between.objects s ≡ at m.objects s
    → ((x : Object) → at m.objects s ≡ Some x → Becomes (P s) x (f x)) → IsOver P m (with_object between s f)
changed_over P m between s f a same h =
    record {
      follows = λ t. elim (cases_eq t s) [
        | inl e ↦
            let here : at (change_at between.objects s f) t ≡ option_map f (at m.objects t) =
            ap (at (change_at between.objects s f)) e ∙ changed_is between.objects s f
            ∙ ap (option_map f) (same ∙ ap (at m.objects) (sym e)) in
            subst (Follows (P t) (at m.objects t)) (sym here)
            (mapped (P t) f (at m.objects t) (λ x g. subst (λ i. Becomes (P i) x (f x)) (sym e) (h x (ap (at m.objects) (sym e) ∙ g))))
        | inr d ↦ subst (Follows (P t) (at m.objects t)) (sym (changed_beside between.objects s t f d)) (a.follows t)
      ];
      next = a.next;
    }

pub changed : (P : ℕ → Type 0) (m : Machine) (s : ℕ) (f : Object → Object)
    → ((x : Object) → at m.objects s ≡ Some x → Becomes (P s) x (f x)) → IsOver P m (with_object m s f)
changed P m s f h = changed_over P m m s f (quiet_over P m m (quiet m)) refl h

-- a change of the members of a queue on top of any
follows_members : (P : Type 0) (f : List ℕ → List ℕ) (o p : Option Object) → Follows P o p → Follows P o (option_map (with_members f) p)
follows_members P f o None h = tt
follows_members P f None (Some p) h = absurd h
follows_members P f (Some o) (Some p) h = members_too P f o p h

pub members_over : (P : ℕ → Type 0) (m between : Machine) (q : ℕ) (f : List ℕ → List ℕ) → IsOver P m between
    → IsOver P m (with_object between q (with_members f))
members_over P m between q f a =
    record {
      follows = λ t. elim (cases_eq t q) [
        | inl e ↦
            let here : at (change_at between.objects q (with_members f)) t ≡ option_map (with_members f) (at between.objects t) =
            ap (at (change_at between.objects q (with_members f))) e ∙ changed_is between.objects q (with_members f)
            ∙ ap (λ i. option_map (with_members f) (at between.objects i)) (sym e) in
            subst (Follows (P t) (at m.objects t)) (sym here)
            (follows_members (P t) f (at m.objects t) (at between.objects t) (a.follows t))
        | inr d ↦ subst (Follows (P t) (at m.objects t)) (sym (changed_beside between.objects q t (with_members f) d)) (a.follows t)
      ];
      next = a.next;
    }

twice : (f g : Object → Object) (o : Option Object) → option_map g (option_map f o) ≡ option_map (λ x. g (f x)) o
twice f g None = refl
twice f g (Some x) = refl

-- two changes of one object
pub changed_twice : (P : ℕ → Type 0) (m : Machine) (s : ℕ) (f g : Object → Object)
    → ((x : Object) → at m.objects s ≡ Some x → Becomes (P s) x (g (f x))) → IsOver P m (with_object (with_object m s f) s g)
changed_twice P m s f g h =
    record {
      follows = λ t. elim (cases_eq t s) [
        | inl e ↦
            let here : at (change_at (change_at m.objects s f) s g) t ≡ option_map (λ x. g (f x)) (at m.objects t) =
            ap (at (change_at (change_at m.objects s f) s g)) e ∙ changed_is (change_at m.objects s f) s g
            ∙ ap (option_map g) (changed_is m.objects s f) ∙ twice f g (at m.objects s)
            ∙ ap (λ i. option_map (λ x. g (f x)) (at m.objects i)) (sym e) in
            subst (Follows (P t) (at m.objects t)) (sym here)
            (mapped (P t) (λ x. g (f x)) (at m.objects t)
            (λ x k. subst (λ i. Becomes (P i) x (g (f x))) (sym e) (h x (ap (at m.objects) (sym e) ∙ k))))
        | inr d ↦
            subst (Follows (P t) (at m.objects t)) (sym (changed_beside (change_at m.objects s f) s t g d
            ∙ changed_beside m.objects s t f d)) (same_place (P t) (at m.objects t))
      ];
      next = refl;
    }
