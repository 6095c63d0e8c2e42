-- Changes at one place of a table, and at two.
use Rattle.std.proofs.Common.{◌≡◌, ◌≢◌, ℕ, zero, suc, [], ◌∷◌, Option, Some, None, is_some, refl, sym, ap, ◌∙◌, true, false}
use Rattle.std.specs.Prelude.{option_map}
use Rattle.std.proofs.lemmas.Bool.{both_ways}
use Rattle.jlr_machine.specs.declared.object.Object.{Object}
use Rattle.jlr_machine.specs.declared.object.Object.TheVariants.{Plain, Reference, Queue, Cleaner, Cleanable, Guard}
use Rattle.jlr_machine.specs.declared.object.Reference.{Reference as ReferenceOf}
use Rattle.jlr_machine.specs.Objects.{Table, Heap, at, change_at, some_and, with_reference}
use Rattle.jlr_machine.specs.Refusals.{is_queue, is_reference}

map_twice : {A : Type 0} (f g : A → A) (o : Option A) → option_map g (option_map f o) ≡ option_map (λ x. g (f x)) o
map_twice f g None = refl
map_twice f g (Some x) = refl

pub change_twice : {A : Type 0} (table : Table A) (n : ℕ) (f g : A → A)
    → change_at (change_at table n f) n g ≡ change_at table n (λ x. g (f x))
change_twice [] n f g = refl
change_twice {A} (o ∷ table) zero f g = ap {A = Option A} {B = Table A} (λ p. p ∷ table) (map_twice f g o)
change_twice (o ∷ table) (suc n) f g = ap (λ t. o ∷ t) (change_twice table n f g)

pub change_apart : {A : Type 0} (table : Table A) (n k : ℕ) (f g : A → A) → n ≢ k
    → change_at (change_at table n f) k g ≡ change_at (change_at table k g) n f
change_apart [] n k f g ne = refl
change_apart (o ∷ table) zero zero f g ne = absurd (ne refl)
change_apart (o ∷ table) zero (suc k) f g ne = refl
change_apart (o ∷ table) (suc n) zero f g ne = refl
change_apart (o ∷ table) (suc n) (suc k) f g ne = ap (λ t. o ∷ t) (change_apart table n k f g (λ e. ne (ap suc e)))

map_alike : {A : Type 0} (f g : A → A) → ((x : A) → f x ≡ g x) → (o : Option A) → option_map f o ≡ option_map g o
map_alike f g h None = refl
map_alike f g h (Some x) = ap (λ y. Some y) (h x)

pub change_alike : {A : Type 0} (table : Table A) (n : ℕ) (f g : A → A) → ((x : A) → f x ≡ g x) → change_at table n f ≡ change_at table n g
change_alike [] n f g h = refl
change_alike {A} (o ∷ table) zero f g h = ap {A = Option A} {B = Table A} (λ p. p ∷ table) (map_alike f g h o)
change_alike (o ∷ table) (suc n) f g h = ap (λ t. o ∷ t) (change_alike table n f g h)

pub change_other : {A : Type 0} (table : Table A) (n k : ℕ) (f : A → A) → k ≢ n → at (change_at table n f) k ≡ at table k
change_other [] n k f ne = refl
change_other (o ∷ table) zero zero f ne = absurd (ne refl)
change_other (o ∷ table) zero (suc k) f ne = refl
change_other (o ∷ table) (suc n) zero f ne = refl
change_other (o ∷ table) (suc n) (suc k) f ne = change_other table n k f (λ e. ne (ap suc e))

no_both : (o : Option Object) → some_and is_reference o ≡ true → some_and is_queue o ≡ true → ⊥
no_both None r q = both_ways false refl r
no_both (Some (Plain fields)) r q = both_ways false refl r
no_both (Some (Reference x)) r q = both_ways false refl q
no_both (Some (Queue members)) r q = both_ways false refl r
no_both (Some Cleaner) r q = both_ways false refl r
no_both (Some (Cleanable c)) r q = both_ways false refl r
no_both (Some (Guard g)) r q = both_ways false refl r

-- a reference is no queue
pub apart : (heap : Heap) (s q : ℕ) → some_and is_reference (at heap s) ≡ true → some_and is_queue (at heap q) ≡ true → s ≢ q
apart heap s q r k = λ e. no_both (at heap q) (sym (ap (λ x. some_and is_reference (at heap x)) e) ∙ r) k

still : (f : ReferenceOf → ReferenceOf) (o : Option Object) → some_and is_reference o ≡ true
    → some_and is_reference (option_map (with_reference f) o) ≡ true
still f None h = h
still f (Some (Plain fields)) h = h
still f (Some (Reference r)) h = h
still f (Some (Queue members)) h = h
still f (Some Cleaner) h = h
still f (Some (Cleanable c)) h = h
still f (Some (Guard g)) h = h

-- a reference that is changed is still one
pub still_reference : (heap : Heap) (s : ℕ) (f : ReferenceOf → ReferenceOf) → some_and is_reference (at heap s) ≡ true
    → some_and is_reference (at (change_at heap s (with_reference f)) s) ≡ true
still_reference [] s f h = h
still_reference (o ∷ heap) zero f h = still f o h
still_reference (o ∷ heap) (suc s) f h = still_reference heap s f h

-- ---- What is at the place that is changed

pub change_here : {A : Type 0} (table : Table A) (n : ℕ) (f : A → A) → at (change_at table n f) n ≡ option_map f (at table n)
change_here [] n f = refl
change_here (o ∷ table) zero f = refl
change_here (o ∷ table) (suc n) f = change_here table n f

changed_there : {A : Type 0} (o : Option A) (f : A → A) → is_some o ≡ true → is_some (option_map f o) ≡ true
changed_there None f h = h
changed_there (Some x) f h = refl

-- there still is something at each place
pub still_there : {A : Type 0} (table : Table A) (n k : ℕ) (f : A → A) → is_some (at table k) ≡ true
    → is_some (at (change_at table n f) k) ≡ true
still_there [] n k f h = h
still_there (o ∷ table) zero zero f h = changed_there o f h
still_there (o ∷ table) zero (suc k) f h = h
still_there (o ∷ table) (suc n) zero f h = h
still_there (o ∷ table) (suc n) (suc k) f h = still_there table n k f h
