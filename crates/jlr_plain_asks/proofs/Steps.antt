-- One more item in a loop over a list.
use Rattle.std.proofs.Common.{◌≡◌, ℕ, ◌+◌, ◌<◌, ◌≤◌, List, [], ◌∷◌, ◌++◌, length, take, drop, map, sym, ◌∙◌, ap, slice_index_or, Bool, true}
use Rattle.std.proofs.Common.{false}
use Rattle.std.proofs.lemmas.List.{append_assoc, take_more, drop_more, map-append, append-nil}
use Rattle.std.proofs.lemmas.Bool.{le-ltb, ne_eqb, eq-eqb}
use Rattle.std.proofs.lemmas.List.Elements.{filter-append}
use Rattle.std.specs.Prelude.{cond, filter, not, ◌==◌, if◌then◌else◌}
use Rattle.jlr_machine.specs.declared.machine.Job.{Job}
use Rattle.jlr_machine.specs.declared.machine.Resource.{Resource}
use Rattle.jlr_machine.specs.declared.machine.Binding.{Binding}
use Rattle.jlr_machine.specs.Lookups.{with_job, with_resource, bound, same_name}

-- it is put behind those before it
pub pushed_more : {X : Type 0} (xs : List X) (i : ℕ) (x : X) (before now new : List X) → i < length xs → x ≡ slice_index_or xs i x
    → now ≡ before ++ take i xs → new ≡ now ++ x ∷ [] → new ≡ before ++ take (i + 1) xs
pushed_more {X} xs i x before now new h e n a =
    a ∙ ap {A = List X} {B = List X} (λ l. l ++ x ∷ []) n ∙ append_assoc before (take i xs) (x ∷ [])
    ∙ ap {A = List X} {B = List X} (λ l. before ++ l)
    (sym (take_more xs i x h ∙ ap {A = X} {B = List X} (λ y. take i xs ++ y ∷ []) (sym e)))

-- what it is mapped to is put behind those before it
pub mapped_more : {X Y : Type 0} (f : X → Y) (xs : List X) (i : ℕ) (x : X) (now new : List Y) → i < length xs → x ≡ slice_index_or xs i x
    → now ≡ map f (take i xs) → new ≡ now ++ f x ∷ [] → new ≡ map f (take (i + 1) xs)
mapped_more {X} {Y} f xs i x now new h e n a =
    a ∙ ap {A = List Y} {B = List Y} (λ l. l ++ f x ∷ []) n
    ∙ sym (ap {A = List X} {B = List Y} (map f) (take_more xs i x h ∙ ap {A = X} {B = List X} (λ y. take i xs ++ y ∷ []) (sym e))
    ∙ map-append f (take i xs) (x ∷ []))

-- it is passed, and the rest is still to be changed
pub passed_more : {X : Type 0} (f : List X → List X) (xs : List X) (i : ℕ) (x : X) (now new whole : List X) → i < length xs
    → x ≡ slice_index_or xs i x → f (x ∷ drop (i + 1) xs) ≡ x ∷ f (drop (i + 1) xs) → now ++ f (drop i xs) ≡ whole → new ≡ now ++ x ∷ []
    → new ++ f (drop (i + 1) xs) ≡ whole
passed_more {X} f xs i x now new whole h e step n a =
    ap {A = List X} {B = List X} (λ l. l ++ f (drop (i + 1) xs)) a ∙ append_assoc now (x ∷ []) (f (drop (i + 1) xs))
    ∙ ap {A = List X} {B = List X} (λ l. now ++ l) (sym step)
    ∙ ap {A = List X} {B = List X} (λ l. now ++ f l) (sym (drop_more xs i x h ∙ ap {A = X} {B = List X} (λ y. y ∷ drop (i + 1) xs) (sym e)))
    ∙ n

pub job_passed : (x job : Job) (rest : List Job) → x.action ≤ job.action → with_job (x ∷ rest) job ≡ x ∷ with_job rest job
job_passed x job rest h =
    ap {A = Bool} {B = List Job} (λ b. if b then job ∷ x ∷ rest else x ∷ with_job rest job) (le-ltb job.action x.action h)

pub resource_passed : (x resource : Resource) (rest : List Resource) → x.rid ≤ resource.rid
    → with_resource (x ∷ rest) resource ≡ x ∷ with_resource rest resource
resource_passed x resource rest h = ap {A = Bool} {B = List Resource}
    (λ b. if b then resource ∷ x ∷ rest else x ∷ with_resource rest resource) (le-ltb resource.rid x.rid h)

pub name_passed : (x : Binding) (name : List ℕ) (slot : ℕ) (rest : List Binding) → same_name x.name name ≡ false
    → bound (x ∷ rest) name slot ≡ x ∷ bound rest name slot
name_passed x name slot rest h =
    ap {A = Bool} {B = List Binding} (λ b. if b then record { name = name; slot = slot } ∷ rest else x ∷ bound rest name slot) h

pub differs : (a b : ℕ) → (a ≡ b → ⊥) → not (a == b) ≡ true
differs a b h = ap not (ne_eqb a b h)

pub agrees : (a b : ℕ) → a ≡ b → not (a == b) ≡ false
agrees a b h = ap not (eq-eqb a b h)

module _ {X : Type 0} (p : X → Bool) where
  further : (xs : List X) (i : ℕ) (x : X) → i < length xs → x ≡ slice_index_or xs i x → filter p (take (i + 1) xs) ≡ filter p (take i xs)
      ++ cond (p x) (x ∷ []) []
  further xs i x h e = ap {A = List X} {B = List X} (filter p)
      (take_more xs i x h ∙ ap {A = X} {B = List X} (λ y. take i xs ++ y ∷ []) (sym e)) ∙ filter-append p (take i xs) (x ∷ [])

  -- it is kept
  pub kept_more : (xs : List X) (i : ℕ) (x : X) (now new : List X) → i < length xs → x ≡ slice_index_or xs i x → p x ≡ true
      → now ≡ filter p (take i xs) → new ≡ now ++ x ∷ [] → new ≡ filter p (take (i + 1) xs)
  kept_more xs i x now new h e k n a =
      a ∙ ap {A = List X} {B = List X} (λ l. l ++ x ∷ []) n
      ∙ sym (further xs i x h e ∙ ap {A = Bool} {B = List X} (λ b. filter p (take i xs) ++ cond b (x ∷ []) []) k)

  -- it is left out
  pub left_more : (xs : List X) (i : ℕ) (x : X) (now new : List X) → i < length xs → x ≡ slice_index_or xs i x → p x ≡ false
      → now ≡ filter p (take i xs) → new ≡ now → new ≡ filter p (take (i + 1) xs)
  left_more xs i x now new h e k n a =
      a ∙ n ∙ sym (further xs i x h e ∙ ap {A = Bool} {B = List X} (λ b. filter p (take i xs) ++ cond b (x ∷ []) []) k
      ∙ append-nil (filter p (take i xs)))
