-- The entries of a map, seen as bindings.
use Rattle.std.proofs.Common.{◌≡◌, ℕ, Bool, true, false, ◌&&◌, cond, List, [], ◌∷◌, Option, None, Some, nat_eq, slice_get, not, refl, sym}
use Rattle.std.proofs.Common.{subst, ◌∙◌, ap, true≢false, Ok, Err}
use Rattle.std.proofs.lemmas.Slice.Eq.{bytes_eq-Decides}
use Rattle.std.proofs.lemmas.Option.{slice_get-map}
use Rattle.std.specs.Prelude.{find, option_map}
use Rattle.std.specs.Bool.{one_answer}
use Rattle.std.specs.Result.{is_err, OnErr, OnOk}
use Rattle.std.specs.Prelude.{Result}
use Rattle.std.specs.Str.{bytes_eq}
use Rattle.std.specs.List.{AllByRecursion, IsDistinct}
use Rattle.std.specs.Map.{lookup, remove_entry, keys_of}
use Rattle.indexmap.specs.IndexMap.{insert_entry}
use Rattle.jlr_machine.specs.declared.machine.Binding.{Binding}
use Rattle.jlr_machine.specs.Lookups.{bound, same_name, slot_bound, unbound, bound_names}
use Rattle.jlr_roots.specs.Naming.{bindings_of, named}

-- texts are compared alike, whichever comes first
flipped : (xs ys : List ℕ) → bytes_eq xs ys ≡ bytes_eq ys xs
flipped xs ys = one_answer (bytes_eq xs ys) (bytes_eq ys xs) (bytes_eq-Decides xs ys)
    ((λ h. sym ((bytes_eq-Decides ys xs).0 h)), (λ e. (bytes_eq-Decides ys xs).1 (sym e)))

as_names : (xs ys : List ℕ) → bytes_eq xs ys ≡ same_name xs ys
as_names [] [] = refl
as_names [] (y ∷ ys) = refl
as_names (x ∷ xs) [] = refl
as_names (x ∷ xs) (y ∷ ys) = ap (λ b. nat_eq x y && b) (as_names xs ys)

compared : (xs ys : List ℕ) → bytes_eq xs ys ≡ same_name ys xs
compared xs ys = flipped xs ys ∙ as_names ys xs

abbrev binding : List ℕ × ℕ → Binding
binding e = record { name = e.0; slot = e.1 }

module _ (name : List ℕ) where
  abbrev there : List ℕ → Bool
  there k = bytes_eq name k

  same_text : (k : List ℕ) → same_name k name ≡ true → k ≡ name
  same_text k h = sym ((bytes_eq-Decides name k).0 (compared name k ∙ h))

  -- ---- The slot that is found

  passed_on : (b : Bool) (x : Binding) (o : Option Binding)
      → cond b (Some x.slot) (option_map (λ y. y.slot) o) ≡ option_map (λ y. y.slot) (cond b (Some x) o)
  passed_on true x o = refl
  passed_on false x o = refl

  pub found : (es : List (List ℕ × ℕ)) → lookup there es ≡ slot_bound (bindings_of es) name
  found [] = refl
  found (e ∷ es) =
      ap (λ b. cond b (Some e.1) (lookup there es)) (compared name e.0)
      ∙ ap (λ o. cond (same_name e.0 name) (Some e.1) o) (found es)
      ∙ passed_on (same_name e.0 name) (binding e) (find (λ b. same_name b.name name) (bindings_of es))

  -- ---- A name is bound

  pub placed : (es : List (List ℕ × ℕ)) (s : ℕ) → bindings_of (insert_entry bytes_eq es name s) ≡ bound (bindings_of es) name s
  placed [] s = refl
  placed (e ∷ es) s =
      ap (λ b. bindings_of (cond b ((e.0, s) ∷ es) (e ∷ insert_entry bytes_eq es name s))) (compared name e.0)
      ∙ elim (same_name e.0 name) as (λ b. same_name e.0 name ≡ b
      → bindings_of (cond b ((e.0, s) ∷ es) (e ∷ insert_entry bytes_eq es name s))
      ≡ cond b (binding (name, s) ∷ bindings_of es) (binding e ∷ bound (bindings_of es) name s)) [
        | true ↦ λ h. ap {A = List ℕ} {B = List Binding} (λ n. binding (n, s) ∷ bindings_of es) (same_text e.0 h)
        | false ↦ λ h. ap {A = List Binding} {B = List Binding} (λ l. binding e ∷ l) (placed es s)
      ] refl

  -- ---- A name is unbound

  without : (es : List (List ℕ × ℕ)) → AllByRecursion (λ y. bytes_eq name y ≡ false) (keys_of es)
      → bindings_of es ≡ unbound (bindings_of es) name
  without [] h = refl
  without (e ∷ es) h =
      ap {A = List Binding} {B = List Binding} (λ l. binding e ∷ l) (without es h.1)
      ∙ ap (λ b. cond (not b) (binding e ∷ unbound (bindings_of es) name) (unbound (bindings_of es) name))
      (sym (sym (compared name e.0) ∙ h.0))

  pub removed : (es : List (List ℕ × ℕ)) → IsDistinct bytes_eq (keys_of es)
      → bindings_of (remove_entry there es) ≡ unbound (bindings_of es) name
  unfolding IsDistinct
  removed [] d = refl
  removed (e ∷ es) d =
      ap (λ b. bindings_of (cond b es (e ∷ remove_entry there es))) (compared name e.0)
      ∙ elim (same_name e.0 name) as (λ b. same_name e.0 name ≡ b
      → bindings_of (cond b es (e ∷ remove_entry there es))
      ≡ cond (not b) (binding e ∷ unbound (bindings_of es) name) (unbound (bindings_of es) name)) [
        | true ↦ λ h. without es (subst (λ k. AllByRecursion (λ y. bytes_eq k y ≡ false) (keys_of es)) (same_text e.0 h) d.0)
        | false ↦ λ h. ap {A = List Binding} {B = List Binding} (λ l. binding e ∷ l) (removed es d.1)
      ] refl

-- ---- What a call says of its error, or of its value

pub on_err : {T E : Type 0} (r : Result T E) → is_err r ≡ true → (P : Type 0) → OnErr r P → P
on_err (Ok x) h P p = absurd (true≢false (sym h))
on_err (Err e) h P p = p

pub on_ok : {T E : Type 0} (r : Result T E) → is_err r ≡ false → (P : Type 0) → OnOk r P → P
on_ok (Ok x) h P p = p
on_ok (Err e) h P p = absurd (true≢false h)

-- ---- The slot at a place

composed : (o : Option (List ℕ × ℕ)) → option_map {T = Binding} (λ b. b.slot) (option_map binding o) ≡ option_map (λ e. e.1) o
composed None = refl
composed (Some e) = refl

pub slot_there : (es : List (List ℕ × ℕ)) (i : ℕ) → slice_get (named (bindings_of es)) i ≡ option_map (λ e. e.1) (slice_get es i)
slot_there es i = slice_get-map (λ b. b.slot) (bindings_of es) i ∙ ap (option_map {T = Binding} (λ b. b.slot)) (slice_get-map binding es i)
    ∙ composed (slice_get es i)

-- ---- The names of the entries

pub names_there : (es : List (List ℕ × ℕ)) → keys_of es ≡ bound_names (bindings_of es)
names_there [] = refl
names_there (e ∷ es) = ap (λ l. e.0 ∷ l) (names_there es)
