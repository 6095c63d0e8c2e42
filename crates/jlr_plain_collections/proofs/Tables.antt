-- Marks that say which slots a list has.
use Rattle.std.proofs.Common.{◌≡◌, ℕ, zero, suc, ◌+◌, ◌<◌, inl, inr, Bool, true, false, not, ◌&&◌, List, [], ◌∷◌, length, take, drop}
use Rattle.std.proofs.Common.{get_or, set, replicate, refl, sym, ◌∙◌, ap, subst, arith, length-set}
use Rattle.std.proofs.lemmas.Bool.{cases_eq}
use Rattle.std.proofs.lemmas.List.{get_or-set_same, get_or-set_other}
use Rattle.jlr_machine.specs.Objects.{◌∋◌, is_distinct}
use Rattle.jlr_plain_collections.specs.Marks.{has_mark, IsTable}
use Rattle.jlr_laws.proofs.Sets.{in_front, in_rest, in_cons}
use Rattle.jlr_plain_collections.proofs.Slow.{same_bools}
use Rattle.jlr_plain_collections.proofs.Marking.{unmarked_at, in_taken, taken_in}

pub table_begins : (slots : List ℕ) (n : ℕ) (marks : List Bool) → marks ≡ replicate n false → IsTable (take 0 slots) marks
table_begins slots n marks e s h = ap (λ l. has_mark l s) e ∙ unmarked_at n s

pub table_more : (slots : List ℕ) (i x : ℕ) (now new : List Bool) → i < length slots → x ≡ get_or slots i x → IsTable (take i slots) now
    → new ≡ set now x true → IsTable (take (i + 1) slots) new
table_more slots i x now new h e t n s below =
    let long = ap length n ∙ length-set now x true in
    elim (cases_eq s x) [
      | inl same ↦
          ap (λ l. has_mark l s) n ∙ ap (has_mark (set now x true)) same
          ∙ get_or-set_same now x true false (omega (arith, below, long, same))
          ∙ sym (taken_in slots i x s h e (inr same))
      | inr other ↦
          ap (λ l. has_mark l s) n ∙ get_or-set_other now x s true false other ∙ t s (omega (arith, below, long))
          ∙ same_bools (take i slots ∋ s) (take (i + 1) slots ∋ s) (λ m. taken_in slots i x s h e (inl m))
          (λ m. elim (in_taken slots i x s h e m) [ inl a ↦ a | inr same ↦ absurd (other same) ])
    ]

-- ---- Slots that are all different, from the last on

pub record MarksRest (n : ℕ) (rest : List ℕ) (marks : List Bool) : Type 0 where
  pub long : length marks ≡ n
  pub table : IsTable rest marks
  pub once : is_distinct rest ≡ true

drop_whole : (slots : List ℕ) → drop (length slots) slots ≡ []
drop_whole [] = refl
drop_whole (x ∷ slots) = drop_whole slots

drop_here : (slots : List ℕ) (i x : ℕ) → i < length slots → x ≡ get_or slots i x → drop i slots ≡ x ∷ drop (suc i) slots
drop_here [] i x h e = absurd (omega (arith, h))
drop_here (y ∷ slots) zero x h e = ap (λ k. k ∷ slots) (sym e)
drop_here (y ∷ slots) (suc i) x h e = drop_here slots i x (omega (arith, h)) e

drop_at : (slots : List ℕ) (i x : ℕ) → i < length slots → x ≡ get_or slots i x → drop i slots ≡ x ∷ drop (i + 1) slots
drop_at slots i x h e = let next : suc i ≡ i + 1 = omega arith in
    subst (λ n. drop i slots ≡ x ∷ drop n slots) next (drop_here slots i x h e)

pub rest_begins : (slots : List ℕ) (i : ℕ) (marks : List Bool) → i ≡ length slots → IsTable [] marks
    → MarksRest (length marks) (drop i slots) marks
rest_begins slots i marks l t =
    let none : drop i slots ≡ [] = ap (λ k. drop k slots) l ∙ drop_whole slots in
    record {
      long = refl;
      table = subst (λ r. IsTable r marks) (sym none) t;
      once = ap is_distinct none;
    }

rest_table : (rest : List ℕ) (x : ℕ) (now new : List Bool) → IsTable rest now → new ≡ set now x true → IsTable (x ∷ rest) new
rest_table rest x now new t n s below =
    let long = ap length n ∙ length-set now x true in
    elim (cases_eq s x) [
      | inl same ↦
          ap (λ l. has_mark l s) n ∙ ap (has_mark (set now x true)) same
          ∙ get_or-set_same now x true false (omega (arith, below, long, same))
          ∙ sym (in_front s x rest same)
      | inr other ↦
          ap (λ l. has_mark l s) n ∙ get_or-set_other now x s true false other ∙ t s (omega (arith, below, long))
          ∙ same_bools (rest ∋ s) ((x ∷ rest) ∋ s) (λ m. in_rest s x rest m)
          (λ m. elim (in_cons s x rest m) [ inl same ↦ absurd (other same) | inr later ↦ later ])
    ]

pub rest_more : (slots : List ℕ) (n i x : ℕ) (now new : List Bool) → i < length slots → x ≡ get_or slots i x → x < n
    → MarksRest n (drop (i + 1) slots) now → new ≡ set now x true → has_mark now x ≡ false → MarksRest n (drop i slots) new
rest_more slots n i x now new h e below r s un =
    let at = drop_at slots i x h e in
    let not_there : (drop (i + 1) slots ∋ x) ≡ false = sym (r.table x (subst (λ k. x < k) (sym r.long) below)) ∙ un in
    record {
      long = ap length s ∙ length-set now x true ∙ r.long;
      table = subst (λ l. IsTable l new) (sym at) (rest_table (drop (i + 1) slots) x now new r.table s);
      once = ap is_distinct at ∙ ap (λ b. not b && is_distinct (drop (i + 1) slots)) not_there ∙ r.once;
    }

not_once : (i : ℕ) (slots : List ℕ) → is_distinct (drop i slots) ≡ false → is_distinct slots ≡ false
not_once zero slots h = h
not_once (suc i) [] h = h
not_once (suc i) (x ∷ slots) h =
    ap (λ b. not (slots ∋ x) && b) (not_once i slots h) ∙ elim (slots ∋ x) as (λ b. (not b && false) ≡ false) [ true ↦ refl | false ↦ refl ]

pub rest_stops : (slots : List ℕ) (n i x : ℕ) (now : List Bool) → i < length slots → x ≡ get_or slots i x → x < n
    → MarksRest n (drop (i + 1) slots) now → has_mark now x ≡ true → false ≡ is_distinct slots
rest_stops slots n i x now h e below r on =
    let at = drop_at slots i x h e in
    let there : (drop (i + 1) slots ∋ x) ≡ true = sym (r.table x (subst (λ k. x < k) (sym r.long) below)) ∙ on in
    sym (not_once i slots (ap is_distinct at ∙ ap (λ b. not b && is_distinct (drop (i + 1) slots)) there))
