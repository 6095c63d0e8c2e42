-- Where a slot stands in a list.
use Rattle.std.proofs.Common.{◌≡◌, ℕ, zero, suc, ◌<◌, not, IsTrue, List, [], ◌∷◌, ◌++◌, Some, None, length, refl, sym, subst, ap, ◌∙◌}
use Rattle.std.proofs.Common.{slice_get, nat_eq, eq-eqb}
use Rattle.std.proofs.lemmas.Bool.{both_ways, and_parts, eqb-true, not-true}
use Rattle.jlr_machine.specs.Objects.{◌∈◌, ◌∋◌, is_distinct}
use Rattle.jlr_links.specs.declared.links.Ends.{Ends}
use Rattle.jlr_links.specs.Lists.{Lists, list_at}
use Rattle.jlr_links.specs.Walks.{AreLinked, ends_at, link, lists_in, members, walk, end_of}
use Rattle.jlr_links.proofs.Appending.{at_mapped, long_mapped, long_walk, positive}
use Rattle.jlr_links.proofs.Walking.{end_in}

-- ---- Lists

same_head : (x y : ℕ) (xs ys : List ℕ) → x ∷ xs ≡ y ∷ ys → x ≡ y
same_head x y xs ys e = cc

same_tail : (x y : ℕ) (xs ys : List ℕ) → x ∷ xs ≡ y ∷ ys → xs ≡ ys
same_tail x y xs ys e = cc

-- what comes after a slot in a list without repeats is another
apart_after : (before : List ℕ) (x : ℕ) (after : List ℕ) → IsTrue (is_distinct (before ++ x ∷ after)) → x ∈ after → ⊥
apart_after [] x after once h = both_ways (after ∋ x) (not-true (after ∋ x) (and_parts (not (after ∋ x)) (is_distinct after) once).0) h
apart_after (b ∷ before) x after once h =
    apart_after before x after (and_parts (not ((before ++ x ∷ after) ∋ b)) (is_distinct (before ++ x ∷ after)) once).1 h

-- ---- Walks

too_long : {P : Type 0} (before : List ℕ) (x : ℕ) (after : List ℕ) → [] ≡ before ++ x ∷ after → P
too_long [] x after e = absurd cc
too_long (b ∷ before) x after e = absurd cc

rest_of_walk : (next : List ℕ) (n s : ℕ) (before : List ℕ) (x : ℕ) (after : List ℕ) → walk next n s ≡ before ++ x ∷ after
    → after ≡ walk next (length after) (link next x)
rest_of_walk next zero s before x after e = too_long before x after e
rest_of_walk next (suc n) s [] x after e =
    let tail : walk next n (link next s) ≡ after = same_tail s x (walk next n (link next s)) after e in
    let long : length after ≡ n = ap length (sym tail) ∙ long_walk next n (link next s) in
    sym tail ∙ ap (λ z. walk next n (link next z)) (same_head s x (walk next n (link next s)) after e)
    ∙ ap (λ i. walk next i (link next x)) (sym long)
rest_of_walk next (suc n) s (b ∷ before) x after e =
    rest_of_walk next n (link next s) before x after (same_tail s b (walk next n (link next s)) (before ++ x ∷ after) e)

end_of_rest : (next : List ℕ) (n s : ℕ) (before : List ℕ) (x : ℕ) (after : List ℕ) → walk next (suc n) s ≡ before ++ x ∷ after
    → end_of next n s ≡ end_of next (length after) x
end_of_rest next n s [] x after e =
    let tail : walk next n (link next s) ≡ after = same_tail s x (walk next n (link next s)) after e in
    let long : length after ≡ n = ap length (sym tail) ∙ long_walk next n (link next s) in
    ap (end_of next n) (same_head s x (walk next n (link next s)) after e) ∙ ap (λ i. end_of next i x) (sym long)
end_of_rest next zero s (b ∷ before) x after e = too_long before x after (same_tail s b [] (before ++ x ∷ after) e)
end_of_rest next (suc n) s (b ∷ before) x after e =
    end_of_rest next n (link next s) before x after (same_tail s b (walk next (suc n) (link next s)) (before ++ x ∷ after) e)

-- ---- In a list

module _ (next : List ℕ) (ends : List Ends) (k : ℕ) (linked : AreLinked next ends) (x : ℕ) (before after : List ℕ)
    (here : members next ends k ≡ before ++ x ∷ after) where
  abbrev e : Ends
  e = ends_at ends k

  no_count : {P : Type 0} → e.count ≡ 0 → P
  no_count c = too_long before x after (sym (ap (λ n. walk next n e.first) c) ∙ here)

  by_count : e.count ≡ suc (positive e.count no_count).0
  by_count = (positive e.count no_count).1

  abbrev shorter : ℕ
  shorter = (positive e.count no_count).0

  rest : after ≡ walk next (length after) (link next x)
  rest = rest_of_walk next e.count e.first before x after here

  last_is : e.last ≡ end_of next (length after) x
  last_is = sym (linked.last k shorter by_count) ∙ end_of_rest next shorter e.first before x after
      (ap (λ n. walk next n e.first) (sym by_count) ∙ here)

  is_last : (l : List ℕ) → l ≡ walk next (length l) (link next x) → (x ∈ l → ⊥) → e.last ≡ end_of next (length l) x → x ≡ e.last
      → None ≡ slice_get l 0
  is_last [] walked apart last same = refl
  is_last (y ∷ l) walked apart last same = absurd (apart
      (subst (λ z. z ∈ (y ∷ l)) (sym (same ∙ last)) (subst (λ v. end_of next (length l) (link next x) ∈ v) (sym walked)
      (end_in next (length l) (link next x)))))

  is_not_last : (l : List ℕ) → l ≡ walk next (length l) (link next x) → e.last ≡ end_of next (length l) x → (x ≡ e.last → ⊥)
      → Some (link next x) ≡ slice_get l 0
  is_not_last [] walked last other = absurd (other (sym last))
  is_not_last (y ∷ l) walked last other =
      ap (λ z. Some z) (sym (same_head y (link next x) l (walk next (length l) (link next (link next x))) walked))

  apart : x ∈ after → ⊥
  apart = apart_after before x after (subst (λ l. IsTrue (is_distinct l)) here (linked.once k))

  pub at_the_end : x ≡ e.last → None ≡ slice_get after 0
  at_the_end same = is_last after rest apart last_is same

  pub before_the_end : (x ≡ e.last → ⊥) → Some (link next x) ≡ slice_get after 0
  before_the_end other = is_not_last after rest last_is other

-- ---- The front

pub some_front : (next : List ℕ) (ends : List Ends) (k : ℕ) → ((ends_at ends k).count ≡ 0 → ⊥)
    → Some (ends_at ends k).first ≡ slice_get (list_at (lists_in next ends) k) 0
some_front next ends k some =
    let p = positive (ends_at ends k).count some in
    sym (ap (λ l. slice_get l 0) (at_mapped next ends k ∙ ap (λ n. walk next n (ends_at ends k).first) p.1))

-- ---- As callers see the lists

-- what the lists of a column and their ends are seen as
abbrev pub seen : List ℕ → List Ends → Lists
seen next ends = record { lists = lists_in next ends; slots = length next }

pub within_ends : (next : List ℕ) (ends : List Ends) (v : Lists) (k : ℕ) → seen next ends ≡ v → k < length v.lists → k < length ends
within_ends next ends v k e h = subst (λ n. k < n) (long_mapped next ends) (subst (λ (w : Lists). k < length w.lists) (sym e) h)

list_seen : (next : List ℕ) (ends : List Ends) (v : Lists) (k : ℕ) → seen next ends ≡ v → list_at v.lists k ≡ members next ends k
list_seen next ends v k e = ap (λ (w : Lists). list_at w.lists k) (sym e) ∙ at_mapped next ends k

pub tells_empty : (next : List ℕ) (ends : List Ends) (v : Lists) (k : ℕ) (e : Ends) → seen next ends ≡ v → e ≡ ends_at ends k
    → (IsTrue (nat_eq e.count 0) → list_at v.lists k ≡ []) × (list_at v.lists k ≡ [] → IsTrue (nat_eq e.count 0))
tells_empty next ends v k e view read =
    let same : e.count ≡ (ends_at ends k).count = ap (λ (x : Ends). x.count) read in (
      (λ h. list_seen next ends v k view ∙ ap (λ n. walk next n (ends_at ends k).first) (sym same ∙ eqb-true e.count 0 h)),
      (λ none. eq-eqb e.count 0 (same ∙ sym (long_walk next (ends_at ends k).count (ends_at ends k).first)
          ∙ ap length (sym (list_seen next ends v k view) ∙ none))),
    )

pub tells_count : (next : List ℕ) (ends : List Ends) (v : Lists) (k : ℕ) (e : Ends) → seen next ends ≡ v → e ≡ ends_at ends k
    → e.count ≡ length (list_at v.lists k)
tells_count next ends v k e view read =
    ap (λ (x : Ends). x.count) read ∙ sym (ap length (list_seen next ends v k view)
    ∙ long_walk next (ends_at ends k).count (ends_at ends k).first)

pub tells_front : (next : List ℕ) (ends : List Ends) (v : Lists) (k : ℕ) (e : Ends) (x : ℕ) → seen next ends ≡ v → e ≡ ends_at ends k
    → (e.count ≡ 0 → ⊥) → x ≡ e.first → Some x ≡ slice_get (list_at v.lists k) 0
tells_front next ends v k e x view read some first =
    ap (λ y. Some y) (first ∙ ap (λ (z : Ends). z.first) read) ∙ some_front next ends k (λ c. some (ap (λ (z : Ends). z.count) read ∙ c))
    ∙ ap (λ (w : Lists). slice_get (list_at w.lists k) 0) view

pub slot_inside : (next : List ℕ) (ends : List Ends) (v : Lists) (k s : ℕ) → seen next ends ≡ v → AreLinked next ends
    → s ∈ list_at v.lists k → s < length next
slot_inside next ends v k s view linked h = linked.within k s (subst (λ l. s ∈ l) (list_seen next ends v k view) h)

module _ (next : List ℕ) (ends : List Ends) (v : Lists) (k : ℕ) (e : Ends) (s t : ℕ) (view : seen next ends ≡ v) (read : e ≡ ends_at ends k)
    (linked : AreLinked next ends) (same : t ≡ s) where
  last_read : e.last ≡ (ends_at ends k).last
  last_read = ap (λ (x : Ends). x.last) read

  pub tells_last : t ≡ e.last → (before after : List ℕ) → list_at v.lists k ≡ before ++ s ∷ after → None ≡ slice_get after 0
  tells_last last before after here =
      at_the_end next ends k linked s before after (sym (list_seen next ends v k view) ∙ here) (sym same ∙ last ∙ last_read)

  pub tells_next : (x : ℕ) → (t ≡ e.last → ⊥) → x ≡ link next s → (before after : List ℕ) → list_at v.lists k ≡ before ++ s ∷ after
      → Some x ≡ slice_get after 0
  tells_next x other following before after here =
      ap (λ y. Some y) following
      ∙ before_the_end next ends k linked s before after (sym (list_seen next ends v k view) ∙ here)
      (λ last. other (same ∙ last ∙ sym last_read))
