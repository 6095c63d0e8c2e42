-- Lemmas on all slots of a heap, and on what was seen.
use Rattle.std.proofs.Common.{◌≡◌, ℕ, zero, suc, ◌+◌, ◌<◌, ◌≤◌, Bool, ◌||◌, List, [], ◌∷◌, ◌++◌, length, filter, refl, sym, ◌∙◌, ap, subst}
use Rattle.std.proofs.Common.{arith, Option, None, cond}
use Rattle.std.proofs.lemmas.Bool.{cond-true}
use Rattle.jlr_machine.specs.declared.object.Object.{Object}
use Rattle.jlr_machine.specs.Objects.{Heap, ◌∋◌, ◌∈◌}
use Rattle.jlr_machine.specs.Edges.Chain.{UpToSoft}
use Rattle.jlr_machine.specs.ReachSet.{up_to, reach_set}
use Rattle.std.proofs.lemmas.List.Elements.{filter-append}
use Rattle.jlr_machine.specs.Run.{seen_with}
use Rattle.jlr_laws.specs.Laws.{places_kept, only}
use Rattle.jlr_laws.proofs.Sets.{up_to_in}
use Rattle.jlr_plain_collections.specs.Marks.{has_mark}

-- ---- All slots

slots_next : (from n k : ℕ) → k ≡ from + n → up_to from (suc n) ≡ up_to from n ++ k ∷ []
slots_next from zero k e = let same : from ≡ k = omega (arith, e) in ap {A = ℕ} {B = List ℕ} (λ x. x ∷ []) same
slots_next from (suc n) k e = ap {A = List ℕ} {B = List ℕ} (λ l. from ∷ l) (slots_next (suc from) n k (omega (arith, e)))

pub slots_more : (n : ℕ) → up_to 0 (n + 1) ≡ up_to 0 n ++ n ∷ []
slots_more n = let next : suc n ≡ n + 1 = omega arith in subst (λ m. up_to 0 m ≡ up_to 0 n ++ n ∷ []) next (slots_next 0 n n (omega arith))

places_all : (kept : List ℕ) (n : ℕ) (heap : Heap) → ((s : ℕ) → n ≤ s → s < n + length heap → s ∈ kept) → places_kept kept n heap ≡ heap
places_all kept n [] h = refl
places_all kept n (o ∷ heap) h =
    ap {A = Option Object} {B = Heap} (λ p. p ∷ places_kept kept (suc n) heap)
    (cond-true (kept ∋ n) o None (h n (omega arith) (omega arith)))
    ∙ ap {A = Heap} {B = Heap} (λ l. o ∷ l) (places_all kept (suc n) heap (λ s a b. h s (omega (arith, a)) (omega (arith, b))))

-- all slots keep the whole heap
pub only_all : (heap : Heap) → only (up_to 0 (length heap)) heap ≡ heap
only_all heap = places_all (up_to 0 (length heap)) 0 heap (λ s a b. up_to_in 0 (length heap) s a (omega (arith, b)))

-- ---- Filters

pub filter_same : (p q : ℕ → Bool) (xs : List ℕ) → ((s : ℕ) → p s ≡ q s) → filter p xs ≡ filter q xs
filter_same p q [] h = refl
filter_same p q (x ∷ xs) h =
    ap {A = Bool} {B = List ℕ} (λ b. cond b (x ∷ filter p xs) (filter p xs)) (h x)
    ∙ ap {A = List ℕ} {B = List ℕ} (λ l. cond (q x) (x ∷ l) l) (filter_same p q xs h)

pub slot_pushed : (i : ℕ) (now new : List ℕ) → now ≡ up_to 0 i → new ≡ now ++ i ∷ [] → new ≡ up_to 0 (i + 1)
slot_pushed i now new n a = a ∙ ap {A = List ℕ} {B = List ℕ} (λ l. l ++ i ∷ []) n ∙ sym (slots_more i)

pub slot_filtered : (p : ℕ → Bool) (i : ℕ) (now new : List ℕ) → now ≡ filter p (up_to 0 i) → new ≡ now ++ cond (p i) (i ∷ []) []
    → new ≡ filter p (up_to 0 (i + 1))
slot_filtered p i now new n a =
    a ∙ ap {A = List ℕ} {B = List ℕ} (λ l. l ++ cond (p i) (i ∷ []) []) n
    ∙ sym (ap {A = List ℕ} {B = List ℕ} (filter p) (slots_more i) ∙ filter-append p (up_to 0 i) (i ∷ []))

-- marks that are what is reached
pub seen_by_marks : (seen reach : List ℕ) (marks : List Bool) (n : ℕ) → ((s : ℕ) → has_mark marks s ≡ (reach ∋ s))
    → filter (λ s. (seen ∋ s) || has_mark marks s) (up_to 0 n) ≡ seen_with seen reach n
seen_by_marks seen reach marks n h =
    filter_same (λ s. (seen ∋ s) || has_mark marks s) (λ s. (seen ∋ s) || (reach ∋ s)) (up_to 0 n) (λ s. ap (λ b. (seen ∋ s) || b) (h s))

-- what was marked among all slots is what is reached
pub roots_marked : (heap : Heap) (B base kept : List ℕ) (marks passed : List Bool)
    → base ≡ B → kept ≡ up_to 0 (length heap) → passed ≡ marks
    → ((s : ℕ) → has_mark marks s ≡ (reach_set UpToSoft (only kept heap) base ∋ s))
    → (s : ℕ) → has_mark passed s ≡ (reach_set UpToSoft heap B ∋ s)
roots_marked heap B base kept marks passed b k p h s =
    ap {A = List Bool} {B = Bool} (λ x. has_mark x s) p ∙ h s
    ∙ ap {A = List ℕ} {B = Bool} (λ x. reach_set UpToSoft (only x heap) base ∋ s) k
    ∙ ap {A = Heap} {B = Bool} (λ x. reach_set UpToSoft x base ∋ s) (only_all heap)
    ∙ ap {A = List ℕ} {B = Bool} (λ x. reach_set UpToSoft heap x ∋ s) b

pub seen_found : (seen reach found : List ℕ) (marks passed : List Bool) (n m : ℕ) (out : List ℕ)
    → found ≡ seen → passed ≡ marks → n ≡ m
    → ((s : ℕ) → has_mark marks s ≡ (reach ∋ s))
    → out ≡ filter (λ s. (found ∋ s) || has_mark passed s) (up_to 0 n)
    → out ≡ seen_with seen reach m
seen_found seen reach found marks passed n m out f p l h a =
    a
    ∙ ap {A = List ℕ} {B = List ℕ} (λ x. filter (λ s. (x ∋ s) || has_mark passed s) (up_to 0 n)) f
    ∙ ap {A = List Bool} {B = List ℕ} (λ x. filter (λ s. (seen ∋ s) || has_mark x s) (up_to 0 n)) p
    ∙ ap {A = ℕ} {B = List ℕ} (λ x. filter (λ s. (seen ∋ s) || has_mark marks s) (up_to 0 x)) l
    ∙ seen_by_marks seen reach marks m h
