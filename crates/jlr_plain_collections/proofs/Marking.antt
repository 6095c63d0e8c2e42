-- What marking adds, slot by slot, until nothing is left to look at.
use Rattle.std.proofs.Common.{◌≡◌, ℕ, zero, suc, ◌+◌, ◌-◌, ◌<◌, ◌⊎◌, inl, inr, Bool, true, false, not, cond, List, [], ◌∷◌, ◌++◌, length}
use Rattle.std.proofs.Common.{take, get_or, set, replicate, refl, sym, ◌∙◌, ap, subst, arith, None, option_to_list}
use Rattle.std.specs.List.{flat_map}
use Rattle.std.proofs.lemmas.Bool.{both_ways, not-true}
use Rattle.std.proofs.lemmas.List.{take_more, length-replicate, length-append}
use Rattle.std.proofs.lemmas.List.Sums.{count_by-le-length}
use Rattle.jlr_machine.specs.Objects.{Heap, at, ◌∋◌, ◌∈◌}
use Rattle.jlr_machine.specs.Edges.{Chain, edges, edges_from}
use Rattle.jlr_machine.specs.Reachable.{IsReached}
use Rattle.jlr_machine.specs.ReachSet.{reach_set}
use Rattle.jlr_laws.specs.Laws.{IsWithinHeap, only}
use Rattle.jlr_plain_collections.specs.Marks.{has_mark, HasMark, marked_count, Greyed}
use Rattle.jlr_laws.proofs.Sets.{nothing, in_front, in_rest, in_cons}
use Rattle.jlr_plain_collections.proofs.Slow.{same_bools}
use Rattle.jlr_laws.proofs.Clearing.{edge_gives, edge_from, in_append, in_left, in_right}
use Rattle.jlr_laws.proofs.Agree.{one_edge_more, carried, at_base}
use Rattle.jlr_laws.proofs.Only.{at-only}
use Rattle.jlr_laws.proofs.Decided.{Decides-inside}

-- ---- Marks

set_same : (l : List Bool) (n : ℕ) → n < length l → set l n (get_or l n false) ≡ l
set_same [] n h = refl
set_same (b ∷ l) zero h = refl
set_same (b ∷ l) (suc n) h = ap (λ k. b ∷ k) (set_same l n (omega (arith, h)))

pub unmarked_at : (n s : ℕ) → has_mark (replicate n false) s ≡ false
unmarked_at zero s = refl
unmarked_at (suc n) zero = refl
unmarked_at (suc n) (suc s) = unmarked_at n s

pub marked_below : (marks : List Bool) (s : ℕ) → HasMark marks s → s < length marks
marked_below [] s m = absurd (both_ways false refl m)
marked_below (b ∷ marks) zero m = omega arith
marked_below (b ∷ marks) (suc s) m = let h = marked_below marks s m in omega (arith, h)

-- ---- Lists

pub in_taken : (slots : List ℕ) (i x s : ℕ) → i < length slots → x ≡ get_or slots i x → s ∈ take (i + 1) slots → (s ∈ take i slots)
    ⊎ (s ≡ x)
in_taken slots i x s h e m =
    elim (in_append s (take i slots) (x ∷ []) (subst (λ l. s ∈ l) (take_more slots i x h ∙ ap (λ y. take i slots ++ y ∷ []) (sym e)) m)) [
      | inl a ↦ inl a
      | inr b ↦ elim (in_cons s x [] b) [ inl same ↦ inr same | inr c ↦ nothing s c ]
    ]

pub taken_in : (slots : List ℕ) (i x s : ℕ) → i < length slots → x ≡ get_or slots i x → (s ∈ take i slots) ⊎ (s ≡ x)
    → s ∈ take (i + 1) slots
taken_in slots i x s h e m =
    subst (λ l. s ∈ l) (sym (take_more slots i x h ∙ ap (λ y. take i slots ++ y ∷ []) (sym e)))
    (elim m as (λ _. s ∈ (take i slots ++ x ∷ [])) [
      | inl a ↦ in_left s (take i slots) (x ∷ []) a
      | inr same ↦
          in_right s (take i slots) (x ∷ []) (in_front s x [] same)
    ])

pub at_in : (slots : List ℕ) (i x : ℕ) → i < length slots → x ≡ get_or slots i x → x ∈ slots
at_in [] i x h e = absurd (omega (arith, h))
at_in (y ∷ slots) zero x h e = in_front x y slots e
at_in (y ∷ slots) (suc i) x h e = in_rest x y slots (at_in slots i x (omega (arith, h)) e)

-- the last of a list, or in front of it
last_or : (s x : ℕ) (rest : List ℕ) → s ∈ (rest ++ x ∷ []) → (s ∈ rest) ⊎ (s ≡ x)
last_or s x rest m = elim (in_append s rest (x ∷ []) m) [
  | inl a ↦ inl a
  | inr b ↦ elim (in_cons s x [] b) [ inl same ↦ inr same | inr c ↦ nothing s c ]
]

-- ---- One slot

pub was_unmarked : (old : List Bool) (x : ℕ) (r : Bool) → r ≡ not (has_mark old x) → r ≡ true → has_mark old x ≡ false
was_unmarked old x r e t = not-true (has_mark old x) (sym e ∙ t)

pub was_marked : (old : List Bool) (x : ℕ) (r : Bool) → r ≡ not (has_mark old x) → r ≡ false → has_mark old x ≡ true
was_marked old x r e t = not_false (has_mark old x) (sym e ∙ t)
  where
    not_false : (b : Bool) → not b ≡ false → b ≡ true
    not_false true h = refl
    not_false false h = sym h

-- ---- The slots of a list

pub greyed_none : (T : ℕ → Type 0) (marks : List Bool) (todo : List ℕ) → ((s : ℕ) → ¬ (T s)) → Greyed T marks todo marks todo
greyed_none T marks todo none =
    record {
      long = refl;
      only = λ s m. inl m;
      stay = λ s m. m;
      added = λ s t. absurd (none s t);
      waiting = λ s m. m;
      listed = λ s m. inl m;
      fresh = λ s m. inl m;
      count = refl;
    }

-- for just the same slots
pub greyed_for : (T U : ℕ → Type 0) (old : List Bool) (before : List ℕ) (new : List Bool) (after : List ℕ) → ((s : ℕ) → T s → U s)
    → ((s : ℕ) → U s → T s) → Greyed T old before new after → Greyed U old before new after
greyed_for T U old before new after f g k =
    record {
      long = k.long;
      only = λ s m. elim (k.only s m) [ inl a ↦ inl a | inr t ↦ inr (f s t) ];
      stay = k.stay;
      added = λ s u. k.added s (g s u);
      waiting = k.waiting;
      listed = k.listed;
      fresh = k.fresh;
      count = k.count;
    }

pub greyed_more : (slots : List ℕ) (i x : ℕ) → i < length slots → x ≡ get_or slots i x
    → (old : List Bool) (before : List ℕ) (now : List Bool) (then : List ℕ) (new : List Bool) (after : List ℕ)
    → Greyed (λ s. s ∈ take i slots) old before now then → Greyed (λ s. s ≡ x) now then new after
    → Greyed (λ s. s ∈ take (i + 1) slots) old before new after
greyed_more slots i x h e old before now then new after p q =
    record {
      long = q.long ∙ p.long;
      only = λ s m. elim (q.only s m) [
        | inl b ↦ elim (p.only s b) [ inl a ↦ inl a | inr t ↦ inr (taken_in slots i x s h e (inl t)) ]
        | inr same ↦ inr (taken_in slots i x s h e (inr same))
      ];
      stay = λ s m. q.stay s (p.stay s m);
      added = λ s m. elim (in_taken slots i x s h e m) [ inl t ↦ q.stay s (p.added s t) | inr same ↦ q.added s same ];
      waiting = λ s m. q.waiting s (p.waiting s m);
      listed = λ s m. elim (q.listed s m) [
        | inl b ↦ elim (p.listed s b) [ inl a ↦ inl a | inr t ↦ inr (q.stay s t) ]
        | inr t ↦ inr t
      ];
      fresh = λ s m. elim (q.fresh s m) [
        | inl b ↦ elim (p.fresh s b) [ inl a ↦ inl a | inr t ↦ inr (q.waiting s t) ]
        | inr t ↦ inr t
      ];
      count = (let a = p.count in let b = q.count in omega (arith, a, b));
    }

-- ---- The edges of one slot in the heap with the kept objects alone

edges_kept : (chain : Chain) (heap : Heap) (kept : List ℕ) (x : ℕ) → (kept ∋ x) ≡ true
    → edges_from chain (only kept heap) x ≡ edges_from chain heap x
edges_kept chain heap kept x m =
    ap (λ o. flat_map (edges chain) (option_to_list o)) (at-only kept heap x ∙ ap (λ b. cond b (at heap x) None) m)

edges_gone : (chain : Chain) (heap : Heap) (kept : List ℕ) (x : ℕ) → (kept ∋ x) ≡ false → edges_from chain (only kept heap) x ≡ []
edges_gone chain heap kept x m =
    ap (λ o. flat_map (edges chain) (option_to_list o)) (at-only kept heap x ∙ ap (λ b. cond b (at heap x) None) m)

pub spreads : (chain : Chain) (heap : Heap) (kept : List ℕ) (x : ℕ) (slots : List ℕ) (old : List Bool) (before : List ℕ) (new : List Bool)
    (after : List ℕ) → (kept ∋ x) ≡ true → slots ≡ edges_from chain heap x → Greyed (λ s. s ∈ slots) old before new after
    → Greyed (λ s. s ∈ edges_from chain (only kept heap) x) old before new after
spreads chain heap kept x slots old before new after m e k =
    let same : slots ≡ edges_from chain (only kept heap) x = e ∙ sym (edges_kept chain heap kept x m) in
    greyed_for (λ s. s ∈ slots) (λ s. s ∈ edges_from chain (only kept heap) x) old before new after (λ s t. subst (λ l. s ∈ l) same t)
    (λ s t. subst (λ l. s ∈ l) (sym same) t) k

pub spreads_gone : (chain : Chain) (heap : Heap) (kept : List ℕ) (x : ℕ) (marks : List Bool) (todo : List ℕ) → (kept ∋ x) ≡ false
    → Greyed (λ s. s ∈ edges_from chain (only kept heap) x) marks todo marks todo
spreads_gone chain heap kept x marks todo m = greyed_none (λ s. s ∈ edges_from chain (only kept heap) x) marks todo
    (λ s t. nothing s (subst (λ l. s ∈ l) (edges_gone chain heap kept x m) t))

-- ---- Until nothing is left to look at

-- Marked is only what the chain reaches from B. The edges of what is marked lead to what is marked, but for the slots that were not looked
-- at
pub record IsMarking (chain : Chain) (heap : Heap) (B : List ℕ) (marks : List Bool) (todo : List ℕ) : Type 0 where
  pub long : length marks ≡ length heap
  pub sound : (s : ℕ) → HasMark marks s → IsReached chain heap B s
  pub base : (s : ℕ) → s ∈ B → HasMark marks s
  pub waiting : (s : ℕ) → s ∈ todo → HasMark marks s
  pub closed : (x s : ℕ) → HasMark marks x → s ∈ edges_from chain heap x → (x ∈ todo) ⊎ HasMark marks s

pub marking_begins : (chain : Chain) (heap : Heap) (B : List ℕ) (n : ℕ) (marks : List Bool) (todo : List ℕ) → n ≡ length heap
    → Greyed (λ s. s ∈ B) (replicate n false) [] marks todo → IsMarking chain heap B marks todo
marking_begins chain heap B n marks todo e m =
    record {
      long = m.long ∙ length-replicate n false ∙ e;
      sound = λ s k. elim (m.only s k) [
        | inl a ↦ absurd (both_ways (has_mark (replicate n false) s) (unmarked_at n s) a)
        | inr t ↦
            at_base chain heap B s t
      ];
      base = λ s b. m.added s b;
      waiting = λ s b. elim (m.listed s b) [ inl a ↦ nothing s a | inr t ↦ t ];
      closed = λ x s k f.
          elim (m.fresh x k) [ inl a ↦ absurd (both_ways (has_mark (replicate n false) x) (unmarked_at n x) a) | inr t ↦ inl t ];
    }

pub marking_goes_on : (chain : Chain) (heap : Heap) (B : List ℕ) (x : ℕ) (old : List Bool) (todo rest : List ℕ) (new : List Bool)
    (after : List ℕ) → todo ≡ rest ++ x ∷ [] → IsMarking chain heap B old todo
    → Greyed (λ s. s ∈ edges_from chain heap x) old rest new after → IsMarking chain heap B new after
marking_goes_on chain heap B x old todo rest new after t w g =
    let here : HasMark old x = w.waiting x (subst (λ l. x ∈ l) (sym t) (in_right x rest (x ∷ []) (in_front x x [] refl))) in
    record {
      long = g.long ∙ w.long;
      sound = λ s m. elim (g.only s m) [
        | inl b ↦ w.sound s b
        | inr e ↦ one_edge_more chain heap B x s (w.sound x here) (edge_gives chain heap x s e)
      ];
      base = λ s b. g.stay s (w.base s b);
      waiting = λ s m. elim (g.listed s m) [
        | inl b ↦ g.stay s (w.waiting s (subst (λ l. s ∈ l) (sym t) (in_left s rest (x ∷ []) b)))
        | inr k ↦ k
      ];
      closed = λ y s m e. elim (g.fresh y m) [
        | inl b ↦ elim (w.closed y s b e) [
          | inl k ↦ elim (last_or y x rest (subst (λ l. y ∈ l) t k)) [
            | inl r ↦ inl (g.waiting y r)
            | inr same ↦ inr (g.added s (subst (λ n. s ∈ edges_from chain heap n) same e))
          ]
          | inr k ↦ inr (g.stay s k)
        ]
        | inr k ↦ inl k
      ];
    }

pub fewer_left : (T : ℕ → Type 0) (n x : ℕ) (old : List Bool) (todo rest : List ℕ) (new : List Bool) (after : List ℕ) → length old ≡ n
    → todo ≡ rest ++ x ∷ [] → Greyed T old rest new after → (n - marked_count new) + length after < (n - marked_count old) + length todo
fewer_left T n x old todo rest new after long t g =
    let m = count_by-le-length (λ b. b) new in
    let l = g.long in
    let c = g.count in
    let k = ap length t ∙ length-append rest (x ∷ []) in
    omega (arith, m, l, c, k, long)

pub marking_ends : (chain : Chain) (heap : Heap) (kept B : List ℕ) (marks : List Bool) (todo : List ℕ) → todo ≡ [] → IsWithinHeap heap B
    → IsMarking chain (only kept heap) B marks todo → (s : ℕ) → has_mark marks s ≡ (reach_set chain (only kept heap) B ∋ s)
marking_ends chain heap kept B marks todo none w k s =
    let d = Decides-inside chain heap kept B w s in
    let closed : (x y : ℕ) → HasMark marks x → y ∈ edges_from chain (only kept heap) x → HasMark marks y =
    λ x y m e. elim (k.closed x y m e) [ inl t ↦ nothing x (subst (λ l. x ∈ l) none t) | inr b ↦ b ] in
    same_bools (has_mark marks s) (reach_set chain (only kept heap) B ∋ s) (λ m. d.1 (k.sound s m))
    (λ m. carried chain (only kept heap) B (HasMark marks) (λ x y h e. closed x y h (edge_from chain (only kept heap) x y e)) k.base s
    (d.0 m))
