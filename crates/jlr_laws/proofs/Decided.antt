-- Which collections are legal is decided.
use Rattle.std.proofs.Common.{◌≡◌, ℕ, ◌<◌, Bool, true, false, not, ◌&&◌, ◌||◌, Decides, ◌↔◌, IsTrue, List, [], ◌∷◌, length, refl, sym, ◌∙◌}
use Rattle.std.proofs.Common.{ap, subst, Option, Some, None, is_some}
use Rattle.std.specs.List.{list_all}
use Rattle.std.proofs.lemmas.Bool.{both_ways, and_parts, and_from, not-true, not_from_false}
use Rattle.std.proofs.lemmas.Bool.Decides.{Decides-and}
use Rattle.jlr_machine.specs.declared.object.Object.{Object}
use Rattle.jlr_machine.specs.Objects.{Heap, at, ◌∋◌, ◌∈◌, is_distinct, is_rising, some_and, any_referent}
use Rattle.jlr_machine.specs.Edges.{Chain, edges_from, roots}
use Rattle.jlr_machine.specs.Reachable.{IsReached}
use Rattle.jlr_machine.specs.Collection.{is_ready}
use Rattle.jlr_machine.specs.ReachSet.{reach_set}
use Rattle.jlr_machine.specs.Edges.Chain.{Strong, UpToSoft}
use Rattle.jlr_laws.specs.Laws.{IsWithinHeap, LosesReferent, only}
use Rattle.jlr_laws.specs.Deciding.{holds_all, is_closed_set, goes_out, loses_referent, hands_over, CollectionsAreDecided}
use Rattle.jlr_laws.specs.Deciding.{BackgroundIsDecided}
use Rattle.jlr_laws.specs.Deciding.{ClearingIsDecided, are_objects}
use Rattle.jlr_laws.proofs.Sets.{in_front, in_rest, all_gives}
use Rattle.jlr_laws.proofs.Paths.{reached_sound, reached_complete}
use Rattle.jlr_laws.proofs.Clearing.{edge_from}
use Rattle.jlr_laws.proofs.Agree.{narrow, carried, at_base, one_edge_more, reached_wider}
use Rattle.jlr_laws.proofs.Only.{length-only, within_only, inside_forth, inside_back}
use Rattle.jlr_laws.proofs.LawProofs.{comes_down_to_cutting_off, background_comes_down}

-- ---- Tests over lists

all_from : (q : ℕ → Bool) (xs : List ℕ) → ((s : ℕ) → s ∈ xs → q s ≡ true) → list_all q xs ≡ true
all_from q [] h = refl
all_from q (x ∷ xs) h = and_from (q x) (list_all q xs) (h x (in_front x x xs refl)) (all_from q xs (λ s m. h s (in_rest s x xs m)))

abbrev Holds : (ℕ → Type 0) → List ℕ → Type 0
Holds P xs = (s : ℕ) → s ∈ xs → P s

Decides-all : (q : ℕ → Bool) (P : ℕ → Type 0) (xs : List ℕ) → ((s : ℕ) → Decides (q s) (P s)) → Decides (list_all q xs) (Holds P xs)
Decides-all q P xs each = (
  (λ h s m. (each s).0 (all_gives q xs s h m)),
  (λ h. all_from q xs (λ s m. (each s).1 (h s m))),
)

Decides-in : (xs : List ℕ) (s : ℕ) → Decides (xs ∋ s) (s ∈ xs)
Decides-in xs s = ((λ h. h), (λ h. h))

pub Decides-true : (b : Bool) → Decides b (IsTrue b)
Decides-true b = ((λ h. h), (λ h. h))

Decides-holds_all : (kept slots : List ℕ) → Decides (holds_all kept slots) ((s : ℕ) → s ∈ slots → s ∈ kept)
Decides-holds_all kept slots = Decides-all (λ s. kept ∋ s) (λ s. s ∈ kept) slots (Decides-in kept)

pub Decides-three : {P Q R : Type 0} (a b c : Bool) → Decides a P → Decides b Q → Decides c R → Decides (a && b && c) (P × Q × R)
Decides-three a b c p q r =
    let all = Decides-and (a && b) c (Decides-and a b p q) r in
    ((λ h. let x = all.0 h in (x.0.0, x.0.1, x.1)), (λ x. all.1 ((x.0, x.1), x.2)))

pub Decides-four : {P Q R S : Type 0} (a b c d : Bool) → Decides a P → Decides b Q → Decides c R → Decides d S
    → Decides (a && b && c && d) (P × Q × R × S)
Decides-four a b c d p q r s =
    let all = Decides-and (a && b && c) d (Decides-and (a && b) c (Decides-and a b p q) r) s in
    ((λ h. let x = all.0 h in (x.0.0.0, x.0.0.1, x.0.1, x.1)), (λ x. all.1 (((x.0, x.1), x.2), x.3)))

abbrev IsStronglyClosed : Heap → List ℕ → Type 0
IsStronglyClosed heap kept = (x y : ℕ) → x ∈ kept → y ∈ edges_from Strong heap x → y ∈ kept

Decides-closed : (heap : Heap) (kept : List ℕ) → Decides (is_closed_set heap kept) (IsStronglyClosed heap kept)
Decides-closed heap kept =
    let d = Decides-all (λ x. holds_all kept (edges_from Strong heap x)) (λ x. (y : ℕ) → y ∈ edges_from Strong heap x → y ∈ kept) kept
    (λ x. Decides-holds_all kept (edges_from Strong heap x)) in
    ((λ h x y m e. d.0 h x m y e), (λ h. d.1 (λ x m y e. h x y m e)))

-- ---- Who loses a referent

goes_out_gives : (heap : Heap) (kept : List ℕ) (s : ℕ) (o : Object) → s ∈ kept → at heap s ≡ Some o → is_ready o ≡ true → (r : Option ℕ)
    → any_referent o ≡ r → some_and (λ x. not (kept ∋ x)) r ≡ true → LosesReferent heap kept s
goes_out_gives heap kept s o m e ready None f h = absurd (both_ways false refl h)
goes_out_gives heap kept s o m e ready (Some x) f h = (m, (o, x), e, ready, f, not-true (kept ∋ x) h)

loses_at : (heap : Heap) (kept : List ℕ) (s : ℕ) (p : Option Object) → s ∈ kept → at heap s ≡ p → some_and (goes_out kept) p ≡ true
    → LosesReferent heap kept s
loses_at heap kept s None m e h = absurd (both_ways false refl h)
loses_at heap kept s (Some o) m e h =
    let parts = and_parts (is_ready o) (some_and (λ x. not (kept ∋ x)) (any_referent o)) h in
    goes_out_gives heap kept s o m e parts.0 (any_referent o) refl parts.1

Decides-loses : (heap : Heap) (kept : List ℕ) (s : ℕ) → Decides (loses_referent heap kept s) (LosesReferent heap kept s)
Decides-loses heap kept s = (
  (λ h. let parts = and_parts (kept ∋ s) (some_and (goes_out kept) (at heap s)) h in loses_at heap kept s (at heap s) parts.0 refl parts.1),
  (λ (m, (o, x), e, ready, f, n). and_from (kept ∋ s) (some_and (goes_out kept) (at heap s)) m
      (ap (some_and (goes_out kept)) e ∙ and_from (is_ready o) (some_and (λ x. not (kept ∋ x)) (any_referent o)) ready
      (ap (some_and (λ x. not (kept ∋ x))) f ∙ not_from_false (kept ∋ x) n))),
)

implied : (a c : Bool) → (not a || c) ≡ true → a ≡ true → c ≡ true
implied true c h p = h
implied false c h p = absurd (both_ways false refl p)

implies : (a c : Bool) → (a ≡ true → c ≡ true) → (not a || c) ≡ true
implies true c h = h refl
implies false c h = refl

-- what `hands_over` tells
pub record HandsOver (heap : Heap) (kept pending : List ℕ) : Type 0 where
  pub pended : (s : ℕ) → (s ∈ pending) ↔ LosesReferent heap kept s
  pub once : IsTrue (is_distinct pending)
  pub rising : IsTrue (is_rising kept)

Decides-hands_over : (heap : Heap) (kept pending : List ℕ) → Decides (hands_over heap kept pending) (HandsOver heap kept pending)
Decides-hands_over heap kept pending =
    let one = Decides-all (loses_referent heap kept) (LosesReferent heap kept) pending (Decides-loses heap kept) in
    let test : ℕ → Bool = λ s. not (loses_referent heap kept s) || (pending ∋ s) in
    let two : Decides (list_all test kept) ((s : ℕ) → s ∈ kept → LosesReferent heap kept s → s ∈ pending) = (
      (λ h s m l. implied (loses_referent heap kept s) (pending ∋ s) (all_gives test kept s h m) ((Decides-loses heap kept s).1 l)),
      (λ h. all_from test kept (λ s m. implies (loses_referent heap kept s) (pending ∋ s) (λ l. h s m ((Decides-loses heap kept s).0 l)))),
    ) in
    let four = Decides-four (list_all (loses_referent heap kept) pending) (list_all test kept) (is_distinct pending) (is_rising kept) one
    two (Decides-true (is_distinct pending)) (Decides-true (is_rising kept)) in (
      (λ h. let p = four.0 h in record { pended = λ s. (p.0 s, λ l. p.1 s l.0 l); once = p.2; rising = p.3 }),
      (λ r. four.1 ((λ s m. (r.pended s).0 m), (λ s m l. (r.pended s).1 l), r.once, r.rising)),
    )

-- ---- What is reached

pub Decides-inside : (chain : Chain) (heap : Heap) (kept B : List ℕ) → IsWithinHeap heap B → (s : ℕ)
    → Decides (reach_set chain (only kept heap) B ∋ s) (IsReached chain (only kept heap) B s)
Decides-inside chain heap kept B w s =
    let base : (s : ℕ) → s ∈ B → s < length (only kept heap) = λ s b. subst (λ n. s < n) (sym (length-only kept heap)) (w.base s b) in (
      reached_sound chain (only kept heap) B s,
      reached_complete chain (only kept heap) B
          (narrow chain (only kept heap) B (within_only heap kept w.edges)) base s,
    )

-- ---- Collections

pub collections_are_decided : CollectionsAreDecided
collections_are_decided heap B kept pending w =
    let law = comes_down_to_cutting_off heap B kept pending w in
    let inside = Decides-all (λ s. reach_set UpToSoft (only kept heap) B ∋ s) (IsReached UpToSoft (only kept heap) B) kept
    (Decides-inside UpToSoft heap kept B w) in
    let four =
    Decides-four (holds_all kept B) (is_closed_set heap kept) (holds_all (reach_set UpToSoft (only kept heap) B) kept)
    (hands_over heap kept pending)
    (Decides-holds_all kept B) (Decides-closed heap kept) inside (Decides-hands_over heap kept pending) in (
      (λ h. let p = four.0 h in law.1 (record {
        holds_base = p.0;
        closed = p.1;
        inside = p.2;
        pended = p.3.pended;
        once = p.3.once;
        rising = p.3.rising;
      })),
      (λ c. let k = law.0 c in four.1 (k.holds_base, k.closed, k.inside, record { pended = k.pended; once = k.once; rising = k.rising })),
    )

Decides-objects : (heap : Heap) (slots : List ℕ) → Decides (are_objects heap slots) ((s : ℕ) → s ∈ slots → IsTrue (is_some (at heap s)))
Decides-objects heap slots =
    Decides-all (λ s. is_some (at heap s)) (λ s. IsTrue (is_some (at heap s))) slots (λ s. Decides-true (is_some (at heap s)))

pub background_is_decided : BackgroundIsDecided
background_is_decided m kept pending w i =
    let law = background_comes_down m kept pending w i in
    let four =
    Decides-four (holds_all m.seen kept && are_objects m.objects kept) (holds_all kept (roots m)) (is_closed_set m.objects kept)
    (hands_over m.objects kept pending)
    (Decides-and (holds_all m.seen kept) (are_objects m.objects kept) (Decides-holds_all m.seen kept) (Decides-objects m.objects kept))
    (Decides-holds_all kept (roots m)) (Decides-closed m.objects kept) (Decides-hands_over m.objects kept pending) in (
      (λ h. let p = four.0 h in law.1 (record {
        seen = p.0.0;
        objects = p.0.1;
        holds_roots = p.1;
        closed = p.2;
        pended = p.3.pended;
        once = p.3.once;
        rising = p.3.rising;
      })),
      (λ c. let k =
          law.0 c in four.1 ((k.seen, k.objects), k.holds_roots, k.closed, record { pended = k.pended; once = k.once; rising = k.rising })),
    )

-- what is strongly reached is reached inside a closed set
strongly_inside : (heap : Heap) (B kept : List ℕ) → ((s : ℕ) → s ∈ B → s ∈ kept) → IsStronglyClosed heap kept → (s : ℕ)
    → IsReached Strong heap B s → (s ∈ kept) × IsReached Strong (only kept heap) B s
strongly_inside heap B kept all_kept closed =
    carried Strong heap B (λ s. (s ∈ kept) × IsReached Strong (only kept heap) B s)
    (λ x y p e. (
      closed x y p.0 (edge_from Strong heap x y e),
      one_edge_more Strong (only kept heap) B x y p.1 (inside_forth Strong heap kept x y p.0 e),
    ))
    (λ s b. (all_kept s b, at_base Strong (only kept heap) B s b))

-- inside or not
out_of : (heap : Heap) (B kept : List ℕ) (s : ℕ) → IsReached Strong (only kept heap) B s → IsReached Strong heap B s
out_of heap B kept = carried Strong (only kept heap) B (IsReached Strong heap B)
    (λ x y r e. one_edge_more Strong heap B x y r (inside_back Strong heap kept x y e).1) (at_base Strong heap B)

softly_too : (heap : Heap) (B : List ℕ) (s : ℕ) → IsReached Strong heap B s → IsReached UpToSoft heap B s
softly_too heap B s = reached_wider Strong UpToSoft heap B s (λ k e. absurd (both_ways false refl e))

pub clearing_is_decided : ClearingIsDecided
clearing_is_decided m kept pending w =
    let law = comes_down_to_cutting_off m.objects (roots m) kept pending w in
    let strong = Decides-all (λ s. reach_set Strong (only kept m.objects) (roots m) ∋ s) (IsReached Strong (only kept m.objects) (roots m))
    kept (Decides-inside Strong m.objects kept (roots m) w) in
    let four =
    Decides-four (holds_all kept (roots m)) (is_closed_set m.objects kept) (holds_all (reach_set Strong (only kept m.objects) (roots m))
    kept)
    (hands_over m.objects kept pending)
    (Decides-holds_all kept (roots m)) (Decides-closed m.objects kept) strong (Decides-hands_over m.objects kept pending) in (
      (λ h.
          let p = four.0 h in
          record {
            full =
                law.1
                (record {
                  holds_base = p.0;
                  closed = p.1;
                  inside = λ s k. softly_too (only kept m.objects) (roots m) s (p.2 s k);
                  pended = p.3.pended;
                  once = p.3.once;
                  rising = p.3.rising;
                });
            strongly = λ s. (
              (λ k. out_of m.objects (roots m) kept s (p.2 s k)),
              (λ r. (strongly_inside m.objects (roots m) kept p.0 p.1 s r).0),
            );
          }),
      (λ c.
          let k = law.0 c.full in
          four.1 (
            k.holds_base,
            k.closed,
            (λ s h. (strongly_inside m.objects (roots m) kept k.holds_base k.closed s
                ((c.strongly s).0 h)).1),
            record { pended = k.pended; once = k.once; rising = k.rising },
          )),
    )
