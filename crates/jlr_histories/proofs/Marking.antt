-- A core that has marked something goes on standing for each machine for which it stands.
use Rattle.std.proofs.Common.{◌≡◌, ℕ, zero, suc, ◌<◌, arith, true, false, List, [], ◌∷◌, ◌++◌, length, ◌⊎◌, inl, inr, refl, sym, ◌∙◌, ap}
use Rattle.std.proofs.Common.{subst, Option, Some, None}
use Rattle.std.proofs.lemmas.Bool.{both_ways}
use Rattle.jlr_types.specs.declared.Refusal.{Refusal}
use Rattle.jlr_types.specs.declared.RefKind.{RefKind}
use Rattle.jlr_types.specs.declared.RefKind.TheVariants.{Soft, Weak, Phantom}
use Rattle.jlr_machine.specs.declared.machine.Machine.{Machine}
use Rattle.jlr_machine.specs.declared.ask.Ask.{Ask}
use Rattle.jlr_machine.specs.declared.ask.Answer.{Answer}
use Rattle.jlr_machine.specs.declared.ask.Answer.TheVariants.{Refused}
use Rattle.jlr_machine.specs.Chosen.{Chosen}
use Rattle.jlr_machine.specs.declared.entry.Collected.{Collected}
use Rattle.jlr_machine.specs.declared.entry.Entry.{Entry}
use Rattle.jlr_machine.specs.Objects.{Heap, ◌∈◌}
use Rattle.jlr_machine.specs.Edges.{roots, edges_from}
use Rattle.jlr_machine.specs.Edges.Chain.{UpToSoft, UpToPhantom}
use Rattle.jlr_machine.specs.Reachable.{IsReached, IsPath}
use Rattle.jlr_machine.specs.Collection.{after_collection}
use Rattle.jlr_machine.specs.Run.{IsLegal, apply, done, now_seen, MayCollect, with_collection, carried, no_choice, is_free, IsFresh}
use Rattle.jlr_machine.specs.Run.IsLegal.{carried_out, refused, heap_full, out_of_memory}
use Rattle.jlr_machine.specs.WellFormed.{IsWellFormed}
use Rattle.jlr_machine.specs.StandsFor.{StandsFor}
use Rattle.jlr_laws.specs.Laws.{IsWithinHeap}
use Rattle.jlr_laws.proofs.Sets.{all_gives}
use Rattle.jlr_laws.proofs.Clearing.{in_append, in_left, in_right, edge_gives, edge_from, takes}
use Rattle.jlr_laws.proofs.Empty.{well_formed_within}
use Rattle.jlr_laws.proofs.Law.{legal_kept}
use Rattle.jlr_histories.specs.CycleLaws.{with_seen, MarksFollow, GoesOnMarking}
use Rattle.jlr_histories.proofs.Seen.{reached_is_seen, seen_is_seen, none_seen}
use Rattle.jlr_histories.proofs.Legal.{legal_when_more_was_seen}
use Rattle.jlr_histories.proofs.Left.{leaves_the_same}
use Rattle.jlr_histories.proofs.Growing.{goes_on_in, carried_shut, collects_for_no_begin, GoesOnIn, collected_shut}
use Rattle.jlr_histories.proofs.Added.{adds_edges}

-- ---- Paths one edge longer

path_more : (m : Machine) (x : ℕ) (path : List ℕ) (y z : ℕ) → IsPath UpToSoft m.objects x path y → z ∈ edges_from UpToSoft m.objects y
    → IsPath UpToSoft m.objects x (path ++ z ∷ []) z
path_more m x [] y z p e = (subst (λ u. z ∈ edges_from UpToSoft m.objects u) (sym p) e, refl)
path_more m x (u ∷ path) y z p e = (p.0, path_more m u path y z p.1 e)

pub reached_more : (m : Machine) (base : List ℕ) (y z : ℕ) → IsReached UpToSoft m.objects base y → z ∈ edges_from UpToSoft m.objects y
    → IsReached UpToSoft m.objects base z
reached_more m base y z r e = (r.0, r.1, (r.2.0 ++ z ∷ [], path_more m r.0 r.2.0 y z r.2.1 e))

pub reached_base : (m : Machine) (base : List ℕ) (y : ℕ) → y ∈ base → IsReached UpToSoft m.objects base y
reached_base m base y h = (y, h, ([], refl))

pub along : (m : Machine) (S : ℕ → Type 0) → ((x y : ℕ) → S x → y ∈ edges_from UpToSoft m.objects x → S y) → (x : ℕ) (path : List ℕ) (y : ℕ)
    → S x → IsPath UpToSoft m.objects x path y → S y
along m S closed x [] y s p = subst S p s
along m S closed x (z ∷ path) y s p = along m S closed z path y (closed x z s p.0) p.1

-- ---- What an entry adds, where the cycle is open afterwards

abbrev pub AddsNoMore : Machine → Machine → Type 0
AddsNoMore m n = (x y : ℕ) → y ∈ edges_from UpToSoft n.objects x → (y ∈ edges_from UpToSoft m.objects x) ⊎ ((y ∈ roots m) ⊎ (y ∈ roots n))

carried_adds : (m : Machine) (ask : Ask) (a : Answer) (fresh : List ℕ) → ((s : ℕ) → s ∈ fresh → s < length m.objects)
    → AddsNoMore m (carried m ask a fresh)
carried_adds m ask (Refused by) fresh within = λ x y h. inl h
carried_adds m ask a fresh within = adds_edges m ask a fresh within

done_adds : (m : Machine) (o : Option Collected) (ask : Ask) (a : Answer) (fresh : List ℕ) → MayCollect m ask o
    → ((s : ℕ) → s ∈ fresh → s < length (with_collection m o).objects) → (carried (with_collection m o) ask a fresh).cycle_open ≡ true
    → AddsNoMore m (carried (with_collection m o) ask a fresh)
done_adds m None ask a fresh may within e = carried_adds m ask a fresh within
done_adds m (Some c) ask a fresh may within e =
    absurd (both_ways _ (carried_shut (after_collection m c.kept c.pending) ask a fresh (collects_for_no_begin m ask c may) refl) e)

unchanged : (m : Machine) (e : Entry) (by : Refusal) → e.answer ≡ Refused by → e.choice ≡ no_choice → done m e ≡ m
unchanged m e by answers nothing = ap (λ (c : Chosen). carried (with_collection m c.collected) e.ask e.answer c.fresh) nothing
    ∙ ap (λ a. carried m e.ask a []) answers

free_below : (heap : Heap) (s : ℕ) → is_free heap s ≡ true → s < length heap
free_below [] s h = absurd (both_ways false refl h)
free_below (o ∷ heap) zero h = omega arith
free_below (o ∷ heap) (suc s) h = omega (arith, free_below heap s h)

fresh_below : (heap : Heap) (cells : ℕ) (fresh : List ℕ) → IsFresh heap cells fresh → (s : ℕ) → s ∈ fresh → s < length heap
fresh_below heap cells fresh f s h = free_below heap s (all_gives (is_free heap) fresh s f.free h)

-- of a legal entry
pub entry_adds : (m : Machine) (e : Entry) → IsLegal m e → (done m e).cycle_open ≡ true → AddsNoMore m (done m e)
entry_adds m e (carried_out c) open_after =
    done_adds m e.choice.collected e.ask e.answer e.choice.fresh c.collection (fresh_below _ _ _ c.fresh) open_after
entry_adds m e (refused c) open_after = subst (AddsNoMore m) (sym (unchanged m e c.by c.answers c.nothing)) (λ x y h. inl h)
entry_adds m e (heap_full c) open_after =
    absurd (both_ways (done m e).cycle_open (collected_shut m e c.clearing _ c.answers c.collects) open_after)
entry_adds m e (out_of_memory c) open_after = subst (AddsNoMore m) (sym (unchanged m e _ c.answers c.nothing)) (λ x y h. inl h)

all_kinds : (k : RefKind) → takes UpToPhantom k ≡ true
all_kinds Soft = refl
all_kinds Weak = refl
all_kinds Phantom = refl

soft_in_all : (heap : Heap) (x y : ℕ) → y ∈ edges_from UpToSoft heap x → y ∈ edges_from UpToPhantom heap x
soft_in_all heap x y h = elim (edge_gives UpToSoft heap x y h) [
  | inl s ↦ edge_from UpToPhantom heap x y (inl s)
  | inr r ↦ edge_from UpToPhantom heap x y (inr (r.0, all_kinds r.0, r.2))
]

-- ---- What roots and marked objects reach afterwards was seen

module _ (m : Machine) (e : Entry) (old new : List ℕ) (legal : IsLegal m e)
    (seen : m.cycle_open ≡ true → (s : ℕ) → IsReached UpToSoft m.objects (roots m ++ old) s → s ∈ m.seen)
    (below : (s : ℕ) → IsReached UpToSoft m.objects (roots m ++ old) s → s < length m.objects)
    (marks : MarksFollow m old (done m e) new)
    (within : IsWithinHeap (done m e).objects (roots (done m e))) where
  abbrev n : Machine
  n = done m e

  abbrev Old : ℕ → Type 0
  Old s = (m.cycle_open ≡ true) × IsReached UpToSoft m.objects (roots m ++ old) s

  abbrev New : ℕ → Type 0
  New s = IsReached UpToSoft n.objects (roots n) s

  closed : n.cycle_open ≡ true → (x y : ℕ) → Old x ⊎ New x → y ∈ edges_from UpToSoft n.objects x → Old y ⊎ New y
  closed still x y (inr r) h = inr (reached_more n (roots n) x y r h)
  closed still x y (inl r) h = elim (entry_adds m e legal still x y h) [
    | inl was ↦ inl (r.0, reached_more m (roots m ++ old) x y r.1 was)
    | inr to ↦ elim to [
      | inl before ↦ inl (r.0, reached_base m (roots m ++ old) y (in_left y (roots m) old before))
      | inr now ↦ inr (reached_base n (roots n) y now)
    ]
  ]

  starts : (x : ℕ) → x ∈ (roots n ++ new) → Old x ⊎ New x
  starts x h = elim (in_append x (roots n) new h) [
    | inl root ↦ inr (reached_base n (roots n) x root)
    | inr mark ↦ elim (marks x mark) [ inl o ↦ inl o | inr root ↦ inr (reached_base n (roots n) x root) ]
  ]

  in_seen : n.cycle_open ≡ true → (s : ℕ) → Old s ⊎ New s → s ∈ now_seen n
  in_seen still s (inr r) = reached_is_seen n within s still r
  in_seen still s (inl r) =
      let on : GoesOnIn m n = goes_on_in m e legal still in
      seen_is_seen n s still (subst (λ l. s ∈ l) (sym on.seen) (seen r.0 s r.1)) (subst (λ cells. s < cells) (sym on.cells) (below s r.1))

  pub stands_after : StandsFor (with_seen n []) new (apply m e)
  stands_after = record {
    same = refl;
    seen = λ still s r. in_seen still s (along n (λ x. Old x ⊎ New x) (closed still) r.0 r.2.0 s (starts r.0 r.1) r.2.1);
    outside = none_seen n;
  }

-- ---- All together

module _ (m : Machine) (old new slots : List ℕ) (e : Entry) (w : IsWellFormed (with_seen m []))
    (seen : m.cycle_open ≡ true → (s : ℕ) → IsReached UpToSoft m.objects (roots m ++ old) s → s ∈ m.seen)
    (below : (s : ℕ) → s ∈ old → s < length m.objects)
    (some : (s : ℕ) → s ∈ slots → (m.cycle_open ≡ true) × (s ∈ old))
    (fit : IsWellFormed (with_seen m slots)) where
  reached_below : (s : ℕ) → IsReached UpToSoft m.objects (roots m ++ old) s → s < length m.objects
  reached_below s r =
      let inside = well_formed_within (with_seen m []) w in
      along m (λ x. x < length m.objects) (λ x y l h. inside.edges x y (soft_in_all m.objects x y h)) r.0 r.2.0 s
      (elim (in_append r.0 (roots m) old r.1) [ inl root ↦ inside.base r.0 root | inr mark ↦ below r.0 mark ]) r.2.1

  slots_seen : (s : ℕ) → s ∈ slots → s ∈ m.seen
  slots_seen s h = let k = some s h in seen k.0 s (reached_base m (roots m ++ old) s (in_right s (roots m) old k.1))

  legal_here : IsLegal (with_seen m slots) e → IsLegal m e
  legal_here legal = legal_when_more_was_seen (with_seen m slots) m.seen e slots_seen legal

  within_after : IsLegal (with_seen m slots) e → IsWithinHeap (done m e).objects (roots (done m e))
  within_after legal =
      let kept : IsWellFormed (apply (with_seen m slots) e) = legal_kept (with_seen m slots) e fit legal in
      subst (λ (n : Machine). IsWithinHeap n.objects (roots n)) (leaves_the_same m slots e)
      (well_formed_within (apply (with_seen m slots) e) kept)

  goes_on : IsLegal (with_seen m slots) e → MarksFollow m old (done m e) new → IsLegal m e
      × StandsFor (with_seen (done m e) []) new (apply m e)
  goes_on legal marks = (legal_here legal, stands_after m e old new (legal_here legal) seen reached_below marks (within_after legal))

-- what was seen plays no part in roots
same_roots : (m : Machine) (slots : List ℕ) (e : Entry) → roots (done (with_seen m slots) e) ≡ roots (done m e)
same_roots m slots e = ap (λ (n : Machine). roots n) (leaves_the_same m slots e)

marks_same : (m : Machine) (old new : List ℕ) (e : Entry) → MarksFollow (with_seen m []) old (done (with_seen m []) e) new
    → MarksFollow m old (done m e) new
marks_same m old new e marks = λ s h. elim (marks s h) [ inl o ↦ inl o | inr root ↦ inr (subst (λ l. s ∈ l) (same_roots m [] e) root) ]

pub goes_on_marking : GoesOnMarking
goes_on_marking core m old new slots e w s below some fit legal marks =
    subst (λ (core : Machine). IsWellFormed core → ((s : ℕ) → s ∈ old → s < length core.objects)
    → ((s : ℕ) → s ∈ slots → (core.cycle_open ≡ true) × (s ∈ old)) → IsWellFormed (with_seen core slots)
    → IsLegal (with_seen core slots) e → MarksFollow core old (done core e) new → IsLegal m e
    × StandsFor (with_seen (done core e) []) new (apply m e)) (sym s.same)
    (λ w below some fit legal marks.
    subst (λ (n : Machine). IsLegal m e × StandsFor n new (apply m e)) (sym (leaves_the_same m [] e))
    (goes_on m old new slots e w s.seen below some fit legal (marks_same m old new e marks)))
    w below some fit legal marks
