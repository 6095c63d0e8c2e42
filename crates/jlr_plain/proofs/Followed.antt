-- What was seen stays as it is behind an entry that adds no root, and stays closed behind each.
use Rattle.std.proofs.Common.{◌≡◌, ℕ, ◌<◌, Bool, true, false, cond, ◌&&◌, ◌||◌, List, [], ◌∷◌, inl, inr, length, filter, refl, sym, ◌∙◌, ap}
use Rattle.std.proofs.Common.{subst, Option, Some, None, is_none}
use Rattle.std.proofs.lemmas.Bool.{both_ways, cases_Bool, and_parts, or_cases, or_left}
use Rattle.jlr_machine.specs.declared.machine.Machine.{Machine}
use Rattle.jlr_machine.specs.declared.entry.Entry.{Entry}
use Rattle.jlr_machine.specs.declared.entry.Collected.{Collected}
use Rattle.jlr_machine.specs.declared.ask.Ask.{Ask}
use Rattle.jlr_machine.specs.declared.ask.Answer.{Answer}
use Rattle.jlr_machine.specs.declared.ask.Answer.TheVariants.{Refused}
use Rattle.jlr_machine.specs.Objects.{◌∋◌, ◌∈◌}
use Rattle.jlr_machine.specs.Edges.{roots, edges_from}
use Rattle.jlr_machine.specs.Edges.Chain.{UpToSoft}
use Rattle.jlr_machine.specs.Reachable.{IsReached}
use Rattle.jlr_machine.specs.ReachSet.{reach_set, up_to}
use Rattle.jlr_machine.specs.Run.{IsLegal, apply, done, carried, with_collection, now_seen, seen_with}
use Rattle.jlr_machine.specs.WellFormed.{IsWellFormed, IsImage}
use Rattle.jlr_laws.specs.Laws.{IsWithinHeap}
use Rattle.jlr_laws.proofs.Sets.{nothing, in_front, in_rest}
use Rattle.jlr_laws.proofs.Clearing.{edge_from}
use Rattle.jlr_laws.proofs.Agree.{carried as carried_over}
use Rattle.jlr_laws.proofs.Empty.{well_formed_within}
use Rattle.jlr_laws.proofs.Law.{legal_kept}
use Rattle.jlr_laws.proofs.LawProofs.{rounds_find_what_paths_reach}
use Rattle.jlr_laws.proofs.UpToDate.{seen_stays_up_to_date}
use Rattle.jlr_histories.proofs.Seen.{now_seen_gives, reached_is_seen, seen_is_seen, none_seen}
use Rattle.jlr_histories.proofs.Growing.{goes_on_in, GoesOnIn}
use Rattle.jlr_histories.proofs.Marking.{entry_adds, reached_more, reached_base}
use Rattle.jlr_machine.specs.Refusals.{is_refusal}
use Rattle.jlr_plain.specs.Following.{SeenIsFollowed, IsWellFollowed, IsNext, adds_no_root, keeps_seen}
use Rattle.jlr_plain.proofs.Small.{IsSmall, small, small_same}

filter_agree : (p q : ℕ → Bool) (xs : List ℕ) → ((s : ℕ) → s ∈ xs → p s ≡ q s) → filter p xs ≡ filter q xs
filter_agree p q [] h = refl
filter_agree p q (x ∷ xs) h =
    ap {A = Bool} {B = List ℕ} (λ b. cond b (x ∷ filter p xs) (filter p xs)) (h x (in_front x x xs refl))
    ∙ ap {A = List ℕ} {B = List ℕ} (λ l. cond (q x) (x ∷ l) l) (filter_agree p q xs (λ s m. h s (in_rest s x xs m)))

same_tests : (a b : Bool) → (a ≡ true → b ≡ true) → (b ≡ true → a ≡ true) → a ≡ b
same_tests true b h k = sym (h refl)
same_tests false true h k = k refl
same_tests false false h k = refl

chosen : (b : Bool) (l : List ℕ) → b ≡ true → elim b as (λ _. List ℕ) [ true ↦ l | false ↦ [] ] ≡ l
chosen true l e = refl
chosen false l e = absurd (both_ways false refl e)

now_seen_open : (n : Machine) → n.cycle_open ≡ true
    → now_seen n ≡ seen_with n.seen (reach_set UpToSoft n.objects (roots n)) (length n.objects)
now_seen_open n e = chosen n.cycle_open (seen_with n.seen (reach_set UpToSoft n.objects (roots n)) (length n.objects)) e

-- ---- Behind an ask that adds no root

module _ (m d : Machine) (f : SeenIsFollowed m) (on : m.cycle_open ≡ true) (within : IsWithinHeap m.objects (roots m))
    (after : IsWithinHeap d.objects (roots d)) (is : IsSmall m d) where
  reached_seen : (s : ℕ) → IsReached UpToSoft m.objects (roots m) s → s ∈ m.seen
  reached_seen s r = subst (λ l. s ∈ l) (sym f.up_to_date) (reached_is_seen m within s on r)

  root_seen : (s : ℕ) → s ∈ roots m → s ∈ m.seen
  root_seen s h = reached_seen s (reached_base m (roots m) s h)

  base_seen : (s : ℕ) → s ∈ roots d → s ∈ m.seen
  base_seen s h = elim (is.base s h) [ inl root ↦ root_seen s root | inr seen ↦ seen ]

  edge_seen : (x y : ℕ) → x ∈ m.seen → y ∈ edges_from UpToSoft d.objects x → y ∈ m.seen
  edge_seen x y h e = elim (is.edges x y e) [
    | inl was ↦ f.closed x y h was
    | inr to ↦ elim to [ inl before ↦ root_seen y before | inr now ↦ base_seen y now ]
  ]

  all_seen : (s : ℕ) → IsReached UpToSoft d.objects (roots d) s → s ∈ m.seen
  all_seen s r = carried_over UpToSoft d.objects (roots d) (λ x. x ∈ m.seen)
      (λ x y h e. edge_seen x y h (edge_from UpToSoft d.objects x y e)) base_seen s r

  abbrev then : ℕ → Bool
  then s = (d.seen ∋ s) || (reach_set UpToSoft d.objects (roots d) ∋ s)

  abbrev before : ℕ → Bool
  before s = (m.seen ∋ s) || (reach_set UpToSoft m.objects (roots m) ∋ s)

  same_seen : (s : ℕ) → then s ≡ before s
  same_seen s =
      same_tests (then s) (before s)
      (λ h. or_left (m.seen ∋ s) (reach_set UpToSoft m.objects (roots m) ∋ s)
      (elim (or_cases (d.seen ∋ s) (reach_set UpToSoft d.objects (roots d) ∋ s) h) [
        | inl was ↦ subst (λ l. s ∈ l) is.seen was
        | inr r ↦ all_seen s ((rounds_find_what_paths_reach UpToSoft d.objects (roots d) after s).0 r)
      ]))
      (λ h. or_left (d.seen ∋ s) (reach_set UpToSoft d.objects (roots d) ∋ s)
      (subst (λ l. s ∈ l) (sym is.seen)
      (elim (or_cases (m.seen ∋ s) (reach_set UpToSoft m.objects (roots m) ∋ s) h) [
        | inl was ↦ was
        | inr r ↦ reached_seen s ((rounds_find_what_paths_reach UpToSoft m.objects (roots m) within s).0 r)
      ])))

  pub nothing_new : now_seen d ≡ d.seen
  nothing_new =
      now_seen_open d (is.still ∙ on)
      ∙ filter_agree then before (up_to 0 (length d.objects)) (λ s h. same_seen s)
      ∙ ap {A = ℕ} {B = List ℕ} (λ n. filter before (up_to 0 n)) is.cells
      ∙ sym (now_seen_open m on) ∙ sym f.up_to_date ∙ sym is.seen

-- ---- Behind an entry

small_carried : (m : Machine) (ask : Ask) (a : Answer) (fresh : List ℕ) → (is_refusal a || adds_no_root m ask) ≡ true
    → IsSmall m (carried m ask a fresh)
small_carried m ask (Refused by) fresh e = small_same m
small_carried m ask a fresh e = small m ask a fresh e

not_collected : (o : Option Collected) (m : Machine) → is_none o ≡ true → with_collection m o ≡ m
not_collected None m e = refl
not_collected (Some c) m e = absurd (both_ways false refl e)

small_done : (m : Machine) (e : Entry) → keeps_seen m e ≡ true → IsSmall m (done m e)
small_done m e k =
    let both = and_parts (m.cycle_open && is_none e.choice.collected) (is_refusal e.answer || adds_no_root m e.ask) k in
    let none = (and_parts m.cycle_open (is_none e.choice.collected) both.0).1 in
    subst (λ (n : Machine). IsSmall m (carried n e.ask e.answer e.choice.fresh)) (sym (not_collected e.choice.collected m none))
    (small_carried m e.ask e.answer e.choice.fresh both.1)

pub seen_is_kept : (m : Machine) (e : Entry) → IsWellFormed m → SeenIsFollowed m → IsLegal m e → keeps_seen m e ≡ true
    → now_seen (done m e) ≡ (done m e).seen
seen_is_kept m e w f legal k =
    let both = and_parts (m.cycle_open && is_none e.choice.collected) (is_refusal e.answer || adds_no_root m e.ask) k in
    let on = (and_parts m.cycle_open (is_none e.choice.collected) both.0).0 in
    nothing_new m (done m e) f on (well_formed_within m w) (well_formed_within (apply m e) (legal_kept m e w legal)) (small_done m e k)

-- ---- What was seen stays closed

module _ (m : Machine) (e : Entry) (w : IsWellFormed m) (f : SeenIsFollowed m) (legal : IsLegal m e) where
  within_then : IsWithinHeap (done m e).objects (roots (done m e))
  within_then = well_formed_within (apply m e) (legal_kept m e w legal)

  was_open : (x : ℕ) → x ∈ m.seen → m.cycle_open ≡ true
  was_open x h = elim (cases_Bool m.cycle_open) [ inl on ↦ on | inr shut ↦ nothing x (subst (λ l. x ∈ l) (w.seen_in_cycle shut) h) ]

  stays_in : (x : ℕ) → (done m e).cycle_open ≡ true → x ∈ m.seen → x ∈ now_seen (done m e)
  stays_in x still h =
      let on : GoesOnIn m (done m e) = goes_on_in m e legal still in
      seen_is_seen (done m e) x still (subst (λ l. x ∈ l) (sym on.seen) h) (subst (λ cells. x < cells) (sym on.cells) (w.seen_within x h))

  from_seen : (x y : ℕ) → (done m e).cycle_open ≡ true → x ∈ m.seen → y ∈ edges_from UpToSoft (done m e).objects x → y ∈ now_seen (done m e)
  from_seen x y still h edge = elim (entry_adds m e legal still x y edge) [
    | inl was ↦ stays_in y still (f.closed x y h was)
    | inr to ↦ elim to [
      | inl root ↦ stays_in y still (subst (λ l. y ∈ l) (sym f.up_to_date)
          (reached_is_seen m (well_formed_within m w) y (was_open x h) (reached_base m (roots m) y root)))
      | inr now ↦ reached_is_seen (done m e) within_then y still (reached_base (done m e) (roots (done m e)) y now)
    ]
  ]

  stays_closed : (x y : ℕ) → x ∈ now_seen (done m e) → y ∈ edges_from UpToSoft (done m e).objects x → y ∈ now_seen (done m e)
  stays_closed x y h edge =
      let given = now_seen_gives (done m e) within_then x h in
      elim given.1 [
        | inl was ↦
            let on : GoesOnIn m (done m e) = goes_on_in m e legal given.0 in
            from_seen x y given.0 (subst (λ l. x ∈ l) on.seen was) edge
        | inr r ↦ reached_is_seen (done m e) within_then y given.0 (reached_more (done m e) (roots (done m e)) x y r edge)
      ]

  pub stays_followed : SeenIsFollowed (apply m e)
  stays_followed = record { up_to_date = seen_stays_up_to_date.1 m e; closed = stays_closed }

pub next_is_fit : (m n : Machine) (e : Entry) → IsWellFollowed m → IsLegal m e → n ≡ apply m e → IsNext m e n
next_is_fit m n e f legal is =
    record {
      legal = legal;
      applied = is;
      fit =
          subst IsWellFollowed (sym is) (record {
            formed = legal_kept m e f.formed legal;
            followed = stays_followed m e f.formed f.followed
                legal;
          });
    }

pub image_is_fit : (m : Machine) → IsImage m → IsWellFollowed m
image_is_fit m i =
    let none : m.seen ≡ [] = i.well_formed.seen_in_cycle i.no_cycle in
    record {
      formed = i.well_formed;
      followed = record { up_to_date = none ∙ sym (none_seen m i.no_cycle); closed = λ x y h e. nothing x (subst (λ l. x ∈ l) none h) };
    }
