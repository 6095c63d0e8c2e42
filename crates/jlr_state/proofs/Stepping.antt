-- From what an event did to the machines for which the core stands.
use Rattle.std.proofs.Common.{◌≡◌, ℕ, ◌<◌, Bool, true, false, cond, List, [], ◌∷◌, ◌++◌, length, Option, Some, None, ◌⊎◌, inl, inr, refl}
use Rattle.std.proofs.Common.{sym, ◌∙◌, ap, subst, arith}
use Rattle.std.specs.List.{flat_map}
use Rattle.std.specs.Option.{option_to_list}
use Rattle.std.proofs.lemmas.Bool.{both_ways}
use Rattle.jlr_machine.specs.declared.machine.Machine.{Machine}
use Rattle.jlr_machine.specs.declared.ask.Ask.{Ask}
use Rattle.jlr_machine.specs.declared.ask.Ask.TheVariants.{Begin}
use Rattle.jlr_machine.specs.declared.ask.Answer.{Answer}
use Rattle.jlr_machine.specs.Chosen.{Chosen}
use Rattle.jlr_machine.specs.Objects.{Heap, at, is_rising, ◌∈◌}
use Rattle.jlr_machine.specs.Edges.{edges, edges_from, roots}
use Rattle.jlr_machine.specs.Edges.Chain.{UpToSoft}
use Rattle.jlr_machine.specs.Reachable.{IsPath, IsReached}
use Rattle.jlr_machine.specs.ReachSet.{up_to}
use Rattle.jlr_machine.specs.Run.{IsLegal, apply, done}
use Rattle.jlr_machine.specs.WellFormed.{IsWellFormed}
use Rattle.jlr_machine.specs.StandsFor.{StandsFor}
use Rattle.jlr_laws.proofs.Sets.{nothing, in_filter, filter_in, in_up_to, up_to_in}
use Rattle.jlr_laws.proofs.Clearing.{in_append, in_left, in_right}
use Rattle.jlr_laws.proofs.Frames.{place_within}
use Rattle.jlr_laws.proofs.SeenKept.{rising_filter, with_seen as fits_with_seen}
use Rattle.jlr_histories.specs.CycleLaws.{MarksFollow, with_seen}
use Rattle.jlr_histories.proofs.Left.{leaves_the_same}
use Rattle.jlr_histories.proofs.Growing.{opens_by_begin}
use Rattle.jlr_histories.proofs.Marking.{along, goes_on_marking, reached_base, reached_more}
use Rattle.jlr_histories.proofs.CoreStands.{core_kept}
use Rattle.jlr_marks.specs.Marking.{Marking, IsMarked, is_marked}
use Rattle.jlr_process.specs.Settling.{marked_below}
use Rattle.jlr_state.specs.State.{Meets, MeetsAsk, MeetsSeen, entry_of, is_collect, marked_in}
use Rattle.jlr_state.specs.Events.{StepsMachine, EntersLegally}
use Rattle.jlr_state.specs.Marks.{Begins, IsFromMarks, MarksReached}

-- a core's machine has nothing seen
abbrev pub IsUnseen : Machine → Type 0
IsUnseen m = with_seen m [] ≡ m

abbrev pub Left : Machine → Ask → Answer → Chosen → Machine → Type 0
Left m ask answer chosen n = n ≡ with_seen (done m (entry_of ask answer chosen)) []

-- nothing, or just what is marked
abbrev pub IsPicked : Machine → Marking → List ℕ → Type 0
IsPicked m marking slots = (slots ≡ []) ⊎ (slots ≡ marked_in m marking)

-- an ask is legal where nothing was seen, or, a Collect, where just what is marked was
abbrev pub IsLegalSome : Machine → Marking → Ask → Answer → Chosen → Type 0
IsLegalSome m marking ask answer chosen = (slots : List ℕ) × IsPicked m marking slots
    × IsLegal (with_seen m slots) (entry_of ask answer chosen)

when_met : (b : Bool) (m : Machine) (marking : Marking) (ask : Ask) (answer : Answer) (chosen : Chosen) (n : Machine) → IsUnseen m
    → IsUnseen n
    → (elim b as (λ _. Type 0) [ true ↦ MeetsSeen m marking ask answer chosen n | false ↦ Meets m ask answer chosen n ])
    → IsLegalSome m marking ask answer chosen × Left m ask answer chosen n
when_met true m marking ask answer chosen n before unseen s = ((marked_in m marking, inr refl, s.legal), s.applied)
when_met false m marking ask answer chosen n before unseen s = (
  ([], inl refl, subst (λ k. IsLegal k (entry_of ask answer chosen)) (sym before) s.legal),
  sym unseen
      ∙ ap {A = Machine} {B = Machine} (λ x. with_seen x []) s.applied,
)

pub met : (m : Machine) (marking : Marking) (ask : Ask) (answer : Answer) (chosen : Chosen) (n : Machine) → IsUnseen m → IsUnseen n
    → MeetsAsk m marking ask answer chosen n → IsLegalSome m marking ask answer chosen × Left m ask answer chosen n
met m marking ask answer chosen n before unseen s = when_met (is_collect ask) m marking ask answer chosen n before unseen s

-- ---- What is marked

marked_when : (b : Bool) (k : Marking) (n s : ℕ) → s ∈ cond b (marked_below k n) [] → (b ≡ true) × IsMarked k s × (s < n)
marked_when true k n s h = let f = in_filter (is_marked k) (up_to 0 n) s h in (refl, f.0, omega (arith, (in_up_to 0 n s f.1).1))
marked_when false k n s h = nothing s h

pub marked_gives : (m : Machine) (k : Marking) (s : ℕ) → s ∈ marked_in m k → (m.cycle_open ≡ true) × IsMarked k s × (s < length m.objects)
marked_gives m k s h = marked_when m.cycle_open k (length m.objects) s h

marked_from : (m : Machine) (k : Marking) (s : ℕ) → m.cycle_open ≡ true → IsMarked k s → s < length m.objects → s ∈ marked_in m k
marked_from m k s still on below =
    subst (λ b. s ∈ cond b (marked_below k (length m.objects)) []) (sym still)
    (filter_in (is_marked k) (up_to 0 (length m.objects)) s on (up_to_in 0 (length m.objects) s (omega arith) (omega (arith, below))))

marked_rise : (b : Bool) (k : Marking) (n : ℕ) → is_rising (cond b (marked_below k n) []) ≡ true
marked_rise true k n = rising_filter (is_marked k) 0 n
marked_rise false k n = refl

marked_closed : (b : Bool) (k : Marking) (n : ℕ) → b ≡ false → cond b (marked_below k n) [] ≡ []
marked_closed true k n e = absurd (both_ways true e refl)
marked_closed false k n e = refl

-- where just that was seen the machine is well formed
pub picked_fit : (m : Machine) (k : Marking) (slots : List ℕ) → IsWellFormed m → IsPicked m k slots → IsWellFormed (with_seen m slots)
picked_fit m k slots w (inl none) =
    subst (λ l. IsWellFormed (with_seen m l)) (sym none) (fits_with_seen m m.cycle_open [] w refl (λ s h. nothing s h) (λ _. refl))
picked_fit m k slots w (inr marks) =
    subst (λ l. IsWellFormed (with_seen m l)) (sym marks)
    (fits_with_seen m m.cycle_open (marked_in m k) w (marked_rise m.cycle_open k (length m.objects)) (λ s h. (marked_gives m k s h).2)
    (marked_closed m.cycle_open k (length m.objects)))

picked_marked : (m : Machine) (k : Marking) (slots : List ℕ) → IsPicked m k slots → (s : ℕ) → s ∈ slots → (m.cycle_open ≡ true)
    × (s ∈ marked_in m k)
picked_marked m k slots (inl none) s h = nothing s (subst (λ l. s ∈ l) none h)
picked_marked m k slots (inr marks) s h = let there = subst (λ l. s ∈ l) marks h in ((marked_gives m k s there).0, there)

-- ---- Well-formedness

pub well_formed_after : (m n : Machine) (marking : Marking) (ask : Option Ask) (answer : Option Answer) (chosen : Chosen) → IsUnseen m
    → IsUnseen n → IsWellFormed m → StepsMachine m marking ask answer chosen n → IsWellFormed n
well_formed_after m n marking (Some ask) (Some answer) chosen before unseen w s =
    let l = met m marking ask answer chosen n before unseen s in
    subst IsWellFormed (sym l.1) (core_kept m l.0.0 (entry_of ask answer chosen) (picked_fit m marking l.0.0 w l.0.1) l.0.2)
well_formed_after m n marking (Some ask) None chosen before unseen w s = absurd s
well_formed_after m n marking None (Some answer) chosen before unseen w s = absurd s
well_formed_after m n marking None None chosen before unseen w s = subst IsWellFormed (sym s.1) w

-- ---- Where roots and marks lead

source_within : (heap : Heap) (x y : ℕ) → y ∈ edges_from UpToSoft heap x → x < length heap
source_within heap x y h = elim (at heap x) as (λ o. at heap x ≡ o → y ∈ flat_map (edges UpToSoft) (option_to_list o) → x < length heap) [
  | None ↦ λ e h. nothing y h
  | Some o ↦ λ e h. place_within heap x o e
] refl h

start_within : (m : Machine) (x : ℕ) (path : List ℕ) (s : ℕ) → s < length m.objects → IsPath UpToSoft m.objects x path s
    → x < length m.objects
start_within m x [] s below p = subst (λ y. y < length m.objects) (sym p) below
start_within m x (z ∷ path) s below p = source_within m.objects x z p.0

reached_from : (m : Machine) (k : Marking) (s : ℕ) → m.cycle_open ≡ true → s < length m.objects → IsFromMarks m k s
    → IsReached UpToSoft m.objects (roots m ++ marked_in m k) s
reached_from m k s still below f = elim f.1 [
  | inl root ↦ (f.0, in_left f.0 (roots m) (marked_in m k) root, f.2)
  | inr mark ↦ (f.0, in_right f.0 (roots m) (marked_in m k) (marked_from m k f.0 still mark (start_within m f.0 f.2.0 s below f.2.1)), f.2)
]

marks_follow : (m n : Machine) (old new : Marking) (ask : Ask) (answer : Answer) (chosen : Chosen) (slots : List ℕ)
    → IsLegal (with_seen m slots) (entry_of ask answer chosen) → Left m ask answer chosen n → length n.objects ≡ length m.objects
    → MarksReached m old n new → Begins (Some ask) m n new
    → MarksFollow m (marked_in m old) (done m (entry_of ask answer chosen)) (marked_in n new)
marks_follow m n old new ask answer chosen slots legal left cells reached begins = λ s h.
    let e = entry_of ask answer chosen in
    let k = marked_gives n new s h in
    let below : s < length m.objects = omega (arith, k.2, cells) in
    let to_roots : s ∈ roots n → s ∈ roots (done m e) = subst (λ (x : Machine). s ∈ roots x) left in
    elim m.cycle_open as (λ b. m.cycle_open ≡ b → ((m.cycle_open ≡ true) × IsReached UpToSoft m.objects (roots m ++ marked_in m old) s)
    ⊎ (s ∈ roots (done m e))) [
      | true ↦ λ still.
          elim (reached k.0 s k.1) [ inl f ↦ inl (still, reached_from m old s still below f) | inr root ↦ inr (to_roots root) ]
      | false ↦ λ shut.
          let opened : (done (with_seen m slots) e).cycle_open ≡ true = ap (λ (x : Machine). x.cycle_open) (leaves_the_same m slots e)
          ∙ ap (λ (x : Machine). x.cycle_open) (sym left) ∙ k.0 in
          let is_begin : ask ≡ Begin = opens_by_begin (with_seen m slots) e legal opened shut in
          inr (to_roots (((begins (ap (λ (a : Ask). Some a) is_begin) shut).begun s).0 k.1))
    ] refl

-- ---- Standing for a machine

marked_more : (core m : Machine) (old new : Marking) → StandsFor core (marked_in core old) m → MarksReached core old core new
    → StandsFor core (marked_in core new) m
marked_more core m old new stands reached =
    subst (λ (c : Machine). ((s : ℕ) → m.cycle_open ≡ true → IsReached UpToSoft m.objects (roots m ++ marked_in c old) s → s ∈ m.seen)
    → MarksReached c old c new → StandsFor c (marked_in c new) m) (sym stands.same)
    (λ seen reached.
    let c = with_seen m [] in
    let base = roots m ++ marked_in c old in
    let start : (x : ℕ) → m.cycle_open ≡ true → x ∈ (roots m ++ marked_in c new) → IsReached UpToSoft m.objects base x =
    λ x still h. elim (in_append x (roots m) (marked_in c new) h) [
      | inl root ↦ reached_base m base x (in_left x (roots m) (marked_in c old) root)
      | inr mark ↦
          let k = marked_gives c new x mark in
          elim (reached k.0 x k.1) [
            | inl f ↦ reached_from c old x k.0 k.2 f
            | inr root ↦
                reached_base m base x (in_left x (roots m) (marked_in c old) root)
          ]
    ] in
    record {
      same = refl;
      seen = λ still s r. seen s still
          (along m (IsReached UpToSoft m.objects base) (reached_more m base) r.0 r.2.0 s (start r.0 still r.1) r.2.1);
      outside = stands.outside;
    })
    (λ s still r. stands.seen still s r) reached

pub enters : (core after_it : Machine) (old new : Marking) (ask : Option Ask) (answer : Option Answer) (chosen : Chosen) → IsUnseen core
    → IsUnseen after_it → IsWellFormed core → length after_it.objects ≡ length core.objects
    → StepsMachine core old ask answer chosen after_it → MarksReached core old after_it new → Begins ask core after_it new → (m : Machine)
    → StandsFor core (marked_in core old) m
    → (n : Machine) × EntersLegally m ask answer chosen n × StandsFor after_it (marked_in after_it new) n
enters core after_it old new (Some ask) (Some answer) chosen before unseen w cells s reached begins m stands =
    let l = met core old ask answer chosen after_it before unseen s in
    let e = entry_of ask answer chosen in
    let slots = l.0.0 in
    let follow = marks_follow core after_it old new ask answer chosen slots l.0.2 l.1 cells reached begins in
    let g = goes_on_marking core m (marked_in core old) (marked_in after_it new) slots e w stands (λ s h. (marked_gives core old s h).2)
    (picked_marked core old slots l.0.1) (picked_fit core old slots w l.0.1) l.0.2 follow in
    (apply m e, (g.0, refl), subst (λ x. StandsFor x (marked_in after_it new) (apply m e)) (sym l.1) g.1)
enters core after_it old new (Some ask) None chosen before unseen w cells s reached begins m stands = absurd s
enters core after_it old new None (Some answer) chosen before unseen w cells s reached begins m stands = absurd s
enters core after_it old new None None chosen before unseen w cells s reached begins m stands =
    let still = subst (λ (x : Machine). MarksReached core old x new) s.1 reached in
    (m, (s.0, refl), subst (λ (x : Machine). StandsFor x (marked_in x new) m) (sym s.1) (marked_more core m old new stands still))
