-- Collections that asks make, from what a full collection is.
use Rattle.std.proofs.Common.{◌≡◌, ◌<◌, ◌+◌, not, ℕ, None, Some, IsTrue, refl, sym, ◌∙◌, ap, subst, length, false, List, [], ◌∷◌, true}
use Rattle.std.proofs.Common.{Bool, is_some, suc, cond, filter, get_or, count_by, arith}
use Rattle.std.proofs.lemmas.Bool.{lt-leb}
use Rattle.std.proofs.lemmas.List.Sums.{sum_by-cons}
use Rattle.jlr_machine.specs.declared.machine.Machine.{Machine}
use Rattle.jlr_soft.specs.declared.policy.Policy.{Policy}
use Rattle.jlr_soft.specs.declared.policy.Mode.{Mode}
use Rattle.jlr_soft.specs.declared.policy.Mode.TheVariants.{ClearAll}
use Rattle.jlr_machine.specs.declared.ask.Ask.TheVariants.{Collect, Full}
use Rattle.jlr_machine.specs.declared.ask.Answer.TheVariants.{Truth}
use Rattle.jlr_machine.specs.declared.ask.FullMode.{FullMode}
use Rattle.jlr_machine.specs.declared.ask.FullMode.TheVariants.{Policy as AskedPolicy, ClearAll as AskedClearAll}
use Rattle.jlr_machine.specs.Chosen.{Chosen}
use Rattle.jlr_machine.specs.declared.entry.Collected.{Collected}
use Rattle.jlr_machine.specs.Objects.{at, ◌∈◌, occupied}
use Rattle.jlr_machine.specs.Edges.{roots}
use Rattle.jlr_machine.specs.ReachSet.{up_to}
use Rattle.jlr_machine.specs.Run.{MayCollect, has_room, with_collection}
use Rattle.jlr_machine.specs.Run.IsLegal.{carried_out}
use Rattle.jlr_machine.specs.Choices.{Choosing, collecting, nothing_chosen}
use Rattle.jlr_machine.specs.Collection.{IsBackground, IsFullClearing, after_collection}
use Rattle.jlr_machine.specs.WellFormed.{IsWellFormed}
use Rattle.jlr_laws.specs.Laws.{IsFullMarking as IsMarkedBy}
use Rattle.jlr_laws.proofs.Frames.{no_some, some_same}
use Rattle.jlr_laws.proofs.Sets.{in_filter}
use Rattle.jlr_histories.specs.CycleLaws.{with_seen}
use Rattle.jlr_barrier.specs.Graphs.{Clock, counted}
use Rattle.jlr_marker.specs.Following.{keeps}
use Rattle.jlr_sweep.specs.Collecting.{Collects}
use Rattle.jlr_sweep.proofs.Kept.{clears_all as clears_all_by}
use Rattle.jlr_marks.specs.Marking.{Marking, IsMarked, is_marked, marked}
use Rattle.jlr_process.specs.Settling.{marked_below}
use Rattle.jlr_process.specs.Flipping.{Flips}
use Rattle.jlr_state.specs.State.{MeetsSeen, marked_in}
use Rattle.jlr_state.specs.Collecting.{MakesRoom, MayMakeRoom, after_choice, mode_of}
use Rattle.jlr_laws.proofs.ObjectLeft.{length_left}
use Rattle.jlr_state.specs.Policy.{KeepsIn, KeepsMarked}
use Rattle.jlr_state.proofs.Entries.{none_fresh}

-- ---- By mode

pub same_policy : (p q : Policy) → p.soft_age ≡ q.soft_age → p.mode ≡ q.mode → p ≡ q
same_policy p q ea em =
    ap {A = ℕ} {B = Policy} (λ a. record { soft_age = a; mode = p.mode }) ea
    ∙ ap {A = Mode} {B = Policy} (λ m. record { soft_age = q.soft_age; mode = m }) em

-- where no soft reference is kept, all are cleared
clears_all : (m : Machine) (age : ℕ) (clock : Clock) (old new : Choosing) (n : Machine) → IsWellFormed m
    → (c : Collects (keeps (record { soft_age = age; mode = ClearAll }) clock) m old new n) → IsFullClearing m c.kept c.pending
clears_all m age clock old new n w c = clears_all_by m (record { soft_age = age; mode = ClearAll }) clock old new n refl w c

pub may_collect : (m : Machine) (k : ℕ) (mode : FullMode) (age : ℕ) (clock : Clock) (old new : Choosing) (n : Machine) → IsWellFormed m
    → (c : Collects (keeps (record { soft_age = age; mode = mode_of mode }) clock) m old new n)
    → MayCollect m (Full k mode) (Some (record { kept = c.kept; pending = c.pending }))
may_collect m k AskedPolicy age clock old new n w c = c.full
may_collect m k AskedClearAll age clock old new n w c = clears_all m age clock old new n w c

-- where too few cells are free, a collection that clears all makes what room there is
pub makes_room : (m : Machine) (cells age : ℕ) (clock : Clock) (old new : Choosing) (n : Machine) → IsWellFormed m
    → length m.objects < occupied m.objects + cells → old ≡ nothing_chosen old.cells → new.cells ≡ old.cells
    → Collects (keeps (record { soft_age = age; mode = ClearAll }) clock) m old new n → MakesRoom m cells old new n
makes_room m cells age clock old new n w few nothing same_cells c =
    let chosen : new.chosen ≡ record { collected = Some (record { kept = c.kept; pending = c.pending }); fresh = [] } =
    ap (λ (k : Choosing). k.chosen) (c.chosen ∙ ap (λ (k : Choosing). collecting k c.kept c.pending) nothing) in
    let collected : new.chosen.collected ≡ Some (record { kept = c.kept; pending = c.pending }) = ap (λ (x : Chosen). x.collected) chosen in
    let full : has_room m cells ≡ false = lt-leb (occupied m.objects + cells) (length m.objects) few in
    record {
      asked = subst (MayMakeRoom m cells) (sym collected) (ap not full, clears_all m age clock old new n w c);
      left = c.left ∙ ap (with_collection m) (sym collected);
      fresh = ap (λ (x : Chosen). x.fresh) chosen;
      same_cells = same_cells;
      counted = λ k e. c.counted ∙ ap (λ (x : Collected). length x.kept)
          (some_same (record { kept = c.kept; pending = c.pending }) k (sym collected ∙ e));
    }

-- ---- What a collection tells of what it kept

told : (kept_soft : ℕ → Bool) (m : Machine) (old new : Choosing) (n : Machine) → old ≡ nothing_chosen old.cells
    → (c : Collects kept_soft m old new n) → new.chosen ≡
    record { collected = Some (record { kept = c.kept; pending = c.pending }); fresh = [] }
told kept_soft m old new n nothing c =
    ap (λ (k : Choosing). k.chosen) (c.chosen ∙ ap (λ (k : Choosing). collecting k c.kept c.pending) nothing)

pub keeps_in : (mode : Mode) (age : ℕ) (clock : Clock) (m : Machine) (old new : Choosing) (n : Machine) → old ≡ nothing_chosen old.cells
    → Collects (keeps (record { soft_age = age; mode = mode }) clock) m old new n → KeepsIn mode age clock m new.chosen
keeps_in mode age clock m old new n nothing c =
    let kept_soft = keeps (record { soft_age = age; mode = mode }) clock in
    let collected : new.chosen.collected ≡ Some (record { kept = c.kept; pending = c.pending }) =
    ap (λ (x : Chosen). x.collected) (told kept_soft m old new n nothing c) in
    λ k e.
    subst (λ (x : Collected). IsMarkedBy kept_soft m.objects (roots m) x.kept x.pending)
    (some_same (record { kept = c.kept; pending = c.pending }) k (sym collected ∙ e)) c.marked

-- ---- How many are marked

marks_counted : (p : ℕ → Bool) (start : ℕ) (bits : List Bool) → ((i : ℕ) → i < length bits → p (start + i) ≡ get_or bits i false)
    → length (filter p (up_to start (length bits))) ≡ count_by (λ b. b) bits
marks_counted p start [] h = refl
marks_counted p start (b ∷ bits) h =
    let rest = marks_counted p (suc start) bits (λ i l. let e : suc start + i ≡ start + suc i = omega arith in ap p e
    ∙ h (suc i) (omega (arith, l))) in
    let zeroth : start ≡ start + 0 = omega arith in
    let here : p start ≡ b = ap p zeroth ∙ h 0 (omega arith) in
    let others = filter p (up_to (suc start) (length bits)) in
    ap (λ c. length (cond c (start ∷ others) others)) here
    ∙ elim b as (λ c. length (cond c (start ∷ others) others) ≡ count_by (λ b. b) (c ∷ bits)) [
      | true ↦ omega (arith, rest, sum_by-cons (λ b. cond b 1 0) true bits)
      | false ↦ rest
    ]

kept_counted : (k : Marking) (cells : ℕ) → length k.bits ≡ cells → length (marked_below k cells) ≡ marked k
kept_counted k cells long = ap (λ n. length (marked_below k n)) (sym long)
    ∙ marks_counted (is_marked k) 0 k.bits (λ i l. let e : 0 + i ≡ i = omega arith in ap (is_marked k) e)

-- ---- The collection of a cycle

chosen_by : (old new : Choosing) (kept pending : List ℕ) → old ≡ nothing_chosen old.cells → new ≡ collecting old kept pending
    → new.chosen ≡ record { collected = Some (record { kept = kept; pending = pending }); fresh = [] }
chosen_by old new kept pending nothing c = ap (λ (k : Choosing). k.chosen) (c ∙ ap (λ (k : Choosing). collecting k kept pending) nothing)

module _ (m : Machine) (k : Marking) (old new : Choosing) (flipped : Machine) (f : Flips m k old new flipped)
    (nothing : old ≡ nothing_chosen old.cells) where
  abbrev kept : List ℕ
  kept = marked_below k (length m.objects)

  chosen : new.chosen ≡ record { collected = Some (record { kept = kept; pending = f.pending }); fresh = [] }
  chosen = chosen_by old new kept f.pending nothing f.chosen

  pub keeps_marked : length k.bits ≡ length m.objects → KeepsMarked m k new.chosen
  keeps_marked long = λ c e.
      let same = some_same (record { kept = kept; pending = f.pending }) c (sym (ap (λ (x : Chosen). x.collected) chosen) ∙ e) in
      let is : c.kept ≡ kept = ap (λ (x : Collected). x.kept) (sym same) in
      (is, ap (λ (l : List ℕ). length l) is ∙ kept_counted k (length m.objects) long)

  background : m.cycle_open ≡ true → ((s : ℕ) → IsMarked k s → IsTrue (is_some (at m.objects s)))
      → IsBackground (with_seen m (marked_in m k)) kept f.pending
  background still objects = record {
    seen = λ s h. subst (λ b. s ∈ cond b kept []) (sym still) h;
    objects = λ s h. objects s (in_filter (is_marked k) (up_to 0 (length m.objects)) s h).0;
    collection = f.collection;
  }

  pub meets_collect : (n : Machine) → m.cycle_open ≡ true → ((s : ℕ) → IsMarked k s → IsTrue (is_some (at m.objects s)))
      → n ≡ record flipped { cycle_open = false; seen = [] } → MeetsSeen m k Collect (Truth true) new.chosen n
  meets_collect n still objects left =
      subst (λ x. MeetsSeen m k Collect (Truth true) x n) (sym chosen)
      (record {
        legal = carried_out (record {
          allowed = refl;
          collection = (still, background still objects);
          fresh = none_fresh (after_collection m kept f.pending).objects;
          answers = refl;
        });
        applied = left ∙ ap (λ (x : Machine). record x { cycle_open = false; seen = [] }) f.left;
      })

  pub tells_cells : new.cells ≡ old.cells
  tells_cells = ap (λ (x : Choosing). x.cells) f.chosen

  pub leaves_cells : length flipped.objects ≡ length m.objects
  leaves_cells = ap (λ (x : Machine). length x.objects) f.left ∙ length_left kept f.pending 0 m.objects

  pub counts_collection : (clock : Clock) → counted clock ≡ after_choice new.chosen clock
  counts_collection clock = sym (ap (λ x. after_choice x clock) chosen)

-- a collection is told
pub none_chosen : {P : Type 0} (kept_soft : ℕ → Bool) (m : Machine) (old new : Choosing) (n : Machine) → old ≡ nothing_chosen old.cells
    → Collects kept_soft m old new n → new.chosen.collected ≡ None → P
none_chosen kept_soft m old new n nothing c none =
    no_some (record { kept = c.kept; pending = c.pending })
    (sym none ∙ ap (λ (x : Chosen). x.collected) (told kept_soft m old new n nothing c))
