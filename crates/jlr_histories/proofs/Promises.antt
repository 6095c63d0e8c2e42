-- A run keeps what java.lang.ref promises.
use Rattle.std.proofs.Common.{◌≡◌, ℕ, ◌≤◌, IsTrue, not, List, [], ◌∷◌, ◌++◌, refl, sym, ◌∙◌, ap, subst, inl, inr, Some}
use Rattle.jlr_machine.specs.declared.machine.Machine.{Machine}
use Rattle.jlr_machine.specs.declared.ask.Ask.{Ask}
use Rattle.jlr_machine.specs.declared.ask.Ask.TheVariants.{Full, Collect}
use Rattle.jlr_machine.specs.declared.ask.FullMode.TheVariants.{Policy, ClearAll}
use Rattle.jlr_machine.specs.Chosen.{Chosen}
use Rattle.jlr_machine.specs.declared.entry.Collected.{Collected}
use Rattle.jlr_machine.specs.declared.entry.Entry.{Entry}
use Rattle.jlr_machine.specs.Edges.{roots}
use Rattle.jlr_machine.specs.Collection.{IsCollection, IsFullClearing}
use Rattle.jlr_machine.specs.Refusals.{cells_needed}
use Rattle.jlr_machine.specs.Run.{IsLegal, MayCollect, Run, apply, has_room, no_choice}
use Rattle.jlr_machine.specs.Run.IsLegal.{carried_out, refused, heap_full, out_of_memory}
use Rattle.jlr_machine.specs.WellFormed.{IsWellFormed}
use Rattle.jlr_laws.specs.Laws.{AsSpecified, IsWithinHeap}
use Rattle.jlr_laws.specs.Rows.{after_all}
use Rattle.jlr_laws.proofs.Clearing.{in_append}
use Rattle.jlr_laws.proofs.Frames.{no_some, some_same}
use Rattle.jlr_laws.proofs.Empty.{place_of, well_formed_within}
use Rattle.jlr_laws.proofs.Law.{legal_kept}
use Rattle.jlr_laws.proofs.LawProofs.{each_clearing_is_as_specified, leaves_what_its_steps_leave}
use Rattle.jlr_machine.specs.Objects.{at, ◌∋◌}
use Rattle.jlr_machine.specs.Collection.{made_pending, after_collection}
use Rattle.std.specs.Prelude.{cond, option_map, None, Option}
use Rattle.jlr_machine.specs.Run.{with_collection}
use Rattle.jlr_laws.proofs.LegalKept.{no_need}
use Rattle.jlr_histories.specs.Lives.{LivesOn, enqueueings}
use Rattle.jlr_histories.specs.Promises.{AtEach, ClearsAllowedSets, ClearsNothingElse, QueuesWhatIsCleared, RecordsWhatIsTold}
use Rattle.jlr_histories.specs.Promises.{RunsKeepThePromises, base_of}
use Rattle.jlr_histories.proofs.Enqueued.{enqueued_at_most_once}
use Rattle.jlr_histories.proofs.Forward.{enqueued_is_cleared, only_they_clear}
use Rattle.jlr_histories.proofs.TakenOnce.{taken_up_at_most_once}
use Rattle.jlr_histories.proofs.Outcomes.{outcomes_are_recorded, finish_records_the_outcome}

-- ---- Each entry

at_each : (P : Machine → Entry → Type 0) → ((k : Machine) (e : Entry) → IsWellFormed k → IsLegal k e → P k e)
    → (m n : Machine) (entries : List Entry) → IsWellFormed m → Run m entries n → AtEach P m entries
at_each P holds m n [] w run = tt
at_each P holds m n (e ∷ entries) w run = (holds m e w run.0, at_each P holds (apply m e) n entries (legal_kept m e w run.0) run.1)

-- ---- The collection of an entry

collection_of : (m : Machine) (ask : Ask) (c : Collected) → MayCollect m ask (Some c)
    → IsCollection m.objects (base_of m ask c.kept) c.kept c.pending
collection_of m (Full k Policy) c may = may
collection_of m (Full k ClearAll) c may = may.full
collection_of m Collect c may = may.1.collection
collection_of m ask c may = may.1.full

within_base : (m : Machine) (ask : Ask) (c : Collected) → IsWellFormed m → MayCollect m ask (Some c)
    → IsWithinHeap m.objects (base_of m ask c.kept)
within_base m Collect c w may =
    let within = well_formed_within m w in
    record {
      edges = within.edges;
      base = λ s h. elim (in_append s (roots m) c.kept h) [ inl r ↦ within.base s r | inr k ↦ place_of m.objects s (may.1.objects s k) ];
    }
within_base m ask c w may = well_formed_within m w

abbrev Told : Machine → Ask → Collected → Type 0
Told m ask c = (is : IsCollection m.objects (base_of m ask c.kept) c.kept c.pending)
    × AsSpecified m.objects (base_of m ask c.kept) c.kept c.pending is
    × ((s : ℕ) → at (after_collection m c.kept c.pending).objects s
    ≡ cond (c.kept ∋ s) (option_map (made_pending (c.pending ∋ s)) (at is.phantom_left s)) None)

specified : (m : Machine) (ask : Ask) (c : Collected) → IsWellFormed m → MayCollect m ask (Some c) → Told m ask c
specified m ask c w may =
    let is = collection_of m ask c may in (
      is,
      each_clearing_is_as_specified m.objects (base_of m ask c.kept) c.kept c.pending (within_base m ask c w may) is,
      leaves_what_its_steps_leave m.objects (base_of m ask c.kept) c.kept c.pending (within_base m ask c w may) is,
    )

abbrev LeftBy : Machine → Ask → Collected → Option Collected → Type 0
LeftBy m ask c o = (is : IsCollection m.objects (base_of m ask c.kept) c.kept c.pending)
    × AsSpecified m.objects (base_of m ask c.kept) c.kept c.pending is
    × ((s : ℕ) → at (with_collection m o).objects s ≡ cond (c.kept ∋ s) (option_map (made_pending (c.pending ∋ s)) (at is.phantom_left s))
    None)

told : (m : Machine) (ask : Ask) (c : Collected) (o : Option Collected) → o ≡ Some c → Told m ask c → LeftBy m ask c o
told m ask c o is t = subst (LeftBy m ask c) (sym is) t

-- that of a full heap comes with an ask that wants cells
full_heap_may : (m : Machine) (ask : Ask) (c : Collected) → IsTrue (not (has_room m (cells_needed ask))) → IsFullClearing m c.kept c.pending
    → MayCollect m ask (Some c)
full_heap_may m (Full k Policy) c no_room full = full.full
full_heap_may m (Full k ClearAll) c no_room full = full
full_heap_may m Collect c no_room full = absurd (no_need m no_room)
full_heap_may m ask c no_room full = (no_room, full)

none_collected : {P : Type 0} (e : Entry) (c : Collected) → e.choice ≡ no_choice → e.choice.collected ≡ Some c → P
none_collected e c nothing is = no_some c (sym (ap (λ (x : Chosen). x.collected) nothing) ∙ is)

allowed_sets : (m : Machine) (e : Entry) → IsWellFormed m → IsLegal m e → ClearsAllowedSets m e
allowed_sets m e w (carried_out x) =
    λ c is. told m e.ask c e.choice.collected is (specified m e.ask c w (subst (λ o. MayCollect m e.ask o) is x.collection))
allowed_sets m e w (refused x) = λ c is. none_collected e c x.nothing is
allowed_sets m e w (heap_full x) =
    λ c is.
    let same : x.clearing ≡ c = some_same x.clearing c (sym (ap (λ (y : Chosen). y.collected) x.collects) ∙ is) in
    told m e.ask c e.choice.collected is (specified m e.ask c w
    (full_heap_may m e.ask c x.no_room (subst (λ (d : Collected). IsFullClearing m d.kept d.pending) same x.full)))
allowed_sets m e w (out_of_memory x) = λ c is. none_collected e c x.nothing is

-- ---- Parts of a run

-- the machine after the first entries, and the run from there
rest_of : (m n : Machine) (before rest : List Entry) → IsWellFormed m → Run m (before ++ rest) n → IsWellFormed (after_all m before)
    × Run (after_all m before) rest n
rest_of m n [] rest w run = (w, run)
rest_of m n (e ∷ before) rest w run = rest_of (apply m e) n before rest (legal_kept m e w run.0) run.1

front_of : (m n : Machine) (front after : List Entry) → Run m (front ++ after) n → Run m front (after_all m front)
front_of m n [] after run = refl
front_of m n (e ∷ front) after run = (run.0, front_of (apply m e) n front after run.1)

whole : (m n : Machine) (entries : List Entry) → Run m entries n → Run m entries (after_all m entries)
whole m n [] run = refl
whole m n (e ∷ entries) run = (run.0, whole (apply m e) n entries run.1)

enqueued_in_part : (m n : Machine) (entries before life after : List Entry) (s : ℕ) → IsWellFormed m → Run m entries n → entries ≡ before
    ++ (life ++ after) → LivesOn (after_all m before) life s → enqueueings (after_all m before) life s ≤ 1
enqueued_in_part m n entries before life after s w run parts lives =
    let rest = rest_of m n before (life ++ after) w (subst (λ l. Run m l n) parts run) in
    let k = after_all m before in
    enqueued_at_most_once k (after_all k life) life s rest.0 (front_of k n life after rest.1) lives

-- ---- The promises

pub runs_keep_the_promises : RunsKeepThePromises
runs_keep_the_promises m n entries w run =
    record {
      cleared = at_each ClearsAllowedSets allowed_sets m n entries w run;
      nothing_else =
          at_each ClearsNothingElse (λ k e x l s r t lives a b other. only_they_clear k e s r t x l lives a b other) m n entries w run;
      enqueued = λ before life after s parts lives. enqueued_in_part m n entries before life after s w run parts lives;
      cleared_first = at_each QueuesWhatIsCleared (λ k e x l s r a q. enqueued_is_cleared k e s r x l a q) m n entries w run;
      taken_up = λ action. taken_up_at_most_once m n entries action w run;
      recorded = λ action. outcomes_are_recorded m (after_all m entries) entries action w (whole m n entries run);
      told = at_each RecordsWhatIsTold (λ k e x l by action outcome asked r. finish_records_the_outcome k e by action outcome x l asked r) m
          n entries w run;
    }
