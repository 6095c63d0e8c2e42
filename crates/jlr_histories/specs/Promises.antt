-- What java.lang.ref promises of references, collections and cleaning actions, of a whole run.
use Rattle.std.specs.Prelude.{◌≡◌, ◌≢◌, ℕ, ◌+◌, ◌≤◌, ◌⊎◌, ⊤, IsTrue, List, [], ◌∷◌, ◌++◌, Some, None, is_some, cond}
use Rattle.std.specs.Prelude.{option_map}
use Rattle.jlr_machine.specs.declared.object.Reference.{Reference as ReferenceOf}
use Rattle.jlr_machine.specs.declared.object.RefState.TheVariants.{Queued}
use Rattle.jlr_machine.specs.declared.machine.Machine.{Machine}
use Rattle.jlr_machine.specs.declared.ask.Ask.{Ask}
use Rattle.jlr_machine.specs.declared.ask.Ask.TheVariants.{Collect}
use Rattle.jlr_machine.specs.declared.entry.Collected.{Collected}
use Rattle.jlr_machine.specs.declared.entry.Entry.{Entry}
use Rattle.jlr_machine.specs.Edges.{roots}
use Rattle.jlr_machine.specs.Objects.{at, ◌∋◌}
use Rattle.jlr_machine.specs.Collection.{IsCollection, made_pending}
use Rattle.jlr_machine.specs.Run.{Run, apply, with_collection}
use Rattle.jlr_machine.specs.WellFormed.{IsWellFormed, IsReferenceAt}
use Rattle.jlr_laws.specs.Laws.{AsSpecified}
use Rattle.jlr_laws.specs.Rows.{after_all}
use Rattle.jlr_histories.specs.Lives.{LivesOn, IsRecorded, enqueueings, outcomes, records, running, slot_cleared}
use Rattle.jlr_histories.specs.Lives.{take_ups}
use Rattle.jlr_machine.specs.declared.machine.Job.{Job as JobOf}
use Rattle.jlr_machine.specs.declared.ask.Outcome.{Outcome}
use Rattle.jlr_machine.specs.declared.ask.Ask.TheVariants.{Finish}
use Rattle.jlr_machine.specs.Lookups.{job_of}

-- of each entry, in the machine before it
abbrev pub AtEach : (Machine → Entry → Type 0) → Machine → List Entry → Type 0
AtEach P m [] = ⊤
AtEach P m (e ∷ entries) = P m e × AtEach P (apply m e) entries

-- ---- Clearing

-- what a collection starts from: the roots; and a background collection counts what it keeps as reachable
abbrev pub base_of : Machine → Ask → List ℕ → List ℕ
base_of m Collect kept = roots m ++ kept
base_of m _ kept = roots m

-- the collection of an entry, if it has one, is one of the definition, and clears only sets that the package
-- specification allows, in its words
abbrev pub ClearsAllowedSets : Machine → Entry → Type 0
ClearsAllowedSets m e =
    (c : Collected) → e.choice.collected ≡ Some c
    → (is : IsCollection m.objects (base_of m e.ask c.kept) c.kept c.pending)
    × AsSpecified m.objects (base_of m e.ask c.kept) c.kept c.pending is
    × ((s : ℕ) → at (with_collection m e.choice.collected).objects s
    ≡ cond (c.kept ∋ s) (option_map (made_pending (c.pending ∋ s)) (at is.phantom_left s)) None)

-- a reference loses its referent only by such a collection, or by the program's `clear` or `enqueue` of it
abbrev pub ClearsNothingElse : Machine → Entry → Type 0
ClearsNothingElse m e =
    (s : ℕ) (r t : ReferenceOf) → LivesOn m (e ∷ []) s → IsReferenceAt m s r → IsReferenceAt (apply m e) s t
    → t.referent ≢ r.referent → IsTrue (is_some e.choice.collected) ⊎ (slot_cleared m e.ask ≡ Some s)

-- ---- Enqueueing

-- what is in a queue has no referent any more
abbrev pub QueuesWhatIsCleared : Machine → Entry → Type 0
QueuesWhatIsCleared m e = (s : ℕ) (r : ReferenceOf) → IsReferenceAt (apply m e) s r → r.state ≡ Queued
    → r.referent ≡ None

-- what an outcome that is told leaves: one more went well, and its note is kept, or one more failed, and its fault is
-- kept
abbrev pub RecordsWhatIsTold : Machine → Entry → Type 0
RecordsWhatIsTold m e = (by action : ℕ) (outcome : Outcome) → e.ask ≡ Finish by action outcome
    → IsTrue (records action e) → (job : JobOf) × (job_of m action ≡ Some job) × (job.by ≡ by)
    × (job_of (apply m e) action ≡ None) × IsRecorded m (apply m e) action job.work outcome

-- ---- The promises

-- Of the entries of a run from m.
pub record KeepsPromises (m : Machine) (entries : List Entry) : Type 0 where
  -- references are cleared only in sets that the package specification allows, or by the program
  pub cleared : AtEach ClearsAllowedSets m entries
  pub nothing_else : AtEach ClearsNothingElse m entries
  -- each is enqueued at most once, in any part of the run that it lives through, and only when cleared
  pub enqueued : (before life after : List Entry) (s : ℕ) → entries ≡ before ++ (life ++ after)
      → LivesOn (after_all m before) life s → enqueueings (after_all m before) life s ≤ 1
  pub cleared_first : AtEach QueuesWhatIsCleared m entries
  -- each cleaning action is taken up at most once
  pub taken_up : (action : ℕ) → take_ups action entries ≤ 1
  -- and its outcome is recorded once, or its job runs
  pub recorded : (action : ℕ) → running m action + take_ups action entries ≡ outcomes action entries + running
      (after_all m entries) action
  -- by the entry that tells it, in the counts and the lists of the machine that it leaves
  pub told : AtEach RecordsWhatIsTold m entries

abbrev pub RunsKeepThePromises : Type 0
RunsKeepThePromises = (m n : Machine) (entries : List Entry) → IsWellFormed m → Run m entries n
    → KeepsPromises m entries
