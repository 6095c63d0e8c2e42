-- What was seen matters to which collection a Collect may come with, and to nothing else that is legal.
use Rattle.std.proofs.Common.{ℕ, List, ◌∙◌, Option, Some, None}
use Rattle.jlr_machine.specs.declared.machine.Machine.{Machine}
use Rattle.jlr_machine.specs.declared.ask.Ask.{Ask}
use Rattle.jlr_machine.specs.declared.ask.Answer.{Answer}
use Rattle.jlr_machine.specs.declared.ask.Ask.TheVariants.{Prepare}
use Rattle.jlr_machine.specs.declared.ask.Ask.TheVariants.{Full, Collect}
use Rattle.jlr_machine.specs.declared.ask.FullMode.TheVariants.{Policy, ClearAll}
use Rattle.jlr_machine.specs.declared.entry.Collected.{Collected}
use Rattle.jlr_machine.specs.declared.entry.Entry.{Entry}
use Rattle.jlr_machine.specs.Objects.{◌∈◌}
use Rattle.jlr_machine.specs.Run.IsLegal.{carried_out, refused, heap_full, out_of_memory}
use Rattle.jlr_machine.specs.Refusals.{cells_needed}
use Rattle.jlr_machine.specs.Collection.{IsBackground, IsFullClearing}
use Rattle.jlr_machine.specs.Run.{with_collection, MayCollect, Answers, IsFresh, IsCarriedOut, IsRefused, IsHeapFull, IsOutOfMemory}
use Rattle.jlr_histories.specs.CycleLaws.{with_seen, LegalWhenMoreWasSeen}
use Rattle.jlr_histories.proofs.Asks.{same_refusal, same_reply}

-- ---- Answers

pub answers_still : (m : Machine) (slots : List ℕ) (ask : Ask) (c : Option Collected) (a : Answer) → Answers m ask c a
    → Answers (with_seen m slots) ask c a
answers_still m slots (Prepare k) c answer p = p
answers_still m slots Collect c answer p = p
answers_still m slots asked c answer p = same_reply m slots asked ∙ p

-- whether a collection comes first or not
answers_after : (m : Machine) (slots : List ℕ) (o : Option Collected) (ask : Ask) (a : Answer) → Answers (with_collection m o) ask o a
    → Answers (with_collection (with_seen m slots) o) ask o a
answers_after m slots None ask a h = answers_still m slots ask None a h
answers_after m slots (Some c) ask a h = h

fresh_after : (m : Machine) (slots : List ℕ) (o : Option Collected) (cells : ℕ) (fresh : List ℕ)
    → IsFresh (with_collection m o).objects cells fresh → IsFresh (with_collection (with_seen m slots) o).objects cells fresh
fresh_after m slots None cells fresh h = h
fresh_after m slots (Some c) cells fresh h = h

-- ---- Collections

module _ (m : Machine) (slots : List ℕ) (more : (s : ℕ) → s ∈ m.seen → s ∈ slots) where
  clearing_still : (kept pending : List ℕ) → IsFullClearing m kept pending → IsFullClearing (with_seen m slots) kept pending
  clearing_still kept pending c = record { full = c.full; strongly = c.strongly }

  background_still : (kept pending : List ℕ) → IsBackground m kept pending → IsBackground (with_seen m slots) kept pending
  background_still kept pending c = record { seen = λ s k. more s (c.seen s k); objects = c.objects; collection = c.collection }

  pub may_still : (ask : Ask) (o : Option Collected) → MayCollect m ask o → MayCollect (with_seen m slots) ask o
  may_still (Full k Policy) (Some x) p = p
  may_still (Full k ClearAll) (Some x) p = clearing_still x.kept x.pending p
  may_still Collect (Some x) p = (p.0, background_still x.kept x.pending p.1)
  may_still asked (Some x) p = (p.0, clearing_still x.kept x.pending p.1)
  may_still asked None p = p

  -- ---- Entries

  carried_out_still : (e : Entry) → IsCarriedOut m e → IsCarriedOut (with_seen m slots) e
  carried_out_still e c =
      record {
        allowed = same_refusal m slots e.ask ∙ c.allowed;
        collection = may_still e.ask e.choice.collected c.collection;
        fresh = fresh_after m slots e.choice.collected (cells_needed e.ask) e.choice.fresh c.fresh;
        answers = answers_after m slots e.choice.collected e.ask e.answer c.answers;
      }

  refused_still : (e : Entry) → IsRefused m e → IsRefused (with_seen m slots) e
  refused_still e c = record { by = c.by; first = same_refusal m slots e.ask ∙ c.first; answers = c.answers; nothing = c.nothing }

  heap_full_still : (e : Entry) → IsHeapFull m e → IsHeapFull (with_seen m slots) e
  heap_full_still e c =
      record {
        allowed = same_refusal m slots e.ask ∙ c.allowed;
        answers = c.answers;
        clearing = c.clearing;
        collects = c.collects;
        no_room = c.no_room;
        full = clearing_still c.clearing.kept c.clearing.pending c.full;
        too_few = c.too_few;
      }

  out_of_memory_still : (e : Entry) → IsOutOfMemory m e → IsOutOfMemory (with_seen m slots) e
  out_of_memory_still e c = record { no_end = c.no_end; answers = c.answers; nothing = c.nothing }

pub legal_when_more_was_seen : LegalWhenMoreWasSeen
legal_when_more_was_seen m slots e more (carried_out c) = carried_out (carried_out_still m slots more e c)
legal_when_more_was_seen m slots e more (refused c) = refused (refused_still m slots more e c)
legal_when_more_was_seen m slots e more (heap_full c) = heap_full (heap_full_still m slots more e c)
legal_when_more_was_seen m slots e more (out_of_memory c) = out_of_memory (out_of_memory_still m slots more e c)
