-- An image or an entry that has a spelling has lists that are short enough for their counts.
use Rattle.std.proofs.Common.{ℕ, suc, ◌≤◌, Bool, true, false, cond, List, [], ◌∷◌, ◌++◌, Option, Some, None, arith}
use Rattle.std.specs.List.{AllByRecursion}
use Rattle.jlr_machine.specs.declared.object.Object.{Object}
use Rattle.jlr_machine.specs.declared.object.Object.TheVariants.{Plain, Reference, Queue, Cleaner, Cleanable, Guard}
use Rattle.jlr_machine.specs.declared.machine.Session.{Session}
use Rattle.jlr_machine.specs.declared.ask.Answer.{Answer}
use Rattle.jlr_machine.specs.declared.ask.Answer.TheVariants.{Done, Handle, Truth, Int, Data, Wrote, Faulted, Names, Notes, Faults, Stat}
use Rattle.jlr_machine.specs.declared.ask.Answer.TheVariants.{Job, AlreadyDone, Prepared, Out, Handed, Refused}
use Rattle.jlr_machine.specs.declared.entry.Entry.{Entry}
use Rattle.jlr_machine.specs.declared.entry.Collected.{Collected}
use Rattle.jlr_trace_fields.specs.declared.version.Version.{Version}
use Rattle.jlr_trace_fields.specs.declared.parts.record.Placed.{Placed}
use Rattle.jlr_trace_fields.specs.declared.parts.record.Held.{Held}
use Rattle.jlr_trace_fields.specs.Objects.{ObjectFits, ObjectCounts}
use Rattle.jlr_trace_fields.specs.Records.{PlacedFits, PlacedCounts}
use Rattle.jlr_trace_entries.specs.Answers.{AnswerFits, AnswerCounts}
use Rattle.jlr_trace_entries.specs.declared.image.Image.{Image}
use Rattle.jlr_trace_entries.specs.Choices.{CollectionFits, CollectionCounts}
use Rattle.jlr_trace_entries.specs.Entries.{EntryFits, EntryCounts}
use Rattle.jlr_trace_entries.specs.Images.{listed_from, placed, handle_held, image_text, ImageFits, places_of, HasPlaces, HasShape}
use Rattle.jlr_trace_entries.specs.Writing.{PlaceCounts, SessionCounts, ImageCounts}
use Rattle.jlr_trace_entries.proofs.WritingLaws.{placed_counted}

-- ---- Objects

object_counts : (version : Version) (o : Object) → ObjectFits version o → ObjectCounts o
object_counts version (Plain contents) fits = tt
object_counts version (Reference r) fits = tt
object_counts version (Queue members) fits = fits.count
object_counts version Cleaner fits = tt
object_counts version (Cleanable c) fits = tt
object_counts version (Guard g) fits = tt

all_counts : (version : Version) (xs : List Placed) → AllByRecursion (PlacedFits version) xs → AllByRecursion PlacedCounts xs
all_counts version [] all = tt
all_counts version (p ∷ xs) all = (object_counts version p.object all.0.object, all_counts version xs all.1)

behind :
    (version : Version) (front back : List Placed) → AllByRecursion (PlacedFits version) (front ++ back)
    → AllByRecursion (PlacedFits version) back
behind version [] back all = all
behind version (p ∷ front) back all = behind version front back all.1

table_counts :
    (version : Version) (n : ℕ) (places : List (Option Object)) (back : List Placed)
    → AllByRecursion (PlacedFits version) (listed_from placed n places ++ back) → AllByRecursion PlaceCounts places
table_counts version n [] back all = tt
table_counts version n (None ∷ places) back all = (tt, table_counts version (suc n) places back all)
table_counts version n (Some o ∷ places) back all = (object_counts version o all.0.object, table_counts version (suc n) places back all.1)

-- ---- Sessions

few : (b : Bool) → cond b 256 251 ≤ 256
few true = omega arith
few false = omega arith

few_places : (handles : List Held) → places_of handles ≤ 256
few_places handles = few _

session_counts_of : (o : Option Session) → HasPlaces o → SessionCounts o
session_counts_of None p = tt
session_counts_of (Some s) p = let le = few_places (listed_from handle_held 0 s.handles) in omega (arith, p, le)

all_sessions_count : (xs : List (Option Session)) → AllByRecursion HasPlaces xs → AllByRecursion SessionCounts xs
all_sessions_count [] all = tt
all_sessions_count (x ∷ xs) all = (session_counts_of x all.0, all_sessions_count xs all.1)

-- ---- Entries

answer_counts : (a : Answer) → AnswerFits a → AnswerCounts a
answer_counts (Names x) fits = fits.count
answer_counts (Notes x) fits = fits.count
answer_counts (Faults x) fits = fits.count
answer_counts Done fits = tt
answer_counts (Handle x) fits = tt
answer_counts (Truth x) fits = tt
answer_counts (Int x) fits = tt
answer_counts (Data x) fits = tt
answer_counts (Wrote x) fits = tt
answer_counts (Faulted x) fits = tt
answer_counts (Stat x) fits = tt
answer_counts (Job action work) fits = tt
answer_counts AlreadyDone fits = tt
answer_counts (Prepared x) fits = tt
answer_counts (Out x) fits = tt
answer_counts (Handed x) fits = tt
answer_counts (Refused x) fits = tt

collection_counts : (o : Option Collected) → CollectionFits o → CollectionCounts o
collection_counts None fits = tt
collection_counts (Some c) fits = (fits.kept.listed.count, fits.pending.count)

pub entry_counts : (version : Version) (e : Entry) → EntryFits version e → EntryCounts version e
entry_counts version e fits = record {
  ask = fits.ask;
  answer = answer_counts e.answer fits.answer;
  choice = record {
    collected = collection_counts e.choice.collected fits.choice.collected;
    fresh = let le = fits.choice.fresh.few in omega (arith, le);
  };
}

-- ---- Images

pub image_counts : (version : Version) (i : Image) → ImageFits version (image_text i) → HasShape i → ImageCounts i.machine i.strays
image_counts version i fits shape =
    let m = i.machine in
    record {
      machine = record {
        cells = fits.head.cells.1;
        objects = table_counts version 0 m.objects i.strays fits.objects.listed.each;
        sessions = let le = fits.head.sessions.1 in omega (arith, le);
        handles = all_sessions_count m.mutators shape.places;
        limit = let le = fits.head.resources.1 in omega (arith, le);
        names = fits.waiting.names.count;
        pending = fits.waiting.pending.count;
        line = fits.waiting.line.count;
        jobs = fits.records.jobs.listed.count;
        resources = fits.records.resources.listed.count;
        faults = fits.records.faults.count;
        notes = fits.records.notes.count;
      };
      all = let size = placed_counted m.objects i.strays in let lt = fits.objects.listed.count in omega (arith, size, lt);
      each = all_counts version i.strays (behind version (listed_from placed 0 m.objects) i.strays fits.objects.listed.each);
    }
