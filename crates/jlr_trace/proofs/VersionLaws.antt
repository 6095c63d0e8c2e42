-- What version 1 can tell is what version 2 can, without arrays and with field numbers of one byte.
use Rattle.std.proofs.Common.{ℕ, Bool, true, false, ◌&&◌, List, [], ◌∷◌, refl, arith}
use Rattle.std.specs.Prelude.{IsTrue, nat_lt, ◌↔◌}
use Rattle.std.specs.List.{list_all, AllByRecursion}
use Rattle.std.proofs.lemmas.Bool.{and_parts, lt-ltb, ltb-true}
use Rattle.jlr_machine.specs.declared.object.Object.{Object}
use Rattle.jlr_machine.specs.declared.object.Object.TheVariants.{Plain, Reference, Queue, Cleaner, Cleanable, Guard}
use Rattle.jlr_machine.specs.declared.object.Contents.TheVariants.{Typed, Elements}
use Rattle.jlr_machine.specs.declared.ask.Ask.{Ask}
use Rattle.jlr_machine.specs.declared.ask.Ask.TheVariants.{Put, Get, SetInt, Int, Array}
use Rattle.jlr_machine.specs.declared.entry.Entry.{Entry}
use Rattle.jlr_trace_fields.specs.declared.version.Version.TheVariants.{One, Two}
use Rattle.jlr_trace_fields.specs.declared.parts.record.Placed.{Placed}
use Rattle.jlr_trace_fields.specs.Objects.{ObjectFits}
use Rattle.jlr_trace_fields.specs.Records.{PlacedFits}
use Rattle.jlr_trace_entries.specs.Asks.{FieldFits, AskFits}
use Rattle.jlr_trace_entries.specs.Entries.{EntryFits}
use Rattle.jlr_trace_entries.specs.Images.{ImageText, ImageFits}
use Rattle.jlr_trace.specs.Files.{FileText, FileFits}
use Rattle.jlr_trace.specs.Versions.{object_fits_version_1, ask_fits_version_1, fits_version_1, in_version}

both_true : (a b : Bool) → IsTrue a → IsTrue b → IsTrue (a && b)
both_true true b p q = q
both_true false b p q = absurd cc

-- ---- Lists

all_split : {A : Type 0} (P Q : A → Type 0) (test : A → Bool) → ((x : A) → P x → Q x × IsTrue (test x)) → (xs : List A)
    → AllByRecursion P xs → AllByRecursion Q xs × IsTrue (list_all test xs)
all_split P Q test each [] all = (tt, refl)
all_split P Q test each (x ∷ xs) all =
    let first = each x all.0 in
    let rest = all_split P Q test each xs all.1 in
    ((first.0, rest.0), both_true (test x) (list_all test xs) first.1 rest.1)

all_joined : {A : Type 0} (P Q : A → Type 0) (test : A → Bool) → ((x : A) → P x → IsTrue (test x) → Q x) → (xs : List A)
    → AllByRecursion P xs → IsTrue (list_all test xs) → AllByRecursion Q xs
all_joined P Q test each [] all passes = tt
all_joined P Q test each (x ∷ xs) all passes =
    let parts = and_parts (test x) (list_all test xs) passes in
    (each x all.0 parts.0, all_joined P Q test each xs all.1 parts.1)

-- ---- Objects

object_split : (o : Object) → ObjectFits One o → ObjectFits Two o × IsTrue (object_fits_version_1 o)
object_split (Plain (Typed fields)) fits = (fits, refl)
object_split (Plain (Elements elements)) fits = absurd fits
object_split (Reference r) fits = (fits, refl)
object_split (Queue members) fits = (fits, refl)
object_split Cleaner fits = (fits, refl)
object_split (Cleanable c) fits = (fits, refl)
object_split (Guard g) fits = (fits, refl)

object_joined : (o : Object) → ObjectFits Two o → IsTrue (object_fits_version_1 o) → ObjectFits One o
object_joined (Plain (Typed fields)) fits passes = fits
object_joined (Plain (Elements elements)) fits passes = absurd cc
object_joined (Reference r) fits passes = fits
object_joined (Queue members) fits passes = fits
object_joined Cleaner fits passes = fits
object_joined (Cleanable c) fits passes = fits
object_joined (Guard g) fits passes = fits

placed_split : (p : Placed) → PlacedFits One p → PlacedFits Two p × IsTrue (object_fits_version_1 p.object)
placed_split p fits = let o = object_split p.object fits.object in (record { slot = fits.slot; object = o.0 }, o.1)

placed_joined : (p : Placed) → PlacedFits Two p → IsTrue (object_fits_version_1 p.object) → PlacedFits One p
placed_joined p fits passes = record { slot = fits.slot; object = object_joined p.object fits.object passes }

-- ---- Asks

field_split : (field : ℕ) → FieldFits One field → FieldFits Two field × IsTrue (nat_lt field 256)
field_split field lt = (omega (arith, lt), lt-ltb field 256 lt)

field_joined : (field : ℕ) → IsTrue (nat_lt field 256) → FieldFits One field
field_joined field passes = ltb-true field 256 passes

ask_split : (ask : Ask) → AskFits One ask → AskFits Two ask × IsTrue (ask_fits_version_1 ask)
ask_split (Put m h k v) fits = let f = field_split k fits.2 in ((fits.0, fits.1, f.0, fits.3), f.1)
ask_split (Get m h k) fits = let f = field_split k fits.2 in ((fits.0, fits.1, f.0), f.1)
ask_split (SetInt m h k v) fits = let f = field_split k fits.2 in ((fits.0, fits.1, f.0, fits.3), f.1)
ask_split (Int m h k) fits = let f = field_split k fits.2 in ((fits.0, fits.1, f.0), f.1)
ask_split (Array m n) fits = absurd fits
ask_split ask fits = (fits, refl)

ask_joined : (ask : Ask) → AskFits Two ask → IsTrue (ask_fits_version_1 ask) → AskFits One ask
ask_joined (Put m h k v) fits passes = (fits.0, fits.1, field_joined k passes, fits.3)
ask_joined (Get m h k) fits passes = (fits.0, fits.1, field_joined k passes)
ask_joined (SetInt m h k v) fits passes = (fits.0, fits.1, field_joined k passes, fits.3)
ask_joined (Int m h k) fits passes = (fits.0, fits.1, field_joined k passes)
ask_joined (Array m n) fits passes = absurd cc
ask_joined ask fits passes = fits

entry_split : (e : Entry) → EntryFits One e → EntryFits Two e × IsTrue (ask_fits_version_1 e.ask)
entry_split e fits = let a = ask_split e.ask fits.ask in
    (record { seat = fits.seat; ask = a.0; answer = fits.answer; choice = fits.choice }, a.1)

entry_joined : (e : Entry) → EntryFits Two e → IsTrue (ask_fits_version_1 e.ask) → EntryFits One e
entry_joined e fits passes = record { seat = fits.seat; ask = ask_joined e.ask fits.ask passes; answer = fits.answer; choice = fits.choice }

-- ---- Files

abbrev placed_test : Placed → Bool
placed_test p = object_fits_version_1 p.object

abbrev entry_test : Entry → Bool
entry_test e = ask_fits_version_1 e.ask

image_split : (i : ImageText) → ImageFits One i → ImageFits Two i × IsTrue (list_all placed_test i.objects)
image_split i fits =
    let each = all_split (PlacedFits One) (PlacedFits Two) placed_test placed_split i.objects fits.objects.listed.each in (
      record {
        head = fits.head;
        objects = record { listed = record { count = fits.objects.listed.count; each = each.0 }; rises = fits.objects.rises };
        mutators = fits.mutators;
        sessions = fits.sessions;
        waiting = fits.waiting;
        records = fits.records;
        counts = fits.counts;
      },
      each.1,
    )

image_joined : (i : ImageText) → ImageFits Two i → IsTrue (list_all placed_test i.objects) → ImageFits One i
image_joined i fits passes = record {
  head = fits.head;
  objects = record {
    listed = record {
      count = fits.objects.listed.count;
      each =
          all_joined (PlacedFits Two) (PlacedFits One) placed_test placed_joined i.objects fits.objects.listed.each passes;
    };
    rises = fits.objects.rises;
  };
  mutators = fits.mutators;
  sessions = fits.sessions;
  waiting = fits.waiting;
  records = fits.records;
  counts = fits.counts;
}

file_split : (t : FileText) → FileFits (in_version One t) → FileFits (in_version Two t) × IsTrue (fits_version_1 t)
file_split t fits =
    let i = image_split t.image fits.image in
    let entries = all_split (EntryFits One) (EntryFits Two) entry_test entry_split t.entries fits.entries in (
      record { image = i.0; count = fits.count; entries = entries.0 },
      both_true (list_all placed_test t.image.objects) (list_all entry_test t.entries) i.1 entries.1,
    )

file_joined : (t : FileText) → FileFits (in_version Two t) × IsTrue (fits_version_1 t) → FileFits (in_version One t)
file_joined t fits =
    let parts = and_parts (list_all placed_test t.image.objects) (list_all entry_test t.entries) fits.1 in
    record {
      image = image_joined t.image fits.0.image parts.0;
      count =
          fits.0.count;
      entries = all_joined (EntryFits Two) (EntryFits One) entry_test entry_joined t.entries fits.0.entries parts.1;
    }

pub told_by_version_1 : (t : FileText) → FileFits (in_version One t) ↔ (FileFits (in_version Two t) × IsTrue (fits_version_1 t))
told_by_version_1 t = (file_split t, file_joined t)
