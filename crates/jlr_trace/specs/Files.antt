-- How a trace file is spelled and read.
use Rattle.std.specs.Prelude.{◌≡◌, ◌==◌, ℕ, zero, suc, ◌+◌, ◌<◌, ◌^◌, List, [], ◌∷◌, ◌++◌, length, Result, Ok, Err}
use Rattle.std.specs.Prelude.{if◌then◌else◌}
use Rattle.std.specs.List.{flat_map, AllByRecursion}
use Rattle.std.specs.Int.{w64}
use Rattle.jlr_machine.specs.declared.machine.Machine.{Machine}
use Rattle.jlr_machine.specs.declared.entry.Entry.{Entry}
use Rattle.jlr_trace_fields.specs.declared.fault.Fault.{Fault}
use Rattle.jlr_trace_fields.specs.declared.fault.Fault.TheVariants.{Short, Range}
use Rattle.jlr_trace_fields.specs.declared.fault.ReadError.{ReadError}
use Rattle.jlr_trace_fields.specs.declared.fault.ReadError.TheVariants as errors
use Rattle.jlr_trace_fields.specs.declared.version.Version.{Version}
use Rattle.jlr_trace_fields.specs.declared.version.Version.TheVariants.{One, Two}
use Rattle.jlr_trace_fields.specs.Spelling.{spelled_64}
use Rattle.jlr_trace_fields.specs.Reading.{number_at}
use Rattle.jlr_trace_fields.specs.declared.parts.record.Placed.{Placed}
use Rattle.jlr_trace.specs.declared.file.TraceFile.{TraceFile}
use Rattle.jlr_trace.specs.declared.file.TraceFault.{TraceFault}
use Rattle.jlr_trace.specs.declared.file.TraceFault.TheVariants.{Truncated, BadMark, BadVersion, BadEntry, NoMemory}
use Rattle.jlr_trace_entries.specs.declared.image.Image.{Image}
use Rattle.jlr_trace_entries.specs.Entries.{spelled_entry, EntryFits, entry_read}
use Rattle.jlr_trace_entries.specs.Images.{ImageText, image_text, spelled_image, ImageFits, image_read, HasShape}

-- ---- What a file says

-- a file with its tables as lists
pub record FileText : Type 0 where
  pub version : Version
  pub image : ImageText
  pub entries : List Entry

abbrev pub file_with : Version → ℕ → Machine → List Placed → List Entry → TraceFile
file_with version base image strays entries =
    record { version = version; base = base; image = image; strays = strays; entries = entries }

-- a history of version 2, each of whose objects lies in a cell
abbrev pub history_of : ℕ → Machine → List Entry → TraceFile
history_of base image entries = file_with Two base image [] entries

abbrev pub image_of : TraceFile → Image
image_of f = record { base = f.base; machine = f.image; strays = f.strays }

abbrev pub file_text : TraceFile → FileText
file_text f = record { version = f.version; image = image_text (image_of f); entries = f.entries }

abbrev pub version_number : Version → ℕ
version_number One = 1
version_number Two = 2

-- the letters JLRT, and the version
abbrev pub mark : Version → List ℕ
mark version = 74 ∷ 76 ∷ 82 ∷ 84 ∷ version_number version ∷ []

-- what stands before so many entries
abbrev pub spelled_front : Version → ImageText → ℕ → List ℕ
spelled_front version image count = mark version ++ spelled_image image ++ spelled_64 count

abbrev pub spelled_file : FileText → List ℕ
spelled_file t = spelled_front t.version t.image (length t.entries) ++ flat_map (spelled_entry t.version) t.entries

pub record FileFits (t : FileText) : Type 0 where
  pub image : ImageFits t.version t.image
  pub count : length t.entries < 2 ^ 64
  pub entries : AllByRecursion (EntryFits t.version) t.entries

-- a file has a spelling where its text has one and says all of it
pub record HasSpelling (f : TraceFile) : Type 0 where
  pub text : FileFits (file_text f)
  pub shape : HasShape (image_of f)

-- ---- Reading, with the first fault of the file

infixl 10 ◌>>>◌
abbrev pub ◌>>>◌ : {A B : Type 0} → Result A TraceFault → (A → Result B TraceFault) → Result B TraceFault
(Ok x) >>> f = f x
(Err e) >>> f = Err e

-- which fault of the file a fault of a field in this entry is; 0 is before the entries
abbrev pub fault_in : ℕ → Fault → TraceFault
fault_in number Short = Truncated
fault_in number Range = BadEntry number

abbrev pub in_entry : {A : Type 0} → ℕ → Result A Fault → Result A TraceFault
in_entry number (Ok x) = Ok x
in_entry number (Err f) = Err (fault_in number f)

-- one certain byte of the mark
abbrev pub expected : ℕ → List ℕ → Result (List ℕ) TraceFault
expected byte [] = Err Truncated
expected byte (b ∷ rest) = if b == byte then Ok rest else Err BadMark

-- the version, of those that there are
abbrev pub version_read : List ℕ → Result (Version × List ℕ) TraceFault
version_read [] = Err Truncated
version_read (b ∷ rest) = if b == 1 then Ok (One, rest) else (if b == 2 then Ok (Two, rest) else Err BadVersion)

unfoldable pub mark_read : List ℕ → Result (Version × List ℕ) TraceFault
mark_read bytes = expected 74 bytes >>> expected 76 >>> expected 82 >>> expected 84 >>> version_read

-- so many entries, counted from a number
unfoldable pub entries_read : Version → ℕ → ℕ → List ℕ → Result (List Entry × List ℕ) TraceFault
entries_read version number zero bytes = Ok ([], bytes)
entries_read version number (suc n) bytes =
    in_entry number (entry_read version bytes) >>> λ first. entries_read version (suc number) n first.1 >>> λ others. Ok
    (first.0 ∷ others.0, others.1)

-- a file at the front of the bytes, and the bytes behind it
unfoldable pub front_read : List ℕ → Result (FileText × List ℕ) TraceFault
front_read bytes =
    mark_read bytes >>> λ version. in_entry 0 (image_read version.0 version.1) >>> λ image. in_entry 0
    (number_at w64 image.1) >>> λ count. entries_read version.0 1 count.0 count.1
    >>> λ entries. Ok (record { version = version.0; image = image.0; entries = entries.0 }, entries.1)

-- all of the bytes; what stands behind the end is a fault behind the last entry
unfoldable pub file_read : List ℕ → Result FileText TraceFault
file_read bytes =
    front_read bytes >>> λ file. if length file.1 == 0 then Ok file.0 else Err (BadEntry (length file.0.entries + 1))

-- What a function returned, seen by view, is what reading gives, unless memory ran out
abbrev pub FileFails : {Y : Type 0} → TraceFault → Result Y TraceFault → Type 0
FileFails NoMemory read = Unit {0}
FileFails Truncated read = read ≡ Err Truncated
FileFails BadMark read = read ≡ Err BadMark
FileFails BadVersion read = read ≡ Err BadVersion
FileFails (BadEntry k) read = read ≡ Err (BadEntry k)

abbrev pub FileGives : {X Y : Type 0} → (X → Y) → Result X TraceFault → Result Y TraceFault → Type 0
FileGives view (Ok x) read = read ≡ Ok (view x)
FileGives view (Err e) read = FileFails e read

abbrev pub FileReads : {X Y : Type 0} → (X → Y) → Result X TraceFault → List ℕ → Result (Y × List ℕ) TraceFault → Type 0
FileReads view (Ok x) rest read = read ≡ Ok (view x, rest)
FileReads view (Err e) rest read = FileFails e read

-- the fault of the file that a function answers
abbrev pub told : ℕ → ReadError → TraceFault
told number errors.Memory = NoMemory
told number (errors.Fault f) = fault_in number f
