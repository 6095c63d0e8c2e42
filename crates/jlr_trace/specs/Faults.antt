-- Why bytes are no trace file: what stands before the first fault is spelled as the format says, and what comes next is
-- not.
use Rattle.std.specs.Prelude.{◌≡◌, ◌≢◌, ◌⊎◌, ℕ, suc, ◌<◌, List, [], ◌∷◌, ◌++◌, length, Err}
use Rattle.std.specs.List.{flat_map, AllByRecursion}
use Rattle.std.specs.Int.{w64}
use Rattle.jlr_machine.specs.declared.entry.Entry.{Entry}
use Rattle.jlr_trace_fields.specs.declared.fault.Fault.{Fault}
use Rattle.jlr_trace_fields.specs.declared.fault.Fault.TheVariants.{Short, Range}
use Rattle.jlr_trace_fields.specs.declared.version.Version.{Version}
use Rattle.jlr_trace_fields.specs.Spelling.{spelled_64}
use Rattle.jlr_trace_fields.specs.Reading.{number_at}
use Rattle.jlr_trace.specs.declared.file.TraceFault.{TraceFault}
use Rattle.jlr_trace.specs.declared.file.TraceFault.TheVariants.{Truncated, BadMark, BadVersion, BadEntry, NoMemory}
use Rattle.jlr_trace_entries.specs.Entries.{spelled_entry, EntryFits, entry_read}
use Rattle.jlr_trace_entries.specs.Images.{ImageText, spelled_image, ImageFits, image_read}
use Rattle.jlr_trace.specs.Files.{mark, version_number}

-- JLRT
abbrev pub letters : List ℕ
letters = 74 ∷ 76 ∷ 82 ∷ 84 ∷ []

-- the bytes end before the mark and the version do
pub record EndsInMark (bytes : List ℕ) : Type 0 where
  pub version : Version
  pub missing : List ℕ
  pub some : missing ≢ []
  pub ends : bytes ++ missing ≡ mark version

-- behind the first letters of the mark, or none of them, stands another byte than the next letter
pub record LeavesMark (bytes : List ℕ) : Type 0 where
  pub front : List ℕ
  pub letter : ℕ
  pub others : List ℕ
  pub byte : ℕ
  pub rest : List ℕ
  pub mark : front ++ letter ∷ others ≡ letters
  pub is : bytes ≡ front ++ byte ∷ rest
  pub differs : byte ≢ letter

-- behind the letters stands the number of no version
pub record HasNoVersion (bytes : List ℕ) : Type 0 where
  pub number : ℕ
  pub rest : List ℕ
  pub is : bytes ≡ letters ++ number ∷ rest
  pub unknown : (version : Version) → number ≢ version_number version

-- behind the mark the fields of an image have this fault; or behind an image, which is spelled there, the count of the
-- entries has
pub record FailsInHead (fault : Fault) (bytes : List ℕ) : Type 0 where
  pub version : Version
  pub behind : List ℕ
  pub is : bytes ≡ mark version ++ behind
  pub fails : (image_read version behind ≡ Err fault)
      ⊎ ((image : ImageText) × (rest : List ℕ) × ImageFits version image × (behind ≡ spelled_image image ++ rest)
      × (number_at w64 rest ≡ Err fault))

-- a mark, an image and a count, and entries: all are spelled there, and these bytes stand behind them
pub record BeginsFile (version : Version) (count : ℕ) (entries : List Entry) (rest bytes : List ℕ) : Type 0 where
  pub image : ImageText
  pub fits : ImageFits version image
  pub entries_fit : AllByRecursion (EntryFits version) entries
  pub spelled : bytes ≡ (((mark version ++ spelled_image image) ++ spelled_64 count)
      ++ flat_map (spelled_entry version) entries) ++ rest

-- fewer entries than were announced are spelled, and the fields of the next one, which has this number, have this fault
pub record FailsInEntry (fault : Fault) (number : ℕ) (bytes : List ℕ) : Type 0 where
  pub version : Version
  pub count : ℕ
  pub entries : List Entry
  pub rest : List ℕ
  pub begins : BeginsFile version count entries rest bytes
  pub more : length entries < count
  pub fails : entry_read version rest ≡ Err fault
  pub numbered : number ≡ suc (length entries)

-- all entries are spelled, and bytes stand behind them
pub record GoesOnBehind (number : ℕ) (bytes : List ℕ) : Type 0 where
  pub version : Version
  pub count : ℕ
  pub entries : List Entry
  pub rest : List ℕ
  pub begins : BeginsFile version count entries rest bytes
  pub all : length entries ≡ count
  pub some : rest ≢ []
  pub numbered : number ≡ suc count

-- which bytes have which fault; that there is no memory is a fault of any
abbrev pub IsFault : TraceFault → List ℕ → Type 0
IsFault BadMark bytes = LeavesMark bytes
IsFault BadVersion bytes = HasNoVersion bytes
IsFault Truncated bytes = EndsInMark bytes ⊎ FailsInHead Short bytes ⊎ ((number : ℕ) × FailsInEntry Short number bytes)
IsFault (BadEntry number) bytes = ((number ≡ 0) × FailsInHead Range bytes) ⊎ FailsInEntry Range number bytes
    ⊎ GoesOnBehind number bytes
IsFault NoMemory bytes = Unit {0}
