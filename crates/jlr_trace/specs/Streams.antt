-- A trace file that comes as a stream: what of it is held, and what its reader gives behind that, where it is known.
use Rattle.std.specs.Prelude.{option_map, ◌⊎◌, ◌≡◌, ◌==◌, ℕ, suc, ◌+◌, ◌<◌, Bool, true, false, List, [], ◌∷◌, ◌++◌}
use Rattle.std.specs.Prelude.{length, Option, Some, None, Result, Ok, Err, if◌then◌else◌}
use Rattle.std.specs.Int.{w64}
use Rattle.std.specs.Io.KnownBytes.{prepend_known, Consumes, IsAtEnd}
use Rattle.jlr_machine.specs.declared.entry.Entry.{Entry}
use Rattle.jlr_machine.specs.declared.machine.Machine.{Machine}
use Rattle.jlr_trace_fields.specs.declared.version.Version.{Version}
use Rattle.jlr_trace_fields.specs.Reading.{number_at}
use Rattle.jlr_trace_fields.specs.Spelling.{IsBytes}
use Rattle.jlr_trace_fields.specs.declared.parts.record.Placed.{Placed}
use Rattle.jlr_trace_entries.specs.Images.{ImageText, image_read}
use Rattle.jlr_trace.specs.declared.file.TraceFile.{TraceFile}
use Rattle.jlr_trace.specs.declared.file.TraceFault.{TraceFault}
use Rattle.jlr_trace.specs.declared.file.TraceFault.TheVariants.{Truncated, BadEntry, NoMemory}
use Rattle.jlr_trace.specs.declared.window.StreamFault.{StreamFault}
use Rattle.jlr_trace.specs.declared.window.StreamFault.TheVariants.{Unread, Damaged}
use Rattle.jlr_trace.specs.Files.{FileText, file_text, spelled_file, HasSpelling, ◌>>>◌, in_entry, mark_read}
use Rattle.jlr_trace.specs.Files.{entries_read, file_read, FileFails}

-- ---- Bytes

-- bytes that are held, and those behind them
pub record HeldBytes : Type 0 where
  pub front : List ℕ
  pub behind : Option (List ℕ)

-- all of them
abbrev pub known : HeldBytes → Option (List ℕ)
known h = prepend_known h.front h.behind

-- bytes were read behind others, if there were any
pub record MoreIsRead (front : List ℕ) (behind : Option (List ℕ)) (new_front : List ℕ) (new_behind : Option (List ℕ))
    (any : Bool) : Type 0 where
  pub piece : List ℕ
  pub longer : new_front ≡ front ++ piece
  pub taken : Consumes behind new_behind piece
  pub some : any ≡ true → 0 < length piece
  pub ended : any ≡ false → (piece ≡ []) × IsAtEnd new_behind

abbrev pub Fills : HeldBytes → HeldBytes → Bool → Type 0
Fills old new any = MoreIsRead old.front old.behind new.front new.behind any

-- ---- Reading from them

-- it is no fault of the bytes: a read failed, or there is no memory
abbrev pub IsOutside : StreamFault → Type 0
IsOutside (Unread kind) = Unit {0}
IsOutside (Damaged fault) = fault ≡ NoMemory

-- this was read from the front of the bytes, and these are left
abbrev pub ReadsOn : {A : Type 0} → (List ℕ → Result (A × List ℕ) TraceFault) → A → Option (List ℕ) → Option (List ℕ)
    → Type 0
ReadsOn read x None rest = Unit {0}
ReadsOn read x (Some bytes) None = ⊥
ReadsOn read x (Some bytes) (Some rest) = read bytes ≡ Ok (x, rest)

-- reading them, if they are known, ends in this fault
abbrev pub FailsOn : {A : Type 0} → StreamFault → Option (Result A TraceFault) → Type 0
FailsOn (Unread kind) read = Unit {0}
FailsOn (Damaged fault) None = Unit {0}
FailsOn (Damaged fault) (Some read) = FileFails fault read

-- this fault of bytes that are held is that of all, or memory ran out; where bytes are missing, none are behind
abbrev pub IsLast : TraceFault → HeldBytes → StreamFault → Type 0
IsLast fault held (Unread kind) = Unit {0}
IsLast fault held (Damaged last) = (last ≡ NoMemory) ⊎ ((last ≡ fault) × (fault ≡ Truncated → IsAtEnd held.behind))

-- the bytes of a stream are bytes where those that are left of it are
abbrev pub AreBytes : Option (List ℕ) → Option (List ℕ) → Type 0
AreBytes None rest = Unit {0}
AreBytes (Some bytes) None = ⊥
AreBytes (Some bytes) (Some rest) = IsBytes rest → IsBytes bytes

-- they are, where they are known
abbrev pub AllAreBytes : Option (List ℕ) → Type 0
AllAreBytes None = Unit {0}
AllAreBytes (Some bytes) = IsBytes bytes

-- ---- The head of a file: its version, its image, and how many entries stand behind them

pub record HeadingText : Type 0 where
  pub version : Version
  pub image : ImageText
  pub count : ℕ

abbrev pub heading_text : Version → ImageText → ℕ → HeadingText
heading_text version image count = record { version = version; image = image; count = count }

unfoldable pub heading_read : List ℕ → Result (HeadingText × List ℕ) TraceFault
heading_read bytes = mark_read bytes >>> λ version. in_entry 0 (image_read version.0 version.1) >>> λ image. in_entry 0
    (number_at w64 image.1)
    >>> λ count. Ok (heading_text version.0 image.0 count.0, count.1)

-- ---- The entries behind it

-- no byte may stand behind the last entry
abbrev pub end_read : ℕ → List ℕ → Result (List Entry) TraceFault
end_read number bytes = if length bytes == 0 then Ok [] else Err (BadEntry number)

-- so many entries, counted from a number, up to the end of the bytes
unfoldable pub entries_left : Version → ℕ → ℕ → List ℕ → Result (List Entry) TraceFault
entries_left version number left bytes =
    entries_read version number left bytes >>> λ entries. if length entries.1 == 0 then Ok entries.0 else Err
    (BadEntry (number + left))

-- an entry and those behind it
abbrev pub behind_entry : Entry → Result (List Entry) TraceFault → Result (List Entry) TraceFault
behind_entry e others = others >>> λ entries. Ok (e ∷ entries)

-- how many entries are still to come, what they are read as, up to the end of the bytes, and these, where they are
-- known
pub record Coming : Type 0 where
  pub left : ℕ
  pub entries : Option (Result (List Entry) TraceFault)
  pub rest : Option (List ℕ)

abbrev pub coming : Version → ℕ → ℕ → HeldBytes → Coming
coming version number left held =
    record { left = left; entries = option_map (entries_left version number left) (known held); rest = known held }

-- none comes
abbrev pub NoneComes : Option (Result (List Entry) TraceFault) → Type 0
NoneComes None = Unit {0}
NoneComes (Some read) = read ≡ Ok []

abbrev pub ComesFirst : Entry → Option (Result (List Entry) TraceFault) → Option (Result (List Entry) TraceFault)
    → Type 0
ComesFirst e None new = Unit {0}
ComesFirst e (Some read) None = ⊥
ComesFirst e (Some read) (Some others) = read ≡ behind_entry e others

-- this one came
pub record Comes (e : Entry) (old new : Coming) : Type 0 where
  pub fewer : old.left ≡ suc new.left
  pub first : ComesFirst e old.entries new.entries
  pub bytes : AreBytes old.rest new.rest

-- ---- Whole files

abbrev pub with_entries : Version → ImageText → Result (List Entry) TraceFault → Result FileText TraceFault
with_entries version image read =
    read >>> λ entries. Ok (record { version = version; image = image; entries = entries })

-- the bytes, if they are known, are read as this image and as the entries that come
abbrev pub IsReadAs : Version → ImageText → Option (List ℕ) → Option (Result (List Entry) TraceFault) → Type 0
IsReadAs version image None entries = Unit {0}
IsReadAs version image (Some bytes) None = ⊥
IsReadAs version image (Some bytes) (Some read) = file_read bytes ≡ with_entries version image read

-- as many come as were told, or there is a fault
abbrev pub AreSoMany : ℕ → Option (Result (List Entry) TraceFault) → Type 0
AreSoMany count None = Unit {0}
AreSoMany count (Some (Ok entries)) = length entries ≡ count
AreSoMany count (Some (Err fault)) = Unit {0}

-- a history with these entries
abbrev pub history : Version → ℕ → Machine → List Placed → List Entry → TraceFile
history version base image strays entries =
    record { version = version; base = base; image = image; strays = strays; entries = entries }

-- where entries come up to the end, the bytes spell the history with them
abbrev pub SpellsWhatComes : (List Entry → TraceFile) → Option (List ℕ) → Option (Result (List Entry) TraceFault)
    → Type 0
SpellsWhatComes file None entries = Unit {0}
SpellsWhatComes file (Some bytes) None = ⊥
SpellsWhatComes file (Some bytes) (Some read) = (entries : List Entry) → IsBytes bytes → read ≡ Ok entries
    → HasSpelling (file entries) × (bytes ≡ spelled_file (file_text (file entries)))
