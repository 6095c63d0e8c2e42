-- The trace file of a book.
use Rattle.std.specs.Prelude.{◌≡◌, ℕ, List}
use Rattle.jlr_trace.specs.declared.file.TraceFile.{TraceFile}
use Rattle.jlr_trace.specs.Files.{HasSpelling, file_text, history_of, spelled_file}
use Rattle.jlr_audit.specs.declared.verdict.Verdict.TheVariants.{Legal}
use Rattle.jlr_audit.specs.Verdicts.{IsFileVerdict}
use Rattle.jlr_book.specs.Histories.{History}
use Rattle.jlr_command_line.specs.declared.fault.ProgramFault.{ProgramFault}
use Rattle.jlr_command_line.specs.declared.fault.ProgramFault.TheVariants.{CannotSave, NoMemory}

-- a file of version 2: the book's image, what was before it, and its entries
abbrev pub file_of : {R : Type 0} → History R → TraceFile
file_of h = history_of h.base h.image h.entries

-- the bytes are the one spelling of the book's history, whose verdict is legal
pub record IsSaved {R : Type 0} (h : History R) (bytes : List ℕ) : Type 0 where
  pub spelling : HasSpelling (file_of h)
  pub spelled : bytes ≡ spelled_file (file_text (file_of h))
  pub legal : IsFileVerdict (file_of h) Legal

-- a save failed, or there was no memory
abbrev pub IsUnsaved : ProgramFault → Type 0
IsUnsaved (CannotSave place) = Unit {0}
IsUnsaved (NoMemory error) = Unit {0}
IsUnsaved _ = ⊥
