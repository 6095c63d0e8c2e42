-- How the fields of a line are read, as functions on lists. No public clause names them.
use Rattle.std.specs.Prelude.{ℕ, eqb, nat_lt, nat_le, length, cond, ◌&&◌, List, [], ◌∷◌, Option, Some, None, codes}
use Rattle.std.specs.Str.{bytes_eq}
use Rattle.jlr_types.specs.declared.FieldKind.{FieldKind}
use Rattle.jlr_types.specs.declared.FieldKind.TheVariants.{Int as IntField, Ref as RefField}
use Rattle.jlr_machine.specs.declared.ask.FullMode.TheVariants.{Policy, ClearAll}
use Rattle.jlr_wire.specs.Fields.{number_below, byte_of, field_of, note_of, integer_of, path_of, name_of, data_of}
use Rattle.jlr_wire.specs.Fields.{mode_of}
use Rattle.jlr_wire.specs.declared.command.Command.{Command}
use Rattle.jlr_wire.specs.declared.command.Command.TheVariants.{New, Put, Get, SetInt, Int, Dup, Drop, Same, Soft, Weak}
use Rattle.jlr_wire.specs.declared.command.Command.TheVariants.{Phantom, Deref, Refers, Clear, Enqueue, Enqueued, Queue}
use Rattle.jlr_wire.specs.declared.command.Command.TheVariants.{Poll, Remove, Cleaner, Register, Clean, Open, Connect}
use Rattle.jlr_wire.specs.declared.command.Command.TheVariants.{Read, Write, Close, Bind, Find, Unbind, Names, Full}
use Rattle.jlr_wire.specs.declared.command.Command.TheVariants.{Stat, Notes, Faults, Bye, Array}

-- the ? of the logic
infixl 10 ◌>>=◌
abbrev pub ◌>>=◌ : {A B : Type 0} → Option A → (A → Option B) → Option B
None >>= f = None
(Some x) >>= f = f x

-- the count of a read that a text spells
abbrev pub count_of : List ℕ → Option ℕ
count_of text = byte_of text >>= λ n. cond (nat_le 1 n && nat_le n 200) (Some n) None

-- how many elements a text asks for
abbrev pub length_of : List ℕ → Option ℕ
length_of text = number_below 4097 text >>= λ n. cond (nat_le 1 n) (Some n) None

-- the kind that a letter stands for
abbrev pub kind_of_letter : ℕ → Option FieldKind
kind_of_letter c = cond (eqb c 114) (Some RefField) (cond (eqb c 105) (Some IntField) None)

-- the kinds that letters stand for
abbrev pub kinds_of : List ℕ → Option (List FieldKind)
kinds_of [] = Some []
kinds_of (c ∷ cs) = kind_of_letter c >>= λ k. kinds_of cs >>= λ ks. Some (k ∷ ks)

-- the layout that a text spells
unfoldable pub layout_of : List ℕ → Option (List FieldKind)
layout_of text =
    cond (bytes_eq text (codes "-")) (Some [])
    (cond (nat_lt 0 (length text) && nat_lt (length text) 9) (kinds_of text) None)

-- the commands of a name alone, of a name and a number, and of a name and two numbers, each beside its name
abbrev pub names_alone : List (List ℕ × Command)
names_alone =
    (codes "queue", Queue)
    ∷ (codes "cleaner", Cleaner)
    ∷ (codes "gc", Full Policy)
    ∷ (codes "names", Names)
    ∷ (codes "stat", Stat)
    ∷ (codes "notes", Notes)
    ∷ (codes "faults", Faults)
    ∷ (codes "bye", Bye)
    ∷ []

abbrev pub names_with_number : ℕ → List (List ℕ × Command)
names_with_number a =
    (codes "dup", Dup a)
    ∷ (codes "drop", Drop a)
    ∷ (codes "deref", Deref a)
    ∷ (codes "clear", Clear a)
    ∷ (codes "enqueue", Enqueue a)
    ∷ (codes "enqueued", Enqueued a)
    ∷ (codes "poll", Poll a)
    ∷ (codes "remove", Remove a)
    ∷ (codes "clean", Clean a)
    ∷ (codes "close", Close a)
    ∷ []

abbrev pub names_with_two : ℕ → ℕ → List (List ℕ × Command)
names_with_two a b =
    (codes "same", Same a b)
    ∷ (codes "soft", Soft a b)
    ∷ (codes "weak", Weak a b)
    ∷ (codes "phantom", Phantom a b)
    ∷ (codes "refers", Refers a b)
    ∷ []

-- the command that stands beside a name
abbrev pub command_named : List ℕ → List (List ℕ × Command) → Option Command
command_named name [] = None
command_named name (row ∷ table) = cond (bytes_eq name row.0) (Some row.1) (command_named name table)

-- what stands beside a name, or where it is none of these the other
abbrev pub among : List ℕ → List (List ℕ × Option Command) → Option Command → Option Command
among name [] other = other
among name (row ∷ table) other = cond (bytes_eq name row.0) row.1 (among name table other)

-- the commands of a name and a word that is no number, and of a name and two fields of which one is no handle
abbrev pub names_with_word : List ℕ → List (List ℕ × Option Command)
names_with_word a =
    (codes "new", layout_of a >>= λ l. Some (New l))
    ∷ (codes "connect", path_of a >>= λ p. Some (Connect p))
    ∷ (codes "find", name_of a >>= λ n. Some (Find n))
    ∷ (codes "unbind", name_of a >>= λ n. Some (Unbind n))
    ∷ (codes "array", length_of a >>= λ n. Some (Array n))
    ∷ []

abbrev pub names_with_words : List ℕ → List ℕ → List (List ℕ × Option Command)
names_with_words a b =
    (codes "open", mode_of a >>= λ m. path_of b >>= λ p. Some (Open m p))
    ∷ (codes "bind", name_of a >>= λ n. byte_of b >>= λ h. Some (Bind n h))
    ∷ (codes "read", byte_of a >>= λ h. count_of b >>= λ n. Some (Read h n))
    ∷ (codes "write", byte_of a >>= λ h. data_of b >>= λ d. Some (Write h d))
    ∷ (codes "get", byte_of a >>= λ h. field_of b >>= λ k. Some (Get h k))
    ∷ (codes "int", byte_of a >>= λ h. field_of b >>= λ k. Some (Int h k))
    ∷ []

unfoldable pub with_number : List ℕ → ℕ → Option Command
with_number name a = command_named name (names_with_number a)

unfoldable pub with_two_numbers : List ℕ → ℕ → ℕ → Option Command
with_two_numbers name a b = command_named name (names_with_two a b)

-- the command of one field, of two, of three, of four
unfoldable pub reading_1 : List ℕ → Option Command
reading_1 name = command_named name names_alone

unfoldable pub reading_2 : List ℕ → List ℕ → Option Command
reading_2 name a =
    among name (names_with_word a)
    (cond (bytes_eq name (codes "gc") && bytes_eq a (codes "soft")) (Some (Full ClearAll))
    (byte_of a >>= λ h. with_number name h))

unfoldable pub reading_3 : List ℕ → List ℕ → List ℕ → Option Command
reading_3 name a b = among name (names_with_words a b) (byte_of a >>= λ h. byte_of b >>= λ k. with_two_numbers name h k)

unfoldable pub reading_4 : List ℕ → List ℕ → List ℕ → List ℕ → Option Command
reading_4 name a b c =
    cond (bytes_eq name (codes "put")) (byte_of a >>= λ h. field_of b >>= λ k. byte_of c >>= λ v. Some (Put h k v))
    (cond (bytes_eq name (codes "setint"))
    (byte_of a >>= λ h. field_of b >>= λ k. integer_of c >>= λ n. Some (SetInt h k n))
    (cond (bytes_eq name (codes "register")) (byte_of a >>= λ k. byte_of b >>= λ h. note_of c >>= λ n. Some
    (Register k h n)) None))

-- the command of these fields
unfoldable pub reading : List (List ℕ) → Option Command
reading (n ∷ []) = reading_1 n
reading (n ∷ a ∷ []) = reading_2 n a
reading (n ∷ a ∷ b ∷ []) = reading_3 n a b
reading (n ∷ a ∷ b ∷ c ∷ []) = reading_4 n a b c
reading _ = None
