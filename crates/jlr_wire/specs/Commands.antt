-- What lines are commands: a line is its fields, with exactly one space between each two.
use Rattle.std.specs.Prelude.{◌≡◌, ℕ, ◌^◌, ◌<◌, ◌≤◌, List, [], ◌∷◌, map, length, decimal, codes, FitsSigned}
use Rattle.std.specs.List.{join_with_byte}
use Rattle.std.specs.Int.{w64}
use Rattle.std.specs.Fmt.{signed_decimal}
use Rattle.jlr_types.specs.declared.FieldKind.{FieldKind}
use Rattle.jlr_types.specs.declared.FieldKind.TheVariants.{Int as IntField, Ref as RefField}
use Rattle.jlr_device.specs.declared.device.Mode.{Mode}
use Rattle.jlr_device.specs.declared.device.Mode.TheVariants.{Read as Reading, Write as Writing}
use Rattle.jlr_machine.specs.declared.ask.FullMode.TheVariants.{Policy, ClearAll}
use Rattle.jlr_wire.specs.Texts.{IsPathText, IsNameText, AreDigits}
use Rattle.jlr_wire.specs.declared.command.Command.{Command}
use Rattle.jlr_wire.specs.declared.command.Command.TheVariants.{New, Put, Get, SetInt, Int, Dup, Drop, Same, Soft, Weak}
use Rattle.jlr_wire.specs.declared.command.Command.TheVariants.{Phantom, Deref, Refers, Clear, Enqueue, Enqueued, Queue}
use Rattle.jlr_wire.specs.declared.command.Command.TheVariants.{Poll, Remove, Cleaner, Register, Clean, Open, Connect}
use Rattle.jlr_wire.specs.declared.command.Command.TheVariants.{Read, Write, Close, Bind, Find, Unbind, Names, Full}
use Rattle.jlr_wire.specs.declared.command.Command.TheVariants.{Stat, Notes, Faults, Bye, Array}

-- the letter of a field
abbrev pub letter : FieldKind → ℕ
letter RefField = 114
letter IntField = 105

-- a layout of no fields is a dash, another one letter for each field
abbrev pub layout : List FieldKind → List ℕ
layout [] = codes "-"
layout (kind ∷ kinds) = map letter (kind ∷ kinds)

-- what a file is opened for
abbrev pub mode_letter : Mode → List ℕ
mode_letter Reading = codes "r"
mode_letter Writing = codes "w"

-- these are the fields of the command; a number has no leading zero
abbrev pub Fields : Command → List (List ℕ) → Type 0
Fields (New kinds) fields = (length kinds ≤ 8) × (fields ≡ codes "new" ∷ layout kinds ∷ [])
Fields (Put h k v) fields = (h < 256) × (k < 4096) × (v < 256)
    × (fields ≡ codes "put" ∷ decimal h ∷ decimal k ∷ decimal v ∷ [])
Fields (Get h k) fields = (h < 256) × (k < 4096) × (fields ≡ codes "get" ∷ decimal h ∷ decimal k ∷ [])
Fields (SetInt h k n) fields =
    (h < 256) × (k < 4096) × FitsSigned w64 n
    × (fields ≡ codes "setint" ∷ decimal h ∷ decimal k ∷ signed_decimal n ∷ [])
Fields (Int h k) fields = (h < 256) × (k < 4096) × (fields ≡ codes "int" ∷ decimal h ∷ decimal k ∷ [])
Fields (Dup h) fields = (h < 256) × (fields ≡ codes "dup" ∷ decimal h ∷ [])
Fields (Drop h) fields = (h < 256) × (fields ≡ codes "drop" ∷ decimal h ∷ [])
Fields (Same a b) fields = (a < 256) × (b < 256) × (fields ≡ codes "same" ∷ decimal a ∷ decimal b ∷ [])
Fields (Soft h q) fields = (h < 256) × (q < 256) × (fields ≡ codes "soft" ∷ decimal h ∷ decimal q ∷ [])
Fields (Weak h q) fields = (h < 256) × (q < 256) × (fields ≡ codes "weak" ∷ decimal h ∷ decimal q ∷ [])
Fields (Phantom h q) fields = (h < 256) × (q < 256) × (fields ≡ codes "phantom" ∷ decimal h ∷ decimal q ∷ [])
Fields (Deref r) fields = (r < 256) × (fields ≡ codes "deref" ∷ decimal r ∷ [])
Fields (Refers r h) fields = (r < 256) × (h < 256) × (fields ≡ codes "refers" ∷ decimal r ∷ decimal h ∷ [])
Fields (Clear r) fields = (r < 256) × (fields ≡ codes "clear" ∷ decimal r ∷ [])
Fields (Enqueue r) fields = (r < 256) × (fields ≡ codes "enqueue" ∷ decimal r ∷ [])
Fields (Enqueued r) fields = (r < 256) × (fields ≡ codes "enqueued" ∷ decimal r ∷ [])
Fields Queue fields = fields ≡ codes "queue" ∷ []
Fields (Poll q) fields = (q < 256) × (fields ≡ codes "poll" ∷ decimal q ∷ [])
Fields (Remove q) fields = (q < 256) × (fields ≡ codes "remove" ∷ decimal q ∷ [])
Fields Cleaner fields = fields ≡ codes "cleaner" ∷ []
Fields (Register c h note) fields =
    (c < 256) × (h < 256) × (note < 2 ^ 32) × (fields ≡ codes "register" ∷ decimal c ∷ decimal h ∷ decimal note ∷ [])
Fields (Clean c) fields = (c < 256) × (fields ≡ codes "clean" ∷ decimal c ∷ [])
Fields (Open mode path) fields = IsPathText path × (fields ≡ codes "open" ∷ mode_letter mode ∷ path ∷ [])
Fields (Connect path) fields = IsPathText path × (fields ≡ codes "connect" ∷ path ∷ [])
Fields (Read h count) fields = (h < 256) × (1 ≤ count) × (count ≤ 200)
    × (fields ≡ codes "read" ∷ decimal h ∷ decimal count ∷ [])
Fields (Write h bytes) fields =
    (h < 256) × (digits : List ℕ) × AreDigits digits bytes × (fields ≡ codes "write" ∷ decimal h ∷ digits ∷ [])
Fields (Close h) fields = (h < 256) × (fields ≡ codes "close" ∷ decimal h ∷ [])
Fields (Bind name h) fields = IsNameText name × (h < 256) × (fields ≡ codes "bind" ∷ name ∷ decimal h ∷ [])
Fields (Find name) fields = IsNameText name × (fields ≡ codes "find" ∷ name ∷ [])
Fields (Unbind name) fields = IsNameText name × (fields ≡ codes "unbind" ∷ name ∷ [])
Fields Names fields = fields ≡ codes "names" ∷ []
Fields (Full Policy) fields = fields ≡ codes "gc" ∷ []
Fields (Full ClearAll) fields = fields ≡ codes "gc" ∷ codes "soft" ∷ []
Fields Stat fields = fields ≡ codes "stat" ∷ []
Fields Notes fields = fields ≡ codes "notes" ∷ []
Fields Faults fields = fields ≡ codes "faults" ∷ []
Fields Bye fields = fields ≡ codes "bye" ∷ []
Fields (Array n) fields = (1 ≤ n) × (n ≤ 4096) × (fields ≡ codes "array" ∷ decimal n ∷ [])

-- The line, without its end, is the command.
pub record IsCommand (line : List ℕ) (command : Command) : Type 0 where
  pub short : length line ≤ 512
  pub fields : List (List ℕ)
  pub each : Fields command fields
  pub joined : line ≡ join_with_byte 32 fields
