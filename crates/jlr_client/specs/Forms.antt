-- The forms of commands, their operands, what they may be refused, and which lines are of a form.
use Rattle.std.specs.Prelude.{◌≡◌, ◌<◌, ◌≤◌, ◌^◌, ℕ, ℤ, List, [], ◌∷◌, Option, Some, None, length, decimal, codes}
use Rattle.std.specs.Prelude.{FitsSigned, ⊤, ◌↔◌}
use Rattle.std.specs.List.{join_with_byte}
use Rattle.std.specs.Int.{w64}
use Rattle.std.specs.Fmt.{signed_decimal}
use Rattle.jlr_types.specs.declared.FieldKind.{FieldKind}
use Rattle.jlr_types.specs.declared.Refusal.{Refusal}
use Rattle.jlr_machine.specs.declared.ask.AskKind.{AskKind}
use Rattle.jlr_machine.specs.declared.ask.AskKind.TheVariants as to
use Rattle.jlr_machine.specs.Refusals.{listed_of}
use Rattle.jlr_device.specs.declared.device.Mode.{Mode as ModeOf}
use Rattle.jlr_wire.specs.Texts.{IsPathText, IsNameText, AreDigits}
use Rattle.jlr_wire.specs.Commands.{layout, mode_letter, IsCommand}
use Rattle.jlr_wire.specs.declared.command.Command.{Command}
use Rattle.jlr_client.specs.declared.manual.form.Form.{Form}
use Rattle.jlr_client.specs.declared.manual.form.Form.TheVariants as form
use Rattle.jlr_client.specs.declared.manual.operand.Operand.{Operand}
use Rattle.jlr_client.specs.declared.manual.operand.Operand.TheVariants.{Layout, Length, Object, Left, Right, Value}
use Rattle.jlr_client.specs.declared.manual.operand.Operand.TheVariants.{Reference}
use Rattle.jlr_client.specs.declared.manual.operand.Operand.TheVariants.{Queue, Cleaner, Cleanable, Field, Integer}
use Rattle.jlr_client.specs.declared.manual.operand.Operand.TheVariants.{Note, Mode}
use Rattle.jlr_client.specs.declared.manual.operand.Operand.TheVariants.{Path, Count, Bytes, Name}

-- in the order of the manual
abbrev pub all_forms : List Form
all_forms = form.New ∷ form.Array ∷ form.Put ∷ form.Get ∷ form.SetInt ∷ form.Int ∷ form.Dup ∷ form.Drop ∷
    form.Same ∷ form.Soft ∷ form.Weak ∷ form.Phantom ∷ form.Deref ∷ form.Refers ∷ form.Clear ∷ form.Enqueue ∷
    form.Enqueued ∷ form.Queue ∷ form.Poll ∷ form.Remove ∷ form.Cleaner ∷ form.Register ∷ form.Clean ∷ form.Open ∷
    form.Connect ∷ form.Read ∷ form.Write ∷ form.Close ∷ form.Bind ∷ form.Find ∷ form.Unbind ∷ form.Names ∷ form.Gc ∷
    form.GcSoft ∷ form.Stat ∷ form.Notes ∷ form.Faults ∷ form.Bye ∷ []

-- the word of a form
abbrev pub word_of_form : Form → List ℕ
word_of_form form.New = codes "new"
word_of_form form.Array = codes "array"
word_of_form form.Put = codes "put"
word_of_form form.Get = codes "get"
word_of_form form.SetInt = codes "setint"
word_of_form form.Int = codes "int"
word_of_form form.Dup = codes "dup"
word_of_form form.Drop = codes "drop"
word_of_form form.Same = codes "same"
word_of_form form.Soft = codes "soft"
word_of_form form.Weak = codes "weak"
word_of_form form.Phantom = codes "phantom"
word_of_form form.Deref = codes "deref"
word_of_form form.Refers = codes "refers"
word_of_form form.Clear = codes "clear"
word_of_form form.Enqueue = codes "enqueue"
word_of_form form.Enqueued = codes "enqueued"
word_of_form form.Queue = codes "queue"
word_of_form form.Poll = codes "poll"
word_of_form form.Remove = codes "remove"
word_of_form form.Cleaner = codes "cleaner"
word_of_form form.Register = codes "register"
word_of_form form.Clean = codes "clean"
word_of_form form.Open = codes "open"
word_of_form form.Connect = codes "connect"
word_of_form form.Read = codes "read"
word_of_form form.Write = codes "write"
word_of_form form.Close = codes "close"
word_of_form form.Bind = codes "bind"
word_of_form form.Find = codes "find"
word_of_form form.Unbind = codes "unbind"
word_of_form form.Names = codes "names"
word_of_form form.Gc = codes "gc"
word_of_form form.GcSoft = codes "gc soft"
word_of_form form.Stat = codes "stat"
word_of_form form.Notes = codes "notes"
word_of_form form.Faults = codes "faults"
word_of_form form.Bye = codes "bye"

-- what stands behind it
abbrev pub operands_of : Form → List Operand
operands_of form.New = Layout ∷ []
operands_of form.Array = Length ∷ []
operands_of form.Put = Object ∷ Field ∷ Value ∷ []
operands_of form.Get = Object ∷ Field ∷ []
operands_of form.SetInt = Object ∷ Field ∷ Integer ∷ []
operands_of form.Int = Object ∷ Field ∷ []
operands_of form.Dup = Object ∷ []
operands_of form.Drop = Object ∷ []
operands_of form.Same = Left ∷ Right ∷ []
operands_of form.Soft = Object ∷ Queue ∷ []
operands_of form.Weak = Object ∷ Queue ∷ []
operands_of form.Phantom = Object ∷ Queue ∷ []
operands_of form.Deref = Reference ∷ []
operands_of form.Refers = Reference ∷ Object ∷ []
operands_of form.Clear = Reference ∷ []
operands_of form.Enqueue = Reference ∷ []
operands_of form.Enqueued = Reference ∷ []
operands_of form.Queue = []
operands_of form.Poll = Queue ∷ []
operands_of form.Remove = Queue ∷ []
operands_of form.Cleaner = []
operands_of form.Register = Cleaner ∷ Object ∷ Note ∷ []
operands_of form.Clean = Cleanable ∷ []
operands_of form.Open = Mode ∷ Path ∷ []
operands_of form.Connect = Path ∷ []
operands_of form.Read = Object ∷ Count ∷ []
operands_of form.Write = Object ∷ Bytes ∷ []
operands_of form.Close = Object ∷ []
operands_of form.Bind = Name ∷ Object ∷ []
operands_of form.Find = Name ∷ []
operands_of form.Unbind = Name ∷ []
operands_of form.Names = []
operands_of form.Gc = []
operands_of form.GcSoft = []
operands_of form.Stat = []
operands_of form.Notes = []
operands_of form.Faults = []
operands_of form.Bye = []

-- what a command of this form asks first; `bye` asks nothing
abbrev pub first_ask : Form → Option AskKind
first_ask form.New = Some to.New
first_ask form.Array = Some to.Array
first_ask form.Put = Some to.Put
first_ask form.Get = Some to.Get
first_ask form.SetInt = Some to.SetInt
first_ask form.Int = Some to.Int
first_ask form.Dup = Some to.Dup
first_ask form.Drop = Some to.Drop
first_ask form.Same = Some to.Same
first_ask form.Soft = Some to.MakeRef
first_ask form.Weak = Some to.MakeRef
first_ask form.Phantom = Some to.MakeRef
first_ask form.Deref = Some to.Deref
first_ask form.Refers = Some to.Refers
first_ask form.Clear = Some to.Clear
first_ask form.Enqueue = Some to.Enqueue
first_ask form.Enqueued = Some to.Enqueued
first_ask form.Queue = Some to.MakeQueue
first_ask form.Poll = Some to.Poll
first_ask form.Remove = Some to.Remove
first_ask form.Cleaner = Some to.MakeCleaner
first_ask form.Register = Some to.Register
first_ask form.Clean = Some to.Clean
first_ask form.Open = Some to.Prepare
first_ask form.Connect = Some to.Prepare
first_ask form.Read = Some to.CheckOut
first_ask form.Write = Some to.CheckOut
first_ask form.Close = Some to.Close
first_ask form.Bind = Some to.Bind
first_ask form.Find = Some to.Find
first_ask form.Unbind = Some to.Unbind
first_ask form.Names = Some to.Names
first_ask form.Gc = Some to.Full
first_ask form.GcSoft = Some to.Full
first_ask form.Stat = Some to.Stat
first_ask form.Notes = Some to.Notes
first_ask form.Faults = Some to.Faults
first_ask form.Bye = None

-- what the machine's table lists for it
abbrev pub refusals_of_kind : Option AskKind → List Refusal
refusals_of_kind None = []
refusals_of_kind (Some kind) = listed_of kind

abbrev pub refusals_of : Form → List Refusal
refusals_of f = refusals_of_kind (first_ask f)

-- a handle in decimal
abbrev pub IsHandle : List ℕ → Type 0
IsHandle text = (h : ℕ) × (h < 256) × (text ≡ decimal h)

-- the text is such an operand
abbrev pub IsOperand : Operand → List ℕ → Type 0
IsOperand Layout text = (kinds : List FieldKind) × (length kinds ≤ 8) × (text ≡ layout kinds)
IsOperand Length text = (n : ℕ) × (1 ≤ n) × (n ≤ 4096) × (text ≡ decimal n)
IsOperand Object text = IsHandle text
IsOperand Left text = IsHandle text
IsOperand Right text = IsHandle text
IsOperand Value text = IsHandle text
IsOperand Reference text = IsHandle text
IsOperand Queue text = IsHandle text
IsOperand Cleaner text = IsHandle text
IsOperand Cleanable text = IsHandle text
IsOperand Field text = (k : ℕ) × (k < 4096) × (text ≡ decimal k)
IsOperand Integer text = (n : ℤ) × FitsSigned w64 n × (text ≡ signed_decimal n)
IsOperand Note text = (n : ℕ) × (n < 2 ^ 32) × (text ≡ decimal n)
IsOperand Mode text = (m : ModeOf) × (text ≡ mode_letter m)
IsOperand Path text = IsPathText text
IsOperand Count text = (n : ℕ) × (1 ≤ n) × (n ≤ 200) × (text ≡ decimal n)
IsOperand Bytes text = (bytes : List ℕ) × AreDigits text bytes
IsOperand Name text = IsNameText text

-- the texts are these operands, in order
abbrev pub AreOperands : List Operand → List (List ℕ) → Type 0
AreOperands [] [] = ⊤
AreOperands (o ∷ os) (t ∷ ts) = IsOperand o t × AreOperands os ts
AreOperands _ _ = ⊥

-- The line is of this form: its word and its operands, with exactly one space between each two.
pub record IsOfForm (line : List ℕ) (form : Form) : Type 0 where
  pub short : length line ≤ 512
  pub texts : List (List ℕ)
  pub each : AreOperands (operands_of form) texts
  pub joined : line ≡ join_with_byte 32 (word_of_form form ∷ texts)

-- the lines of the forms are those of commands
abbrev pub FormsAreCommands : Type 0
FormsAreCommands = (line : List ℕ) → ((form : Form) × IsOfForm line form)
    ↔ ((command : Command) × IsCommand line command)
