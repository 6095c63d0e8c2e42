-- The line of an answer.
use Rattle.std.specs.Prelude.{ℕ, true, false, List, [], ◌∷◌, ◌++◌, take, Option, Some, None, Result, MatchResult, codes}
use Rattle.std.specs.Prelude.{decimal}
use Rattle.std.specs.List.{flat_map}
use Rattle.std.specs.Fmt.{signed_decimal}
use Rattle.std.specs.Io.KnownBytes.{Appends}
use Rattle.hex.specs.Hex.{encode_lower}
use Rattle.jlr_types.specs.Numbers.{number_of}
use Rattle.jlr_types.specs.declared.Fault.{Fault}
use Rattle.jlr_types.specs.declared.Fault.TheVariants.{NotFound, Denied, Other}
use Rattle.jlr_machine.specs.declared.machine.Failure.{Failure}
use Rattle.jlr_machine.specs.declared.ask.Answer.{Answer}
use Rattle.jlr_machine.specs.declared.ask.Answer.TheVariants.{Done, Handle, Truth, Int, Data, Wrote, Faulted, Names}
use Rattle.jlr_machine.specs.declared.ask.Answer.TheVariants.{Notes, Faults, Stat as StatAnswer, AlreadyDone, Refused}
use Rattle.jlr_machine.specs.declared.ask.Stat.{Stat}

-- the items in order, each after a space
abbrev pub spaced : {T : Type 0} → (T → List ℕ) → List T → List ℕ
spaced text items = flat_map (λ item. 32 ∷ text item) items

-- what the machine's counts say
abbrev pub stat_words : Stat → List ℕ
stat_words s = codes "stat" ++ spaced decimal (s.objects ∷ s.resources ∷ s.taken ∷ s.ok ∷ s.failed ∷ [])

-- the name of a fault
abbrev pub fault_text : Fault → List ℕ
fault_text NotFound = codes "notfound"
fault_text Denied = codes "denied"
fault_text Other = codes "other"

-- a failed action and its fault
abbrev pub failure_text : Failure → List ℕ
failure_text failure = decimal failure.action ++ codes ":" ++ fault_text failure.fault

-- the bytes that were read in hexadecimal digits, small letters among them, or that there were none
abbrev pub data_words : List ℕ → List ℕ
data_words [] = codes "end"
data_words (b ∷ bytes) = codes "data " ++ encode_lower (b ∷ bytes)

-- what an answer says, where it has a line
abbrev pub words : Answer → Option (List ℕ)
words Done = Some (codes "ok")
words AlreadyDone = Some (codes "ok")
words (Handle h) = Some (codes "= " ++ decimal h)
words (Truth true) = Some (codes "yes")
words (Truth false) = Some (codes "no")
words (Int n) = Some (codes "int " ++ signed_decimal n)
words (Data bytes) = Some (data_words bytes)
words (Wrote n) = Some (codes "wrote " ++ decimal n)
words (Faulted fault) = Some (codes "fault " ++ fault_text fault)
words (Names names) = Some (codes "list" ++ spaced (λ name. name) names)
words (Notes notes) = Some (codes "list" ++ spaced decimal notes)
words (Faults failures) = Some (codes "list" ++ spaced failure_text failures)
words (StatAnswer s) = Some (stat_words s)
words (Refused refusal) = Some (codes "! " ++ decimal (number_of refusal))
words _ = None

-- known bytes grow by a prefix of these
abbrev pub AppendsFront : Option (List ℕ) → Option (List ℕ) → List ℕ → Type 0
AppendsFront old new bytes = (n : ℕ) × Appends old new (take n bytes)

-- the bytes went out, or after a fault a prefix of them
abbrev pub Sends : {E : Type 0} → Option (List ℕ) → Option (List ℕ) → Result (Unit {0}) E → List ℕ → Type 0
Sends old new result bytes = MatchResult result (λ _. Appends old new bytes) (λ _. AppendsFront old new bytes)
