-- How the manual writes a form.
use Rattle.std.specs.Prelude.{ℕ, Bool, ◌||◌, ◌&&◌, List, ◌∷◌, ◌++◌, codes, decimal}
use Rattle.std.specs.List.{flat_map}
use Rattle.std.specs.Str.{bytes_eq}
use Rattle.jlr_types.specs.Numbers.{number_of}
use Rattle.jlr_types.specs.declared.Refusal.{Refusal}
use Rattle.jlr_client.specs.declared.manual.form.Form.{Form}
use Rattle.jlr_client.specs.declared.manual.operand.Operand.{Operand}
use Rattle.jlr_client.specs.declared.manual.operand.Operand.TheVariants as operand
use Rattle.jlr_client.specs.Forms.{word_of_form, operands_of}

-- the letter or the word of an operand
abbrev pub letter_of : Operand → List ℕ
letter_of operand.Layout = codes "L"
letter_of operand.Length = codes "n"
letter_of operand.Object = codes "h"
letter_of operand.Left = codes "a"
letter_of operand.Right = codes "b"
letter_of operand.Value = codes "v"
letter_of operand.Reference = codes "r"
letter_of operand.Queue = codes "q"
letter_of operand.Cleaner = codes "c"
letter_of operand.Cleanable = codes "c"
letter_of operand.Field = codes "k"
letter_of operand.Integer = codes "integer"
letter_of operand.Note = codes "note"
letter_of operand.Mode = codes "m"
letter_of operand.Path = codes "path"
letter_of operand.Count = codes "count"
letter_of operand.Bytes = codes "bytes"
letter_of operand.Name = codes "name"

-- each after a space
abbrev pub operand_letters : List Operand → List ℕ
operand_letters operands = flat_map (λ operand. 32 ∷ letter_of operand) operands

-- the word of a form and its operands
abbrev pub row_of : Form → List ℕ
row_of form = word_of_form form ++ operand_letters (operands_of form)

-- the number of each refusal after a space
abbrev pub refusal_numbers : List Refusal → List ℕ
refusal_numbers refusals = flat_map (λ refusal. 32 ∷ decimal (number_of refusal)) refusals

-- a form is meant by its word, and `gc soft` by `gc` too
abbrev pub is_meant_by : List ℕ → Form → Bool
is_meant_by word form =
    bytes_eq (word_of_form form) word
    || (bytes_eq word (codes "gc") && bytes_eq (word_of_form form) (codes "gc soft"))
