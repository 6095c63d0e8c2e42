-- Each form is listed, and the lines of the forms are those of commands.
use Rattle.std.proofs.Common.{◌≡◌, ◌≤◌, ℕ, List, [], ◌∷◌, length, refl, ap, ◌∙◌, arith}
use Rattle.std.specs.Prelude.{codes, decimal}
use Rattle.std.specs.List.{Contains, join_with_byte}
use Rattle.std.specs.Fmt.{signed_decimal}
use Rattle.jlr_machine.specs.declared.ask.FullMode.TheVariants.{Policy, ClearAll}
use Rattle.jlr_wire.specs.Commands.{layout, mode_letter, Fields, IsCommand}
use Rattle.jlr_wire.specs.declared.command.Command.{Command}
use Rattle.jlr_wire.specs.declared.command.Command.TheVariants as command
use Rattle.jlr_client.specs.declared.manual.form.Form.{Form}
use Rattle.jlr_client.specs.declared.manual.form.Form.TheVariants as form
use Rattle.jlr_client.specs.declared.manual.operand.Operand.{Operand}
use Rattle.jlr_client.specs.declared.manual.operand.Operand.TheVariants as operand
use Rattle.jlr_client.specs.Forms.{all_forms, word_of_form, operands_of, IsOperand, AreOperands, IsOfForm, FormsAreCommands}

pub each_form_is_listed : (f : Form) → Contains all_forms f
each_form_is_listed form.New = (0, omega arith, refl)
each_form_is_listed form.Array = (1, omega arith, refl)
each_form_is_listed form.Put = (2, omega arith, refl)
each_form_is_listed form.Get = (3, omega arith, refl)
each_form_is_listed form.SetInt = (4, omega arith, refl)
each_form_is_listed form.Int = (5, omega arith, refl)
each_form_is_listed form.Dup = (6, omega arith, refl)
each_form_is_listed form.Drop = (7, omega arith, refl)
each_form_is_listed form.Same = (8, omega arith, refl)
each_form_is_listed form.Soft = (9, omega arith, refl)
each_form_is_listed form.Weak = (10, omega arith, refl)
each_form_is_listed form.Phantom = (11, omega arith, refl)
each_form_is_listed form.Deref = (12, omega arith, refl)
each_form_is_listed form.Refers = (13, omega arith, refl)
each_form_is_listed form.Clear = (14, omega arith, refl)
each_form_is_listed form.Enqueue = (15, omega arith, refl)
each_form_is_listed form.Enqueued = (16, omega arith, refl)
each_form_is_listed form.Queue = (17, omega arith, refl)
each_form_is_listed form.Poll = (18, omega arith, refl)
each_form_is_listed form.Remove = (19, omega arith, refl)
each_form_is_listed form.Cleaner = (20, omega arith, refl)
each_form_is_listed form.Register = (21, omega arith, refl)
each_form_is_listed form.Clean = (22, omega arith, refl)
each_form_is_listed form.Open = (23, omega arith, refl)
each_form_is_listed form.Connect = (24, omega arith, refl)
each_form_is_listed form.Read = (25, omega arith, refl)
each_form_is_listed form.Write = (26, omega arith, refl)
each_form_is_listed form.Close = (27, omega arith, refl)
each_form_is_listed form.Bind = (28, omega arith, refl)
each_form_is_listed form.Find = (29, omega arith, refl)
each_form_is_listed form.Unbind = (30, omega arith, refl)
each_form_is_listed form.Names = (31, omega arith, refl)
each_form_is_listed form.Gc = (32, omega arith, refl)
each_form_is_listed form.GcSoft = (33, omega arith, refl)
each_form_is_listed form.Stat = (34, omega arith, refl)
each_form_is_listed form.Notes = (35, omega arith, refl)
each_form_is_listed form.Faults = (36, omega arith, refl)
each_form_is_listed form.Bye = (37, omega arith, refl)

of_form : (line : List ℕ) (f : Form) (texts : List (List ℕ)) → AreOperands (operands_of f) texts → length line ≤ 512
    → line ≡ join_with_byte 32 (word_of_form f ∷ texts) → IsOfForm line f
of_form line f texts each short joined = record { short = short; texts = texts; each = each; joined = joined }

commands_are_forms : (line : List ℕ) (c : Command) → IsCommand line c → (f : Form) × IsOfForm line f
commands_are_forms line (command.New kinds) h = let e = h.each in
    (form.New, of_form line form.New (layout kinds ∷ []) ((kinds, e.0, refl), tt) h.short (h.joined ∙ ap (join_with_byte 32) h.each.1))
commands_are_forms line (command.Put a b c) h = let e = h.each in (
  form.Put,
  of_form line form.Put (decimal a ∷ decimal b ∷ decimal c ∷ []) ((a, e.0, refl), ((b, e.1, refl), ((c, e.2, refl), tt)))
      h.short (h.joined ∙ ap (join_with_byte 32) h.each.3),
)
commands_are_forms line (command.Get a b) h = let e = h.each in (
  form.Get,
  of_form line form.Get (decimal a ∷ decimal b ∷ []) ((a, e.0, refl), ((b, e.1, refl), tt)) h.short
      (h.joined ∙ ap (join_with_byte 32) h.each.2),
)
commands_are_forms line (command.SetInt j k n) h = let e = h.each in (
  form.SetInt,
  of_form line form.SetInt (decimal j ∷ decimal k ∷ signed_decimal n ∷ [])
      ((j, e.0, refl), ((k, e.1, refl), ((n, e.2, refl), tt))) h.short (h.joined ∙ ap (join_with_byte 32) h.each.3),
)
commands_are_forms line (command.Int a b) h = let e = h.each in (
  form.Int,
  of_form line form.Int (decimal a ∷ decimal b ∷ []) ((a, e.0, refl), ((b, e.1, refl), tt)) h.short
      (h.joined ∙ ap (join_with_byte 32) h.each.2),
)
commands_are_forms line (command.Dup a) h = let e = h.each in
    (form.Dup, of_form line form.Dup (decimal a ∷ []) ((a, e.0, refl), tt) h.short (h.joined ∙ ap (join_with_byte 32) h.each.1))
commands_are_forms line (command.Drop a) h = let e = h.each in
    (form.Drop, of_form line form.Drop (decimal a ∷ []) ((a, e.0, refl), tt) h.short (h.joined ∙ ap (join_with_byte 32) h.each.1))
commands_are_forms line (command.Same a b) h = let e = h.each in (
  form.Same,
  of_form line form.Same (decimal a ∷ decimal b ∷ []) ((a, e.0, refl), ((b, e.1, refl), tt)) h.short
      (h.joined ∙ ap (join_with_byte 32) h.each.2),
)
commands_are_forms line (command.Soft a b) h = let e = h.each in (
  form.Soft,
  of_form line form.Soft (decimal a ∷ decimal b ∷ []) ((a, e.0, refl), ((b, e.1, refl), tt)) h.short
      (h.joined ∙ ap (join_with_byte 32) h.each.2),
)
commands_are_forms line (command.Weak a b) h = let e = h.each in (
  form.Weak,
  of_form line form.Weak (decimal a ∷ decimal b ∷ []) ((a, e.0, refl), ((b, e.1, refl), tt)) h.short
      (h.joined ∙ ap (join_with_byte 32) h.each.2),
)
commands_are_forms line (command.Phantom a b) h = let e = h.each in (
  form.Phantom,
  of_form line form.Phantom (decimal a ∷ decimal b ∷ []) ((a, e.0, refl), ((b, e.1, refl), tt)) h.short
      (h.joined ∙ ap (join_with_byte 32) h.each.2),
)
commands_are_forms line (command.Deref a) h = let e = h.each in
    (form.Deref, of_form line form.Deref (decimal a ∷ []) ((a, e.0, refl), tt) h.short (h.joined ∙ ap (join_with_byte 32) h.each.1))
commands_are_forms line (command.Refers a b) h = let e = h.each in (
  form.Refers,
  of_form line form.Refers (decimal a ∷ decimal b ∷ []) ((a, e.0, refl), ((b, e.1, refl), tt)) h.short
      (h.joined ∙ ap (join_with_byte 32) h.each.2),
)
commands_are_forms line (command.Clear a) h = let e = h.each in
    (form.Clear, of_form line form.Clear (decimal a ∷ []) ((a, e.0, refl), tt) h.short (h.joined ∙ ap (join_with_byte 32) h.each.1))
commands_are_forms line (command.Enqueue a) h = let e = h.each in
    (form.Enqueue, of_form line form.Enqueue (decimal a ∷ []) ((a, e.0, refl), tt) h.short (h.joined ∙ ap (join_with_byte 32) h.each.1))
commands_are_forms line (command.Enqueued a) h = let e = h.each in
    (form.Enqueued, of_form line form.Enqueued (decimal a ∷ []) ((a, e.0, refl), tt) h.short (h.joined ∙ ap (join_with_byte 32) h.each.1))
commands_are_forms line command.Queue h = (form.Queue, of_form line form.Queue ([]) tt h.short (h.joined ∙ ap (join_with_byte 32) h.each))
commands_are_forms line (command.Poll a) h = let e = h.each in
    (form.Poll, of_form line form.Poll (decimal a ∷ []) ((a, e.0, refl), tt) h.short (h.joined ∙ ap (join_with_byte 32) h.each.1))
commands_are_forms line (command.Remove a) h = let e = h.each in
    (form.Remove, of_form line form.Remove (decimal a ∷ []) ((a, e.0, refl), tt) h.short (h.joined ∙ ap (join_with_byte 32) h.each.1))
commands_are_forms line command.Cleaner h =
    (form.Cleaner, of_form line form.Cleaner ([]) tt h.short (h.joined ∙ ap (join_with_byte 32) h.each))
commands_are_forms line (command.Register a b c) h = let e = h.each in (
  form.Register,
  of_form line form.Register (decimal a ∷ decimal b ∷ decimal c ∷ [])
      ((a, e.0, refl), ((b, e.1, refl), ((c, e.2, refl), tt))) h.short (h.joined ∙ ap (join_with_byte 32) h.each.3),
)
commands_are_forms line (command.Clean a) h = let e = h.each in
    (form.Clean, of_form line form.Clean (decimal a ∷ []) ((a, e.0, refl), tt) h.short (h.joined ∙ ap (join_with_byte 32) h.each.1))
commands_are_forms line (command.Open m p) h = let e = h.each in
    (form.Open, of_form line form.Open (mode_letter m ∷ p ∷ []) ((m, refl), (e.0, tt)) h.short (h.joined ∙ ap (join_with_byte 32) h.each.1))
commands_are_forms line (command.Connect p) h = let e = h.each in
    (form.Connect, of_form line form.Connect (p ∷ []) (e.0, tt) h.short (h.joined ∙ ap (join_with_byte 32) h.each.1))
commands_are_forms line (command.Read j n) h = let e = h.each in (
  form.Read,
  of_form line form.Read (decimal j ∷ decimal n ∷ []) ((j, e.0, refl), ((n, e.1, e.2, refl), tt)) h.short
      (h.joined ∙ ap (join_with_byte 32) h.each.3),
)
commands_are_forms line (command.Write j bytes) h = let e = h.each in (
  form.Write,
  of_form line form.Write (decimal j ∷ e.1 ∷ []) ((j, e.0, refl), ((bytes, e.2), tt)) h.short
      (h.joined ∙ ap (join_with_byte 32) h.each.3),
)
commands_are_forms line (command.Close a) h = let e = h.each in
    (form.Close, of_form line form.Close (decimal a ∷ []) ((a, e.0, refl), tt) h.short (h.joined ∙ ap (join_with_byte 32) h.each.1))
commands_are_forms line (command.Bind n j) h = let e = h.each in (
  form.Bind,
  of_form line form.Bind (n ∷ decimal j ∷ []) (e.0, ((j, e.1, refl), tt)) h.short
      (h.joined ∙ ap (join_with_byte 32) h.each.2),
)
commands_are_forms line (command.Find n) h = let e = h.each in
    (form.Find, of_form line form.Find (n ∷ []) (e.0, tt) h.short (h.joined ∙ ap (join_with_byte 32) h.each.1))
commands_are_forms line (command.Unbind n) h = let e = h.each in
    (form.Unbind, of_form line form.Unbind (n ∷ []) (e.0, tt) h.short (h.joined ∙ ap (join_with_byte 32) h.each.1))
commands_are_forms line command.Names h = (form.Names, of_form line form.Names ([]) tt h.short (h.joined ∙ ap (join_with_byte 32) h.each))
commands_are_forms line (command.Full Policy) h = (form.Gc, of_form line form.Gc ([]) tt h.short (h.joined ∙ ap (join_with_byte 32) h.each))
commands_are_forms line command.Stat h = (form.Stat, of_form line form.Stat ([]) tt h.short (h.joined ∙ ap (join_with_byte 32) h.each))
commands_are_forms line command.Notes h = (form.Notes, of_form line form.Notes ([]) tt h.short (h.joined ∙ ap (join_with_byte 32) h.each))
commands_are_forms line command.Faults h =
    (form.Faults, of_form line form.Faults ([]) tt h.short (h.joined ∙ ap (join_with_byte 32) h.each))
commands_are_forms line command.Bye h = (form.Bye, of_form line form.Bye ([]) tt h.short (h.joined ∙ ap (join_with_byte 32) h.each))
commands_are_forms line (command.Array n) h = let e = h.each in
    (form.Array, of_form line form.Array (decimal n ∷ []) ((n, e.0, e.1, refl), tt) h.short (h.joined ∙ ap (join_with_byte 32) h.each.2))
commands_are_forms line (command.Full ClearAll) h =
    (form.GcSoft, of_form line form.GcSoft [] tt h.short (h.joined ∙ ap (join_with_byte 32) h.each))

command_of : (line : List ℕ) (c : Command) (fields : List (List ℕ)) → Fields c fields → length line ≤ 512 → line ≡ join_with_byte 32 fields
    → IsCommand line c
command_of line c fields each short joined = record { short = short; fields = fields; each = each; joined = joined }

-- the texts of no operand, of one, of two, of three
none : (texts : List (List ℕ)) → AreOperands [] texts → texts ≡ []
none [] h = refl
none (t ∷ ts) h = absurd h

one : (o : Operand) (texts : List (List ℕ)) → AreOperands (o ∷ []) texts → (t : List ℕ) × IsOperand o t × (texts ≡ t ∷ [])
one o [] h = absurd h
one o (t ∷ ts) h = (t, h.0, ap (λ rest. t ∷ rest) (none ts h.1))

two : (o p : Operand) (texts : List (List ℕ)) → AreOperands (o ∷ p ∷ []) texts
    → (t : List ℕ) × IsOperand o t × (u : List ℕ) × IsOperand p u × (texts ≡ t ∷ u ∷ [])
two o p [] h = absurd h
two o p (t ∷ ts) h = let x = one p ts h.1 in (t, h.0, x.0, x.1, ap (λ rest. t ∷ rest) x.2)

three : (o p q : Operand) (texts : List (List ℕ)) → AreOperands (o ∷ p ∷ q ∷ []) texts
    → (t : List ℕ) × IsOperand o t × (u : List ℕ) × IsOperand p u × (v : List ℕ) × IsOperand q v × (texts ≡ t ∷ u ∷ v ∷ [])
three o p q [] h = absurd h
three o p q (t ∷ ts) h = let x = two p q ts h.1 in (t, h.0, x.0, x.1, x.2, x.3, ap (λ rest. t ∷ rest) x.4)

same_1 : {a b : List ℕ} → a ≡ b → a ∷ [] ≡ b ∷ []
same_1 e = ap (λ x. x ∷ []) e

same_2 : {a b c d : List ℕ} → a ≡ b → c ≡ d → a ∷ c ∷ [] ≡ b ∷ d ∷ []
same_2 {a = a} {d = d} e f = ap (λ y. a ∷ y ∷ []) f ∙ ap (λ x. x ∷ d ∷ []) e

same_3 : {a b c d x y : List ℕ} → a ≡ b → c ≡ d → x ≡ y → a ∷ c ∷ x ∷ [] ≡ b ∷ d ∷ y ∷ []
same_3 {a = a} {b = b} {c = c} {d = d} {x = x} {y = y} e f g =
    ap (λ z. a ∷ c ∷ z ∷ []) g ∙ ap (λ z. a ∷ z ∷ y ∷ []) f ∙ ap (λ z. z ∷ d ∷ y ∷ []) e

forms_are_commands : (line : List ℕ) (f : Form) → IsOfForm line f → (c : Command) × IsCommand line c
forms_are_commands line form.New h = let x = one operand.Layout h.texts h.each in (
  command.New (x.1.0),
  command_of line (command.New (x.1.0)) (codes "new" ∷ layout x.1.0 ∷ []) (x.1.1, refl) h.short
      (h.joined ∙ ap (λ texts. join_with_byte 32 (codes "new" ∷ texts)) (x.2 ∙ same_1 (x.1.2))),
)
forms_are_commands line form.Array h = let x = one operand.Length h.texts h.each in (
  command.Array (x.1.0),
  command_of line (command.Array (x.1.0)) (codes "array" ∷ decimal x.1.0 ∷ []) (x.1.1, x.1.2, refl) h.short
      (h.joined ∙ ap (λ texts. join_with_byte 32 (codes "array" ∷ texts)) (x.2 ∙ same_1 (x.1.3))),
)
forms_are_commands line form.Put h = let x = three operand.Object operand.Field operand.Value h.texts h.each in (
  command.Put (x.1.0) (x.3.0) (x.5.0),
  command_of line (command.Put (x.1.0) (x.3.0) (x.5.0))
      (codes "put" ∷ decimal x.1.0 ∷ decimal x.3.0 ∷ decimal x.5.0 ∷ []) (x.1.1, x.3.1, x.5.1, refl) h.short
      (h.joined ∙ ap (λ texts. join_with_byte 32 (codes "put" ∷ texts)) (x.6 ∙ same_3 (x.1.2) (x.3.2) (x.5.2))),
)
forms_are_commands line form.Get h = let x = two operand.Object operand.Field h.texts h.each in (
  command.Get (x.1.0) (x.3.0),
  command_of line (command.Get (x.1.0) (x.3.0)) (codes "get" ∷ decimal x.1.0 ∷ decimal x.3.0 ∷ [])
      (x.1.1, x.3.1, refl) h.short (h.joined ∙ ap (λ texts. join_with_byte 32 (codes "get" ∷ texts)) (x.4 ∙ same_2 (x.1.2) (x.3.2))),
)
forms_are_commands line form.SetInt h = let x = three operand.Object operand.Field operand.Integer h.texts h.each in (
  command.SetInt (x.1.0) (x.3.0) (x.5.0),
  command_of line (command.SetInt (x.1.0) (x.3.0) (x.5.0))
      (codes "setint" ∷ decimal x.1.0 ∷ decimal x.3.0 ∷ signed_decimal x.5.0 ∷ []) (x.1.1, x.3.1, x.5.1, refl) h.short
      (h.joined ∙ ap (λ texts. join_with_byte 32 (codes "setint" ∷ texts)) (x.6 ∙ same_3 (x.1.2) (x.3.2) (x.5.2))),
)
forms_are_commands line form.Int h = let x = two operand.Object operand.Field h.texts h.each in (
  command.Int (x.1.0) (x.3.0),
  command_of line (command.Int (x.1.0) (x.3.0)) (codes "int" ∷ decimal x.1.0 ∷ decimal x.3.0 ∷ [])
      (x.1.1, x.3.1, refl) h.short (h.joined ∙ ap (λ texts. join_with_byte 32 (codes "int" ∷ texts)) (x.4 ∙ same_2 (x.1.2) (x.3.2))),
)
forms_are_commands line form.Dup h = let x = one operand.Object h.texts h.each in (
  command.Dup (x.1.0),
  command_of line (command.Dup (x.1.0)) (codes "dup" ∷ decimal x.1.0 ∷ []) (x.1.1, refl) h.short
      (h.joined ∙ ap (λ texts. join_with_byte 32 (codes "dup" ∷ texts)) (x.2 ∙ same_1 (x.1.2))),
)
forms_are_commands line form.Drop h = let x = one operand.Object h.texts h.each in (
  command.Drop (x.1.0),
  command_of line (command.Drop (x.1.0)) (codes "drop" ∷ decimal x.1.0 ∷ []) (x.1.1, refl) h.short
      (h.joined ∙ ap (λ texts. join_with_byte 32 (codes "drop" ∷ texts)) (x.2 ∙ same_1 (x.1.2))),
)
forms_are_commands line form.Same h = let x = two operand.Left operand.Right h.texts h.each in (
  command.Same (x.1.0) (x.3.0),
  command_of line (command.Same (x.1.0) (x.3.0)) (codes "same" ∷ decimal x.1.0 ∷ decimal x.3.0 ∷ [])
      (x.1.1, x.3.1, refl) h.short (h.joined ∙ ap (λ texts. join_with_byte 32 (codes "same" ∷ texts)) (x.4 ∙ same_2 (x.1.2) (x.3.2))),
)
forms_are_commands line form.Soft h = let x = two operand.Object operand.Queue h.texts h.each in (
  command.Soft (x.1.0) (x.3.0),
  command_of line (command.Soft (x.1.0) (x.3.0)) (codes "soft" ∷ decimal x.1.0 ∷ decimal x.3.0 ∷ [])
      (x.1.1, x.3.1, refl) h.short (h.joined ∙ ap (λ texts. join_with_byte 32 (codes "soft" ∷ texts)) (x.4 ∙ same_2 (x.1.2) (x.3.2))),
)
forms_are_commands line form.Weak h = let x = two operand.Object operand.Queue h.texts h.each in (
  command.Weak (x.1.0) (x.3.0),
  command_of line (command.Weak (x.1.0) (x.3.0)) (codes "weak" ∷ decimal x.1.0 ∷ decimal x.3.0 ∷ [])
      (x.1.1, x.3.1, refl) h.short (h.joined ∙ ap (λ texts. join_with_byte 32 (codes "weak" ∷ texts)) (x.4 ∙ same_2 (x.1.2) (x.3.2))),
)
forms_are_commands line form.Phantom h = let x = two operand.Object operand.Queue h.texts h.each in (
  command.Phantom (x.1.0) (x.3.0),
  command_of line (command.Phantom (x.1.0) (x.3.0))
      (codes "phantom" ∷ decimal x.1.0 ∷ decimal x.3.0 ∷ []) (x.1.1, x.3.1, refl) h.short
      (h.joined ∙ ap (λ texts. join_with_byte 32 (codes "phantom" ∷ texts)) (x.4 ∙ same_2 (x.1.2) (x.3.2))),
)
forms_are_commands line form.Deref h = let x = one operand.Reference h.texts h.each in (
  command.Deref (x.1.0),
  command_of line (command.Deref (x.1.0)) (codes "deref" ∷ decimal x.1.0 ∷ []) (x.1.1, refl) h.short
      (h.joined ∙ ap (λ texts. join_with_byte 32 (codes "deref" ∷ texts)) (x.2 ∙ same_1 (x.1.2))),
)
forms_are_commands line form.Refers h = let x = two operand.Reference operand.Object h.texts h.each in (
  command.Refers (x.1.0) (x.3.0),
  command_of line (command.Refers (x.1.0) (x.3.0)) (codes "refers" ∷ decimal x.1.0 ∷ decimal x.3.0 ∷ [])
      (x.1.1, x.3.1, refl) h.short (h.joined ∙ ap (λ texts. join_with_byte 32 (codes "refers" ∷ texts)) (x.4 ∙ same_2 (x.1.2) (x.3.2))),
)
forms_are_commands line form.Clear h = let x = one operand.Reference h.texts h.each in (
  command.Clear (x.1.0),
  command_of line (command.Clear (x.1.0)) (codes "clear" ∷ decimal x.1.0 ∷ []) (x.1.1, refl) h.short
      (h.joined ∙ ap (λ texts. join_with_byte 32 (codes "clear" ∷ texts)) (x.2 ∙ same_1 (x.1.2))),
)
forms_are_commands line form.Enqueue h = let x = one operand.Reference h.texts h.each in (
  command.Enqueue (x.1.0),
  command_of line (command.Enqueue (x.1.0)) (codes "enqueue" ∷ decimal x.1.0 ∷ []) (x.1.1, refl) h.short
      (h.joined ∙ ap (λ texts. join_with_byte 32 (codes "enqueue" ∷ texts)) (x.2 ∙ same_1 (x.1.2))),
)
forms_are_commands line form.Enqueued h = let x = one operand.Reference h.texts h.each in (
  command.Enqueued (x.1.0),
  command_of line (command.Enqueued (x.1.0)) (codes "enqueued" ∷ decimal x.1.0 ∷ []) (x.1.1, refl) h.short
      (h.joined ∙ ap (λ texts. join_with_byte 32 (codes "enqueued" ∷ texts)) (x.2 ∙ same_1 (x.1.2))),
)
forms_are_commands line form.Queue h = let x = none h.texts h.each in (
  command.Queue,
  command_of line command.Queue (codes "queue" ∷ []) refl h.short
      (h.joined ∙ ap (λ texts. join_with_byte 32 (codes "queue" ∷ texts)) x),
)
forms_are_commands line form.Poll h = let x = one operand.Queue h.texts h.each in (
  command.Poll (x.1.0),
  command_of line (command.Poll (x.1.0)) (codes "poll" ∷ decimal x.1.0 ∷ []) (x.1.1, refl) h.short
      (h.joined ∙ ap (λ texts. join_with_byte 32 (codes "poll" ∷ texts)) (x.2 ∙ same_1 (x.1.2))),
)
forms_are_commands line form.Remove h = let x = one operand.Queue h.texts h.each in (
  command.Remove (x.1.0),
  command_of line (command.Remove (x.1.0)) (codes "remove" ∷ decimal x.1.0 ∷ []) (x.1.1, refl) h.short
      (h.joined ∙ ap (λ texts. join_with_byte 32 (codes "remove" ∷ texts)) (x.2 ∙ same_1 (x.1.2))),
)
forms_are_commands line form.Cleaner h = let x = none h.texts h.each in (
  command.Cleaner,
  command_of line command.Cleaner (codes "cleaner" ∷ []) refl h.short
      (h.joined ∙ ap (λ texts. join_with_byte 32 (codes "cleaner" ∷ texts)) x),
)
forms_are_commands line form.Register h = let x = three operand.Cleaner operand.Object operand.Note h.texts h.each in (
  command.Register (x.1.0) (x.3.0) (x.5.0),
  command_of line (command.Register (x.1.0) (x.3.0) (x.5.0))
      (codes "register" ∷ decimal x.1.0 ∷ decimal x.3.0 ∷ decimal x.5.0 ∷ []) (x.1.1, x.3.1, x.5.1, refl) h.short
      (h.joined ∙ ap (λ texts. join_with_byte 32 (codes "register" ∷ texts)) (x.6 ∙ same_3 (x.1.2) (x.3.2) (x.5.2))),
)
forms_are_commands line form.Clean h = let x = one operand.Cleanable h.texts h.each in (
  command.Clean (x.1.0),
  command_of line (command.Clean (x.1.0)) (codes "clean" ∷ decimal x.1.0 ∷ []) (x.1.1, refl) h.short
      (h.joined ∙ ap (λ texts. join_with_byte 32 (codes "clean" ∷ texts)) (x.2 ∙ same_1 (x.1.2))),
)
forms_are_commands line form.Open h = let x = two operand.Mode operand.Path h.texts h.each in (
  command.Open (x.1.0) (x.2),
  command_of line (command.Open (x.1.0) (x.2)) (codes "open" ∷ mode_letter x.1.0 ∷ x.2 ∷ []) (x.3, refl)
      h.short (h.joined ∙ ap (λ texts. join_with_byte 32 (codes "open" ∷ texts)) (x.4 ∙ same_2 (x.1.1) (refl))),
)
forms_are_commands line form.Connect h = let x = one operand.Path h.texts h.each in (
  command.Connect (x.0),
  command_of line (command.Connect (x.0)) (codes "connect" ∷ x.0 ∷ []) (x.1, refl) h.short
      (h.joined ∙ ap (λ texts. join_with_byte 32 (codes "connect" ∷ texts)) (x.2 ∙ same_1 (refl))),
)
forms_are_commands line form.Read h = let x = two operand.Object operand.Count h.texts h.each in (
  command.Read (x.1.0) (x.3.0),
  command_of line (command.Read (x.1.0) (x.3.0)) (codes "read" ∷ decimal x.1.0 ∷ decimal x.3.0 ∷ [])
      (x.1.1, x.3.1, x.3.2, refl) h.short (h.joined ∙ ap (λ texts. join_with_byte 32 (codes "read" ∷ texts))
      (x.4 ∙ same_2 (x.1.2) (x.3.3))),
)
forms_are_commands line form.Write h = let x = two operand.Object operand.Bytes h.texts h.each in (
  command.Write (x.1.0) (x.3.0),
  command_of line (command.Write (x.1.0) (x.3.0)) (codes "write" ∷ decimal x.1.0 ∷ x.2 ∷ [])
      (x.1.1, x.2, x.3.1, refl) h.short (h.joined ∙ ap (λ texts. join_with_byte 32 (codes "write" ∷ texts)) (x.4 ∙ same_2 (x.1.2) (refl))),
)
forms_are_commands line form.Close h = let x = one operand.Object h.texts h.each in (
  command.Close (x.1.0),
  command_of line (command.Close (x.1.0)) (codes "close" ∷ decimal x.1.0 ∷ []) (x.1.1, refl) h.short
      (h.joined ∙ ap (λ texts. join_with_byte 32 (codes "close" ∷ texts)) (x.2 ∙ same_1 (x.1.2))),
)
forms_are_commands line form.Bind h = let x = two operand.Name operand.Object h.texts h.each in (
  command.Bind (x.0) (x.3.0),
  command_of line (command.Bind (x.0) (x.3.0)) (codes "bind" ∷ x.0 ∷ decimal x.3.0 ∷ []) (x.1, x.3.1, refl)
      h.short (h.joined ∙ ap (λ texts. join_with_byte 32 (codes "bind" ∷ texts)) (x.4 ∙ same_2 (refl) (x.3.2))),
)
forms_are_commands line form.Find h = let x = one operand.Name h.texts h.each in (
  command.Find (x.0),
  command_of line (command.Find (x.0)) (codes "find" ∷ x.0 ∷ []) (x.1, refl) h.short
      (h.joined ∙ ap (λ texts. join_with_byte 32 (codes "find" ∷ texts)) (x.2 ∙ same_1 (refl))),
)
forms_are_commands line form.Unbind h = let x = one operand.Name h.texts h.each in (
  command.Unbind (x.0),
  command_of line (command.Unbind (x.0)) (codes "unbind" ∷ x.0 ∷ []) (x.1, refl) h.short
      (h.joined ∙ ap (λ texts. join_with_byte 32 (codes "unbind" ∷ texts)) (x.2 ∙ same_1 (refl))),
)
forms_are_commands line form.Names h = let x = none h.texts h.each in (
  command.Names,
  command_of line command.Names (codes "names" ∷ []) refl h.short
      (h.joined ∙ ap (λ texts. join_with_byte 32 (codes "names" ∷ texts)) x),
)
forms_are_commands line form.Gc h = let x = none h.texts h.each in (
  command.Full Policy,
  command_of line (command.Full Policy) (codes "gc" ∷ []) refl h.short
      (h.joined ∙ ap (λ texts. join_with_byte 32 (codes "gc" ∷ texts)) x),
)
forms_are_commands line form.GcSoft h = let x = none h.texts h.each in (
  command.Full ClearAll,
  command_of line (command.Full ClearAll) (codes "gc" ∷ codes "soft" ∷ []) refl h.short
      (h.joined ∙ ap (λ texts. join_with_byte 32 (codes "gc soft" ∷ texts)) x),
)
forms_are_commands line form.Stat h = let x = none h.texts h.each in (
  command.Stat,
  command_of line command.Stat (codes "stat" ∷ []) refl h.short
      (h.joined ∙ ap (λ texts. join_with_byte 32 (codes "stat" ∷ texts)) x),
)
forms_are_commands line form.Notes h = let x = none h.texts h.each in (
  command.Notes,
  command_of line command.Notes (codes "notes" ∷ []) refl h.short
      (h.joined ∙ ap (λ texts. join_with_byte 32 (codes "notes" ∷ texts)) x),
)
forms_are_commands line form.Faults h = let x = none h.texts h.each in (
  command.Faults,
  command_of line command.Faults (codes "faults" ∷ []) refl h.short
      (h.joined ∙ ap (λ texts. join_with_byte 32 (codes "faults" ∷ texts)) x),
)
forms_are_commands line form.Bye h = let x = none h.texts h.each in (
  command.Bye,
  command_of line command.Bye (codes "bye" ∷ []) refl h.short
      (h.joined ∙ ap (λ texts. join_with_byte 32 (codes "bye" ∷ texts)) x),
)

pub both : FormsAreCommands
both = λ line. (λ h. forms_are_commands line h.0 h.1, λ h. commands_are_forms line h.0 h.1)
