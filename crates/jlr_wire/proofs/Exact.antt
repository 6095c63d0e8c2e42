-- The fields of a command are read as that command, and a line is a command exactly where the parts between its spaces are
-- its fields.
use Rattle.std.proofs.Common.{◌≡◌, ◌≢◌, ℕ, zero, suc, ◌^◌, ◌<◌, ◌≤◌, Bool, true, ◌&&◌, not, eqb, List, [], ◌∷◌, map}
use Rattle.std.proofs.Common.{length, get_or, Some, refl, sym, ap, ◌∙◌, arith, rules, ◌⊎◌, inl, inr, Option, subst}
use Rattle.std.proofs.Common.{cond, nat_le, None}
use Rattle.std.specs.Prelude.{codes, decimal, ℤ, pos, negsuc, FitsSigned}
use Rattle.std.specs.Int.{w64}
use Rattle.std.specs.Fmt.{signed_decimal}
use Rattle.std.specs.List.{slice_split, join_with_byte, AllByRecursion}
use Rattle.std.specs.Str.Parse.{AllDigits}
use Rattle.std.specs.Char.{is_ascii_graphic}
use Rattle.std.specs.Str.{bytes_eq}
use Rattle.std.proofs.lemmas.List.Splits.{join_with_byte-slice_split}
use Rattle.std.proofs.lemmas.Str.Parse.{numerals_by_value, tells_digits, not_in_digits}
use Rattle.std.proofs.lemmas.Fmt.{digits_decimal}
use Rattle.std.proofs.lemmas.Bool.Decides.{eqb_tells}
use Rattle.std.proofs.lemmas.List.{get_or_default}
use Rattle.std.proofs.lemmas.List.Elements.{All-cons}
use Rattle.std.proofs.lemmas.Slice.Eq.{bytes_eq-Decides}
use Rattle.std.proofs.lemmas.Option.{same_Some, none-some, cond_some}
use Rattle.std.proofs.lemmas.Bool.{le-leb, leb-true}
use Rattle.jlr_types.specs.declared.FieldKind.{FieldKind}
use Rattle.jlr_types.specs.declared.FieldKind.TheVariants.{Int as IntField, Ref as RefField}
use Rattle.jlr_machine.specs.Names.{is_name_byte}
use Rattle.jlr_machine.specs.declared.ask.FullMode.TheVariants.{Policy, ClearAll}
use Rattle.jlr_device.specs.declared.device.Mode.{Mode}
use Rattle.jlr_device.specs.declared.device.Mode.TheVariants.{Read as Reading, Write as Writing}
use Rattle.jlr_wire.proofs.Options.{and_parts, bind_some, chosen, cond_some_of}
use Rattle.jlr_wire.proofs.Splits.{split_first, split_last}
use Rattle.jlr_wire.proofs.Texts.{kind_no_space, digits_no_space, word_of_word, word_of_spells, data_of_digits}
use Rattle.jlr_wire.proofs.Texts.{data_of_spells, count_of_decimal, count_of_spells, mode_of_letter, mode_of_spells}
use Rattle.jlr_wire.proofs.Numbers.{number_below_decimal, number_below_spells, byte_of_decimal, byte_of_spells}
use Rattle.jlr_wire.proofs.Numbers.{note_of_decimal, note_of_spells}
use Rattle.jlr_wire.proofs.Integers.{integer_of_decimal, integer_of_spells}
use Rattle.jlr_wire.proofs.Layouts.{layout_of_layout, layout_of_spells}
use Rattle.jlr_wire.specs.Texts.{IsPathText, IsNameText}
use Rattle.jlr_wire.specs.Lines.{IsWithout}
use Rattle.jlr_wire.specs.Fields.{is_space, number_below, byte_of, field_of, note_of, integer_of, path_of, name_of}
use Rattle.jlr_wire.specs.Fields.{data_of, mode_of}
use Rattle.jlr_wire.specs.Commands.{Fields, IsCommand, layout, letter, mode_letter}
use Rattle.jlr_wire.specs.Reading.{reading, ◌>>=◌, layout_of, count_of, length_of, among, names_with_word}
use Rattle.jlr_wire.specs.Reading.{names_with_words, names_alone, names_with_number, names_with_two, command_named}
use Rattle.jlr_wire.specs.Reading.{with_number, with_two_numbers, reading_1, reading_2, reading_3, reading_4}
use Rattle.jlr_wire.specs.declared.command.Command.{Command}
use Rattle.jlr_wire.specs.declared.command.Command.TheVariants.{New, Put, Get, SetInt, Int, Dup, Drop, Same, Soft}
use Rattle.jlr_wire.specs.declared.command.Command.TheVariants.{Weak, Phantom, Deref, Refers, Clear, Enqueue}
use Rattle.jlr_wire.specs.declared.command.Command.TheVariants.{Enqueued, Queue, Poll, Remove, Cleaner, Register}
use Rattle.jlr_wire.specs.declared.command.Command.TheVariants.{Clean, Open, Connect, Read, Write, Close, Bind, Find}
use Rattle.jlr_wire.specs.declared.command.Command.TheVariants.{Unbind, Names, Full, Stat, Notes, Faults, Bye, Array}

-- ---- What is read is what the fields are

field_of_decimal : (n : ℕ) → n < 4096 → field_of (decimal n) ≡ Some n
field_of_decimal n lt = number_below_decimal 4096 n (omega arith) lt

length_of_decimal : (n : ℕ) → 1 ≤ n → n ≤ 4096 → length_of (decimal n) ≡ Some n
length_of_decimal n some few = rw (number_below_decimal 4097 n (omega arith) (omega (arith, few)), le-leb 1 n some) refl

length_of_spells : (text : List ℕ) (n : ℕ) → length_of text ≡ Some n → (1 ≤ n) × (n ≤ 4096) × (text ≡ decimal n)
length_of_spells text n e =
    let p = bind_some (number_below 4097 text) (λ m. cond (nat_le 1 m) (Some m) None) n e in
    let h = cond_some _ _ _ p.2 in
    let s = number_below_spells 4097 text p.0 p.1 in
    let same : p.0 ≡ n = h.1 in
    let some : 1 ≤ p.0 = leb-true 1 p.0 h.0 in
    (omega (arith, some, same), omega (arith, s.0, same), s.1 ∙ ap decimal same)

-- the fields of a command are read as that command
complete : (c : Command) (fields : List (List ℕ)) → Fields c fields → reading fields ≡ Some c
unfolding reading reading_1 reading_2 reading_3 reading_4 with_number with_two_numbers
complete (New l) fields f = rw (f.1, layout_of_layout l f.0) refl
complete (Put h k v) fields f = rw (f.3, byte_of_decimal h f.0, field_of_decimal k f.1, byte_of_decimal v f.2) refl
complete (Get h k) fields f = rw (f.2, byte_of_decimal h f.0, field_of_decimal k f.1) refl
complete (SetInt h k n) fields f = rw (f.3, byte_of_decimal h f.0, field_of_decimal k f.1, integer_of_decimal n f.2) refl
complete (Int h k) fields f = rw (f.2, byte_of_decimal h f.0, field_of_decimal k f.1) refl
complete (Array n) fields f = rw (f.2, length_of_decimal n f.0 f.1) refl
complete (Dup h) fields f = rw (f.1, byte_of_decimal h f.0) refl
complete (Drop h) fields f = rw (f.1, byte_of_decimal h f.0) refl
complete (Same h k) fields f = rw (f.2, byte_of_decimal h f.0, byte_of_decimal k f.1) refl
complete (Soft h q) fields f = rw (f.2, byte_of_decimal h f.0, byte_of_decimal q f.1) refl
complete (Weak h q) fields f = rw (f.2, byte_of_decimal h f.0, byte_of_decimal q f.1) refl
complete (Phantom h q) fields f = rw (f.2, byte_of_decimal h f.0, byte_of_decimal q f.1) refl
complete (Deref r) fields f = rw (f.1, byte_of_decimal r f.0) refl
complete (Refers r h) fields f = rw (f.2, byte_of_decimal r f.0, byte_of_decimal h f.1) refl
complete (Clear r) fields f = rw (f.1, byte_of_decimal r f.0) refl
complete (Enqueue r) fields f = rw (f.1, byte_of_decimal r f.0) refl
complete (Enqueued r) fields f = rw (f.1, byte_of_decimal r f.0) refl
complete (Poll q) fields f = rw (f.1, byte_of_decimal q f.0) refl
complete (Remove q) fields f = rw (f.1, byte_of_decimal q f.0) refl
complete (Register c h n) fields f = rw (f.3, byte_of_decimal c f.0, byte_of_decimal h f.1, note_of_decimal n f.2) refl
complete (Clean c) fields f = rw (f.1, byte_of_decimal c f.0) refl
complete (Open mode path) fields f = rw (f.1, mode_of_letter mode, word_of_word 255 is_ascii_graphic path f.0) refl
complete (Connect path) fields f = rw (f.1, word_of_word 255 is_ascii_graphic path f.0) refl
complete (Read h n) fields f = rw (f.3, byte_of_decimal h f.0, count_of_decimal n f.1 f.2) refl
complete (Write h bytes) fields f = rw (f.3, byte_of_decimal h f.0, data_of_digits f.1 bytes f.2) refl
complete (Close h) fields f = rw (f.1, byte_of_decimal h f.0) refl
complete (Bind name h) fields f = rw (f.2, word_of_word 32 is_name_byte name f.0, byte_of_decimal h f.1) refl
complete (Find name) fields f = rw (f.1, word_of_word 32 is_name_byte name f.0) refl
complete (Unbind name) fields f = rw (f.1, word_of_word 32 is_name_byte name f.0) refl
complete (Full Policy) fields f = rw f refl
complete (Full ClearAll) fields f = rw f refl
complete command fields f = rw f refl

same_name : (name word : List ℕ) → bytes_eq name word ≡ true → name ≡ word
same_name name word = (bytes_eq-Decides name word).0

same_2 : (n m a b : List ℕ) → n ≡ m → a ≡ b → n ∷ a ∷ [] ≡ m ∷ b ∷ []
same_2 n m a b e f = rw (e, f) refl

same_3 : (n a b x y : List ℕ) → a ≡ b → x ≡ y → n ∷ a ∷ x ∷ [] ≡ n ∷ b ∷ y ∷ []
same_3 n a b x y e f = rw (e, f) refl

same_4 : (n m a b x y v w : List ℕ) → n ≡ m → a ≡ b → x ≡ y → v ≡ w → n ∷ a ∷ x ∷ v ∷ [] ≡ m ∷ b ∷ y ∷ w ∷ []
same_4 n m a b x y v w e f g h = rw (e, f, g, h) refl

-- what holds of each name of a table and its command holds of a name and the command that the table gives for it
in_table : (P : List ℕ → Command → Type 0) (name : List ℕ) (table : List (List ℕ × Command)) (c : Command)
    → AllByRecursion (λ row. P row.0 row.1) table → command_named name table ≡ Some c → P name c
in_table P name [] c h e = absurd (none-some c e)
in_table P name (row ∷ table) c h e = elim (chosen (bytes_eq name row.0) (Some row.1) (command_named name table) (Some c) e) [
  | inl p ↦ subst (λ n. P n c) (sym (same_name name row.0 p.0)) (subst (λ k. P row.0 k) (same_Some row.1 c p.1) h.0)
  | inr p ↦ in_table P name table c h.1 p.1
]

-- the same where each name of a table has what its reading answers, and there may be another reading
in_among : (P : List ℕ → Command → Type 0) (name : List ℕ) (table : List (List ℕ × Option Command)) (other : Option Command) (c : Command)
    → AllByRecursion (λ row. row.1 ≡ Some c → P row.0 c) table → (other ≡ Some c → P name c) → among name table other ≡ Some c → P name c
in_among P name [] other c h o e = o e
in_among P name (row ∷ table) other c h o e = elim (chosen (bytes_eq name row.0) row.1 (among name table other) (Some c) e) [
  | inl p ↦ subst (λ n. P n c) (sym (same_name name row.0 p.0)) (h.0 p.1)
  | inr p ↦ in_among P name table other c h.1 o p.1
]

-- a number that was read, and what was made of it
spelled : (f : ℕ → Option Command) (a : List ℕ) (c : Command) → (byte_of a >>= f) ≡ Some c → (h : ℕ) × (h < 256) × (a ≡ decimal h)
    × (f h ≡ Some c)
spelled f a c e =
    let p = bind_some (byte_of a) f c e in
    let h = byte_of_spells a p.0 p.1 in
    (p.0, h.0, h.1, p.2)

-- the same of the number of a field
spelled_field : (f : ℕ → Option Command) (a : List ℕ) (c : Command) → (field_of a >>= f) ≡ Some c → (h : ℕ) × (h < 4096) × (a ≡ decimal h)
    × (f h ≡ Some c)
spelled_field f a c e =
    let p = bind_some (field_of a) f c e in
    let h = number_below_spells 4096 a p.0 p.1 in
    (p.0, h.0, h.1, p.2)

sound_1 : (n : List ℕ) (c : Command) → reading_1 n ≡ Some c → Fields c (n ∷ [])
unfolding reading_1
sound_1 n c e =
    let P : List ℕ → Command → Type 0 = λ n c. Fields c (n ∷ []) in
    in_table P n names_alone c (refl, (refl, (refl, (refl, (refl, (refl, (refl, (refl, tt)))))))) e

sound_number : (n : List ℕ) (h : ℕ) (c : Command) → h < 256 → with_number n h ≡ Some c → Fields c (n ∷ decimal h ∷ [])
unfolding with_number
sound_number n h c lt e =
    let P : List ℕ → Command → Type 0 = λ n c. Fields c (n ∷ decimal h ∷ []) in
    in_table P n (names_with_number h) c (
      (lt, refl),
      (
        (lt, refl),
        (
          (lt, refl),
          (
            (lt, refl),
            ((lt, refl), ((lt, refl), ((lt, refl), ((lt, refl), ((lt, refl), ((lt, refl), tt)))))),
          ),
        ),
      ),
    ) e

sound_two_numbers : (n : List ℕ) (h k : ℕ) (c : Command) → h < 256 → k < 256 → with_two_numbers n h k ≡ Some c
    → Fields c (n ∷ decimal h ∷ decimal k ∷ [])
unfolding with_two_numbers
sound_two_numbers n h k c h_fits k_fits e =
    let P : List ℕ → Command → Type 0 = λ n c. Fields c (n ∷ decimal h ∷ decimal k ∷ []) in
    in_table P n (names_with_two h k) c
    ((h_fits, k_fits, refl), ((h_fits, k_fits, refl), ((h_fits, k_fits, refl), ((h_fits, k_fits, refl), ((h_fits, k_fits, refl), tt))))) e

-- a new object, a socket, and a name
sound_new : (a : List ℕ) (c : Command) → (layout_of a >>= λ l. Some (New l)) ≡ Some c → Fields c (codes "new" ∷ a ∷ [])
sound_new a c e =
    let q = bind_some (layout_of a) (λ l. Some (New l)) c e in
    let l = layout_of_spells a q.0 q.1 in
    rw (← same_Some _ _ q.2) (l.0, same_2 _ _ _ _ refl l.1)

sound_connect : (a : List ℕ) (c : Command) → (path_of a >>= λ p. Some (Connect p)) ≡ Some c → Fields c (codes "connect" ∷ a ∷ [])
sound_connect a c e =
    let q = bind_some (path_of a) (λ p. Some (Connect p)) c e in
    let p = word_of_spells 255 is_ascii_graphic a q.0 q.1 in
    rw (← same_Some _ _ q.2) (p.0, same_2 _ _ _ _ refl p.1)

sound_find : (a : List ℕ) (c : Command) → (name_of a >>= λ n. Some (Find n)) ≡ Some c → Fields c (codes "find" ∷ a ∷ [])
sound_find a c e =
    let q = bind_some (name_of a) (λ n. Some (Find n)) c e in
    let n = word_of_spells 32 is_name_byte a q.0 q.1 in
    rw (← same_Some _ _ q.2) (n.0, same_2 _ _ _ _ refl n.1)

sound_unbind : (a : List ℕ) (c : Command) → (name_of a >>= λ n. Some (Unbind n)) ≡ Some c → Fields c (codes "unbind" ∷ a ∷ [])
sound_unbind a c e =
    let q = bind_some (name_of a) (λ n. Some (Unbind n)) c e in
    let n = word_of_spells 32 is_name_byte a q.0 q.1 in
    rw (← same_Some _ _ q.2) (n.0, same_2 _ _ _ _ refl n.1)

sound_array : (a : List ℕ) (c : Command) → (length_of a >>= λ n. Some (Array n)) ≡ Some c → Fields c (codes "array" ∷ a ∷ [])
sound_array a c e =
    let q = bind_some (length_of a) (λ n. Some (Array n)) c e in
    let n = length_of_spells a q.0 q.1 in
    rw (← same_Some _ _ q.2) (n.0, n.1, same_2 _ _ _ _ refl n.2)

sound_2 : (n a : List ℕ) (c : Command) → reading_2 n a ≡ Some c → Fields c (n ∷ a ∷ [])
unfolding reading_2
sound_2 n a c e =
    let P : List ℕ → Command → Type 0 = λ n c. Fields c (n ∷ a ∷ []) in
    in_among P n (names_with_word a) _ c (sound_new a c, (sound_connect a c, (sound_find a c, (sound_unbind a c, (sound_array a c, tt)))))
    (λ f. elim (chosen (bytes_eq n (codes "gc") && bytes_eq a (codes "soft")) (Some (Full ClearAll)) (byte_of a >>= λ h. with_number n h)
    (Some c) f) [
      | inl q ↦
          let both = and_parts (bytes_eq n (codes "gc")) (bytes_eq a (codes "soft")) q.0 in
          rw (← same_Some _ _ q.1) (same_2 _ _ _ _ (same_name n (codes "gc") both.0) (same_name a (codes "soft") both.1))
      | inr q ↦
          let h = spelled (with_number n) a c q.1 in
          subst (λ t. Fields c (n ∷ t ∷ [])) (sym h.2) (sound_number n h.0 c h.1 h.3)
    ]) e

-- a file, a binding, a read and a write
sound_open : (a b : List ℕ) (c : Command) → (mode_of a >>= λ m. path_of b >>= λ p. Some (Open m p)) ≡ Some c
    → Fields c (codes "open" ∷ a ∷ b ∷ [])
sound_open a b c e =
    let m = bind_some (mode_of a) (λ m. path_of b >>= λ p. Some (Open m p)) c e in
    let q = bind_some (path_of b) (λ p. Some (Open m.0 p)) c m.2 in
    let p = word_of_spells 255 is_ascii_graphic b q.0 q.1 in
    rw (← same_Some _ _ q.2) (p.0, same_3 _ _ _ _ _ (mode_of_spells a m.0 m.1) p.1)

sound_bind : (a b : List ℕ) (c : Command) → (name_of a >>= λ n. byte_of b >>= λ h. Some (Bind n h)) ≡ Some c
    → Fields c (codes "bind" ∷ a ∷ b ∷ [])
sound_bind a b c e =
    let q = bind_some (name_of a) (λ n. byte_of b >>= λ h. Some (Bind n h)) c e in
    let n = word_of_spells 32 is_name_byte a q.0 q.1 in
    let h = spelled (λ h. Some (Bind q.0 h)) b c q.2 in
    rw (← same_Some _ _ h.3) (n.0, h.1, same_3 _ _ _ _ _ n.1 h.2)

sound_read : (a b : List ℕ) (c : Command) → (byte_of a >>= λ h. count_of b >>= λ n. Some (Read h n)) ≡ Some c
    → Fields c (codes "read" ∷ a ∷ b ∷ [])
sound_read a b c e =
    let h = spelled (λ h. count_of b >>= λ n. Some (Read h n)) a c e in
    let q = bind_some (count_of b) (λ n. Some (Read h.0 n)) c h.3 in
    let n = count_of_spells b q.0 q.1 in
    rw (← same_Some _ _ q.2) (h.1, n.0, n.1, same_3 _ _ _ _ _ h.2 n.2)

sound_write : (a b : List ℕ) (c : Command) → (byte_of a >>= λ h. data_of b >>= λ d. Some (Write h d)) ≡ Some c
    → Fields c (codes "write" ∷ a ∷ b ∷ [])
sound_write a b c e =
    let h = spelled (λ h. data_of b >>= λ d. Some (Write h d)) a c e in
    let q = bind_some (data_of b) (λ d. Some (Write h.0 d)) c h.3 in
    rw (← same_Some _ _ q.2) (h.1, b, data_of_spells b q.0 q.1, same_3 _ _ _ _ _ h.2 refl)

sound_get : (a b : List ℕ) (c : Command) → (byte_of a >>= λ h. field_of b >>= λ k. Some (Get h k)) ≡ Some c
    → Fields c (codes "get" ∷ a ∷ b ∷ [])
sound_get a b c e =
    let h = spelled (λ h. field_of b >>= λ k. Some (Get h k)) a c e in
    let k = spelled_field (λ k. Some (Get h.0 k)) b c h.3 in
    rw (← same_Some _ _ k.3) (h.1, k.1, same_3 _ _ _ _ _ h.2 k.2)

sound_int : (a b : List ℕ) (c : Command) → (byte_of a >>= λ h. field_of b >>= λ k. Some (Int h k)) ≡ Some c
    → Fields c (codes "int" ∷ a ∷ b ∷ [])
sound_int a b c e =
    let h = spelled (λ h. field_of b >>= λ k. Some (Int h k)) a c e in
    let k = spelled_field (λ k. Some (Int h.0 k)) b c h.3 in
    rw (← same_Some _ _ k.3) (h.1, k.1, same_3 _ _ _ _ _ h.2 k.2)

sound_3 : (n a b : List ℕ) (c : Command) → reading_3 n a b ≡ Some c → Fields c (n ∷ a ∷ b ∷ [])
unfolding reading_3
sound_3 n a b c e =
    let P : List ℕ → Command → Type 0 = λ n c. Fields c (n ∷ a ∷ b ∷ []) in
    in_among P n (names_with_words a b) _ c (
      sound_open a b c,
      (sound_bind a b c, (sound_read a b c, (sound_write a b c, (sound_get a b c, (sound_int a b c, tt))))),
    )
    (λ f.
    let h = spelled (λ h. byte_of b >>= λ k. with_two_numbers n h k) a c f in
    let k = spelled (with_two_numbers n h.0) b c h.3 in
    subst (λ t. Fields c (n ∷ t ∷ b ∷ [])) (sym h.2)
    (subst (λ t. Fields c (n ∷ decimal h.0 ∷ t ∷ [])) (sym k.2) (sound_two_numbers n h.0 k.0 c h.1 k.1 k.3))) e

sound_put : (n x a b : List ℕ) (c : Command) → bytes_eq n (codes "put") ≡ true
    → (byte_of x >>= λ g. field_of a >>= λ h. byte_of b >>= λ k. Some (Put g h k)) ≡ Some c → Fields c (n ∷ x ∷ a ∷ b ∷ [])
sound_put n x a b c name e =
    let g = spelled (λ g. field_of a >>= λ h. byte_of b >>= λ k. Some (Put g h k)) x c e in
    let h = spelled_field (λ h. byte_of b >>= λ k. Some (Put g.0 h k)) a c g.3 in
    let k = spelled (λ k. Some (Put g.0 h.0 k)) b c h.3 in
    rw (← same_Some _ _ k.3) (g.1, h.1, k.1, same_4 _ _ _ _ _ _ _ _ (same_name n (codes "put") name) g.2 h.2 k.2)

sound_setint : (n x a b : List ℕ) (c : Command) → bytes_eq n (codes "setint") ≡ true
    → (byte_of x >>= λ h. field_of a >>= λ k. integer_of b >>= λ z. Some (SetInt h k z)) ≡ Some c → Fields c (n ∷ x ∷ a ∷ b ∷ [])
sound_setint n x a b c name e =
    let h = spelled (λ h. field_of a >>= λ k. integer_of b >>= λ z. Some (SetInt h k z)) x c e in
    let k = spelled_field (λ k. integer_of b >>= λ z. Some (SetInt h.0 k z)) a c h.3 in
    let q = bind_some (integer_of b) (λ z. Some (SetInt h.0 k.0 z)) c k.3 in
    let z = integer_of_spells b q.0 q.1 in
    rw (← same_Some _ _ q.2) (h.1, k.1, z.0, same_4 _ _ _ _ _ _ _ _ (same_name n (codes "setint") name) h.2 k.2 z.1)

sound_register : (n x a b : List ℕ) (c : Command) → bytes_eq n (codes "register") ≡ true
    → (byte_of x >>= λ k. byte_of a >>= λ h. note_of b >>= λ z. Some (Register k h z)) ≡ Some c → Fields c (n ∷ x ∷ a ∷ b ∷ [])
sound_register n x a b c name e =
    let k = spelled (λ k. byte_of a >>= λ h. note_of b >>= λ z. Some (Register k h z)) x c e in
    let h = spelled (λ h. note_of b >>= λ z. Some (Register k.0 h z)) a c k.3 in
    let q = bind_some (note_of b) (λ z. Some (Register k.0 h.0 z)) c h.3 in
    let z = note_of_spells b q.0 q.1 in
    rw (← same_Some _ _ q.2) (k.1, h.1, z.0, same_4 _ _ _ _ _ _ _ _ (same_name n (codes "register") name) k.2 h.2 z.1)

sound_4 : (n x a b : List ℕ) (c : Command) → reading_4 n x a b ≡ Some c → Fields c (n ∷ x ∷ a ∷ b ∷ [])
unfolding reading_4
sound_4 n x a b c e = elim (chosen (bytes_eq n (codes "put")) _ _ (Some c) e) [
  | inl p ↦ sound_put n x a b c p.0 p.1
  | inr p ↦ elim (chosen (bytes_eq n (codes "setint")) _ _ (Some c) p.1) [
    | inl q ↦ sound_setint n x a b c q.0 q.1
    | inr q ↦ let r = cond_some_of (bytes_eq n (codes "register")) _ c q.1 in sound_register n x a b c r.0 r.1
  ]
]

-- what is read as a command is its fields
sound : (c : Command) (fields : List (List ℕ)) → reading fields ≡ Some c → Fields c fields
unfolding reading
sound c [] e = absurd (none-some c e)
sound c (n ∷ []) e = sound_1 n c e
sound c (n ∷ a ∷ []) e = sound_2 n a c e
sound c (n ∷ a ∷ b ∷ []) e = sound_3 n a b c e
sound c (n ∷ x ∷ a ∷ b ∷ []) e = sound_4 n x a b c e
sound c (n ∷ x ∷ a ∷ b ∷ d ∷ more) e = absurd (none-some c e)

-- ---- The parts of a line

-- a test for texts without a space
abbrev spaceless : List ℕ → Bool
spaceless [] = true
spaceless (x ∷ xs) = not (eqb x 32) && spaceless xs

word : (xs : List ℕ) → spaceless xs ≡ true → IsWithout 32 xs
word [] h = λ k d lt. absurd (omega (arith, lt))
word (x ∷ xs) h =
    let p = and_parts (not (eqb x 32)) (spaceless xs) h in
    λ k. elim k as (λ i. (d : ℕ) → i < length (x ∷ xs) → get_or (x ∷ xs) i d ≢ 32) [
      | zero ↦ λ d lt. elim (eqb_tells x 32) [ inl e ↦ (let bad : not true ≡ true = ap not (sym e.0) ∙ p.0 in cc) | inr e ↦ e.1 ]
      | suc i ↦ λ d lt. word xs p.1 i d (omega (arith, lt))
    ]

digits : (n : ℕ) → n < 2 ^ 64 → IsWithout 32 (decimal n)
digits n lt = λ k d h.
    let own = numerals_by_value (AllDigits 10) tells_digits in
    let at = not_in_digits own (decimal n) 32 (digits_decimal own n lt) (λ r. omega (arith, r)) k h in
    λ e. at (get_or_default (decimal n) k 0 d h ∙ e)

number : (n : ℕ) → n < 256 → IsWithout 32 (decimal n)
number n lt = digits n (omega (arith, lt))

field : (n : ℕ) → n < 4096 → IsWithout 32 (decimal n)
field n lt = digits n (omega (arith, lt))

after_sign : (xs : List ℕ) → IsWithout 32 xs → IsWithout 32 (45 ∷ xs)
after_sign xs h = All-cons (λ b. b ≢ 32) 45 xs (search rules) h

integer : (n : ℤ) → FitsSigned w64 n → IsWithout 32 (signed_decimal n)
integer (pos n) fits = digits n (omega (arith, fits.sfits))
integer (negsuc n) fits = after_sign (decimal (suc n)) (digits (suc n) (omega (arith, fits.sfits)))

letters : (kinds : List FieldKind) → spaceless (map letter kinds) ≡ true
letters [] = refl
letters (RefField ∷ kinds) = letters kinds
letters (IntField ∷ kinds) = letters kinds

layout_word : (kinds : List FieldKind) → IsWithout 32 (layout kinds)
layout_word [] = word (codes "-") refl
layout_word (kind ∷ kinds) = word (map letter (kind ∷ kinds)) (letters (kind ∷ kinds))

path_word : (path : List ℕ) → IsPathText path → IsWithout 32 path
path_word path h = kind_no_space is_ascii_graphic path refl h.each

name_word : (name : List ℕ) → IsNameText name → IsWithout 32 name
name_word name h = kind_no_space is_name_byte name refl h.each

mode_word : (mode : Mode) → IsWithout 32 (mode_letter mode)
mode_word Reading = word (codes "r") refl
mode_word Writing = word (codes "w") refl

-- some fields with no space in them, at most four
pub record Apart (fields : List (List ℕ)) : Type 0 where
  pub first : List ℕ
  pub rest : List (List ℕ)
  pub are : fields ≡ first ∷ rest
  pub words : AllByRecursion (IsWithout 32) (first ∷ rest)
  pub few : length fields ≤ 4

split_join : (f : List ℕ) (fs : List (List ℕ)) → AllByRecursion (IsWithout 32) (f ∷ fs)
    → slice_split is_space (join_with_byte 32 (f ∷ fs)) ≡ f ∷ fs
split_join f [] h = split_last f h.0
split_join f (g ∷ fs) h = split_first f (join_with_byte 32 (g ∷ fs)) h.0 ∙ ap (λ xs. f ∷ xs) (split_join g fs h.1)

one : (a : List ℕ) → IsWithout 32 a → Apart (a ∷ [])
one a h = record { first = a; rest = []; are = refl; words = (h, tt); few = omega arith }

two : (a b : List ℕ) → IsWithout 32 a → IsWithout 32 b → Apart (a ∷ b ∷ [])
two a b h k = record { first = a; rest = b ∷ []; are = refl; words = (h, (k, tt)); few = omega arith }

three : (a b c : List ℕ) → IsWithout 32 a → IsWithout 32 b → IsWithout 32 c → Apart (a ∷ b ∷ c ∷ [])
three a b c h k l = record { first = a; rest = b ∷ c ∷ []; are = refl; words = (h, (k, (l, tt))); few = omega arith }

four : (a b c d : List ℕ) → IsWithout 32 a → IsWithout 32 b → IsWithout 32 c → IsWithout 32 d → Apart (a ∷ b ∷ c ∷ d ∷ [])
four a b c d h k l m = record { first = a; rest = b ∷ c ∷ d ∷ []; are = refl; words = (h, (k, (l, (m, tt)))); few = omega arith }

apart : (c : Command) (fields : List (List ℕ)) → Fields c fields → Apart fields
apart (New l) fields f = rw f.1 (two _ _ (word (codes "new") refl) (layout_word l))
apart (Put h k v) fields f = rw f.3 (four _ _ _ _ (word (codes "put") refl) (number h f.0) (field k f.1) (number v f.2))
apart (Get h k) fields f = rw f.2 (three _ _ _ (word (codes "get") refl) (number h f.0) (field k f.1))
apart (Array n) fields f = rw f.2 (two _ _ (word (codes "array") refl) (digits n (omega (arith, f.1))))
apart (SetInt h k n) fields f = rw f.3 (four _ _ _ _ (word (codes "setint") refl) (number h f.0) (field k f.1) (integer n f.2))
apart (Int h k) fields f = rw f.2 (three _ _ _ (word (codes "int") refl) (number h f.0) (field k f.1))
apart (Dup h) fields f = rw f.1 (two _ _ (word (codes "dup") refl) (number h f.0))
apart (Drop h) fields f = rw f.1 (two _ _ (word (codes "drop") refl) (number h f.0))
apart (Same h k) fields f = rw f.2 (three _ _ _ (word (codes "same") refl) (number h f.0) (number k f.1))
apart (Soft h q) fields f = rw f.2 (three _ _ _ (word (codes "soft") refl) (number h f.0) (number q f.1))
apart (Weak h q) fields f = rw f.2 (three _ _ _ (word (codes "weak") refl) (number h f.0) (number q f.1))
apart (Phantom h q) fields f = rw f.2 (three _ _ _ (word (codes "phantom") refl) (number h f.0) (number q f.1))
apart (Deref r) fields f = rw f.1 (two _ _ (word (codes "deref") refl) (number r f.0))
apart (Refers r h) fields f = rw f.2 (three _ _ _ (word (codes "refers") refl) (number r f.0) (number h f.1))
apart (Clear r) fields f = rw f.1 (two _ _ (word (codes "clear") refl) (number r f.0))
apart (Enqueue r) fields f = rw f.1 (two _ _ (word (codes "enqueue") refl) (number r f.0))
apart (Enqueued r) fields f = rw f.1 (two _ _ (word (codes "enqueued") refl) (number r f.0))
apart Queue fields f = rw f (one _ (word (codes "queue") refl))
apart (Poll q) fields f = rw f.1 (two _ _ (word (codes "poll") refl) (number q f.0))
apart (Remove q) fields f = rw f.1 (two _ _ (word (codes "remove") refl) (number q f.0))
apart Cleaner fields f = rw f (one _ (word (codes "cleaner") refl))
apart (Register c h n) fields f =
    rw f.3 (four _ _ _ _ (word (codes "register") refl) (number c f.0) (number h f.1) (digits n (omega (arith, f.2))))
apart (Clean c) fields f = rw f.1 (two _ _ (word (codes "clean") refl) (number c f.0))
apart (Open mode path) fields f = rw f.1 (three _ _ _ (word (codes "open") refl) (mode_word mode) (path_word path f.0))
apart (Connect path) fields f = rw f.1 (two _ _ (word (codes "connect") refl) (path_word path f.0))
apart (Read h n) fields f = rw f.3 (three _ _ _ (word (codes "read") refl) (number h f.0) (number n (omega (arith, f.2))))
apart (Write h bytes) fields f = rw f.3 (three _ _ _ (word (codes "write") refl) (number h f.0) (digits_no_space f.1 bytes f.2))
apart (Close h) fields f = rw f.1 (two _ _ (word (codes "close") refl) (number h f.0))
apart (Bind name h) fields f = rw f.2 (three _ _ _ (word (codes "bind") refl) (name_word name f.0) (number h f.1))
apart (Find name) fields f = rw f.1 (two _ _ (word (codes "find") refl) (name_word name f.0))
apart (Unbind name) fields f = rw f.1 (two _ _ (word (codes "unbind") refl) (name_word name f.0))
apart Names fields f = rw f (one _ (word (codes "names") refl))
apart (Full Policy) fields f = rw f (one _ (word (codes "gc") refl))
apart (Full ClearAll) fields f = rw f (two _ _ (word (codes "gc") refl) (word (codes "soft") refl))
apart Stat fields f = rw f (one _ (word (codes "stat") refl))
apart Notes fields f = rw f (one _ (word (codes "notes") refl))
apart Faults fields f = rw f (one _ (word (codes "faults") refl))
apart Bye fields f = rw f (one _ (word (codes "bye") refl))

-- the fields of a command are always the same, but for the digits of `write`
pub one_form : (c : Command) (xs ys : List (List ℕ)) → Fields c xs → Fields c ys → (xs ≡ ys)
    ⊎ ((a : ℕ) × (bytes : List ℕ) × (c ≡ Write a bytes))
one_form (Put a b c) xs ys f g = inl (f.3 ∙ sym g.3)
one_form (Get a b) xs ys f g = inl (f.2 ∙ sym g.2)
one_form (Array n) xs ys f g = inl (f.2 ∙ sym g.2)
one_form (SetInt a b c) xs ys f g = inl (f.3 ∙ sym g.3)
one_form (Int a b) xs ys f g = inl (f.2 ∙ sym g.2)
one_form (Same a b) xs ys f g = inl (f.2 ∙ sym g.2)
one_form (Soft a b) xs ys f g = inl (f.2 ∙ sym g.2)
one_form (Weak a b) xs ys f g = inl (f.2 ∙ sym g.2)
one_form (Phantom a b) xs ys f g = inl (f.2 ∙ sym g.2)
one_form (Refers a b) xs ys f g = inl (f.2 ∙ sym g.2)
one_form Queue xs ys f g = inl (f ∙ sym g)
one_form Cleaner xs ys f g = inl (f ∙ sym g)
one_form (Register a b c) xs ys f g = inl (f.3 ∙ sym g.3)
one_form (Read a b) xs ys f g = inl (f.3 ∙ sym g.3)
one_form (Write a b) xs ys f g = inr (a, b, refl)
one_form (Bind a b) xs ys f g = inl (f.2 ∙ sym g.2)
one_form Names xs ys f g = inl (f ∙ sym g)
one_form (Full Policy) xs ys f g = inl (f ∙ sym g)
one_form (Full ClearAll) xs ys f g = inl (f ∙ sym g)
one_form Stat xs ys f g = inl (f ∙ sym g)
one_form Notes xs ys f g = inl (f ∙ sym g)
one_form Faults xs ys f g = inl (f ∙ sym g)
one_form Bye xs ys f g = inl (f ∙ sym g)
one_form command xs ys f g = inl (f.1 ∙ sym g.1)

-- the parts of a command's line are its fields
pub parts_are : (line : List ℕ) (c : Command) (h : IsCommand line c) → (slice_split is_space line ≡ h.fields) × (length h.fields ≤ 4)
parts_are line c h =
    let a = apart c h.fields h.each in
    (ap (slice_split is_space) (h.joined ∙ ap (join_with_byte 32) a.are) ∙ split_join a.first a.rest a.words ∙ sym a.are, a.few)

pub read_is_command : (line : List ℕ) (c : Command) → length line ≤ 512 → reading (slice_split is_space line) ≡ Some c → IsCommand line c
read_is_command line c short e = record {
  short = short;
  fields = slice_split is_space line;
  each = sound c (slice_split is_space line) e;
  joined = sym (join_with_byte-slice_split 32 line);
}

pub command_is_read : (line : List ℕ) (c : Command) → IsCommand line c → reading (slice_split is_space line) ≡ Some c
command_is_read line c h = ap reading (parts_are line c h).0 ∙ complete c h.fields h.each
