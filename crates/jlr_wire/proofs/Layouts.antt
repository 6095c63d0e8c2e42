-- A layout and its text.
use Rattle.std.proofs.Common.{◌≡◌, ◌≢◌, ℕ, suc, zero, ◌<◌, ◌≤◌, true, false, eqb, nat_lt, ◌&&◌, List, [], ◌∷◌, map, length, take, get_or}
use Rattle.std.proofs.Common.{cond, Option, Some, None, IfSome, IfNone, refl, sym, ap, ◌∙◌, arith, inl, inr, ◌⊎◌}
use Rattle.std.specs.Prelude.{codes}
use Rattle.std.specs.Str.{bytes_eq}
use Rattle.std.proofs.lemmas.List.{take_all, length-map}
use Rattle.std.proofs.lemmas.Slice.Eq.{bytes_eq-Decides}
use Rattle.std.proofs.lemmas.Bool.{ltb-true, lt-ltb, eqb-true}
use Rattle.std.proofs.lemmas.Option.{cond_some, same_Some}
use Rattle.jlr_wire.proofs.Options.{bind_some, chosen, cond_some_of, and_parts}
use Rattle.jlr_types.specs.declared.FieldKind.{FieldKind}
use Rattle.jlr_types.specs.declared.FieldKind.TheVariants.{Int as IntField, Ref as RefField}
use Rattle.jlr_wire.specs.Commands.{letter, layout}
use Rattle.jlr_wire.specs.Reading.{kind_of_letter, kinds_of, layout_of, ◌>>=◌}

pub spelled : (kinds : List FieldKind) (text : List ℕ) (n : ℕ) → length text ≤ n → 0 < length text → map letter kinds ≡ take n text
    → text ≡ layout kinds
spelled [] text n le some e = let none = ap length (e ∙ take_all n text le) in absurd (omega (arith, some, none))
spelled (kind ∷ kinds) text n le some e = sym (e ∙ take_all n text le)

-- each letter of fields is r or i
pub is_letter : (kinds : List FieldKind) (i : ℕ) → i < length kinds → (get_or (map letter kinds) i 0 ≡ 114)
    ⊎ (get_or (map letter kinds) i 0 ≡ 105)
is_letter [] i lt = absurd (omega (arith, lt))
is_letter (RefField ∷ kinds) zero lt = inl refl
is_letter (IntField ∷ kinds) zero lt = inr refl
is_letter (kind ∷ kinds) (suc i) lt = is_letter kinds i (omega (arith, lt))

-- a text with another letter is no layout
pub bad_letter : (kinds : List FieldKind) (text : List ℕ) (i : ℕ) → i < length text → text ≢ codes "-" → get_or text i 0 ≢ 114
    → get_or text i 0 ≢ 105 → text ≡ layout kinds → ⊥
bad_letter [] text i lt dash r i_letter e = dash e
bad_letter (kind ∷ kinds) text i lt dash r i_letter e =
    let same : (t : List ℕ) → text ≡ t → get_or text i 0 ≡ get_or t i 0 = λ t h. ap (λ x. get_or x i 0) h in
    let n : i < length (kind ∷ kinds) = omega (arith, lt, ap length e, length-map (kind ∷ kinds) letter) in
    elim (is_letter (kind ∷ kinds) i n) [ inl is ↦ r (same _ e ∙ is) | inr is ↦ i_letter (same _ e ∙ is) ]

kinds_of-letters : (kinds : List FieldKind) → kinds_of (map letter kinds) ≡ Some kinds
kinds_of-letters [] = refl
kinds_of-letters (RefField ∷ kinds) = rw (kinds_of-letters kinds) refl
kinds_of-letters (IntField ∷ kinds) = rw (kinds_of-letters kinds) refl

-- a list of letters has no dash in it
letters_no_dash : (kind : FieldKind) (kinds : List FieldKind) → bytes_eq (map letter (kind ∷ kinds)) (codes "-") ≡ false
letters_no_dash RefField kinds = refl
letters_no_dash IntField kinds = refl

pub layout_of_layout : (kinds : List FieldKind) → length kinds ≤ 8 → layout_of (layout kinds) ≡ Some kinds
unfolding layout_of
layout_of_layout [] le = refl
layout_of_layout (kind ∷ kinds) le =
    let short : nat_lt (length (map letter (kind ∷ kinds))) 9 ≡ true = lt-ltb _ 9 (omega (arith, le, length-map (kind ∷ kinds) letter)) in
    let some : nat_lt 0 (length (map letter (kind ∷ kinds))) ≡ true = lt-ltb 0 _ (omega (arith, length-map (kind ∷ kinds) letter)) in
    rw (letters_no_dash kind kinds, some, short, kinds_of-letters (kind ∷ kinds)) refl

-- a letter that has a kind is that kind's
letter-kind_of : (c : ℕ) (kind : FieldKind) → kind_of_letter c ≡ Some kind → c ≡ letter kind
letter-kind_of c kind e = elim (chosen (eqb c 114) (Some RefField) (cond (eqb c 105) (Some IntField) None) (Some kind) e) [
  | inl h ↦ eqb-true c 114 h.0 ∙ ap letter (same_Some RefField kind h.1)
  | inr h ↦ let i = cond_some (eqb c 105) IntField kind h.1 in eqb-true c 105 i.0 ∙ ap letter i.1
]

letters-kinds_of : (text : List ℕ) (kinds : List FieldKind) → kinds_of text ≡ Some kinds → text ≡ map letter kinds
letters-kinds_of [] kinds e = let none : [] ≡ kinds = same_Some _ _ e in rw (← none) refl
letters-kinds_of (c ∷ cs) kinds e =
    let a = bind_some (kind_of_letter c) (λ k. kinds_of cs >>= λ ks. Some (k ∷ ks)) kinds e in
    let b = bind_some (kinds_of cs) (λ ks. Some (a.0 ∷ ks)) kinds a.2 in
    let first = letter-kind_of c a.0 a.1 in
    let rest = letters-kinds_of cs b.0 b.1 in
    rw (← same_Some _ _ b.2) (ap (λ x. x ∷ cs) first ∙ ap (λ xs. letter a.0 ∷ xs) rest)

pub layout_of_spells : (text : List ℕ) (kinds : List FieldKind) → layout_of text ≡ Some kinds → (length kinds ≤ 8) × (text ≡ layout kinds)
unfolding layout_of
layout_of_spells text kinds e = elim (chosen (bytes_eq text (codes "-")) (Some []) _ (Some kinds) e) [
  | inl h ↦ rw (← same_Some _ _ h.1) (omega arith, (bytes_eq-Decides text (codes "-")).0 h.0)
  | inr h ↦
      let k = cond_some_of (nat_lt 0 (length text) && nat_lt (length text) 9) (kinds_of text) kinds h.1 in
      let both = and_parts (nat_lt 0 (length text)) (nat_lt (length text) 9) k.0 in
      let is = letters-kinds_of text kinds k.1 in
      let n : length kinds < 9 = omega (arith, ltb-true (length text) 9 both.1, ap length is, length-map kinds letter) in (
        omega (arith, n),
        spelled kinds text (length text) (omega arith) (ltb-true 0 (length text) both.0)
            (sym is ∙ sym (take_all (length text) text (omega arith))),
      )
]

pub is_layout_of : (r : Option (List FieldKind)) (text : List ℕ) → IfSome r (λ kinds. (length kinds ≤ 8) × (text ≡ layout kinds))
    → IfNone r ((kinds : List FieldKind) → length kinds ≤ 8 → text ≡ layout kinds → ⊥) → r ≡ layout_of text
is_layout_of (Some kinds) text e none = rw e.1 (sym (layout_of_layout kinds e.0))
is_layout_of None text e none =
    elim (layout_of text) as (λ o. layout_of text ≡ o → None ≡ o) [
      | None ↦ λ _. refl
      | Some kinds ↦ λ is. let s = layout_of_spells text kinds is in absurd (none kinds s.0 s.1)
    ] refl
