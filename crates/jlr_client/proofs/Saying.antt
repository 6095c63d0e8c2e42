-- Which line says which refusal.
use Rattle.std.proofs.Common.{Bool, true, false, cond, ◌≡◌, ℕ, List, [], ◌∷◌, Some, refl, ap, ◌∙◌, ◌↔◌}
use Rattle.std.specs.Prelude.{⊤}
use Rattle.std.specs.Str.{bytes_eq}
use Rattle.std.specs.Fmt.{digits}
use Rattle.std.proofs.lemmas.Slice.Eq.{bytes_eq-Decides}
use Rattle.std.proofs.lemmas.Option.{same_Some}
use Rattle.jlr_types.specs.declared.Refusal.{Refusal}
use Rattle.jlr_types.specs.declared.Refusal.TheVariants.{NoMemory, HeapFull, NoHandle, HandlesFull, WrongKind, NoField, WrongType, Null}
use Rattle.jlr_types.specs.declared.Refusal.TheVariants.{NoName, NamesFull, Busy, Closed, NoSession, Exhausted, Malformed, TooLong, NotOut}
use Rattle.jlr_types.specs.declared.Refusal.TheVariants.{WouldWait, ResourcesFull}
use Rattle.jlr_client.specs.Lines.{line_of, lines, refusal_beside, refusal_in}

-- each row has the line of its refusal
abbrev AreRows : List (List ℕ × Refusal) → Type 0
AreRows [] = ⊤
AreRows (row ∷ rows) = (row.0 ≡ line_of row.1) × AreRows rows

first_or : (rows : List (List ℕ × Refusal)) (line text : List ℕ) (own r : Refusal) (same : Bool) → (same ≡ true → line ≡ text)
    → text ≡ line_of own
    → (refusal_beside line rows ≡ Some r → line ≡ line_of r) → cond same (Some own) (refusal_beside line rows) ≡ Some r → line ≡ line_of r
first_or rows line text own r true equal is others h = let own_is : own ≡ r = same_Some own r h in equal refl ∙ is ∙ ap line_of own_is
first_or rows line text own r false equal is others h = others h

gives : (rows : List (List ℕ × Refusal)) (line : List ℕ) (r : Refusal) → AreRows rows → refusal_beside line rows ≡ Some r → line ≡ line_of r
gives [] line r are h = cc h
gives (row ∷ rows) line r are h =
    first_or rows line row.0 row.1 r (bytes_eq line row.0) (bytes_eq-Decides line row.0).0 are.0 (λ e. gives rows line r are.1 e) h

are_rows : AreRows lines
unfolding digits
are_rows = (
  refl,
  (
    refl,
    (
      refl,
      (
        refl,
        (
          refl,
          (
            refl,
            (refl, (refl, (refl, (refl, (refl, (refl, (refl, (refl, (refl, (refl, (refl, (refl, (refl, tt))))))))))))),
          ),
        ),
      ),
    ),
  ),
)

finds : (r : Refusal) → refusal_in (line_of r) ≡ Some r
unfolding refusal_in digits
finds NoMemory = refl
finds HeapFull = refl
finds NoHandle = refl
finds HandlesFull = refl
finds WrongKind = refl
finds NoField = refl
finds WrongType = refl
finds Null = refl
finds NoName = refl
finds NamesFull = refl
finds Busy = refl
finds Closed = refl
finds NoSession = refl
finds Exhausted = refl
finds Malformed = refl
finds TooLong = refl
finds NotOut = refl
finds WouldWait = refl
finds ResourcesFull = refl

pub says : (line : List ℕ) (r : Refusal) → (refusal_in line ≡ Some r) ↔ (line ≡ line_of r)
unfolding refusal_in
says line r = (gives lines line r are_rows, λ e. ap refusal_in e ∙ finds r)
