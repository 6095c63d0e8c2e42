-- Choices: what is read is what was written, and what was written is read again.
use Rattle.std.proofs.Common.{◌≡◌, ℕ, zero, suc, Bool, true, false, List, [], ◌∷◌, ◌++◌, length, Option, Some, None, Ok, refl, sym, ap, ◌∙◌}
use Rattle.std.proofs.Common.{arith}
use Rattle.std.specs.List.{flat_map}
use Rattle.std.specs.Int.{w32}
use Rattle.std.specs.Prelude.{◌%◌, nat_eq, nat_le}
use Rattle.jlr_machine.specs.declared.entry.Collected.{Collected}
use Rattle.jlr_machine.specs.Chosen.{Chosen}
use Rattle.jlr_trace_fields.specs.Spelling.{spelled_32, IsWithin}
use Rattle.jlr_trace_fields.specs.Reading.{Reader, one_field, two_fields, number_at, byte_within_at}
use Rattle.jlr_trace_fields.specs.Items.{items_at}
use Rattle.jlr_trace_fields.specs.Laws.{TakesBehind, TakesSpelled, ReadsAgain, IsField}
use Rattle.jlr_trace_fields.proofs.Numbers.{four_bytes, four_least}
use Rattle.jlr_trace_fields.proofs.Basics.{within}
use Rattle.jlr_trace_fields.proofs.Lists.{list_field, items_take, items_again}
use Rattle.jlr_trace_fields.proofs.Rising.{rising_field}
use Rattle.jlr_trace_fields.proofs.Products.{then_takes, made_takes, one_takes, two_takes, then_again, one_again, two_again}
use Rattle.jlr_trace_fields.proofs.Records.{rising_slot}
use Rattle.jlr_trace_entries.specs.Choices.{SlotIs, spelled_collected, CollectedFits, collected_read, spelled_collection, CollectionFits}
use Rattle.jlr_trace_entries.specs.Choices.{collection_read, spelled_fresh, FreshFits, fresh_read, flags_of, spelled_choice, ChoiceFits}
use Rattle.jlr_trace_entries.specs.Choices.{made_choice, choice_read}

abbrev made_collected : List ℕ → List ℕ → Collected
made_collected kept pending = record { kept = kept; pending = pending }

collected_takes : TakesSpelled collected_read spelled_collected CollectedFits
unfolding collected_read
collected_takes = two_takes (rising_field rising_slot four_least) (list_field four_bytes four_least) [] made_collected spelled_collected
    CollectedFits (λ k p. refl) (λ k p f g. record { kept = f; pending = g })

collected_again : ReadsAgain collected_read spelled_collected CollectedFits
unfolding collected_read
collected_again c rest fits = two_again (rising_field rising_slot four_least) (list_field four_bytes four_least) made_collected c.kept
    c.pending fits.kept fits.pending rest

collected : IsField collected_read spelled_collected CollectedFits
collected = record { takes = collected_takes; again = collected_again }

-- a collection where one was run
abbrev CollectionIs : Bool → Option Collected → Type 0
CollectionIs false None = Unit {0}
CollectionIs false (Some c) = ⊥
CollectionIs true None = ⊥
CollectionIs true (Some c) = CollectedFits c

collection_takes : (b : Bool) → TakesSpelled (collection_read b) spelled_collection (CollectionIs b)
collection_takes false = made_takes [] None spelled_collection (CollectionIs false) refl tt
collection_takes true = one_takes collected [] Some spelled_collection (CollectionIs true) (λ c. refl) (λ c f. f)

collection_again : (b : Bool) → ReadsAgain (collection_read b) spelled_collection (CollectionIs b)
collection_again false None rest fits = refl
collection_again false (Some c) rest fits = absurd fits
collection_again true None rest fits = absurd fits
collection_again true (Some c) rest fits = one_again collected Some c fits rest

collection : (b : Bool) → IsField (collection_read b) spelled_collection (CollectionIs b)
collection b = record { takes = collection_takes b; again = collection_again b }

-- fresh slots where objects were made
abbrev FreshIs : Bool → List ℕ → Type 0
FreshIs false [] = Unit {0}
FreshIs false (s ∷ slots) = ⊥
FreshIs true [] = ⊥
FreshIs true (s ∷ slots) = FreshFits (s ∷ slots)

fresh_behind : (count : ℕ) → IsWithin 1 2 count → TakesBehind (count ∷ []) (items_at (number_at w32) count) spelled_fresh (FreshIs true)
fresh_behind count f bytes [] rest fits e =
    let t = items_take (number_at w32) spelled_32 SlotIs four_bytes.takes count bytes [] rest fits e in
    absurd (omega (arith, t.1, f.0))
fresh_behind count f bytes (s ∷ slots) rest fits e =
    let t = items_take (number_at w32) spelled_32 SlotIs four_bytes.takes count bytes (s ∷ slots) rest fits e in (
      record {
        parts = ap (λ (b : List ℕ). count ∷ b) t.0.parts ∙ ap (λ n. n ∷ (flat_map spelled_32 (s ∷ slots) ++ rest)) (sym t.1);
        rest_fits = t.0.rest_fits;
      },
      record { few = omega (arith, t.1, f.1); each = t.2 },
    )

fresh_takes : (b : Bool) → TakesSpelled (fresh_read b) spelled_fresh (FreshIs b)
fresh_takes false = made_takes [] [] spelled_fresh (FreshIs false) refl tt
fresh_takes true = then_takes (within 1 2) [] (items_at (number_at w32)) spelled_fresh (FreshIs true) fresh_behind

fresh_again : (b : Bool) → ReadsAgain (fresh_read b) spelled_fresh (FreshIs b)
fresh_again false [] rest fits = refl
fresh_again false (s ∷ slots) rest fits = absurd fits
fresh_again true [] rest fits = absurd fits
fresh_again true (s ∷ slots) rest fits =
    then_again (within 1 2) (length (s ∷ slots)) (omega arith, fits.few) (items_at (number_at w32)) (spelled_fresh (s ∷ slots) ++ rest)
    (flat_map spelled_32 (s ∷ slots) ++ rest) (s ∷ slots) rest refl
    (items_again (number_at w32) spelled_32 SlotIs four_bytes.again (s ∷ slots) rest fits.each)

fresh : (b : Bool) → IsField (fresh_read b) spelled_fresh (FreshIs b)
fresh b = record { takes = fresh_takes b; again = fresh_again b }

-- ---- Choices

-- the flags
abbrev number : Bool → Bool → ℕ
number false false = 0
number true false = 1
number false true = 2
number true true = 3

flags_are : (ran made : Bool) (c : Option Collected) (x : List ℕ) → CollectionIs ran c → FreshIs made x → flags_of c x ≡ number ran made
flags_are false false None [] p q = refl
flags_are false false None (s ∷ x) p q = absurd q
flags_are false false (Some c) x p q = absurd p
flags_are true false None x p q = absurd p
flags_are true false (Some c) [] p q = refl
flags_are true false (Some c) (s ∷ x) p q = absurd q
flags_are false true None [] p q = absurd q
flags_are false true None (s ∷ x) p q = refl
flags_are false true (Some c) x p q = absurd p
flags_are true true None x p q = absurd p
flags_are true true (Some c) [] p q = absurd q
flags_are true true (Some c) (s ∷ x) p q = refl

collection_fits : (b : Bool) (c : Option Collected) → CollectionIs b c → CollectionFits c
collection_fits false None f = tt
collection_fits false (Some c) f = absurd f
collection_fits true None f = tt
collection_fits true (Some c) f = f

fresh_fits : (b : Bool) (x : List ℕ) → FreshIs b x → FreshFits x
fresh_fits false [] f = record { few = omega arith; each = tt }
fresh_fits false (s ∷ x) f = absurd f
fresh_fits true [] f = absurd f
fresh_fits true (s ∷ x) f = f

parts_take : (ran made : Bool) → TakesBehind (number ran made ∷ []) (two_fields (collection_read ran) (fresh_read made) made_choice)
    spelled_choice ChoiceFits
parts_take ran made =
    let n : ℕ = number ran made in
    then_takes (collection ran) (n ∷ []) (λ c. one_field (fresh_read made) (made_choice c)) spelled_choice ChoiceFits
    (λ c p. then_takes (fresh made) ((n ∷ []) ++ spelled_collection c) (λ x bytes. Ok (made_choice c x, bytes)) spelled_choice ChoiceFits
    (λ x q. made_takes (((n ∷ []) ++ spelled_collection c) ++ spelled_fresh x) (made_choice c x) spelled_choice ChoiceFits
    (ap (λ k. k ∷ spelled_collection c ++ spelled_fresh x) (flags_are ran made c x p q))
    (record { collected = collection_fits ran c p; fresh = fresh_fits made x q })))

abbrev choice_behind : ℕ → Reader Chosen
choice_behind flags = two_fields (collection_read (nat_eq (flags % 2) 1)) (fresh_read (nat_le 2 flags)) made_choice

flags_take : (flags : ℕ) → IsWithin 0 3 flags → TakesBehind (flags ∷ []) (choice_behind flags) spelled_choice ChoiceFits
flags_take zero f = parts_take false false
flags_take (suc zero) f = parts_take true false
flags_take (suc (suc zero)) f = parts_take false true
flags_take (suc (suc (suc zero))) f = parts_take true true
flags_take (suc (suc (suc (suc n)))) f = absurd (omega (arith, f.1))

choice_takes : TakesSpelled choice_read spelled_choice ChoiceFits
unfolding choice_read
choice_takes = then_takes (within 0 3) [] choice_behind spelled_choice ChoiceFits flags_take

parts_again : (c : Option Collected) (x rest : List ℕ) → CollectionFits c → FreshFits x
    → choice_read (spelled_choice (made_choice c x) ++ rest) ≡ Ok (made_choice c x, rest)
unfolding choice_read byte_within_at
parts_again None [] rest p q = two_again (collection false) (fresh false) made_choice None [] tt tt rest
parts_again (Some c) [] rest p q = two_again (collection true) (fresh false) made_choice (Some c) [] p tt rest
parts_again None (s ∷ x) rest p q = two_again (collection false) (fresh true) made_choice None (s ∷ x) tt q rest
parts_again (Some c) (s ∷ x) rest p q = two_again (collection true) (fresh true) made_choice (Some c) (s ∷ x) p q rest

pub choice : IsField choice_read spelled_choice ChoiceFits
choice = record { takes = choice_takes; again = λ c rest fits. parts_again c.collected c.fresh rest fits.collected fits.fresh }
