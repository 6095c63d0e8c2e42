-- Tests at each place of a table, and at each number below another.
use Rattle.std.specs.Prelude.{ℕ, Bool, true, not, ◌&&◌, ◌||◌, Option, Some, None, List, [], ◌∷◌, length, nat_eq, nat_lt}
use Rattle.std.specs.List.{list_all, range_with_len}
use Rattle.jlr_machine.specs.Objects.{Heap, at, some_and}
use Rattle.jlr_machine.specs.Edges.{slot_in}
use Rattle.jlr_machine.specs.declared.object.Contents.{Contents}
use Rattle.jlr_machine.specs.declared.object.Contents.TheVariants.{Typed, Elements}
use Rattle.jlr_machine.specs.declared.object.Object.{Object}
use Rattle.jlr_machine.specs.declared.object.Object.TheVariants.{Plain, Reference, Queue, Cleanable, Guard}
use Rattle.jlr_machine.specs.declared.object.Reference.{Reference as ReferenceOf}
use Rattle.jlr_machine.specs.declared.object.Cleanable.{Cleanable as CleanableOf}
use Rattle.jlr_machine.specs.declared.object.Guard.{Guard as GuardOf}

-- the test passes where there is something
abbrev pub none_or : {A : Type 0} → (A → Bool) → Option A → Bool
none_or test None = true
none_or test (Some x) = test x

-- the test passes at each slot that fields or elements refer to
abbrev pub each_slot : (ℕ → Bool) → Contents → Bool
each_slot test (Typed fields) = list_all (λ f. none_or test (slot_in f)) fields
each_slot test (Elements elements) = list_all (none_or test) elements

-- the test passes at each number below n
abbrev pub each_number : ℕ → (ℕ → Bool) → Bool
each_number n test = list_all test (range_with_len 0 n)

-- the test passes if the object is of this kind
abbrev pub on_plain : (Contents → Bool) → Object → Bool
on_plain test (Plain fields) = test fields
on_plain test _ = true

abbrev pub on_reference : (ReferenceOf → Bool) → Object → Bool
on_reference test (Reference r) = test r
on_reference test _ = true

abbrev pub on_queue : (List ℕ → Bool) → Object → Bool
on_queue test (Queue members) = test members
on_queue test _ = true

abbrev pub on_cleanable : (CleanableOf → Bool) → Object → Bool
on_cleanable test (Cleanable c) = test c
on_cleanable test _ = true

abbrev pub on_guard : (GuardOf → Bool) → Object → Bool
on_guard test (Guard g) = test g
on_guard test _ = true

-- each key is less than the later ones
abbrev pub rising_by : {A : Type 0} → (A → ℕ) → List A → Bool
rising_by key [] = true
rising_by key (x ∷ xs) = list_all (λ y. nat_lt (key x) (key y)) xs && rising_by key xs

-- no other place than s has the key a; and so for the key of each place
abbrev pub is_only_key : (Option Object → Option ℕ) → Heap → ℕ → ℕ → Bool
is_only_key key heap s a = each_number (length heap) (λ t. nat_eq s t || not (some_and (nat_eq a) (key (at heap t))))

abbrev pub keys_are_apart : (Option Object → Option ℕ) → Heap → Bool
keys_are_apart key heap = each_number (length heap) (λ s. none_or (is_only_key key heap s) (key (at heap s)))
