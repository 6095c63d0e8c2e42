-- Asks: what is read is what was written, and what was written is read again.
use Rattle.std.proofs.Common.{◌≡◌, ℕ, zero, suc, ◌≤◌, ◌^◌, Bool, true, false, cond, List, [], ◌∷◌, ◌++◌, length, Result, Ok, Err, refl, sym}
use Rattle.std.proofs.Common.{ap, subst, ◌∙◌, arith}
use Rattle.std.specs.Prelude.{nat_eq}
use Rattle.std.specs.Int.{w16}
use Rattle.std.specs.List.{flat_map, AllByRecursion}
use Rattle.std.proofs.lemmas.Bool.{eqb-true}
use Rattle.jlr_types.specs.declared.FieldKind.{FieldKind}
use Rattle.jlr_types.specs.declared.FieldKind.TheVariants.{Int as IntField, Ref as RefField}
use Rattle.jlr_types.specs.declared.Fault.TheVariants.{NotFound, Denied, Other}
use Rattle.jlr_machine.specs.declared.ask.Outcome.{Outcome}
use Rattle.jlr_machine.specs.declared.ask.Outcome.TheVariants.{Ok as OutcomeOk, Failed}
use Rattle.jlr_machine.specs.declared.ask.FullMode.{FullMode}
use Rattle.jlr_machine.specs.declared.ask.FullMode.TheVariants.{Policy, ClearAll}
use Rattle.jlr_machine.specs.declared.ask.CallOutcome.TheVariants.{Data as GotData, Wrote as GotWrote, Failed as GotFailed}
use Rattle.jlr_machine.specs.declared.ask.Ask.TheVariants.{Join, Leave, New, Put, Get, SetInt, Int, Dup, Drop, Same, MakeRef, Deref, Refers}
use Rattle.jlr_machine.specs.declared.ask.Ask.TheVariants.{Clear, Enqueue, Enqueued, MakeQueue, Poll, Remove, MakeCleaner, Register, Clean}
use Rattle.jlr_machine.specs.declared.ask.Ask.TheVariants.{Prepare, Opened, CheckOut, CheckIn, Close, Finish, Bind, Find, Unbind, Names}
use Rattle.jlr_machine.specs.declared.ask.Ask.TheVariants.{Full, Stat, Notes, Faults, HandOver, TakeUp, Begin, Collect, Abandon, Array}
use Rattle.jlr_trace_fields.specs.declared.fault.Fault.{Fault}
use Rattle.jlr_trace_fields.specs.declared.fault.Fault.TheVariants.{Range}
use Rattle.jlr_trace_fields.specs.declared.version.Version.{Version}
use Rattle.jlr_trace_fields.specs.declared.version.Version.TheVariants.{One, Two}
use Rattle.jlr_trace_fields.specs.Reading.{picked_at, number_within_at}
use Rattle.jlr_trace_fields.specs.Spelling.{spelled_8, spelled_16, IsBytes, IsWithin}
use Rattle.jlr_trace_fields.specs.Items.{items_at}
use Rattle.jlr_trace_fields.specs.Laws.{Takes, TakesBehind, TakesSpelled, ReadsAgain, IsField}
use Rattle.jlr_trace_fields.proofs.Steps.{bind_ok, ok_is}
use Rattle.jlr_trace_fields.proofs.Numbers.{two_bytes, four_bytes, eight_bytes}
use Rattle.jlr_trace_fields.proofs.Basics.{byte, within, number_within, signed, bytes, picked, picked_takes}
use Rattle.jlr_trace_fields.proofs.Lists.{items_take, items_again}
use Rattle.jlr_trace_fields.proofs.Products.{then_takes, made_takes, one_takes, two_takes, three_takes, four_takes, then_again, one_again}
use Rattle.jlr_trace_fields.proofs.Products.{two_again, three_again, four_again}
use Rattle.jlr_trace_fields.proofs.TableLaws.{ref_kind, fault}
use Rattle.jlr_trace_fields.proofs.Records.{name}
use Rattle.jlr_machine.specs.declared.ask.AskKind.{AskKind}
use Rattle.jlr_machine.specs.Refusals.{ask_kinds}
use Rattle.jlr_machine.specs.declared.ask.AskKind.TheVariants as to
use Rattle.jlr_trace_entries.specs.Asks.{outcomes_by_number, outcome_number, modes, mode_number, spelled_kind, spelled_layout, kind_read}
use Rattle.jlr_trace_entries.specs.Asks.{layout_read}
use Rattle.jlr_trace_entries.specs.Asks.{spelled_call_outcome, CallOutcomeFits, call_outcome_behind, call_outcome_read, spelled_field}
use Rattle.jlr_trace_entries.specs.Asks.{FieldFits}
use Rattle.jlr_trace_entries.specs.Asks.{field_read, spelled_ask, AskFits, array_read, ask_body, ask_read}

-- ---- Tables

outcome_again : (x : Outcome) (rest : List ℕ) → picked_at 0 outcomes_by_number (outcome_number x ∷ rest) ≡ Ok (x, rest)
unfolding picked_at
outcome_again OutcomeOk rest = refl
outcome_again (Failed NotFound) rest = refl
outcome_again (Failed Denied) rest = refl
outcome_again (Failed Other) rest = refl

outcome : IsField (picked_at 0 outcomes_by_number) (λ x. spelled_8 (outcome_number x)) (λ _. Unit {0})
outcome = picked 0 outcomes_by_number outcome_number refl outcome_again

mode_again : (x : FullMode) (rest : List ℕ) → picked_at 0 modes (mode_number x ∷ rest) ≡ Ok (x, rest)
unfolding picked_at
mode_again Policy rest = refl
mode_again ClearAll rest = refl

mode : IsField (picked_at 0 modes) (λ x. spelled_8 (mode_number x)) (λ _. Unit {0})
mode = picked 0 modes mode_number refl mode_again

-- ---- Layouts

kind_letter : (b : ℕ) (bytes : List ℕ) (k : FieldKind) (rest : List ℕ) (r i : Bool) → nat_eq b 114 ≡ r → nat_eq b 105 ≡ i → IsBytes bytes
    → cond {A = Result (FieldKind × List ℕ) Fault} r (Ok (RefField, bytes))
    (cond {A = Result (FieldKind × List ℕ) Fault} i (Ok (IntField, bytes)) (Err Range)) ≡ Ok (k, rest)
    → Takes (b ∷ bytes) (spelled_kind k) rest
kind_letter b bytes k rest true i is other fits e =
    let made : FieldKind × List ℕ = (RefField, bytes) in
    let same : b ≡ 114 = eqb-true b 114 is in
    subst (λ (y : FieldKind × List ℕ). Takes (b ∷ bytes) (spelled_kind y.0) y.1) (ok_is made (k, rest) e)
    (record { parts = ap (λ n. n ∷ bytes) same; rest_fits = fits })
kind_letter b bytes k rest false true other is fits e =
    let made : FieldKind × List ℕ = (IntField, bytes) in
    let same : b ≡ 105 = eqb-true b 105 is in
    subst (λ (y : FieldKind × List ℕ). Takes (b ∷ bytes) (spelled_kind y.0) y.1) (ok_is made (k, rest) e)
    (record { parts = ap (λ n. n ∷ bytes) same; rest_fits = fits })
kind_letter b bytes k rest false false p q fits e = absurd cc

kind_takes : TakesSpelled kind_read spelled_kind (λ _. Unit {0})
unfolding kind_read
kind_takes [] k rest fits e = absurd cc
kind_takes (b ∷ bytes) k rest fits e = (kind_letter b bytes k rest (nat_eq b 114) (nat_eq b 105) refl refl (λ i. fits (suc i)) e, tt)

kind_again : ReadsAgain kind_read spelled_kind (λ _. Unit {0})
unfolding kind_read
kind_again RefField rest fits = refl
kind_again IntField rest fits = refl

all_kinds : (layout : List FieldKind) → AllByRecursion (λ _. Unit {0}) layout
all_kinds [] = tt
all_kinds (k ∷ layout) = (tt, all_kinds layout)

kinds : (count : ℕ) → IsField (items_at kind_read count) (flat_map spelled_kind) (λ layout. length layout ≡ count)
kinds count = record {
  takes = λ bs xs rest fits e. let t = items_take kind_read spelled_kind (λ _. Unit {0}) kind_takes count bs xs rest fits e in (t.0, t.1);
  again = λ xs rest fits. ap (λ n. items_at kind_read n (flat_map spelled_kind xs ++ rest)) (sym fits)
      ∙ items_again kind_read spelled_kind (λ _. Unit {0}) kind_again xs rest (all_kinds xs);
}

-- layouts of at most eight fields
abbrev LayoutFits : List FieldKind → Type 0
LayoutFits layout = length layout ≤ 8

kinds_behind : (count : ℕ) → count ≤ 8 → TakesBehind (count ∷ []) (items_at kind_read count) spelled_layout LayoutFits
kinds_behind count few bs xs rest fits e =
    let t = (kinds count).takes bs xs rest fits e in (
      record {
        parts = ap (λ (b : List ℕ). count ∷ b) t.0.parts ∙ ap (λ n. n ∷ (flat_map spelled_kind xs ++ rest)) (sym t.1);
        rest_fits =
            t.0.rest_fits;
      },
      omega (arith, t.1),
    )

layout_takes : TakesSpelled layout_read spelled_layout LayoutFits
unfolding layout_read
layout_takes = then_takes (within 0 8) [] (items_at kind_read) spelled_layout LayoutFits (λ count f. kinds_behind count f.1)

layout_again : ReadsAgain layout_read spelled_layout LayoutFits
unfolding layout_read
layout_again xs rest fits = then_again (within 0 8) (length xs) (omega arith, fits) (items_at kind_read) (spelled_layout xs ++ rest)
    (flat_map spelled_kind xs ++ rest) xs rest refl ((kinds (length xs)).again xs rest refl)

layout : IsField layout_read spelled_layout LayoutFits
layout = record { takes = layout_takes; again = layout_again }

-- ---- How a call ended

call_outcome_behind_takes : (kind : ℕ) → TakesBehind (kind ∷ []) (call_outcome_behind kind) spelled_call_outcome CallOutcomeFits
call_outcome_behind_takes zero = one_takes (bytes 0 200) (0 ∷ []) GotData spelled_call_outcome CallOutcomeFits (λ t. refl) (λ t f. f)
call_outcome_behind_takes (suc zero) =
    one_takes (within 0 200) (1 ∷ []) GotWrote spelled_call_outcome CallOutcomeFits (λ n. refl) (λ n f. f)
call_outcome_behind_takes (suc (suc zero)) = one_takes fault (2 ∷ []) GotFailed spelled_call_outcome CallOutcomeFits (λ x. refl) (λ x f. tt)
call_outcome_behind_takes (suc (suc (suc n))) = λ bs x rest fits e. absurd cc

call_outcome_takes : TakesSpelled call_outcome_read spelled_call_outcome CallOutcomeFits
unfolding call_outcome_read
call_outcome_takes = then_takes byte [] call_outcome_behind spelled_call_outcome CallOutcomeFits (λ kind f. call_outcome_behind_takes kind)

call_outcome_again : ReadsAgain call_outcome_read spelled_call_outcome CallOutcomeFits
unfolding call_outcome_read
call_outcome_again (GotData text) rest fits = one_again (bytes 0 200) GotData text fits rest
call_outcome_again (GotWrote count) rest fits = one_again (within 0 200) GotWrote count fits rest
call_outcome_again (GotFailed x) rest fits = one_again fault GotFailed x tt rest

call_outcome : IsField call_outcome_read spelled_call_outcome CallOutcomeFits
call_outcome = record { takes = call_outcome_takes; again = call_outcome_again }

-- ---- The number of a field, and how many elements an array has

two_byte_field : IsField (number_within_at w16 0 4095) spelled_16 (IsWithin 0 4095)
two_byte_field = number_within w16 (2 ^ 16) 0 4095 (omega arith) two_bytes

field_takes : (version : Version) → TakesSpelled (field_read version) (spelled_field version) (FieldFits version)
field_takes One = byte.takes
field_takes Two = λ bs n rest fits e. let t = two_byte_field.takes bs n rest fits e in (t.0, omega (arith, t.1.1))

field_again : (version : Version) → ReadsAgain (field_read version) (spelled_field version) (FieldFits version)
field_again One = byte.again
field_again Two = λ n rest fits. two_byte_field.again n rest (omega arith, omega (arith, fits))

field : (version : Version) → IsField (field_read version) (spelled_field version) (FieldFits version)
field version = record { takes = field_takes version; again = field_again version }

element_count : IsField (number_within_at w16 1 4096) spelled_16 (IsWithin 1 4096)
element_count = number_within w16 (2 ^ 16) 1 4096 (omega arith) two_bytes

-- ---- Asks

abbrev kind_number : AskKind → ℕ
kind_number to.Join = 0
kind_number to.Leave = 1
kind_number to.New = 2
kind_number to.Put = 3
kind_number to.Get = 4
kind_number to.SetInt = 5
kind_number to.Int = 6
kind_number to.Dup = 7
kind_number to.Drop = 8
kind_number to.Same = 9
kind_number to.MakeRef = 10
kind_number to.Deref = 11
kind_number to.Refers = 12
kind_number to.Clear = 13
kind_number to.Enqueue = 14
kind_number to.Enqueued = 15
kind_number to.MakeQueue = 16
kind_number to.Poll = 17
kind_number to.Remove = 18
kind_number to.MakeCleaner = 19
kind_number to.Register = 20
kind_number to.Clean = 21
kind_number to.Prepare = 22
kind_number to.Opened = 23
kind_number to.CheckOut = 24
kind_number to.CheckIn = 25
kind_number to.Close = 26
kind_number to.Finish = 27
kind_number to.Bind = 28
kind_number to.Find = 29
kind_number to.Unbind = 30
kind_number to.Names = 31
kind_number to.Full = 32
kind_number to.Stat = 33
kind_number to.Notes = 34
kind_number to.Faults = 35
kind_number to.HandOver = 36
kind_number to.TakeUp = 37
kind_number to.Begin = 38
kind_number to.Collect = 39
kind_number to.Abandon = 40
kind_number to.Array = 41

array_takes : (version : Version) → TakesBehind (41 ∷ []) (array_read version) (spelled_ask version) (AskFits version)
array_takes One = λ bs x rest fits e. absurd cc
array_takes Two = two_takes byte element_count (41 ∷ []) Array (spelled_ask Two) (AskFits Two) (λ a b. refl) (λ a b p q. (p, q))

body_takes : (version : Version) (kind : AskKind) → TakesBehind (kind_number kind ∷ []) (ask_body version kind) (spelled_ask version)
    (AskFits version)
body_takes version to.Join = one_takes byte (0 ∷ []) Join (spelled_ask version) (AskFits version) (λ a. refl) (λ a p. p)
body_takes version to.Leave = one_takes byte (1 ∷ []) Leave (spelled_ask version) (AskFits version) (λ a. refl) (λ a p. p)
body_takes version to.New = two_takes byte layout (2 ∷ []) New (spelled_ask version) (AskFits version) (λ a b. refl) (λ a b p q. (p, q))
body_takes version to.Put = four_takes byte byte (field version) byte (3 ∷ []) Put (spelled_ask version) (AskFits version) (λ a b c d. refl)
    (λ a b c d p q r s. (p, q, r, s))
body_takes version to.Get =
    three_takes byte byte (field version) (4 ∷ []) Get (spelled_ask version) (AskFits version) (λ a b c. refl) (λ a b c p q r. (p, q, r))
body_takes version to.SetInt = four_takes byte byte (field version) signed (5 ∷ []) SetInt (spelled_ask version) (AskFits version)
    (λ a b c d. refl) (λ a b c d p q r s. (p, q, r, s))
body_takes version to.Int =
    three_takes byte byte (field version) (6 ∷ []) Int (spelled_ask version) (AskFits version) (λ a b c. refl) (λ a b c p q r. (p, q, r))
body_takes version to.Dup = two_takes byte byte (7 ∷ []) Dup (spelled_ask version) (AskFits version) (λ a b. refl) (λ a b p q. (p, q))
body_takes version to.Drop = two_takes byte byte (8 ∷ []) Drop (spelled_ask version) (AskFits version) (λ a b. refl) (λ a b p q. (p, q))
body_takes version to.Same =
    three_takes byte byte byte (9 ∷ []) Same (spelled_ask version) (AskFits version) (λ a b c. refl) (λ a b c p q r. (p, q, r))
body_takes version to.MakeRef = four_takes byte ref_kind byte byte (10 ∷ []) MakeRef (spelled_ask version) (AskFits version)
    (λ a b c d. refl) (λ a b c d p q r s. (p, r, s))
body_takes version to.Deref = two_takes byte byte (11 ∷ []) Deref (spelled_ask version) (AskFits version) (λ a b. refl) (λ a b p q. (p, q))
body_takes version to.Refers =
    three_takes byte byte byte (12 ∷ []) Refers (spelled_ask version) (AskFits version) (λ a b c. refl) (λ a b c p q r. (p, q, r))
body_takes version to.Clear = two_takes byte byte (13 ∷ []) Clear (spelled_ask version) (AskFits version) (λ a b. refl) (λ a b p q. (p, q))
body_takes version to.Enqueue =
    two_takes byte byte (14 ∷ []) Enqueue (spelled_ask version) (AskFits version) (λ a b. refl) (λ a b p q. (p, q))
body_takes version to.Enqueued =
    two_takes byte byte (15 ∷ []) Enqueued (spelled_ask version) (AskFits version) (λ a b. refl) (λ a b p q. (p, q))
body_takes version to.MakeQueue = one_takes byte (16 ∷ []) MakeQueue (spelled_ask version) (AskFits version) (λ a. refl) (λ a p. p)
body_takes version to.Poll = two_takes byte byte (17 ∷ []) Poll (spelled_ask version) (AskFits version) (λ a b. refl) (λ a b p q. (p, q))
body_takes version to.Remove =
    two_takes byte byte (18 ∷ []) Remove (spelled_ask version) (AskFits version) (λ a b. refl) (λ a b p q. (p, q))
body_takes version to.MakeCleaner = one_takes byte (19 ∷ []) MakeCleaner (spelled_ask version) (AskFits version) (λ a. refl) (λ a p. p)
body_takes version to.Register = four_takes byte byte byte four_bytes (20 ∷ []) Register (spelled_ask version) (AskFits version)
    (λ a b c d. refl) (λ a b c d p q r s. (p, q, r, s))
body_takes version to.Clean = two_takes byte byte (21 ∷ []) Clean (spelled_ask version) (AskFits version) (λ a b. refl) (λ a b p q. (p, q))
body_takes version to.Prepare = one_takes byte (22 ∷ []) Prepare (spelled_ask version) (AskFits version) (λ a. refl) (λ a p. p)
body_takes version to.Opened = two_takes byte outcome (23 ∷ []) Opened (spelled_ask version) (AskFits version) (λ a b. refl) (λ a b p q. p)
body_takes version to.CheckOut =
    two_takes byte byte (24 ∷ []) CheckOut (spelled_ask version) (AskFits version) (λ a b. refl) (λ a b p q. (p, q))
body_takes version to.CheckIn =
    two_takes byte call_outcome (25 ∷ []) CheckIn (spelled_ask version) (AskFits version) (λ a b. refl) (λ a b p q. (p, q))
body_takes version to.Close = two_takes byte byte (26 ∷ []) Close (spelled_ask version) (AskFits version) (λ a b. refl) (λ a b p q. (p, q))
body_takes version to.Finish =
    three_takes byte eight_bytes outcome (27 ∷ []) Finish (spelled_ask version) (AskFits version) (λ a b c. refl) (λ a b c p q r. (p, q))
body_takes version to.Bind =
    three_takes byte name byte (28 ∷ []) Bind (spelled_ask version) (AskFits version) (λ a b c. refl) (λ a b c p q r. (p, q, r))
body_takes version to.Find = two_takes byte name (29 ∷ []) Find (spelled_ask version) (AskFits version) (λ a b. refl) (λ a b p q. (p, q))
body_takes version to.Unbind =
    two_takes byte name (30 ∷ []) Unbind (spelled_ask version) (AskFits version) (λ a b. refl) (λ a b p q. (p, q))
body_takes version to.Names = one_takes byte (31 ∷ []) Names (spelled_ask version) (AskFits version) (λ a. refl) (λ a p. p)
body_takes version to.Full = two_takes byte mode (32 ∷ []) Full (spelled_ask version) (AskFits version) (λ a b. refl) (λ a b p q. p)
body_takes version to.Stat = one_takes byte (33 ∷ []) Stat (spelled_ask version) (AskFits version) (λ a. refl) (λ a p. p)
body_takes version to.Notes = one_takes byte (34 ∷ []) Notes (spelled_ask version) (AskFits version) (λ a. refl) (λ a p. p)
body_takes version to.Faults = one_takes byte (35 ∷ []) Faults (spelled_ask version) (AskFits version) (λ a. refl) (λ a p. p)
body_takes version to.HandOver = made_takes (36 ∷ []) HandOver (spelled_ask version) (AskFits version) refl tt
body_takes version to.TakeUp = made_takes (37 ∷ []) TakeUp (spelled_ask version) (AskFits version) refl tt
body_takes version to.Begin = made_takes (38 ∷ []) Begin (spelled_ask version) (AskFits version) refl tt
body_takes version to.Collect = made_takes (39 ∷ []) Collect (spelled_ask version) (AskFits version) refl tt
body_takes version to.Abandon = made_takes (40 ∷ []) Abandon (spelled_ask version) (AskFits version) refl tt
body_takes version to.Array = array_takes version

ask_takes : (version : Version) → TakesSpelled (ask_read version) (spelled_ask version) (AskFits version)
unfolding ask_read
ask_takes version bs x rest fits e =
    let a = bind_ok (picked_at 0 ask_kinds bs) (λ kind. ask_body version kind.0 kind.1) (x, rest) e in
    let t = picked_takes 0 ask_kinds kind_number refl bs a.0.0 a.0.1 fits a.1 in
    let r = body_takes version a.0.0 a.0.1 x rest t.rest_fits a.2 in
    (record { parts = t.parts ∙ r.0.parts; rest_fits = r.0.rest_fits }, r.1)

ask_again : (version : Version) → ReadsAgain (ask_read version) (spelled_ask version) (AskFits version)
unfolding ask_read picked_at
ask_again version (New a b) rest fits = two_again byte layout New a b fits.0 fits.1 rest
ask_again version (Put a b c d) rest fits = four_again byte byte (field version) byte Put a b c d fits.0 fits.1 fits.2 fits.3 rest
ask_again version (Get a b c) rest fits = three_again byte byte (field version) Get a b c fits.0 fits.1 fits.2 rest
ask_again version (SetInt a b c d) rest fits = four_again byte byte (field version) signed SetInt a b c d fits.0 fits.1 fits.2 fits.3 rest
ask_again version (Int a b c) rest fits = three_again byte byte (field version) Int a b c fits.0 fits.1 fits.2 rest
ask_again version (MakeRef a b c d) rest fits = four_again byte ref_kind byte byte MakeRef a b c d fits.0 tt fits.1 fits.2 rest
ask_again version (Register a b c d) rest fits = four_again byte byte byte four_bytes Register a b c d fits.0 fits.1 fits.2 fits.3 rest
ask_again version (Opened a b) rest fits = two_again byte outcome Opened a b fits tt rest
ask_again version (CheckIn a b) rest fits = two_again byte call_outcome CheckIn a b fits.0 fits.1 rest
ask_again version (Finish a b c) rest fits = three_again byte eight_bytes outcome Finish a b c fits.0 fits.1 tt rest
ask_again version (Bind a b c) rest fits = three_again byte name byte Bind a b c fits.0 fits.1 fits.2 rest
ask_again version (Find a b) rest fits = two_again byte name Find a b fits.0 fits.1 rest
ask_again version (Unbind a b) rest fits = two_again byte name Unbind a b fits.0 fits.1 rest
ask_again version (Full a b) rest fits = two_again byte mode Full a b fits tt rest
ask_again One (Array a b) rest fits = absurd fits
ask_again Two (Array a b) rest fits = two_again byte element_count Array a b fits.0 fits.1 rest
ask_again version asked rest fits = refl

pub ask : (version : Version) → IsField (ask_read version) (spelled_ask version) (AskFits version)
ask version = record { takes = ask_takes version; again = ask_again version }
