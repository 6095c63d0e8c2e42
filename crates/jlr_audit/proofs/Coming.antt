-- Entries that come one after the other.
use Rattle.std.proofs.Common.{◌≡◌, ℕ, suc, ◌+◌, List, [], ◌∷◌, ◌++◌, length, Option, Some, None, Result, Ok, Err, refl, sym, ap, subst, ◌∙◌}
use Rattle.std.proofs.Common.{append_assoc, arith}
use Rattle.std.specs.Prelude.{slice_get, IfOk, OnOk}
use Rattle.std.specs.Io.KnownBytes.{IsAtEnd}
use Rattle.std.proofs.lemmas.List.{length-append, take_at}
use Rattle.jlr_machine.specs.declared.machine.Machine.{Machine}
use Rattle.jlr_machine.specs.declared.entry.Entry.{Entry}
use Rattle.jlr_machine.specs.Run.{IsLegal, Run}
use Rattle.jlr_machine.specs.WellFormed.{IsImage}
use Rattle.jlr_plain.specs.Following.{IsWellFollowed, IsNext}
use Rattle.jlr_trace_fields.specs.declared.parts.record.Placed.{Placed}
use Rattle.jlr_trace.specs.declared.file.TraceFault.{TraceFault}
use Rattle.jlr_trace.specs.declared.window.StreamFault.{StreamFault}
use Rattle.jlr_trace.specs.Files.{◌>>>◌}
use Rattle.jlr_trace.specs.Streams.{ComesFirst, Comes, Coming, AreBytes, AllAreBytes, behind_entry}
use Rattle.jlr_audit.specs.declared.verdict.Verdict.{Verdict}
use Rattle.jlr_audit.specs.declared.verdict.Verdict.TheVariants.{Illegal}
use Rattle.jlr_audit.specs.Verdicts.{IsVerdict, IsVerdictWith, IsFirstIllegal}
use Rattle.jlr_audit.specs.Streams.{AreComing, IsStreamVerdict, IsOnlyVerdict}
use Rattle.jlr_audit.proofs.Runs.{run_snoc, any_verdict}

abbrev pub Read : Type 0
Read = Result (List Entry) TraceFault

-- entries in front of those that come
abbrev with_front : List Entry → Read → Read
with_front front read = read >>> λ entries. Ok (front ++ entries)

-- these came, and what comes now comes behind them
abbrev pub HaveCome : List Entry → Option Read → Option Read → Type 0
HaveCome front None now = Unit {0}
HaveCome front (Some start) None = ⊥
HaveCome front (Some start) (Some now) = start ≡ with_front front now

no_front : (read : Read) → read ≡ with_front [] read
no_front (Ok entries) = refl
no_front (Err f) = refl

pub none_came : (start : Option Read) → HaveCome [] start start
none_came None = tt
none_came (Some read) = no_front read

regrouped : (front : List Entry) (e : Entry) (read : Read) → with_front front (behind_entry e read) ≡ with_front (front ++ e ∷ []) read
regrouped front e (Ok entries) = ap (λ (es : List Entry). Ok es) (sym (append_assoc front (e ∷ []) entries))
regrouped front e (Err f) = refl

pub one_came : (front : List Entry) (e : Entry) (start old new : Option Read) → HaveCome front start old → ComesFirst e old new
    → HaveCome (front ++ e ∷ []) start new
one_came front e None old new came first = tt
one_came front e (Some start) None new came first = absurd came
one_came front e (Some start) (Some old) None came first = absurd first
one_came front e (Some start) (Some old) (Some new) came first = came ∙ ap (with_front front) first ∙ regrouped front e new

pub others_come : (front others : List Entry) (start now : Option Read) → HaveCome front start now → AreComing others now
    → AreComing (front ++ others) start
others_come front others None now came come = tt
others_come front others (Some start) None came come = absurd came
others_come front others (Some start) (Some now) came come = came ∙ ap (with_front front) come

-- ---- Bytes

bytes_none : (a : Option (List ℕ)) → AreBytes a a
bytes_none None = tt
bytes_none (Some xs) = λ fits. fits

bytes_then : (a b c : Option (List ℕ)) → AreBytes a b → AreBytes b c → AreBytes a c
bytes_then None b c h k = tt
bytes_then (Some xs) None c h k = absurd h
bytes_then (Some xs) (Some ys) None h k = absurd k
bytes_then (Some xs) (Some ys) (Some zs) h k = λ fits. h (k fits)

bytes_all : (a b : Option (List ℕ)) → AreBytes a b → AllAreBytes b → AllAreBytes a
bytes_all None b h all = tt
bytes_all (Some xs) None h all = absurd h
bytes_all (Some xs) (Some ys) h all = h all

no_bytes : (a : Option (List ℕ)) → IsAtEnd a → AllAreBytes a
no_bytes None end = tt
no_bytes (Some xs) end = λ i. rw end (omega arith)

-- ---- What the loops over the entries keep

-- so many came, and so many are left
pub record HasCome (start : Coming) (now : Coming) (number : ℕ) : Type 0 where
  pub front : List Entry
  pub counted : length front ≡ number
  pub left : now.left + number ≡ start.left
  pub come : HaveCome front start.entries now.entries
  pub bytes : AreBytes start.rest now.rest

pub begins : (start : Coming) → HasCome start start 0
begins start = record { front = []; counted = refl; left = omega arith; come = none_came start.entries; bytes = bytes_none start.rest }

pub goes_on : (start old new : Coming) (number : ℕ) (e : Entry) → HasCome start old number → Comes e old new
    → HasCome start new (number + 1)
goes_on start old new number e h c = record {
  front = h.front ++ e ∷ [];
  counted = omega (arith, length-append h.front (e ∷ []), h.counted);
  left = omega (arith, h.left, c.fewer);
  come = one_came h.front e start.entries old.entries new.entries h.come c.first;
  bytes = bytes_then start.rest old.rest new.rest h.bytes c.bytes;
}

-- those that came were legal, one after the other, and led here
pub record HasRun (image : Machine) (start : Coming) (machine : Machine) (now : Coming) (number : ℕ) : Type 0 where
  pub fit : IsWellFollowed machine
  pub so_far : HasCome start now number
  pub run : Run image so_far.front machine

pub run_begins : (image : Machine) (start : Coming) → IsWellFollowed image → HasRun image start image start 0
unfolding begins
run_begins image start fit = record { fit = fit; so_far = begins start; run = refl }

pub run_goes_on : (image : Machine) (start : Coming) (old new : Machine) (before after : Coming) (number : ℕ) (e : Entry)
    → HasRun image start old before number → Comes e before after → IsNext old e new → HasRun image start new after (number + 1)
unfolding goes_on
run_goes_on image start old new before after number e h c n = record {
  fit = n.fit;
  so_far = goes_on start before after number e h.so_far c;
  run = subst (λ (m : Machine). Run image (h.so_far.front ++ e ∷ []) m) (sym n.applied) (run_snoc image old h.so_far.front e h.run n.legal);
}

there : (front : List Entry) (e : Entry) (others : List Entry) → slice_get (front ++ e ∷ others) (length front) ≡ Some e
there [] e others = refl
there (x ∷ front) e others = there front e others

first_illegal : (image machine : Machine) (front : List Entry) (e : Entry) (others : List Entry) (number : ℕ) → length front ≡ number
    → Run image front machine → ¬ (IsLegal machine e) → IsFirstIllegal image (front ++ e ∷ others) number
first_illegal image machine front e others number counted run refused = record {
  entry = e;
  there = subst (λ (n : ℕ). slice_get (front ++ e ∷ others) n ≡ Some e) counted (there front e others);
  before = machine;
  run = subst (λ (es : List Entry). Run image es machine) (sym (take_at front (e ∷ others) number counted)) run;
  illegal = refused;
}

run_stops : (image : Machine) (start : Coming) (machine : Machine) (before after : Coming) (number : ℕ) (e : Entry) (others : List Entry)
    (v : Verdict) → IsImage image → HasRun image start machine before number → Comes e before after
    → ¬ (IsLegal machine e) → AreComing others after.entries → v ≡ Illegal (number + 1) → IsStreamVerdict [] image start.entries v
run_stops image start machine before after number e others v i h c refused come is =
    let front : List Entry = h.so_far.front in
    let came : HaveCome (front ++ e ∷ []) start.entries after.entries =
    one_came front e start.entries before.entries after.entries h.so_far.come c.first in
    let grouped : (front ++ e ∷ []) ++ others ≡ front ++ e ∷ others = append_assoc front (e ∷ []) others in
    let next : number + 1 ≡ suc number = omega arith in
    let verdict : IsVerdict image (front ++ e ∷ others) (Illegal (suc number)) =
    (i, first_illegal image machine front e others number h.so_far.counted h.run refused) in
    record {
      entries = front ++ e ∷ others;
      come = subst (λ (es : List Entry). AreComing es start.entries) grouped
          (others_come (front ++ e ∷ []) others start.entries after.entries came come);
      verdict = subst (λ (w : Verdict). IsVerdict image (front ++ e ∷ others) w) (sym (is ∙ ap (λ (n : ℕ). Illegal n) next)) verdict;
    }

-- the same where the others were read
pub run_is_refused : (image : Machine) (start : Coming) (machine : Machine) (before after : Coming) (number : ℕ) (e : Entry)
    (result : Result Verdict StreamFault) → IsImage image → HasRun image start machine before number → Comes e before after
    → ¬ (IsLegal machine e) → IfOk result (λ v. (v ≡ Illegal (number + 1)) × ((es : List Entry) × AreComing es after.entries))
    → IfOk result (λ v. IsStreamVerdict [] image start.entries v)
run_is_refused image start machine before after number e (Ok v) i h c refused come =
    run_stops image start machine before after number e come.1.0 v i h c refused come.1.1 come.0
run_is_refused image start machine before after number e (Err f) i h c refused come = tt

-- all are bytes, where what is left is at its end, or where those behind an entry are
pub bytes_to_end : (start now : Coming) (number : ℕ) (result : Result (Unit {0}) StreamFault) → HasCome start now number
    → OnOk result (IsAtEnd now.rest) → OnOk result (AllAreBytes start.rest)
bytes_to_end start now number (Ok u) h end = bytes_all start.rest now.rest h.bytes (no_bytes now.rest end)
bytes_to_end start now number (Err f) h end = tt

pub bytes_read_on : (start before after : Coming) (number : ℕ) (e : Entry) (result : Result Verdict StreamFault)
    → HasCome start before number → Comes e before after → OnOk result (AllAreBytes after.rest) → OnOk result (AllAreBytes start.rest)
bytes_read_on start before after number e (Ok v) h c all =
    bytes_all start.rest before.rest h.bytes (bytes_all before.rest after.rest c.bytes all)
bytes_read_on start before after number e (Err f) h c all = tt

-- ---- There is one verdict

one_with : (strays : List Placed) (image : Machine) (entries : List Entry) (v w : Verdict) → IsVerdictWith strays image entries v
    → IsVerdictWith strays image entries w → w ≡ v
one_with [] image entries v w p q = any_verdict image entries v p w q
one_with (s ∷ strays) image entries v w p q = q ∙ sym p

is_only : (strays : List Placed) (image : Machine) (coming : Option Read) (v : Verdict) → IsStreamVerdict strays image coming v
    → IsOnlyVerdict strays image coming v
is_only strays image None v s = tt
is_only strays image (Some read) v s = λ entries w come q.
    let same : entries ≡ s.entries = cc (come, s.come) in
    one_with strays image s.entries v w s.verdict (subst (λ (es : List Entry). IsVerdictWith strays image es w) same q)

pub only_one : (strays : List Placed) (image : Machine) (coming : Option Read) (result : Result Verdict StreamFault)
    → IfOk result (λ v. IsStreamVerdict strays image coming v) → IfOk result (λ v. IsOnlyVerdict strays image coming v)
only_one strays image coming (Ok v) s = is_only strays image coming v s
only_one strays image coming (Err f) s = tt
