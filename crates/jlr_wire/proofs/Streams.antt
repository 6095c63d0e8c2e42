-- What a reader of lines has read, call by call.
use Rattle.std.proofs.Common.{◌≡◌, ℕ, ◌+◌, ◌<◌, ◌≤◌, Bool, true, false, nat_lt, List, [], ◌∷◌, ◌++◌, length, take, refl, sym, ap, ◌∙◌}
use Rattle.std.proofs.Common.{arith, append_assoc, length-append, inl, inr}
use Rattle.std.proofs.lemmas.List.{append-nil, take_all, take_at, take-append-le, length-take, map-append}
use Rattle.std.proofs.lemmas.List.Elements.{All-nil, All-append, All-push}
use Rattle.std.proofs.lemmas.Grind.{flat_map-append}
use Rattle.std.proofs.lemmas.Bool.{cases_lt, le-ltb, lt-ltb}
use Rattle.jlr_wire.specs.Lines.{HeldLine, begun, nothing_held, AreLines, IsInLine, ended_lines}
use Rattle.jlr_wire.specs.Feeding.{Continues, EndsHeldLine, Feeds}
use Rattle.jlr_wire.specs.Stream.{Call, Follow, ReadsLines, Shown, shown_line, shown_by_call, shown_by_calls, used_bytes, held_after}
use Rattle.jlr_wire.specs.declared.pieces.Got.{Got}
use Rattle.jlr_wire.specs.declared.pieces.Got.TheVariants.{More, Line, TooLong}

-- what does not fit may be cut off before more is added
take_twice : (n : ℕ) (xs ys : List ℕ) → take n (take n xs ++ ys) ≡ take n (xs ++ ys)
take_twice n xs ys = elim (cases_lt n (length xs)) [
  | inl lt ↦
      let size : length (take n xs) ≡ n = omega (arith, lt, length-take n xs) in
      take_at (take n xs) ys n size ∙ sym (take-append-le n xs ys (omega (arith, lt)))
  | inr le ↦ ap (λ zs. take n (zs ++ ys)) (take_all n xs le)
]

-- nothing read yet
pub reads_none : ReadsLines [] [] nothing_held
reads_none = record {
  lines = [];
  last = [];
  are = record { joined = refl; each = All-nil IsInLine; open_end = All-nil (λ b. b ≡ 10 → ⊥) };
  shows = refl;
  holds = refl;
}

begun_open : (held : HeldLine) → held.ended ≡ false → begun held ≡ held.bytes
begun_open held e = rw e refl

begun_ended : (held : HeldLine) → held.ended ≡ true → begun held ≡ []
begun_ended held e = rw e refl

-- the line goes on
pub line_goes_on : (done last : List ℕ) (lines : List (List ℕ)) (old : HeldLine) (bytes : List ℕ) (used : ℕ) (new : HeldLine)
    → AreLines done lines last → begun old ≡ take 513 last → Continues old bytes used new
    → AreLines (done ++ take used bytes) lines (last ++ bytes) × (begun new ≡ take 513 (last ++ bytes))
line_goes_on done last lines old bytes used new are holds h =
    let all : take used bytes ≡ bytes = take_all used bytes (omega (arith, h.whole)) in (
      record {
        joined = ap (λ xs. done ++ xs) all ∙ ap (λ xs. xs ++ bytes) are.joined ∙ append_assoc (ended_lines lines) last bytes;
        each = are.each;
        open_end = All-append (λ b. b ≡ 10 → ⊥) last bytes are.open_end h.in_line;
      },
      begun_open new h.under_way ∙ h.held ∙ ap (λ xs. take 513 (xs ++ bytes)) holds ∙ take_twice 513 last bytes,
    )

reads_on : (done : List ℕ) (seen : List Shown) (old : HeldLine) (bytes : List ℕ) (used : ℕ) (new : HeldLine)
    → ReadsLines done seen old → Continues old bytes used new → ReadsLines (done ++ take used bytes) (seen ++ []) new
reads_on done seen old bytes used new r h =
    let on = line_goes_on done r.last r.lines old bytes used new r.are r.holds h in
    record { lines = r.lines; last = r.last ++ bytes; are = on.0; shows = append-nil seen ∙ r.shows; holds = on.1 }

-- the front and the end of its line are what was used
used_front : (bytes front rest : List ℕ) (used : ℕ) → bytes ≡ front ++ 10 ∷ rest → used ≡ length front + 1 → take used bytes ≡ front
    ++ 10 ∷ []
used_front bytes front rest used cut taken =
    let size : length (front ++ 10 ∷ []) ≡ used = omega (arith, taken, length-append front (10 ∷ [])) in
    ap (take used) (cut ∙ sym (append_assoc front (10 ∷ []) rest)) ∙ take_at (front ++ 10 ∷ []) rest used size

-- a line more
one_line_more : (lines : List (List ℕ)) (last front done : List ℕ) → done ≡ ended_lines lines ++ last
    → done ++ (front ++ 10 ∷ []) ≡ ended_lines (lines ++ (last ++ front) ∷ []) ++ []
one_line_more lines last front done e =
    let more : ended_lines (lines ++ (last ++ front) ∷ []) ≡ ended_lines lines ++ (((last ++ front) ++ 10 ∷ []) ++ [])
    = flat_map-append (λ line. line ++ 10 ∷ []) lines ((last ++ front) ∷ []) in
    rw (
      append-nil (ended_lines (lines ++ (last ++ front) ∷ [])),
      more,
      append-nil ((last ++ front) ++ 10 ∷ []),
      e,
      append_assoc last front (10 ∷ []),
      append_assoc (ended_lines lines) last (front ++ 10 ∷ []),
    ) refl

-- a line ends
pub line_ends : (fits : ℕ → Type 0) (done last : List ℕ) (lines : List (List ℕ)) (old : HeldLine) (bytes : List ℕ) (used : ℕ)
    (new : HeldLine)
    → AreLines done lines last → begun old ≡ take 513 last → (h : EndsHeldLine fits old bytes used new)
    → AreLines (done ++ take used bytes) (lines ++ (last ++ h.front) ∷ []) []
    × IsInLine (last ++ h.front) × (new.bytes ≡ take 513 (last ++ h.front)) × (begun new ≡ [])
line_ends fits done last lines old bytes used new are holds h =
    let in_line : IsInLine (last ++ h.front) = All-append (λ b. b ≡ 10 → ⊥) last h.front are.open_end h.in_line in (
      record {
        joined = ap (λ xs. done ++ xs) (used_front bytes h.front h.rest used h.cut h.taken)
            ∙ one_line_more lines last h.front done are.joined;
        each = All-push IsInLine lines (last ++ h.front) are.each in_line;
        open_end = All-nil (λ b. b ≡ 10 → ⊥);
      },
      in_line,
      h.held ∙ ap (λ xs. take 513 (xs ++ h.front)) holds ∙ take_twice 513 last h.front,
      begun_ended new h.ended,
    )

reads_line : (too_long : Bool) (fits : ℕ → Type 0) (done : List ℕ) (seen : List Shown) (old : HeldLine) (bytes : List ℕ) (used : ℕ)
    (new : HeldLine)
    → (r : ReadsLines done seen old) → (h : EndsHeldLine fits old bytes used new) → nat_lt 512 (length (r.last ++ h.front)) ≡ too_long
    → ReadsLines (done ++ take used bytes) (seen ++ (record { bytes = new.bytes; too_long = too_long }) ∷ []) new
reads_line too_long fits done seen old bytes used new r h size =
    let line = r.last ++ h.front in
    let ends = line_ends fits done r.last r.lines old bytes used new r.are r.holds h in
    let show : Shown = record { bytes = new.bytes; too_long = too_long } in
    let same : show ≡ shown_line line = rw (ends.2, size) refl in
    record {
      lines = r.lines ++ line ∷ [];
      last = [];
      are = ends.0;
      shows = ap (λ s. seen ++ s ∷ []) same ∙ ap (λ s. s ++ shown_line line ∷ []) r.shows ∙ sym (map-append shown_line r.lines (line ∷ []));
      holds = ends.3;
    }

is_short : (begun_bytes last front : List ℕ) → begun_bytes ≡ take 513 last → length (begun_bytes ++ front) ≤ 512
    → nat_lt 512 (length (last ++ front)) ≡ false
is_short begun_bytes last front e le =
    le-ltb 512 (length (last ++ front))
    (omega (arith, le, length-append begun_bytes front, length-append last front, ap length e, length-take 513 last))

is_long : (begun_bytes last front : List ℕ) → begun_bytes ≡ take 513 last → 512 < length (begun_bytes ++ front)
    → nat_lt 512 (length (last ++ front)) ≡ true
is_long begun_bytes last front e lt =
    lt-ltb 512 (length (last ++ front))
    (omega (arith, lt, length-append begun_bytes front, length-append last front, ap length e, length-take 513 last))

-- one call more
pub reads_more : (done : List ℕ) (seen : List Shown) (old : HeldLine) (bytes : List ℕ) (used : ℕ) (got : Got) (new : HeldLine)
    → ReadsLines done seen old → Feeds old bytes used got new → ReadsLines (done ++ take used bytes) (seen ++ shown_by_call got new) new
reads_more done seen old bytes used More new r h = reads_on done seen old bytes used new r h
reads_more done seen old bytes used Line new r h =
    reads_line false (λ n. n ≤ 512) done seen old bytes used new r h (is_short (begun old) r.last h.front r.holds h.size)
reads_more done seen old bytes used TooLong new r h =
    reads_line true (λ n. 512 < n) done seen old bytes used new r h (is_long (begun old) r.last h.front r.holds h.size)

-- all calls
pub reads_calls : (calls : List Call) (done : List ℕ) (seen : List Shown) (held : HeldLine) → ReadsLines done seen held → Follow held calls
    → ReadsLines (done ++ used_bytes calls) (seen ++ shown_by_calls calls) (held_after held calls)
reads_calls [] done seen held r f = rw (append-nil done, append-nil seen) r
reads_calls (call ∷ calls) done seen held r f =
    let one = reads_more done seen held call.offered call.used call.got call.after r f.0 in
    let all = reads_calls calls (done ++ take call.used call.offered) (seen ++ shown_by_call call.got call.after) call.after one f.1 in
    rw (
      ← append_assoc done (take call.used call.offered) (used_bytes calls),
      ← append_assoc seen (shown_by_call call.got call.after) (shown_by_calls calls),
    ) all
