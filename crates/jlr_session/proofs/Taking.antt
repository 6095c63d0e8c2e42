-- A chunk that is taken line by line.
use Rattle.std.proofs.Common.{◌≡◌, ◌≢◌, ℕ, ◌+◌, ◌<◌, List, [], ◌∷◌, ◌++◌, true, length, take, drop, Option, Some, None, refl, sym, ap}
use Rattle.std.proofs.Common.{subst, ◌∙◌, append_assoc, arith}
use Rattle.std.specs.Io.KnownBytes.{Appends}
use Rattle.std.proofs.lemmas.List.{append-nil, take-append-drop}
use Rattle.jlr_machine.specs.declared.ask.Answer.TheVariants.{Done}
use Rattle.jlr_wire.specs.Lines.{HeldLine}
use Rattle.jlr_wire.specs.Feeding.{FindsLine, Continues, EndsLine, line_at}
use Rattle.jlr_wire.proofs.Sending.{Appends-none, Appends-then}
use Rattle.jlr_wire.specs.declared.pieces.LineAt.{LineAt}
use Rattle.jlr_wire.specs.declared.pieces.LineAt.TheVariants.{Nowhere, Bytes, Held as HeldOf}
use Rattle.jlr_session.specs.Carrying.{Carrying}
use Rattle.jlr_session.specs.Limits.{most_lines}
use Rattle.jlr_session.specs.Turns.{TurnEnds, reply_line}
use Rattle.jlr_session.specs.Chunks.{SoFar, TakesChunk}
use Rattle.jlr_session.specs.declared.shell.SessionEnd.{SessionEnd}
use Rattle.jlr_session.specs.declared.shell.SessionEnd.TheVariants.{Bye, End, Truncated, ReadFault, WriteFault, TooManyLines, NotJoined}
use Rattle.jlr_session.proofs.Going.{AnyEnd, so_far_on, so_far_line, so_far_same}
use Rattle.jlr_session.proofs.Ending.{ended_bye, ended_turn_fault, ended_many}

-- the chunk is answered up to the rest, whatever came before it
abbrev pub Taken : {H : Type 0} → Carrying H → HeldLine → ℕ → H → Option (List ℕ) → List ℕ → List ℕ → HeldLine → ℕ → H → Option (List ℕ)
    → Type 0
Taken {H} carries held0 n0 heap0 w0 chunk rest held n heap w =
    (front : List ℕ) × (more : List ℕ) × (chunk ≡ front ++ rest) × Appends w0 w more
    × ((bytes : List ℕ) (old : H) (out : List ℕ) → SoFar carries bytes held0 n0 old out heap0
    → SoFar carries (bytes ++ front) held n old (out ++ more) heap)

pub taken_none : {H : Type 0} (carries : Carrying H) (held : HeldLine) (n : ℕ) (heap : H) (w : Option (List ℕ)) (chunk : List ℕ)
    → Taken carries held n heap w chunk chunk held n heap w
taken_none carries held n heap w chunk = ([], [], refl, Appends-none w, λ bytes old out s. rw (append-nil bytes, append-nil out) s)

-- what was taken, and what is taken now
front_more : (chunk front rest : List ℕ) (used : ℕ) → chunk ≡ front ++ rest → chunk ≡ (front ++ take used rest) ++ drop used rest
front_more chunk front rest used e =
    e ∙ ap (λ t. front ++ t) (sym (take-append-drop used rest)) ∙ sym (append_assoc front (take used rest) (drop used rest))

pub taken_on : {H : Type 0} (carries : Carrying H) (held0 : HeldLine) (n0 : ℕ) (heap0 : H) (w0 w : Option (List ℕ)) (chunk rest : List ℕ)
    (held : HeldLine) (n : ℕ) (heap : H) (used : ℕ) (at : LineAt) (held' : HeldLine)
    → Taken carries held0 n0 heap0 w0 chunk rest held n heap w → FindsLine held rest used at held' → at ≡ Nowhere
    → Taken carries held0 n0 heap0 w0 chunk (drop used rest) held' n heap w
taken_on carries held0 n0 heap0 w0 w chunk rest held n heap used at held' t f e =
    let P : LineAt → Type 0 = λ a. FindsLine held rest used a held' in
    let on : Continues held rest used held' = subst P e f in (
      t.0 ++ take used rest,
      t.1,
      front_more chunk t.0 rest used t.2,
      t.3,
      λ bytes old out s. rw (← append_assoc bytes t.0 (take used rest))
          (so_far_on carries (bytes ++ t.0) held n old (out ++ t.1) heap rest used held' (t.4 bytes old out s) on),
    )

-- a line that ended is given, and the reader of lines that would hold it
ended_at : (at : LineAt) (held : HeldLine) (rest : List ℕ) (used : ℕ) (held' : HeldLine) → at ≢ Nowhere → FindsLine held rest used at held'
    → EndsLine held rest used (line_at at used rest held') held'
ended_at Nowhere held rest used held' n h = absurd (n refl)
ended_at Bytes held rest used held' n h = h
ended_at HeldOf held rest used held' n h = h

abbrev given : List ℕ → HeldLine
given line = record { bytes = line; ended = true }

given_end : (held : HeldLine) (rest : List ℕ) (used : ℕ) (line : List ℕ) (held' : HeldLine) → EndsLine held rest used line held'
    → AnyEnd held rest used (given line)
given_end held rest used line held' h =
    record { front = h.front; rest = h.rest; cut = h.cut; taken = h.taken; in_line = h.in_line; size = tt; ended = refl; held = h.given }

pub taken_line : {H : Type 0} (carries : Carrying H) (held0 : HeldLine) (n0 : ℕ) (heap0 : H) (w0 w w' : Option (List ℕ))
    (chunk rest line : List ℕ) (held : HeldLine) (n : ℕ) (heap : H) (used : ℕ) (at : LineAt) (held' : HeldLine) (heap' : H)
    → Taken carries held0 n0 heap0 w0 chunk rest held n heap w → FindsLine held rest used at held' → at ≢ Nowhere
    → line ≡ line_at at used rest held' → TurnEnds carries line heap w None heap' w'
    → Taken carries held0 n0 heap0 w0 chunk (drop used rest) held' (n + 1) heap' w'
taken_line carries held0 n0 heap0 w0 w w' chunk rest line held n heap used at held' heap' t f more e u =
    let shown = line_at at used rest held' in
    let ends = ended_at at held rest used held' more f in
    let P : List ℕ → Type 0 = λ l. TurnEnds carries l heap w None heap' w' in
    let v = subst P e u in (
      t.0 ++ take used rest,
      t.1 ++ reply_line v.0,
      front_more chunk t.0 rest used t.2,
      Appends-then w0 w w' t.1 (reply_line v.0) t.3 v.3,
      λ bytes old out s. rw (← append_assoc bytes t.0 (take used rest), ← append_assoc out t.1 (reply_line v.0))
          (so_far_same carries _ (given shown) held' (n + 1) old _ heap' ends.begins
          (so_far_line carries (bytes ++ t.0) held n old (out ++ t.1) heap rest used (given shown) v.0 heap' (t.4 bytes old out s)
          (given_end held rest used shown held' ends) v.1 v.2 v.4)),
    )

pub taken_end : {H : Type 0} (carries : Carrying H) (held0 : HeldLine) (n0 : ℕ) (heap0 : H) (w0 w w' : Option (List ℕ))
    (chunk rest line : List ℕ) (held : HeldLine) (n : ℕ) (heap : H) (used : ℕ) (at : LineAt) (held' : HeldLine) (heap' : H)
    (end : SessionEnd)
    (n' : ℕ)
    → n < most_lines → Taken carries held0 n0 heap0 w0 chunk rest held n heap w → FindsLine held rest used at held' → at ≢ Nowhere
    → line ≡ line_at at used rest held' → TurnEnds carries line heap w (Some end) heap' w'
    → TakesChunk carries held0 n0 chunk heap0 w0 (Some end) held' n' heap' w'
taken_end carries held0 n0 heap0 w0 w w' chunk rest line held n heap used at held' heap' Bye n' lt t f more e u =
    let shown = line_at at used rest held' in
    let ends = ended_at at held rest used held' more f in
    let P : List ℕ → Type 0 = λ l. TurnEnds carries l heap w (Some Bye) heap' w' in
    let v = subst P e u in (
      t.1 ++ reply_line Done,
      Appends-then w0 w w' t.1 (reply_line Done) t.3 v.2,
      λ bytes old out s. rw (t.2, ← append_assoc bytes t.0 rest, ← append_assoc out t.1 (reply_line Done))
          (ended_bye carries (bytes ++ t.0) held n old (out ++ t.1) heap rest used (given shown) heap' lt (t.4 bytes old out s)
          (given_end held rest used shown held' ends) v.0 v.1),
    )
taken_end carries held0 n0 heap0 w0 w w' chunk rest line held n heap used at held' heap' WriteFault n' lt t f more e u =
    let shown = line_at at used rest held' in
    let ends = ended_at at held rest used held' more f in
    let P : List ℕ → Type 0 = λ l. TurnEnds carries l heap w (Some WriteFault) heap' w' in
    let v = subst P e u in (
      t.1 ++ take v.1 (reply_line v.0),
      Appends-then w0 w w' t.1 (take v.1 (reply_line v.0)) t.3 v.3,
      λ bytes old out s. rw (t.2, ← append_assoc bytes t.0 rest, ← append_assoc out t.1 (take v.1 (reply_line v.0)))
          (ended_turn_fault carries (bytes ++ t.0) held n old (out ++ t.1) heap rest used (given shown) v.0 heap' v.1 lt
          (t.4 bytes old out s) (given_end held rest used shown held' ends) v.2),
    )
taken_end carries held0 n0 heap0 w0 w w' chunk rest line held n heap used at held' heap' End n' lt t f more e u = absurd u
taken_end carries held0 n0 heap0 w0 w w' chunk rest line held n heap used at held' heap' Truncated n' lt t f more e u = absurd u
taken_end carries held0 n0 heap0 w0 w w' chunk rest line held n heap used at held' heap' ReadFault n' lt t f more e u = absurd u
taken_end carries held0 n0 heap0 w0 w w' chunk rest line held n heap used at held' heap' TooManyLines n' lt t f more e u = absurd u
taken_end carries held0 n0 heap0 w0 w w' chunk rest line held n heap used at held' heap' (NotJoined by) n' lt t f more e u = absurd u

-- as many lines were answered as may be
pub taken_many : {H : Type 0} (carries : Carrying H) (held0 : HeldLine) (n0 : ℕ) (heap0 : H) (w0 w : Option (List ℕ)) (chunk rest : List ℕ)
    (held : HeldLine) (n : ℕ) (heap : H)
    → n ≡ most_lines → Taken carries held0 n0 heap0 w0 chunk rest held n heap w
    → TakesChunk carries held0 n0 chunk heap0 w0 (Some TooManyLines) held n heap w
taken_many carries held0 n0 heap0 w0 w chunk rest held n heap e t = (
  t.1,
  t.3,
  λ bytes old out s. rw (t.2, ← append_assoc bytes t.0 rest)
      (ended_many carries (bytes ++ t.0) held n old (out ++ t.1) heap rest e (t.4 bytes old out s)),
)

nothing_left : (rest : List ℕ) → length rest ≡ 0 → rest ≡ []
nothing_left [] e = refl
nothing_left (b ∷ rest) e = absurd (omega (arith, e))

-- nothing is left to be taken
pub taken_all : {H : Type 0} (carries : Carrying H) (held0 : HeldLine) (n0 : ℕ) (heap0 : H) (w0 w : Option (List ℕ)) (chunk rest : List ℕ)
    (held : HeldLine) (n : ℕ) (heap : H)
    → length rest ≡ 0 → Taken carries held0 n0 heap0 w0 chunk rest held n heap w
    → TakesChunk carries held0 n0 chunk heap0 w0 None held n heap w
taken_all carries held0 n0 heap0 w0 w chunk rest held n heap e t =
    let whole : chunk ≡ t.0 = t.2 ∙ ap (λ r. t.0 ++ r) (nothing_left rest e) ∙ append-nil t.0 in
    (t.1, t.3, λ bytes old out s. rw whole (t.4 bytes old out s))
