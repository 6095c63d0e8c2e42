-- A session that ends.
use Rattle.std.proofs.Common.{◌≡◌, ◌≢◌, ℕ, ◌<◌, inl, inr, List, [], ◌∷◌, ◌++◌, take, length, refl, sym, ap, subst, ◌∙◌, arith, append_assoc}
use Rattle.std.specs.Prelude.{codes}
use Rattle.std.specs.List.{join_with_byte}
use Rattle.jlr_machine.specs.declared.ask.Answer.{Answer}
use Rattle.jlr_machine.specs.declared.ask.Answer.TheVariants.{Refused, Done}
use Rattle.jlr_wire.specs.Lines.{HeldLine, begun, ended_lines}
use Rattle.jlr_wire.specs.Commands.{IsCommand}
use Rattle.jlr_wire.proofs.Streams.{line_ends}
use Rattle.jlr_wire.specs.declared.command.Command.TheVariants.{Bye}
use Rattle.jlr_session.specs.Carrying.{Carrying}
use Rattle.jlr_session.specs.Limits.{most_lines}
use Rattle.jlr_session.specs.Turns.{AnswersLine, reply_line, refusal_of}
use Rattle.jlr_session.specs.Sessions.{AnsweredLines, IsAnswerDue, Ended}
use Rattle.jlr_session.specs.Chunks.{SoFar}
use Rattle.jlr_session.specs.declared.shell.SessionEnd.{SessionEnd}
use Rattle.jlr_session.specs.declared.shell.SessionEnd.TheVariants.{Bye as EndsByBye, End, Truncated, ReadFault, WriteFault, TooManyLines}
use Rattle.jlr_session.specs.declared.shell.SessionEnd.TheVariants.{NotJoined}
use Rattle.jlr_session.proofs.Going.{AnyEnd, answers_line, same_refusal, whole_command}

-- the line that is bye
bye_line : (line : List ℕ) → IsCommand line Bye → line ≡ codes "bye"
bye_line line h = h.joined ∙ ap (join_with_byte 32) h.each

nothing_shown : (last : List ℕ) → take 513 last ≡ [] → last ≡ []
nothing_shown [] e = refl
nothing_shown (b ∷ last) e = absurd (omega (arith, ap length e))

-- the lines so far were answered, and the rest stands after them
answered : {H : Type 0} (carries : Carrying H) (bytes : List ℕ) (held : HeldLine) (n : ℕ) (old : H) (out : List ℕ) (heap : H)
    → (s : SoFar carries bytes held n old out heap) → (more rest : List ℕ) → s.last ++ more ≡ rest
    → AnsweredLines carries (bytes ++ more) s.lines rest old out heap
answered carries bytes held n old out heap s more rest e = record {
  joined = ap (λ t. t ++ more) s.are.joined ∙ append_assoc (ended_lines s.lines) s.last more ∙ ap (λ t. ended_lines s.lines ++ t) e;
  each = s.are.each;
  speaks = s.speaks;
}

answered_now : {H : Type 0} (carries : Carrying H) (bytes : List ℕ) (held : HeldLine) (n : ℕ) (old : H) (out : List ℕ) (heap : H)
    → (s : SoFar carries bytes held n old out heap) → (rest : List ℕ) → s.last ≡ rest → AnsweredLines carries bytes s.lines rest old out
    heap
answered_now carries bytes held n old out heap s rest e = record {
  joined = s.are.joined ∙ ap (λ t. ended_lines s.lines ++ t) e;
  each = s.are.each;
  speaks = s.speaks;
}

few : (n : ℕ) (lines : List (List ℕ)) → length lines ≡ n → n < most_lines → length lines < most_lines
few n lines e lt = rw e lt

pub ended_end : {H : Type 0} (carries : Carrying H) (bytes : List ℕ) (held : HeldLine) (n : ℕ) (old : H) (out : List ℕ) (heap : H)
    → (at_end : Type 0) → at_end → n < most_lines → SoFar carries bytes held n old out heap → begun held ≡ []
    → Ended carries at_end End bytes old out heap
ended_end carries bytes held n old out heap at_end is lt s e =
    (is, s.lines, answered_now carries bytes held n old out heap s [] (nothing_shown s.last (sym s.holds ∙ e)), few n s.lines s.counted lt)

-- what is refused of the line under way is what is refused of all of it
refused_last : (shown last : List ℕ) → shown ≡ take 513 last → refusal_of shown ≡ refusal_of last
refused_last shown last e = ap refusal_of e ∙ same_refusal last

some_last : (shown last : List ℕ) → shown ≡ take 513 last → shown ≢ [] → last ≢ []
some_last shown last e n none = n (e ∙ ap (take 513) none)

pub ended_truncated : {H : Type 0} (carries : Carrying H) (bytes : List ℕ) (held : HeldLine) (n : ℕ) (old : H) (out : List ℕ)
    (heap heap' : H)
    → (at_end : Type 0) → at_end → n < most_lines → SoFar carries bytes held n old out heap → begun held ≢ [] → carries.settling heap heap'
    → Ended carries at_end Truncated bytes old (out ++ reply_line (Refused (refusal_of (begun held)))) heap'
ended_truncated carries bytes held n old out heap heap' at_end is lt s some settled = (
  is,
  s.lines,
  s.last,
  out,
  heap,
  answered_now carries bytes held n old out heap s s.last refl,
  few n s.lines s.counted lt,
  some_last (begun held) s.last s.holds some,
  s.are.open_end,
  settled,
  ap (λ r. out ++ reply_line (Refused r)) (refused_last (begun held) s.last s.holds),
)

pub ended_close_fault : {H : Type 0} (carries : Carrying H) (bytes : List ℕ) (held : HeldLine) (n : ℕ) (old : H) (out : List ℕ) (heap : H)
    (k : ℕ)
    → (at_end : Type 0) → at_end → n < most_lines → SoFar carries bytes held n old out heap → begun held ≢ []
    → Ended carries at_end WriteFault bytes old (out ++ take k (reply_line (Refused (refusal_of (begun held))))) heap
ended_close_fault carries bytes held n old out heap k at_end is lt s some = (
  s.lines,
  s.last,
  out,
  heap,
  Refused (refusal_of (begun held)),
  k,
  answered_now carries bytes held n old out heap s s.last refl,
  few n s.lines s.counted lt,
  inr (is, some_last (begun held) s.last s.holds some, s.are.open_end, ap Refused (refused_last (begun held) s.last s.holds), refl),
  refl,
)

-- the line that ends in the rest, with its end
line_in_rest : (last front rest later : List ℕ) → rest ≡ front ++ 10 ∷ later → last ++ rest ≡ (last ++ front) ++ 10 ∷ later
line_in_rest last front rest later e = ap (λ t. last ++ t) e ∙ sym (append_assoc last front (10 ∷ later))

pub ended_bye : {H : Type 0} (carries : Carrying H) (bytes : List ℕ) (held : HeldLine) (n : ℕ) (old : H) (out : List ℕ) (heap : H)
    (rest : List ℕ) (used : ℕ) (held' : HeldLine) (heap' : H)
    → n < most_lines → SoFar carries bytes held n old out heap → AnyEnd held rest used held' → IsCommand held'.bytes Bye
    → carries.settling heap heap'
    → Ended carries ⊥ EndsByBye (bytes ++ rest) old (out ++ reply_line Done) heap'
ended_bye carries bytes held n old out heap rest used held' heap' lt s h b settled =
    let ends = line_ends (λ n. Unit {0}) bytes s.last s.lines held rest used held' s.are s.holds h in
    let P : List ℕ → Type 0 = λ t. IsCommand t Bye in
    let is : s.last ++ h.front ≡ codes "bye" = bye_line (s.last ++ h.front) (whole_command (s.last ++ h.front) Bye (subst P ends.2 b)) in (
      s.lines,
      h.rest,
      out,
      heap,
      answered carries bytes held n old out heap s rest _ (line_in_rest s.last h.front rest h.rest h.cut ∙ ap (λ t. t ++ 10 ∷ h.rest) is),
      few n s.lines s.counted lt,
      settled,
      refl,
    )

pub ended_turn_fault : {H : Type 0} (carries : Carrying H) (bytes : List ℕ) (held : HeldLine) (n : ℕ) (old : H) (out : List ℕ) (heap : H)
    (rest : List ℕ) (used : ℕ) (held' : HeldLine) (answer : Answer) (heap' : H) (k : ℕ)
    → n < most_lines → SoFar carries bytes held n old out heap → AnyEnd held rest used held' → AnswersLine carries held'.bytes heap answer
    heap'
    → Ended carries ⊥ WriteFault (bytes ++ rest) old (out ++ take k (reply_line answer)) heap'
ended_turn_fault carries bytes held n old out heap rest used held' answer heap' k lt s h a =
    let line = s.last ++ h.front in
    let ends = line_ends (λ n. Unit {0}) bytes s.last s.lines held rest used held' s.are s.holds h in (
      s.lines,
      line ++ 10 ∷ h.rest,
      out,
      heap,
      answer,
      k,
      answered carries bytes held n old out heap s rest _ (line_in_rest s.last h.front rest h.rest h.cut),
      few n s.lines s.counted lt,
      inl (line, h.rest, refl, ends.1, answers_line carries held'.bytes line heap answer heap' ends.2 a),
      refl,
    )

pub ended_fault : {H : Type 0} (carries : Carrying H) (bytes : List ℕ) (held : HeldLine) (n : ℕ) (old : H) (out : List ℕ) (heap : H)
    (at_end : Type 0)
    → n < most_lines → SoFar carries bytes held n old out heap → Ended carries at_end ReadFault bytes old out heap
ended_fault carries bytes held n old out heap at_end lt s =
    (s.lines, s.last, answered_now carries bytes held n old out heap s s.last refl, few n s.lines s.counted lt, s.are.open_end)

-- what is left of the bytes once as many lines were answered as may be
pub ended_many : {H : Type 0} (carries : Carrying H) (bytes : List ℕ) (held : HeldLine) (n : ℕ) (old : H) (out : List ℕ) (heap : H)
    (rest : List ℕ)
    → n ≡ most_lines → SoFar carries bytes held n old out heap → Ended carries ⊥ TooManyLines (bytes ++ rest) old out heap
ended_many carries bytes held n old out heap rest e s =
    (s.lines, s.last ++ rest, answered carries bytes held n old out heap s rest (s.last ++ rest) refl, s.counted ∙ e)

due_anyhow : {H : Type 0} (carries : Carrying H) (at_end : Type 0) (rest : List ℕ) (old : H) (answer : Answer) (new : H)
    → IsAnswerDue carries ⊥ rest old answer new → IsAnswerDue carries at_end rest old answer new
due_anyhow carries at_end rest old answer new (inl d) = inl d
due_anyhow carries at_end rest old answer new (inr d) = absurd d.0

-- what is no matter of the input's end
pub ended_anyhow : {H : Type 0} (carries : Carrying H) (at_end : Type 0) (end : SessionEnd) (bytes : List ℕ) (old : H) (out : List ℕ)
    (new : H)
    → Ended carries ⊥ end bytes old out new → Ended carries at_end end bytes old out new
ended_anyhow carries at_end EndsByBye bytes old out new e = e
ended_anyhow carries at_end End bytes old out new e = absurd e.0
ended_anyhow carries at_end Truncated bytes old out new e = absurd e.0
ended_anyhow carries at_end ReadFault bytes old out new e = e
ended_anyhow carries at_end WriteFault bytes old out new e =
    (e.0, e.1, e.2, e.3, e.4, e.5, e.6, e.7, due_anyhow carries at_end e.1 e.3 e.4 new e.8, e.9)
ended_anyhow carries at_end TooManyLines bytes old out new e = e
ended_anyhow carries at_end (NotJoined by) bytes old out new e = e
