-- A session that goes on.
use Rattle.std.proofs.Common.{◌≡◌, ◌≢◌, ℕ, nat_lt, ◌+◌, inl, inr, List, [], ◌∷◌, ◌++◌, take, length, None, refl, sym, ap, subst, ◌∙◌, arith}
use Rattle.std.proofs.Common.{append_assoc}
use Rattle.std.proofs.lemmas.List.{append-nil, take_all, length-take, length-append}
use Rattle.std.proofs.lemmas.Bool.{cases_lt, le-ltb, lt-ltb}
use Rattle.std.proofs.lemmas.List.Elements.{All-nil}
use Rattle.jlr_machine.specs.declared.ask.Answer.{Answer}
use Rattle.jlr_machine.specs.declared.ask.Answer.TheVariants.{Refused}
use Rattle.jlr_wire.specs.Lines.{HeldLine, begun, nothing_held, IsInLine}
use Rattle.jlr_wire.specs.Feeding.{Continues, EndsHeldLine}
use Rattle.jlr_wire.specs.Commands.{IsCommand}
use Rattle.jlr_wire.specs.Replies.{words}
use Rattle.jlr_wire.proofs.Streams.{line_goes_on, line_ends}
use Rattle.jlr_wire.specs.declared.command.Command.{Command}
use Rattle.jlr_wire.specs.declared.command.Command.TheVariants.{Bye}
use Rattle.jlr_session.specs.Carrying.{Carrying}
use Rattle.jlr_session.specs.Turns.{AnswersLine, AnswersAndSettles, reply_line, refusal_of}
use Rattle.jlr_session.specs.Sessions.{Speaks}
use Rattle.jlr_session.specs.Chunks.{SoFar}

-- more than 512 bytes show in the first 513
pub same_size : (line : List ℕ) → nat_lt 512 (length (take 513 line)) ≡ nat_lt 512 (length line)
same_size line = elim (cases_lt 512 (length line)) [
  | inl lt ↦ lt-ltb 512 (length (take 513 line)) (omega (arith, lt, length-take 513 line)) ∙ sym (lt-ltb 512 (length line) lt)
  | inr le ↦ le-ltb 512 (length (take 513 line)) (omega (arith, le, length-take 513 line)) ∙ sym (le-ltb 512 (length line) le)
]

pub same_refusal : (line : List ℕ) → refusal_of (take 513 line) ≡ refusal_of line
same_refusal line = rw (same_size line) refl

-- a command shows whole in the first 513 bytes
pub whole_command : (line : List ℕ) (c : Command) → IsCommand (take 513 line) c → IsCommand line c
whole_command line c h =
    let all : take 513 line ≡ line = take_all 513 line (omega (arith, h.short, length-take 513 line)) in
    let P : List ℕ → Type 0 = λ t. IsCommand t c in subst P all h

pub shown_command : (line : List ℕ) (c : Command) → IsCommand line c → IsCommand (take 513 line) c
shown_command line c h =
    let all : take 513 line ≡ line = take_all 513 line (omega (arith, h.short)) in
    let P : List ℕ → Type 0 = λ t. IsCommand t c in subst P (sym all) h

pub answers_line : {H : Type 0} (carries : Carrying H) (shown line : List ℕ) (old : H) (answer : Answer) (new : H)
    → shown ≡ take 513 line → AnswersLine carries shown old answer new → AnswersLine carries line old answer new
answers_line {H} carries shown line old answer new e (inl h) =
    let P : List ℕ → Type 0 = λ t. IsCommand t h.0 in inl (h.0, whole_command line h.0 (subst P e h.1), h.2, h.3)
answers_line {H} carries shown line old answer new e (inr (inl h)) =
    let P : List ℕ → Type 0 = λ t. IsCommand t Bye in inr (inl (whole_command line Bye (subst P e h.0), h.1, h.2))
answers_line {H} carries shown line old answer new e (inr (inr h)) =
    let P : List ℕ → Type 0 = λ t. (c : Command) → IsCommand t c → ⊥ in
    inr (inr (
      λ c k. subst P e h.0 c (shown_command line c k),
      h.1 ∙ ap (λ t. Refused (refusal_of t)) e ∙ ap Refused (same_refusal line),
      h.2,
    ))

-- and so is the line, with the settling that follows its reply
pub turns_line : {H : Type 0} (carries : Carrying H) (shown line : List ℕ) (old : H) (answer : Answer) (new : H)
    → shown ≡ take 513 line → AnswersAndSettles carries shown old answer new → AnswersAndSettles carries line old answer new
turns_line carries shown line old answer new e t = (t.0, answers_line carries shown line old answer t.0 e t.1, t.2)

-- one line more
pub speaks_more : {H : Type 0} (carries : Carrying H) (lines : List (List ℕ)) (line : List ℕ) (old now next : H) (out : List ℕ)
    (answer : Answer)
    → Speaks carries lines old out now → AnswersAndSettles carries line now answer next → words answer ≢ None → (IsCommand line Bye → ⊥)
    → Speaks carries (lines ++ line ∷ []) old (out ++ reply_line answer) next
speaks_more {H} carries [] line old now next out answer s a w b =
    let P : H → Type 0 = λ h. AnswersAndSettles carries line h answer next in
    (answer, next, [], subst P s.1 a, w, b, ap (λ t. t ++ reply_line answer) s.0 ∙ sym (append-nil (reply_line answer)), (refl, refl))
speaks_more {H} carries (first ∷ lines) line old now next out answer s a w b = (
  s.0,
  s.1,
  s.2 ++ reply_line answer,
  s.3,
  s.4,
  s.5,
  ap (λ t. t ++ reply_line answer) s.6 ∙ append_assoc (reply_line s.0) s.2 (reply_line answer),
  speaks_more carries lines line s.1 now next s.2 answer s.7 a w b,
)

-- before the first byte
pub so_far_none : {H : Type 0} (carries : Carrying H) (heap : H) → SoFar carries [] nothing_held 0 heap [] heap
so_far_none carries heap = record {
  lines = [];
  last = [];
  are = record { joined = refl; each = All-nil IsInLine; open_end = All-nil (λ b. b ≡ 10 → ⊥) };
  holds = refl;
  counted = refl;
  speaks = (refl, refl);
}

-- the line goes on
pub so_far_on : {H : Type 0} (carries : Carrying H) (bytes : List ℕ) (held : HeldLine) (n : ℕ) (old : H) (out : List ℕ) (heap : H)
    (rest : List ℕ) (used : ℕ) (held' : HeldLine)
    → SoFar carries bytes held n old out heap → Continues held rest used held'
    → SoFar carries (bytes ++ take used rest) held' n old out heap
so_far_on carries bytes held n old out heap rest used held' s h =
    let on = line_goes_on bytes s.last s.lines held rest used held' s.are s.holds h in
    record { lines = s.lines; last = s.last ++ rest; are = on.0; holds = on.1; counted = s.counted; speaks = s.speaks }

-- the end of a line, however long it is
abbrev pub AnyEnd : HeldLine → List ℕ → ℕ → HeldLine → Type 0
AnyEnd = EndsHeldLine (λ n. Unit {0})

-- of what a reader of lines holds only the line under way counts
pub so_far_same : {H : Type 0} (carries : Carrying H) (bytes : List ℕ) (held held' : HeldLine) (n : ℕ) (old : H) (out : List ℕ) (heap : H)
    → begun held' ≡ begun held → SoFar carries bytes held n old out heap → SoFar carries bytes held' n old out heap
so_far_same carries bytes held held' n old out heap e s =
    record { lines = s.lines; last = s.last; are = s.are; holds = e ∙ s.holds; counted = s.counted; speaks = s.speaks }

-- a line is answered
pub so_far_line : {H : Type 0} (carries : Carrying H) (bytes : List ℕ) (held : HeldLine) (n : ℕ) (old : H) (out : List ℕ) (heap : H)
    (rest : List ℕ) (used : ℕ) (held' : HeldLine) (answer : Answer) (heap' : H)
    → SoFar carries bytes held n old out heap → AnyEnd held rest used held' → AnswersAndSettles carries held'.bytes heap answer heap'
    → words answer ≢ None → (IsCommand held'.bytes Bye → ⊥)
    → SoFar carries (bytes ++ take used rest) held' (n + 1) old (out ++ reply_line answer) heap'
so_far_line carries bytes held n old out heap rest used held' answer heap' s h a w b =
    let line = s.last ++ h.front in
    let ends = line_ends (λ n. Unit {0}) bytes s.last s.lines held rest used held' s.are s.holds h in
    let P : List ℕ → Type 0 = λ t. IsCommand t Bye in
    record {
      lines = s.lines ++ line ∷ [];
      last = [];
      are = ends.0;
      holds = ends.3;
      counted = length-append s.lines (line ∷ []) ∙ ap (λ k. k + 1) s.counted;
      speaks = speaks_more carries s.lines line old heap heap' out answer s.speaks
          (turns_line carries held'.bytes line heap answer heap' ends.2 a) w
          (λ k. b (subst P (sym ends.2) (shown_command line Bye k)));
    }
