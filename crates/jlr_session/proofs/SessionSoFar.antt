-- Where a session stands after each read.
use Rattle.std.proofs.Common.{◌≡◌, ℕ, ◌+◌, ◌-◌, ◌<◌, ◌≤◌, List, [], ◌++◌, take, length, Option, Some, None, refl, sym, subst, arith}
use Rattle.std.specs.Io.KnownBytes.{Appends, Consumes, IsAtEnd}
use Rattle.std.proofs.lemmas.List.{append-nil, length-append, length-take-le}
use Rattle.jlr_machine.specs.declared.ask.Answer.TheVariants.{Refused}
use Rattle.jlr_wire.specs.Lines.{HeldLine, begun, nothing_held}
use Rattle.jlr_wire.proofs.Sending.{Appends-none, Appends-then}
use Rattle.jlr_session.specs.Carrying.{Carrying}
use Rattle.jlr_session.specs.Limits.{FindsEnd, most_lines, most_bytes}
use Rattle.jlr_session.specs.Turns.{reply_line, refusal_of}
use Rattle.jlr_session.specs.Sessions.{Ended}
use Rattle.jlr_session.specs.Chunks.{SoFar, TakesChunk, ClosesInput}
use Rattle.jlr_session.specs.declared.shell.SessionEnd.{SessionEnd}
use Rattle.jlr_session.specs.declared.shell.SessionEnd.TheVariants.{Bye, End, Truncated, ReadFault, WriteFault, TooManyLines, NotJoined}
use Rattle.jlr_session.proofs.Sent.{Consumes-none, Consumes-then}
use Rattle.jlr_session.proofs.Going.{so_far_none}
use Rattle.jlr_session.proofs.Ending.{ended_end, ended_truncated, ended_close_fault, ended_anyhow}

-- what was read was answered as far as it goes, n lines of it, and so many bytes are left to be taken
abbrev pub Stands : {H : Type 0} → Carrying H → Option (List ℕ) → Option (List ℕ) → H → Option (List ℕ) → Option (List ℕ) → HeldLine → ℕ → H
    → ℕ
    → Type 0
Stands {H} carries r0 w0 old r w held n heap left = (bytes : List ℕ) × (out : List ℕ) × Consumes r0 r bytes × Appends w0 w out
    × (length bytes + left ≡ most_bytes) × SoFar carries bytes held n old out heap

-- what was read came to this end
abbrev pub Ends : {H : Type 0} → Carrying H → Option (List ℕ) → Option (List ℕ) → H → Option (List ℕ) → Option (List ℕ) → SessionEnd → H
    → Type 0
Ends {H} carries r0 w0 old r w end heap = (bytes : List ℕ) × (out : List ℕ) × Consumes r0 r bytes × Appends w0 w out
    × (length bytes ≤ most_bytes) × Ended carries (FindsEnd r bytes) end bytes old out heap

pub stands_first : {H : Type 0} (carries : Carrying H) (r0 w0 : Option (List ℕ)) (old : H) (held : HeldLine) → held ≡ nothing_held
    → Stands carries r0 w0 old r0 w0 held 0 old most_bytes
stands_first carries r0 w0 old held e = ([], [], Consumes-none r0, Appends-none w0, refl, rw e (so_far_none carries old))

-- so many bytes more were read, and there was room for them
taken_more : (bytes read : List ℕ) (left left' : ℕ) → length bytes + left ≡ most_bytes → length read + left' ≡ left
    → length (bytes ++ read) + left' ≡ most_bytes
taken_more bytes read left left' e f = omega (arith, e, f, length-append bytes read)

below : (bytes : List ℕ) (left : ℕ) → length bytes + left ≡ most_bytes → 0 < left → length bytes < most_bytes
below bytes left e some = omega (arith, e, some)

few_bytes : (bytes : List ℕ) (left : ℕ) → length bytes + left ≡ most_bytes → length bytes ≤ most_bytes
few_bytes bytes left e = omega (arith, e)

-- a read gave count bytes, and left count fewer to be taken
pub taken_of : (buf : List ℕ) (count left : ℕ) → count ≤ length buf → length buf ≤ left → length (take count buf) + (left - count) ≡ left
taken_of buf count left fits room = omega (arith, length-take-le count buf fits, fits, room)

pub stands_more : {H : Type 0} (carries : Carrying H) (r0 w0 r r' w w' : Option (List ℕ)) (old : H) (held held' : HeldLine) (n n' : ℕ)
    (heap heap' : H) (read : List ℕ) (left left' : ℕ)
    → Stands carries r0 w0 old r w held n heap left → Consumes r r' read → length read + left' ≡ left
    → TakesChunk carries held n read heap w None held' n' heap' w'
    → Stands carries r0 w0 old r' w' held' n' heap' left'
stands_more carries r0 w0 r r' w w' old held held' n n' heap heap' read left left' s c l u = (
  s.0 ++ read,
  s.1 ++ u.0,
  Consumes-then r0 r r' s.0 read s.2 c,
  Appends-then w0 w w' s.1 u.0 s.3 u.1,
  taken_more s.0 read left left' s.4 l,
  u.2 s.0 old s.1 s.5,
)

pub ends_in_chunk : {H : Type 0} (carries : Carrying H) (r0 w0 r r' w w' : Option (List ℕ)) (old : H) (held held' : HeldLine) (n n' : ℕ)
    (heap heap' : H) (read : List ℕ) (left left' : ℕ) (end : SessionEnd)
    → Stands carries r0 w0 old r w held n heap left → Consumes r r' read → length read + left' ≡ left
    → TakesChunk carries held n read heap w (Some end) held' n' heap' w'
    → Ends carries r0 w0 old r' w' end heap'
ends_in_chunk carries r0 w0 r r' w w' old held held' n n' heap heap' read left left' end s c l u = (
  s.0 ++ read,
  s.1 ++ u.0,
  Consumes-then r0 r r' s.0 read s.2 c,
  Appends-then w0 w w' s.1 u.0 s.3 u.1,
  few_bytes (s.0 ++ read) left' (taken_more s.0 read left left' s.4 l),
  ended_anyhow carries (FindsEnd r' (s.0 ++ read)) end (s.0 ++ read) old (s.1 ++ u.0) heap' (u.2 s.0 old s.1 s.5),
)

-- what closing adds
closes : {H : Type 0} (carries : Carrying H) (w0 w w' : Option (List ℕ)) (old : H) (held : HeldLine) (n : ℕ) (heap heap' : H)
    (bytes out : List ℕ) (end : SessionEnd)
    → (at_end : Type 0) → at_end → n < most_lines → Appends w0 w out → SoFar carries bytes held n old out heap
    → ClosesInput carries end held heap w heap' w'
    → (all : List ℕ) × Appends w0 w' all × Ended carries at_end end bytes old all heap'
closes {H} carries w0 w w' old held n heap heap' bytes out End at_end is lt a s k =
    let P : H → Type 0 = λ h. Ended carries at_end End bytes old out h in (
      out ++ [],
      Appends-then w0 w w' out [] a k.2,
      rw (append-nil out)
          (subst P (sym k.1) (ended_end carries bytes held n old out heap at_end is lt s k.0)),
    )
closes carries w0 w w' old held n heap heap' bytes out Truncated at_end is lt a s k =
    let line = reply_line (Refused (refusal_of (begun held))) in
    (out ++ line, Appends-then w0 w w' out line a k.2, ended_truncated carries bytes held n old out heap heap' at_end is lt s k.0 k.1)
closes {H} carries w0 w w' old held n heap heap' bytes out WriteFault at_end is lt a s k =
    let front = take k.2 (reply_line (Refused (refusal_of (begun held)))) in
    let P : H → Type 0 = λ h. Ended carries at_end WriteFault bytes old (out ++ front) h in (
      out ++ front,
      Appends-then w0 w w' out front a k.3,
      subst P (sym k.1) (ended_close_fault carries bytes held n old out heap k.2 at_end is lt s k.0),
    )
closes carries w0 w w' old held n heap heap' bytes out Bye at_end is lt a s k = absurd k
closes carries w0 w w' old held n heap heap' bytes out ReadFault at_end is lt a s k = absurd k
closes carries w0 w w' old held n heap heap' bytes out TooManyLines at_end is lt a s k = absurd k
closes carries w0 w w' old held n heap heap' bytes out (NotJoined by) at_end is lt a s k = absurd k

pub ends_at_end : {H : Type 0} (carries : Carrying H) (r0 w0 r r' w w' : Option (List ℕ)) (old : H) (held : HeldLine) (n : ℕ)
    (heap heap' : H)
    (read : List ℕ) (left : ℕ) (end : SessionEnd)
    → n < most_lines → Stands carries r0 w0 old r w held n heap left → Consumes r r' read → read ≡ [] → IsAtEnd r' → 0 < left
    → ClosesInput carries end held heap w heap' w'
    → Ends carries r0 w0 old r' w' end heap'
ends_at_end {H} carries r0 w0 r r' w w' old held n heap heap' read left end lt s c e is some k =
    let P : List ℕ → Type 0 = λ x. Consumes r r' x in
    let Q : List ℕ → Type 0 = λ x. Consumes r0 r' x in
    let all : Consumes r0 r' s.0 = subst Q (append-nil s.0) (Consumes-then r0 r r' s.0 [] s.2 (subst P e c)) in
    let closed = closes carries w0 w w' old held n heap heap' s.0 s.1 end (FindsEnd r' s.0) (is, below s.0 left s.4 some) lt s.3 s.5 k in
    (s.0, closed.0, all, closed.1, few_bytes s.0 left s.4, closed.2)
