-- Bytes that are read behind others, piece by piece, and what is read from the front of them.
use Rattle.std.proofs.Common.{inl, inr, ◌≡◌, ◌+◌, ◌-◌, ◌≤◌, ℕ, zero, suc, List, [], ◌∷◌, ◌++◌, length, drop, Option, Some, None, Result, Ok}
use Rattle.std.proofs.Common.{refl, sym, ap, subst, ◌∙◌, append_assoc, arith}
use Rattle.std.specs.Prelude.{option_map}
use Rattle.std.proofs.lemmas.List.{append-nil, length-append, drop_at}
use Rattle.std.specs.Io.KnownBytes.{Consumes, Keeps, IsAtEnd, prepend_known}
use Rattle.jlr_trace.specs.declared.file.TraceFault.{TraceFault}
use Rattle.jlr_trace.specs.declared.file.TraceFault.TheVariants.{Truncated, BadMark, BadVersion, BadEntry, NoMemory}
use Rattle.jlr_trace.specs.declared.window.StreamFault.{StreamFault}
use Rattle.jlr_trace.specs.declared.window.StreamFault.TheVariants.{Unread, Damaged}
use Rattle.jlr_trace_fields.specs.Spelling.{IsBytes}
use Rattle.jlr_trace.specs.Files.{FileFails}
use Rattle.jlr_trace.specs.Streams.{HeldBytes, known, AreBytes, ReadsOn, FailsOn, IsLast}
use Rattle.jlr_trace.proofs.Stillness.{Still, IsStill}

-- ---- Pieces

-- bytes were read behind others
pub record HasRead (front : List ℕ) (behind : Option (List ℕ)) (new_front : List ℕ) (new_behind : Option (List ℕ)) : Type 0 where
  pub piece : List ℕ
  pub longer : new_front ≡ front ++ piece
  pub taken : Consumes behind new_behind piece

Consumes-none : (a : Option (List ℕ)) → Consumes a a []
Consumes-none None = tt
Consumes-none (Some xs) = refl

Consumes-then : (a b c : Option (List ℕ)) (xs ys : List ℕ) → Consumes a b xs → Consumes b c ys → Consumes a c (xs ++ ys)
Consumes-then None b c xs ys h k = tt
Consumes-then (Some o) None c xs ys h k = absurd h
Consumes-then (Some o) (Some m) None xs ys h k = absurd k
Consumes-then (Some o) (Some m) (Some n) xs ys h k = h ∙ ap (λ (t : List ℕ). xs ++ t) k ∙ sym (append_assoc xs ys n)

pub Keeps-none : (a : Option (List ℕ)) → Keeps a a
Keeps-none None = tt
Keeps-none (Some xs) = refl

pub Keeps-then : (a b c : Option (List ℕ)) → Keeps a b → Keeps b c → Keeps a c
Keeps-then None b c h k = tt
Keeps-then (Some x) None c h k = absurd h
Keeps-then (Some x) (Some y) None h k = absurd k
Keeps-then (Some x) (Some y) (Some z) h k = k ∙ h

-- ---- What is read from the front

-- so many bytes were used
pub used_up : (bytes text rest : List ℕ) → bytes ≡ text ++ rest → (length rest ≤ length bytes)
    × (drop (length bytes - length rest) bytes ≡ rest)
used_up bytes text rest parts =
    let sizes : length bytes ≡ length text + length rest = ap length parts ∙ length-append text rest in
    let used : length bytes - length rest ≡ length text = omega (arith, sizes) in
    (omega (arith, sizes), ap (λ (n : ℕ). drop n bytes) used ∙ ap (drop (length text)) parts ∙ drop_at text rest (length text) refl)

bytes_behind : (a b : List ℕ) → IsBytes (a ++ b) → IsBytes b
bytes_behind [] b h = h
bytes_behind (x ∷ a) b h = bytes_behind a b (λ i. h (suc i))

bytes_joined : (a b : List ℕ) → IsBytes a → IsBytes b → IsBytes (a ++ b)
bytes_joined [] b h k i = k i
bytes_joined (x ∷ a) b h k zero = h 0
bytes_joined (x ∷ a) b h k (suc i) = bytes_joined a b (λ j. h (suc j)) k i

bytes_before : (start : Option (List ℕ)) (front : List ℕ) (behind : Option (List ℕ)) (count : ℕ) → Keeps start (prepend_known front behind)
    → IsBytes front → AreBytes start (prepend_known (drop count front) behind)
bytes_before None front behind count kept fits = tt
bytes_before (Some bytes) front None count kept fits = absurd kept
bytes_before (Some bytes) front (Some xs) count kept fits =
    λ rest. subst IsBytes kept (bytes_joined front xs fits (bytes_behind (drop count front) xs rest))

-- the bytes that were used are bytes, since they were read
pub bytes_used : (start : Option (List ℕ)) (held new : HeldBytes) (bytes : List ℕ) (count : ℕ) → Keeps start (known held) → bytes
    ≡ held.front
    → IsBytes bytes → new ≡ record { front = drop count held.front; behind = held.behind } → AreBytes start (known new)
bytes_used start held new bytes count kept is fits advanced =
    subst (λ (h : HeldBytes). AreBytes start (known h)) (sym advanced)
    (bytes_before start held.front held.behind count kept (subst IsBytes is fits))

module _ {A : Type 0} (read : List ℕ → Result (A × List ℕ) TraceFault) (still : IsStill read) where
  -- what is read from the bytes that are held is read from all
  reads_all : (x : A) (front rest : List ℕ) (behind : Option (List ℕ)) → read front ≡ Ok (x, rest)
      → ReadsOn read x (prepend_known front behind) (prepend_known rest behind)
  reads_all x front rest None e = tt
  reads_all x front rest (Some xs) e =
      subst (λ r. Still (λ (y : A × List ℕ). (y.0, y.1 ++ xs)) r (read (front ++ xs))) e (still.still front xs)

  fails_all : (fault : TraceFault) (front : List ℕ) (behind : Option (List ℕ)) → FileFails fault (read front)
      → (fault ≡ Truncated → IsAtEnd behind) → FailsOn (Damaged fault) (option_map read (prepend_known front behind))
  fails_all fault front None e end = tt
  fails_all NoMemory front (Some xs) e end = tt
  fails_all Truncated front (Some xs) e end = ap (λ (t : List ℕ). read (front ++ t)) (end refl) ∙ ap read (append-nil front) ∙ e
  fails_all BadMark front (Some xs) e end =
      subst (λ r. Still (λ (y : A × List ℕ). (y.0, y.1 ++ xs)) r (read (front ++ xs))) e (still.still front xs)
  fails_all BadVersion front (Some xs) e end =
      subst (λ r. Still (λ (y : A × List ℕ). (y.0, y.1 ++ xs)) r (read (front ++ xs))) e (still.still front xs)
  fails_all (BadEntry k) front (Some xs) e end =
      subst (λ r. Still (λ (y : A × List ℕ). (y.0, y.1 ++ xs)) r (read (front ++ xs))) e (still.still front xs)

  pub reads_on : (start : Option (List ℕ)) (x : A) (front rest : List ℕ) (behind : Option (List ℕ))
      → Keeps start (prepend_known front behind) → read front ≡ Ok (x, rest)
      → ReadsOn read x start (prepend_known rest behind)
  reads_on None x front rest behind kept e = tt
  reads_on (Some bytes) x front rest None kept e = absurd kept
  reads_on (Some bytes) x front rest (Some xs) kept e = ap read (sym kept) ∙ reads_all x front rest (Some xs) e

  pub fails_on : (start : Option (List ℕ)) (fault : TraceFault) (front : List ℕ) (behind : Option (List ℕ))
      → Keeps start (prepend_known front behind) → FileFails fault (read front) → (fault ≡ Truncated → IsAtEnd behind)
      → FailsOn (Damaged fault) (option_map read start)
  fails_on None fault front behind kept e end = tt
  fails_on (Some bytes) fault front None kept e end = absurd kept
  fails_on (Some bytes) fault front (Some xs) kept e end =
      subst (λ (b : List ℕ). FileFails fault (read b)) kept (fails_all fault front (Some xs) e end)

  -- the same of what a stream holds, of which so many bytes are used
  pub used_on : (start : Option (List ℕ)) (x : A) (held new : HeldBytes) (bytes : List ℕ) (count : ℕ) → Keeps start (known held)
      → bytes ≡ held.front → new ≡ record { front = drop count held.front; behind = held.behind }
      → read bytes ≡ Ok (x, drop count bytes) → ReadsOn read x start (known new)
  used_on start x held new bytes count kept is advanced e =
      let here : read held.front ≡ Ok (x, drop count held.front) = subst (λ (b : List ℕ). read b ≡ Ok (x, drop count b)) is e in
      subst (λ (h : HeldBytes). ReadsOn read x start (known h)) (sym advanced)
      (reads_on start x held.front (drop count held.front) held.behind kept here)

  no_memory : (start : Option (List ℕ)) → FailsOn (Damaged NoMemory) (option_map read start)
  no_memory None = tt
  no_memory (Some bytes) = tt

  pub last_on : (start : Option (List ℕ)) (fault : TraceFault) (last : StreamFault) (held : HeldBytes) (bytes : List ℕ)
      → Keeps start (known held) → bytes ≡ held.front → FileFails fault (read bytes) → IsLast fault held last
      → FailsOn last (option_map read start)
  last_on start fault (Unread kind) held bytes kept is e last = tt
  last_on start fault (Damaged d) held bytes kept is e (inl none) =
      subst (λ (f : TraceFault). FailsOn (Damaged f) (option_map read start)) (sym none) (no_memory start)
  last_on start fault (Damaged d) held bytes kept is e (inr same) =
      let here : FileFails fault (read held.front) = subst (λ (b : List ℕ). FileFails fault (read b)) is e in
      subst (λ (f : TraceFault). FailsOn (Damaged f) (option_map read start)) (sym same.0)
      (fails_on start fault held.front held.behind kept here same.1)
