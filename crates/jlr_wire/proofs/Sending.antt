-- Bytes that go out piece by piece.
use Rattle.std.proofs.Common.{◌≡◌, ℕ, ◌+◌, List, [], ◌++◌, length, take, drop, Option, Some, None, Result, Ok, Err, refl, sym, ap, subst}
use Rattle.std.proofs.Common.{◌∙◌, append_assoc}
use Rattle.std.specs.Prelude.{IfSome}
use Rattle.std.specs.Io.KnownBytes.{Appends, Keeps}
use Rattle.jlr_wire.specs.Replies.{Sends, AppendsFront}
use Rattle.std.proofs.lemmas.List.{take_at, take-append-drop, append-nil}
use Rattle.std.proofs.Math.Seq.{take-append-add}

pub Appends-none : (a : Option (List ℕ)) → Appends a a []
Appends-none None = tt
Appends-none (Some xs) = sym (append-nil xs)

pub Appends-then : (a b c : Option (List ℕ)) (xs ys : List ℕ) → Appends a b xs → Appends b c ys → Appends a c (xs ++ ys)
Appends-then None b c xs ys h k = tt
Appends-then (Some o) None c xs ys h k = absurd h
Appends-then (Some o) (Some m) None xs ys h k = absurd k
Appends-then (Some o) (Some m) (Some n) xs ys h k = k ∙ ap (λ t. t ++ ys) h ∙ append_assoc o xs ys

pub Appends-keeps : (a b c : Option (List ℕ)) (xs : List ℕ) → Appends a b xs → Keeps b c → Appends a c xs
Appends-keeps None b c xs h k = tt
Appends-keeps (Some o) None c xs h k = absurd h
Appends-keeps (Some o) (Some m) None xs h k = absurd k
Appends-keeps (Some o) (Some m) (Some n) xs h k = k ∙ h

-- what was sent is a prefix of the whole
pub front_of : (a b : Option (List ℕ)) (sent rest bytes : List ℕ) → bytes ≡ sent ++ rest → Appends a b sent → AppendsFront a b bytes
front_of a b sent rest bytes e h = (length sent, rw (e, take_at sent rest (length sent) refl) h)

-- a write of some of the rest
pub sent_more : (a b c : Option (List ℕ)) (bytes sent rest : List ℕ) (n : ℕ) → bytes ≡ sent ++ rest → Appends a b sent
    → Appends b c (take n rest)
    → (more : List ℕ) × (bytes ≡ more ++ drop n rest) × Appends a c more
sent_more a b c bytes sent rest n e h k = (
  sent ++ take n rest,
  e ∙ ap (λ t. sent ++ t) (sym (take-append-drop n rest)) ∙ sym (append_assoc sent (take n rest) (drop n rest)),
  Appends-then a b c sent (take n rest) h k,
)

-- one piece after another
pub then_sends : {E : Type 0} (a b c : Option (List ℕ)) (r : Result (Unit {0}) E) (xs ys : List ℕ) → Appends a b xs → Sends b c r ys
    → Sends a c r (xs ++ ys)
then_sends a b c (Ok u) xs ys h k = Appends-then a b c xs ys h k
then_sends a b c (Err e) xs ys h k = (length xs + k.0, rw (take-append-add xs ys k.0) (Appends-then a b c xs (take k.0 ys) h k.1))

-- a prefix of the first piece is a prefix of the whole
pub front_first : (a b : Option (List ℕ)) (xs ys : List ℕ) → AppendsFront a b xs → AppendsFront a b (xs ++ ys)
front_first a b xs ys h = front_of a b (take h.0 xs) (drop h.0 xs ++ ys) (xs ++ ys)
    (ap (λ t. t ++ ys) (sym (take-append-drop h.0 xs)) ∙ append_assoc (take h.0 xs) (drop h.0 xs) ys) h.1

pub appends_same : (a b : Option (List ℕ)) (xs ys : List ℕ) → xs ≡ ys → Appends a b xs → Appends a b ys
appends_same a b xs ys e h = let P : List ℕ → Type 0 = λ t. Appends a b t in subst P e h

pub front_same : (a b : Option (List ℕ)) (xs ys : List ℕ) → xs ≡ ys → AppendsFront a b xs → AppendsFront a b ys
front_same a b xs ys e h = let P : List ℕ → Type 0 = λ t. AppendsFront a b t in subst P e h

pub sends_same : {E : Type 0} (a b : Option (List ℕ)) (r : Result (Unit {0}) E) (xs ys : List ℕ) → xs ≡ ys → Sends a b r xs → Sends a b r ys
sends_same a b r xs ys e h = let P : List ℕ → Type 0 = λ t. Sends a b r t in subst P e h

-- a text, where there is one, and then the end of its line
pub line_end : {E : Type 0} (o : Option (List ℕ)) (a b c : Option (List ℕ)) (r : Result (Unit {0}) E) (end : List ℕ)
    → IfSome o (λ t. Appends a b t) → Sends b c r end → IfSome o (λ t. Sends a c r (t ++ end))
line_end None a b c r end h k = tt
line_end (Some t) a b c r end h k = then_sends a b c r t end h k

pub line_cut : {E : Type 0} (o : Option (List ℕ)) (a b : Option (List ℕ)) (r : Result (Unit {0}) E) (f : E) (end : List ℕ) → r ≡ Err f
    → IfSome o (λ t. AppendsFront a b t) → IfSome o (λ t. Sends a b r (t ++ end))
line_cut None a b r f end e h = tt
line_cut (Some t) a b r f end e h = rw e (front_first a b t end h)
