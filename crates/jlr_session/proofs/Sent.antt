-- Replies that go out, and bytes that come in.
use Rattle.std.proofs.Common.{true, false, subst, ◌≡◌, ℕ, List, [], ◌∷◌, ◌++◌, take, length, Option, Some, None, refl, sym, ap, ◌∙◌, arith}
use Rattle.std.proofs.Common.{append_assoc}
use Rattle.std.specs.Prelude.{◌≢◌, IfSome, IfNone, Result, Ok, Err, is_err}
use Rattle.std.specs.Io.KnownBytes.{Appends, Consumes, Keeps}
use Rattle.std.proofs.lemmas.List.{take_all}
use Rattle.std.proofs.lemmas.Bool.{false≢true}
use Rattle.jlr_wire.proofs.Sending.{Appends-keeps}
use Rattle.jlr_machine.specs.declared.ask.Answer.{Answer}
use Rattle.jlr_wire.specs.Replies.{words}
use Rattle.jlr_session.specs.Turns.{with_end, reply_line, SendsReply}

pub Consumes-none : (a : Option (List ℕ)) → Consumes a a []
Consumes-none None = tt
Consumes-none (Some xs) = refl

pub Consumes-then : (a b c : Option (List ℕ)) (xs ys : List ℕ) → Consumes a b xs → Consumes b c ys → Consumes a c (xs ++ ys)
Consumes-then None b c xs ys h k = tt
Consumes-then (Some o) None c xs ys h k = absurd h
Consumes-then (Some o) (Some m) None xs ys h k = absurd k
Consumes-then (Some o) (Some m) (Some n) xs ys h k = h ∙ ap (λ t. xs ++ t) k ∙ sym (append_assoc xs ys n)

pub Consumes-keeps : (a b c : Option (List ℕ)) (xs : List ℕ) → Consumes a b xs → Keeps b c → Consumes a c xs
Consumes-keeps None b c xs h k = tt
Consumes-keeps (Some o) None c xs h k = absurd h
Consumes-keeps (Some o) (Some m) None xs h k = absurd k
Consumes-keeps (Some o) (Some m) (Some n) xs h k = h ∙ ap (λ t. xs ++ t) (sym k)

-- a line that went out whole, and then a fault that wrote nothing
pub sent_then_kept : (o : Option (List ℕ)) (a b c : Option (List ℕ))
    → IfSome o (λ text. Appends a b (text ++ 10 ∷ [])) → IfNone o ((false ≡ true) × Keeps a b) → Keeps b c
    → (n : ℕ) × Appends a c (take n (with_end o))
sent_then_kept (Some text) a b c line none kept =
    let P : List ℕ → Type 0 = λ t. Appends a c t in (
      length (text ++ 10 ∷ []),
      subst P (sym (take_all (length (text ++ 10 ∷ [])) (text ++ 10 ∷ []) (omega arith)))
          (Appends-keeps a b c (text ++ 10 ∷ []) line kept),
    )
sent_then_kept None a b c line none kept = absurd (false≢true none.0)

-- a reply that did not fail
pub went_out : {E : Type 0} (old new : Option (List ℕ)) (result : Result (Unit {0}) E) (answer : Answer)
    → SendsReply old new result answer → is_err result ≡ false → (words answer ≢ None) × Appends old new (reply_line answer)
went_out old new (Ok u) answer h e = h
went_out old new (Err x) answer h e = absurd (false≢true (sym e))

-- a reply that failed
pub went_in_part : {E : Type 0} (old new : Option (List ℕ)) (result : Result (Unit {0}) E) (answer : Answer)
    → SendsReply old new result answer → is_err result ≡ true → (n : ℕ) × Appends old new (take n (reply_line answer))
went_in_part old new (Ok u) answer h e = absurd (false≢true e)
went_in_part old new (Err x) answer h e = h

pub went_as : (old new : Option (List ℕ)) (answer due : Answer) → answer ≡ due → Appends old new (reply_line answer)
    → Appends old new (reply_line due)
went_as old new answer due is h = subst (λ a. Appends old new (reply_line a)) is h
