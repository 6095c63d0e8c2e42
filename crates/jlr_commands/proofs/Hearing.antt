-- What is read byte by byte.
use Rattle.std.proofs.Common.{◌≡◌, ◌==◌, ℕ, Bool, List, [], ◌∷◌, ◌++◌, Option, Some, None, IsTrue, eqb-true, sym, ◌∙◌, ap}
use Rattle.std.proofs.lemmas.List.{append_assoc, append-nil}
use Rattle.std.specs.Io.KnownBytes.{Consumes}
use Rattle.jlr_commands.specs.Stopping.{EndsWell}

goes_on : (a b c : Option (List ℕ)) (s t : List ℕ) → Consumes a b s → Consumes b c t → Consumes a c (s ++ t)
goes_on None b c s t h k = tt
goes_on (Some xs) None c s t h k = absurd h
goes_on (Some xs) (Some ys) None s t h k = absurd k
goes_on (Some xs) (Some ys) (Some zs) s t h k = h ∙ ap {A = List ℕ} {B = List ℕ} (λ l. s ++ l) k ∙ sym (append_assoc s t zs)

pub said_more : (a b c : Option (List ℕ)) (w v : Bool) (byte : ℕ) → EndsWell a b w → Consumes b c (byte ∷ []) → (IsTrue v → byte ≡ 46)
    → EndsWell a c v
said_more a b c w v byte e h last =
    (e.0 ++ byte ∷ [], goes_on a b c e.0 (byte ∷ []) e.1 h, λ t. (e.0, ap {A = ℕ} {B = List ℕ} (λ x. e.0 ++ x ∷ []) (last t)))

pub said_nothing : (a b c : Option (List ℕ)) (w : Bool) → EndsWell a b w → Consumes b c [] → EndsWell a c w
said_nothing a b c w e h =
    (e.0 ++ [], goes_on a b c e.0 [] e.1 h, λ t. let f = e.2 t in (f.0, append-nil e.0 ∙ f.1))

pub last_is : (v : Bool) (byte : ℕ) → v ≡ (byte == 46) → IsTrue v → byte ≡ 46
last_is v byte e t = eqb-true byte 46 (sym e ∙ t)
