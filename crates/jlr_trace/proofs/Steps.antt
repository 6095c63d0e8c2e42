-- Readers made of steady ones are steady.
use Rattle.std.proofs.Common.{ℕ, Bool, true, false, cond, List, ◌++◌, Result, Ok, Err, refl, sym, ap, subst}
use Rattle.jlr_trace_fields.specs.declared.fault.Fault.{Fault}
use Rattle.jlr_trace_fields.specs.declared.fault.Fault.TheVariants.{Short, Range}
use Rattle.jlr_trace_fields.specs.Reading.{Reader, ◌>>=◌, one_field, two_fields, three_fields, four_fields, five_fields}
use Rattle.jlr_trace.specs.Steady.{StillReads, IsSteady}

-- nothing is read, or nothing is in range
pub made : {A : Type 0} (x : A) → IsSteady (λ bytes. Ok (x, bytes))
made x = record { still = λ bytes more. refl }

pub never : {A : Type 0} → IsSteady {A = A} (λ bytes. Err Range)
never = record { still = λ bytes more. refl }

-- one reader, and what is read behind it
still_then : {A B : Type 0} (more : List ℕ) (first longer : Result (A × List ℕ) Fault) (then : A → Reader B) → ((x : A) → IsSteady (then x))
    → StillReads more first longer → StillReads more (first >>= λ v. then v.0 v.1) (longer >>= λ v. then v.0 v.1)
still_then {A} {B} more (Ok x) longer then steady e =
    let P : Result (A × List ℕ) Fault → Type 0 = λ l. StillReads more (then x.0 x.1) (l >>= λ v. then v.0 v.1) in
    subst P (sym e) ((steady x.0).still x.1 more)
still_then more (Err Short) longer then steady e = tt
still_then {A} {B} more (Err Range) longer then steady e = ap (λ (l : Result (A × List ℕ) Fault). l >>= λ v. then v.0 v.1) e

pub then_read : {A B : Type 0} {read : Reader A} → IsSteady read → (then : A → Reader B) → ((x : A) → IsSteady (then x))
    → IsSteady (λ bytes. read bytes >>= λ v. then v.0 v.1)
then_read {A} {B} {read} first then steady =
    record { still = λ bytes more. still_then more (read bytes) (read (bytes ++ more)) then steady (first.still bytes more) }

-- one of two readers
pub either : {A : Type 0} (b : Bool) {read other : Reader A} → IsSteady read → IsSteady other
    → IsSteady (λ bytes. cond b (read bytes) (other bytes))
either true p q = record { still = p.still }
either false p q = record { still = q.still }

-- ---- Fields one after the other

pub one : {A X : Type 0} {a : Reader A} → IsSteady a → (make : A → X) → IsSteady (one_field a make)
one p make = then_read p (λ x bytes. Ok (make x, bytes)) (λ x. made (make x))

pub two : {A B X : Type 0} {a : Reader A} {b : Reader B} → IsSteady a → IsSteady b → (make : A → B → X) → IsSteady (two_fields a b make)
two {A} {B} {X} {a} {b} p q make = then_read p (λ x. one_field b (make x)) (λ x. one q (make x))

pub three : {A B C X : Type 0} {a : Reader A} {b : Reader B} {c : Reader C} → IsSteady a → IsSteady b → IsSteady c → (make : A → B → C → X)
    → IsSteady (three_fields a b c make)
three {A} {B} {C} {X} {a} {b} {c} p q r make = then_read p (λ x. two_fields b c (make x)) (λ x. two q r (make x))

pub four : {A B C D X : Type 0} {a : Reader A} {b : Reader B} {c : Reader C} {d : Reader D} → IsSteady a → IsSteady b → IsSteady c
    → IsSteady d
    → (make : A → B → C → D → X) → IsSteady (four_fields a b c d make)
four {A} {B} {C} {D} {X} {a} {b} {c} {d} p q r s make = then_read p (λ x. three_fields b c d (make x)) (λ x. three q r s (make x))

pub five : {A B C D E X : Type 0} {a : Reader A} {b : Reader B} {c : Reader C} {d : Reader D} {e : Reader E} → IsSteady a → IsSteady b
    → IsSteady c → IsSteady d → IsSteady e
    → (make : A → B → C → D → E → X) → IsSteady (five_fields a b c d e make)
five {A} {B} {C} {D} {E} {X} {a} {b} {c} {d} {e} p q r s t make =
    then_read p (λ x. four_fields b c d e (make x)) (λ x. four q r s t (make x))

-- ---- One fact and the others, for a fact about each value of a table

infixr 5 ◌▸◌
abbrev pub ◌▸◌ : {A B : Type 0} → A → B → A × B
a ▸ b = (a, b)
