-- Fields one after the other: what is read is what was written, and what was written is read again.
use Rattle.std.proofs.Common.{◌≡◌, ℕ, List, ◌++◌, Result, Ok, refl, sym, ap, subst, ◌∙◌, append_assoc}
use Rattle.jlr_trace_fields.specs.declared.fault.Fault.{Fault}
use Rattle.jlr_trace_fields.specs.Reading.{Reader, ◌>>=◌, one_field, two_fields, three_fields, four_fields, five_fields}
use Rattle.jlr_trace_fields.specs.Laws.{Takes, TakesBehind, IsField}
use Rattle.jlr_trace_fields.proofs.Steps.{bind_ok, ok_is}

moved : (front text bytes middle whole rest : List ℕ) → bytes ≡ text ++ middle → Takes ((front ++ text) ++ middle) whole rest
    → Takes (front ++ bytes) whole rest
moved front text bytes middle whole rest e t =
    record { parts = ap (λ (b : List ℕ). front ++ b) e ∙ sym (append_assoc front text middle) ∙ t.parts; rest_fits = t.rest_fits }

-- a field, and what is read behind it
pub then_takes : {A X : Type 0} {a : Reader A} {sa : A → List ℕ} {Fa : A → Type 0} → IsField a sa Fa
    → (front : List ℕ) (more : A → Reader X) (spelled : X → List ℕ) (Fits : X → Type 0)
    → ((v : A) → Fa v → TakesBehind (front ++ sa v) (more v) spelled Fits)
    → TakesBehind front (λ bytes. a bytes >>= λ v. more v.0 v.1) spelled Fits
then_takes {A} {X} {a} {sa} {Fa} field front more spelled Fits law bytes x rest fits e =
    let p = bind_ok (a bytes) (λ v. more v.0 v.1) (x, rest) e in
    let t = field.takes bytes p.0.0 p.0.1 fits p.1 in
    let r = law p.0.0 t.1 p.0.1 x rest t.0.rest_fits p.2 in
    (moved front (sa p.0.0) bytes p.0.1 (spelled x) rest t.0.parts r.0, r.1)

-- and what is made in the end
pub made_takes : {X : Type 0} (front : List ℕ) (v : X) (spelled : X → List ℕ) (Fits : X → Type 0) → spelled v ≡ front → Fits v
    → TakesBehind front (λ bytes. Ok (v, bytes)) spelled Fits
made_takes {X} front v spelled Fits text fit bytes x rest fits e =
    let made : X × List ℕ = (v, bytes) in
    let whole : Takes (front ++ bytes) (spelled v) bytes =
    record { parts = ap (λ (t : List ℕ). t ++ bytes) (sym text); rest_fits = fits } in
    subst (λ (y : X × List ℕ). Takes (front ++ bytes) (spelled y.0) y.1 × Fits y.0) (ok_is made (x, rest) e) (whole, fit)

pub one_takes : {A X : Type 0} {a : Reader A} {sa : A → List ℕ} {Fa : A → Type 0} → IsField a sa Fa
    → (front : List ℕ) (make : A → X) (spelled : X → List ℕ) (Fits : X → Type 0)
    → ((v : A) → spelled (make v) ≡ front ++ sa v) → ((v : A) → Fa v → Fits (make v)) → TakesBehind front (one_field a make) spelled Fits
one_takes {A} {X} {a} {sa} {Fa} field front make spelled Fits text fit =
    then_takes field front (λ v bytes. Ok (make v, bytes)) spelled Fits
    (λ v f. made_takes (front ++ sa v) (make v) spelled Fits (text v) (fit v f))

pub two_takes : {A B X : Type 0} {a : Reader A} {sa : A → List ℕ} {Fa : A → Type 0} {b : Reader B} {sb : B → List ℕ} {Fb : B → Type 0}
    → IsField a sa Fa → IsField b sb Fb → (front : List ℕ) (make : A → B → X) (spelled : X → List ℕ) (Fits : X → Type 0)
    → ((v : A) (w : B) → spelled (make v w) ≡ (front ++ sa v) ++ sb w) → ((v : A) (w : B) → Fa v → Fb w → Fits (make v w))
    → TakesBehind front (two_fields a b make) spelled Fits
two_takes {A} {B} {X} {a} {sa} {Fa} {b} {sb} {Fb} field others front make spelled Fits text fit =
    then_takes field front (λ v. one_field b (make v)) spelled Fits
    (λ v f. one_takes others (front ++ sa v) (make v) spelled Fits (text v) (λ w g. fit v w f g))

pub three_takes : {A B C X : Type 0} {a : Reader A} {sa : A → List ℕ} {Fa : A → Type 0} {b : Reader B} {sb : B → List ℕ} {Fb : B → Type 0}
    {c : Reader C} {sc : C → List ℕ} {Fc : C → Type 0} → IsField a sa Fa → IsField b sb Fb → IsField c sc Fc
    → (front : List ℕ) (make : A → B → C → X) (spelled : X → List ℕ) (Fits : X → Type 0)
    → ((v : A) (w : B) (x : C) → spelled (make v w x) ≡ ((front ++ sa v) ++ sb w) ++ sc x)
    → ((v : A) (w : B) (x : C) → Fa v → Fb w → Fc x → Fits (make v w x)) → TakesBehind front (three_fields a b c make) spelled Fits
three_takes {A} {B} {C} {X} {a} {sa} {Fa} {b} {sb} {Fb} {c} {sc} {Fc} field second third front make spelled Fits text fit =
    then_takes field front (λ v. two_fields b c (make v)) spelled Fits
    (λ v f. two_takes second third (front ++ sa v) (make v) spelled Fits (text v) (λ w x g h. fit v w x f g h))

pub four_takes : {A B C D X : Type 0} {a : Reader A} {sa : A → List ℕ} {Fa : A → Type 0} {b : Reader B} {sb : B → List ℕ} {Fb : B → Type 0}
    {c : Reader C} {sc : C → List ℕ} {Fc : C → Type 0} {d : Reader D} {sd : D → List ℕ} {Fd : D → Type 0}
    → IsField a sa Fa → IsField b sb Fb → IsField c sc Fc → IsField d sd Fd
    → (front : List ℕ) (make : A → B → C → D → X) (spelled : X → List ℕ) (Fits : X → Type 0)
    → ((v : A) (w : B) (x : C) (y : D) → spelled (make v w x y) ≡ (((front ++ sa v) ++ sb w) ++ sc x) ++ sd y)
    → ((v : A) (w : B) (x : C) (y : D) → Fa v → Fb w → Fc x → Fd y → Fits (make v w x y))
    → TakesBehind front (four_fields a b c d make) spelled Fits
four_takes {A} {B} {C} {D} {X} {a} {sa} {Fa} {b} {sb} {Fb} {c} {sc} {Fc} {d} {sd} {Fd} field second third fourth front make spelled Fits
    text fit =
    then_takes field front (λ v. three_fields b c d (make v)) spelled Fits
    (λ v f. three_takes second third fourth (front ++ sa v) (make v) spelled Fits (text v) (λ w x y g h i. fit v w x y f g h i))

pub five_takes : {A B C D E X : Type 0} {a : Reader A} {sa : A → List ℕ} {Fa : A → Type 0} {b : Reader B} {sb : B → List ℕ}
    {Fb : B → Type 0} {c : Reader C} {sc : C → List ℕ} {Fc : C → Type 0} {d : Reader D} {sd : D → List ℕ} {Fd : D → Type 0} {e : Reader E}
    {se : E → List ℕ} {Fe : E → Type 0}
    → IsField a sa Fa → IsField b sb Fb → IsField c sc Fc → IsField d sd Fd → IsField e se Fe
    → (front : List ℕ) (make : A → B → C → D → E → X) (spelled : X → List ℕ) (Fits : X → Type 0)
    → ((v : A) (w : B) (x : C) (y : D) (z : E) → spelled (make v w x y z) ≡ ((((front ++ sa v) ++ sb w) ++ sc x) ++ sd y) ++ se z)
    → ((v : A) (w : B) (x : C) (y : D) (z : E) → Fa v → Fb w → Fc x → Fd y → Fe z → Fits (make v w x y z))
    → TakesBehind front (five_fields a b c d e make) spelled Fits
five_takes {A} {B} {C} {D} {E} {X} {a} {sa} {Fa} {b} {sb} {Fb} {c} {sc} {Fc} {d} {sd} {Fd} {e} {se} {Fe} field second third fourth fifth
    front make spelled Fits text fit =
    then_takes field front (λ v. four_fields b c d e (make v)) spelled Fits
    (λ v f. four_takes second third fourth fifth (front ++ sa v) (make v) spelled Fits (text v)
    (λ w x y z g h i j. fit v w x y z f g h i j))

-- ---- And the other way

pub then_again : {A X : Type 0} {a : Reader A} {sa : A → List ℕ} {Fa : A → Type 0} → IsField a sa Fa → (v : A) → Fa v
    → (more : A → Reader X) (bytes text : List ℕ) (x : X) (rest : List ℕ) → bytes ≡ sa v ++ text → more v text ≡ Ok (x, rest)
    → (a bytes >>= λ p. more p.0 p.1) ≡ Ok (x, rest)
then_again {A} {X} {a} {sa} {Fa} field v fits more bytes text x rest split behind =
    let bind : Result (A × List ℕ) Fault → Result (X × List ℕ) Fault = λ r. r >>= λ p. more p.0 p.1 in
    ap (λ (b : List ℕ). bind (a b)) split ∙ ap bind (field.again v text fits) ∙ behind

pub one_again : {A X : Type 0} {a : Reader A} {sa : A → List ℕ} {Fa : A → Type 0} → IsField a sa Fa → (make : A → X) (v : A) → Fa v
    → (rest : List ℕ) → one_field a make (sa v ++ rest) ≡ Ok (make v, rest)
one_again {A} {X} {a} {sa} {Fa} field make v f rest =
    then_again field v f (λ x bytes. Ok (make x, bytes)) (sa v ++ rest) rest (make v) rest refl refl

pub two_again : {A B X : Type 0} {a : Reader A} {sa : A → List ℕ} {Fa : A → Type 0} {b : Reader B} {sb : B → List ℕ} {Fb : B → Type 0}
    → IsField a sa Fa → IsField b sb Fb → (make : A → B → X) (v : A) (w : B) → Fa v → Fb w → (rest : List ℕ)
    → two_fields a b make (sa v ++ sb w ++ rest) ≡ Ok (make v w, rest)
two_again {A} {B} {X} {a} {sa} {Fa} {b} {sb} {Fb} field second make v w f g rest =
    then_again field v f (λ x. one_field b (make x)) ((sa v ++ sb w) ++ rest) (sb w ++ rest) (make v w) rest
    (append_assoc (sa v) (sb w) rest) (one_again second (make v) w g rest)

pub three_again : {A B C X : Type 0} {a : Reader A} {sa : A → List ℕ} {Fa : A → Type 0} {b : Reader B} {sb : B → List ℕ} {Fb : B → Type 0}
    {c : Reader C} {sc : C → List ℕ} {Fc : C → Type 0} → IsField a sa Fa → IsField b sb Fb → IsField c sc Fc
    → (make : A → B → C → X) (v : A) (w : B) (x : C) → Fa v → Fb w → Fc x → (rest : List ℕ)
    → three_fields a b c make (sa v ++ sb w ++ sc x ++ rest) ≡ Ok (make v w x, rest)
three_again {A} {B} {C} {X} {a} {sa} {Fa} {b} {sb} {Fb} {c} {sc} {Fc} field second third make v w x f g h rest =
    let parted : ((sa v ++ sb w) ++ sc x) ++ rest ≡ sa v ++ ((sb w ++ sc x) ++ rest) =
    ap (λ (t : List ℕ). t ++ rest) (append_assoc (sa v) (sb w) (sc x)) ∙ append_assoc (sa v) (sb w ++ sc x) rest in
    then_again field v f (λ y. two_fields b c (make y)) (((sa v ++ sb w) ++ sc x) ++ rest) ((sb w ++ sc x) ++ rest) (make v w x) rest parted
    (two_again second third (make v) w x g h rest)

pub four_again : {A B C D X : Type 0} {a : Reader A} {sa : A → List ℕ} {Fa : A → Type 0} {b : Reader B} {sb : B → List ℕ} {Fb : B → Type 0}
    {c : Reader C} {sc : C → List ℕ} {Fc : C → Type 0} {d : Reader D} {sd : D → List ℕ} {Fd : D → Type 0}
    → IsField a sa Fa → IsField b sb Fb → IsField c sc Fc → IsField d sd Fd
    → (make : A → B → C → D → X) (v : A) (w : B) (x : C) (y : D) → Fa v → Fb w → Fc x → Fd y → (rest : List ℕ)
    → four_fields a b c d make (sa v ++ sb w ++ sc x ++ sd y ++ rest) ≡ Ok (make v w x y, rest)
four_again {A} {B} {C} {D} {X} {a} {sa} {Fa} {b} {sb} {Fb} {c} {sc} {Fc} {d} {sd} {Fd} field second third fourth make v w x y f g h i rest =
    let inner : ((sa v ++ sb w) ++ sc x) ++ sd y ≡ sa v ++ ((sb w ++ sc x) ++ sd y) =
    ap (λ (t : List ℕ). t ++ sd y) (append_assoc (sa v) (sb w) (sc x)) ∙ append_assoc (sa v) (sb w ++ sc x) (sd y) in
    let parted : (((sa v ++ sb w) ++ sc x) ++ sd y) ++ rest ≡ sa v ++ (((sb w ++ sc x) ++ sd y) ++ rest) =
    ap (λ (t : List ℕ). t ++ rest) inner ∙ append_assoc (sa v) ((sb w ++ sc x) ++ sd y) rest in
    then_again field v f (λ z. three_fields b c d (make z)) ((((sa v ++ sb w) ++ sc x) ++ sd y) ++ rest) (((sb w ++ sc x) ++ sd y) ++ rest)
    (make v w x y) rest parted (three_again second third fourth (make v) w x y g h i rest)

pub five_again : {A B C D E X : Type 0} {a : Reader A} {sa : A → List ℕ} {Fa : A → Type 0} {b : Reader B} {sb : B → List ℕ}
    {Fb : B → Type 0} {c : Reader C} {sc : C → List ℕ} {Fc : C → Type 0} {d : Reader D} {sd : D → List ℕ} {Fd : D → Type 0} {e : Reader E}
    {se : E → List ℕ} {Fe : E → Type 0}
    → IsField a sa Fa → IsField b sb Fb → IsField c sc Fc → IsField d sd Fd → IsField e se Fe
    → (make : A → B → C → D → E → X) (v : A) (w : B) (x : C) (y : D) (z : E) → Fa v → Fb w → Fc x → Fd y → Fe z → (rest : List ℕ)
    → five_fields a b c d e make (sa v ++ sb w ++ sc x ++ sd y ++ se z ++ rest) ≡ Ok (make v w x y z, rest)
five_again {A} {B} {C} {D} {E} {X} {a} {sa} {Fa} {b} {sb} {Fb} {c} {sc} {Fc} {d} {sd} {Fd} {e} {se} {Fe} field second third fourth fifth
    make v w x y z f g h i j rest =
    let first : ((sa v ++ sb w) ++ sc x) ++ sd y ≡ sa v ++ ((sb w ++ sc x) ++ sd y) =
    ap (λ (t : List ℕ). t ++ sd y) (append_assoc (sa v) (sb w) (sc x)) ∙ append_assoc (sa v) (sb w ++ sc x) (sd y) in
    let inner : (((sa v ++ sb w) ++ sc x) ++ sd y) ++ se z ≡ sa v ++ (((sb w ++ sc x) ++ sd y) ++ se z) =
    ap (λ (t : List ℕ). t ++ se z) first ∙ append_assoc (sa v) ((sb w ++ sc x) ++ sd y) (se z) in
    let parted : ((((sa v ++ sb w) ++ sc x) ++ sd y) ++ se z) ++ rest ≡ sa v ++ ((((sb w ++ sc x) ++ sd y) ++ se z) ++ rest) =
    ap (λ (t : List ℕ). t ++ rest) inner ∙ append_assoc (sa v) (((sb w ++ sc x) ++ sd y) ++ se z) rest in
    then_again field v f (λ p. four_fields b c d e (make p)) (((((sa v ++ sb w) ++ sc x) ++ sd y) ++ se z) ++ rest)
    ((((sb w ++ sc x) ++ sd y) ++ se z) ++ rest) (make v w x y z) rest parted
    (four_again second third fourth fifth (make v) w x y z g h i j rest)
