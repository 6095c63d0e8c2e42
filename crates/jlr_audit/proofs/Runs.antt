-- Runs that grow, and that a history has one verdict.
use Rattle.std.proofs.Common.{◌≡◌, ◌≢◌, ℕ, zero, suc, ◌+◌, ◌<◌, List, [], ◌∷◌, ◌++◌, Option, Some, None, take, length, get_or, refl, sym}
use Rattle.std.proofs.Common.{subst, ap, ◌∙◌, arith, add-one}
use Rattle.std.specs.Prelude.{slice_get, MatchOption}
use Rattle.std.proofs.Math.Seq.{take-suc, take-length}
use Rattle.std.proofs.lemmas.Option.{slice_get_read, slice_get_within, slice_get-get_or}
use Rattle.jlr_machine.specs.declared.machine.Machine.{Machine}
use Rattle.jlr_machine.specs.declared.entry.Entry.{Entry}
use Rattle.jlr_machine.specs.Run.{IsLegal, Run, apply}
use Rattle.jlr_machine.specs.WellFormed.{IsImage}
use Rattle.jlr_plain.specs.Following.{IsNext}
use Rattle.jlr_audit.specs.declared.verdict.Verdict.{Verdict}
use Rattle.jlr_audit.specs.declared.verdict.Verdict.TheVariants.{Legal, Illegal}
use Rattle.jlr_audit.specs.Verdicts.{IsLegalFront, IsFirstIllegal, IsVerdict}

-- a run goes on by a legal entry
pub run_snoc : (m n : Machine) (entries : List Entry) (e : Entry) → Run m entries n → IsLegal n e → Run m (entries ++ e ∷ []) (apply n e)
run_snoc m n [] e r l = subst (λ k. IsLegal k e × (apply n e ≡ apply k e)) r (l, refl)
run_snoc m n (x ∷ entries) e r l = (r.0, run_snoc (apply m x) n entries e r.1 l)

-- and there is one machine at its end
pub one_end : (m a b : Machine) (entries : List Entry) → Run m entries a → Run m entries b → a ≡ b
one_end m a b [] p q = p ∙ sym q
one_end m a b (x ∷ entries) p q = one_end (apply m x) a b entries p.1 q.1

-- a run with a further entry is a run up to that entry, which is legal there
legal_at : (m n : Machine) (entries : List Entry) (k : ℕ) (e : Entry) → Run m entries n → slice_get entries k ≡ Some e → (a : Machine)
    × Run m (take k entries) a × IsLegal a e
legal_at m n [] k e r h = absurd cc
legal_at m n (x ∷ entries) zero e r h = let same : x ≡ e = cc in (m, refl, subst (IsLegal m) same r.0)
legal_at m n (x ∷ entries) (suc k) e r h =
    let rest = legal_at (apply m x) n entries k e r.1 h in
    (rest.0, (r.0, rest.1), rest.2)

-- so no entry of a run is illegal
pub run_is_legal : (m n : Machine) (entries : List Entry) (k : ℕ) → Run m entries n → IsFirstIllegal m entries k → ⊥
run_is_legal m n entries k r f =
    let a = legal_at m n entries k f.entry r f.there in
    f.illegal (subst (λ x. IsLegal x f.entry) (one_end m a.0 f.before (take k entries) a.1 f.run) a.2)

rest_of : (m : Machine) (x : Entry) (entries : List Entry) (k : ℕ) → IsFirstIllegal m (x ∷ entries) (suc k)
    → IsFirstIllegal (apply m x) entries k
rest_of m x entries k f = record { entry = f.entry; there = f.there; before = f.before; run = f.run.1; illegal = f.illegal }

front_is_legal : (m : Machine) (x : Entry) (entries : List Entry) (k : ℕ) → IsFirstIllegal m (x ∷ entries) (suc k) → IsLegal m x
front_is_legal m x entries k f = f.run.0

front_is_illegal : (m : Machine) (x : Entry) (entries : List Entry) → IsFirstIllegal m (x ∷ entries) zero → ¬ (IsLegal m x)
front_is_illegal m x entries f legal =
    let same : x ≡ f.entry = cc (f.there) in
    let here : f.before ≡ m = f.run in
    f.illegal (subst (λ (n : Machine). IsLegal n f.entry) (sym here) (subst (IsLegal m) same legal))

-- one entry is the first
pub one_first : (m : Machine) (entries : List Entry) (k l : ℕ) → IsFirstIllegal m entries k → IsFirstIllegal m entries l → l ≡ k
one_first m [] k l f g = absurd (cc (f.there))
one_first m (x ∷ entries) zero zero f g = refl
one_first m (x ∷ entries) zero (suc l) f g = absurd (front_is_illegal m x entries f (front_is_legal m x entries l g))
one_first m (x ∷ entries) (suc k) zero f g = absurd (front_is_illegal m x entries g (front_is_legal m x entries k f))
one_first m (x ∷ entries) (suc k) (suc l) f g =
    ap suc (one_first (apply m x) entries k l (rest_of m x entries k f) (rest_of m x entries l g))

-- a history has one verdict
pub one_verdict : (image : Machine) (entries : List Entry) (v w : Verdict) → IsVerdict image entries v → IsVerdict image entries w → w ≡ v
one_verdict image entries Legal Legal p q = refl
one_verdict image entries Legal (Illegal zero) p q = absurd (q p.0)
one_verdict image entries Legal (Illegal (suc k)) p q = absurd (run_is_legal image p.1.0 entries k p.1.1 q.1)
one_verdict image entries (Illegal zero) Legal p q = absurd (p q.0)
one_verdict image entries (Illegal zero) (Illegal zero) p q = refl
one_verdict image entries (Illegal zero) (Illegal (suc k)) p q = absurd (p q.0)
one_verdict image entries (Illegal (suc k)) Legal p q = absurd (run_is_legal image q.1.0 entries k q.1.1 p.1)
one_verdict image entries (Illegal (suc k)) (Illegal zero) p q = absurd (q p.0)
one_verdict image entries (Illegal (suc k)) (Illegal (suc l)) p q = ap (λ (n : ℕ). Illegal (suc n)) (one_first image entries k l p.1 q.1)

pub any_verdict : (image : Machine) (entries : List Entry) (v : Verdict) → IsVerdict image entries v → (w : Verdict)
    → IsVerdict image entries w → w ≡ v
any_verdict image entries v p w q = one_verdict image entries v w p q

-- ---- What the loop over the entries keeps
pub next_one : (m : Machine) (e : Entry) (o : Option Machine) (n : Machine) → o ≡ Some n
    → MatchOption o (¬ (IsLegal m e)) (λ n. IsNext m e n) → IsNext m e n
next_one m e o n is h = subst (λ (p : Option Machine). MatchOption p (¬ (IsLegal m e)) (λ n. IsNext m e n)) is h

pub no_next : (m : Machine) (e : Entry) (o : Option Machine) → o ≡ None → MatchOption o (¬ (IsLegal m e)) (λ n. IsNext m e n)
    → ¬ (IsLegal m e)
no_next m e o is h = subst (λ (p : Option Machine). MatchOption p (¬ (IsLegal m e)) (λ n. IsNext m e n)) is h

pub stops_here : (start old : Machine) (entries : List Entry) (k : ℕ) (x : Entry) → k < length entries → x ≡ get_or entries k x
    → Run start (take k entries) old → ¬ (IsLegal old x) → IsLegalFront start entries k
stops_here start old entries k x lt is run refused =
    record {
      within = omega (arith, lt);
      left = old;
      run = run;
      stops = λ e at legal.
          let there : slice_get entries k ≡ Some x = slice_get_read entries (length entries) k x refl lt is in
          let same : e ≡ x = cc in
          refused (subst (IsLegal old) same legal);
    }

pub goes_on : (start old new : Machine) (entries : List Entry) (k : ℕ) (x : Entry) → k < length entries → x ≡ get_or entries k x
    → Run start (take k entries) old → IsLegal old x × (new ≡ apply old x) → Run start (take (k + 1) entries) new
goes_on start old new entries k x lt is run legal =
    let longer : take (k + 1) entries ≡ take k entries ++ x ∷ [] =
    rw add-one (take-suc entries k x lt ∙ ap (λ (y : Entry). take k entries ++ y ∷ []) (sym is)) in
    subst (λ (n : Machine). Run start (take (k + 1) entries) n) (sym legal.1)
    (subst (λ (es : List Entry). Run start es (apply old x)) (sym longer) (run_snoc start old (take k entries) x run legal.0))

pub no_more : (entries : List Entry) (e : Entry) → slice_get entries (length entries) ≡ Some e → ⊥
no_more entries e at = let lt : length entries < length entries = slice_get_within entries (length entries) e at in absurd (omega arith)

entry_there : (entries : List Entry) (k : ℕ) → k < length entries → (e : Entry) × (slice_get entries k ≡ Some e)
entry_there [] k lt = absurd (omega arith)
entry_there (x ∷ entries) k lt = (get_or (x ∷ entries) k x, slice_get-get_or (x ∷ entries) k x lt)

pub all_through : (start left : Machine) (entries : List Entry) (k : ℕ) → k ≡ length entries → Run start (take k entries) left
    → IsLegalFront start entries (length entries)
all_through start left entries k is run =
    record {
      within = omega arith;
      left = left;
      run = subst (λ n. Run start (take n entries) left) is run;
      stops = λ e at legal. no_more entries e at;
    }

first_found : (image : Machine) (entries : List Entry) (count : ℕ) → IsImage image → IsLegalFront image entries count → (e : Entry)
    × (slice_get entries count ≡ Some e) → IsVerdict image entries (Illegal (count + 1))
first_found image entries count i f at =
    let found : IsFirstIllegal image entries count =
    record { entry = at.0; there = at.1; before = f.left; run = f.run; illegal = f.stops at.0 at.1 } in
    let verdict : IsVerdict image entries (Illegal (suc count)) = (i, found) in
    subst (λ (n : ℕ). IsVerdict image entries (Illegal n)) (sym (add-one count)) verdict

-- ---- The verdict out of how many entries are legal
pub all_legal : (image : Machine) (entries : List Entry) (count : ℕ) → IsImage image → IsLegalFront image entries count
    → count ≡ length entries → IsVerdict image entries Legal
all_legal image entries count i f e =
    let whole : take count entries ≡ entries = rw e (take-length entries) in
    (i, (f.left, subst (λ (es : List Entry). Run image es f.left) whole f.run))

pub one_illegal : (image : Machine) (entries : List Entry) (count : ℕ) → IsImage image → IsLegalFront image entries count
    → count ≢ length entries → IsVerdict image entries (Illegal (count + 1))
one_illegal image entries count i f differ =
    let lt : count < length entries = omega (arith, f.within, differ) in
    first_found image entries count i f (entry_there entries count lt)
