-- What the laws of a field say: what is read is what was written, and what was written is read again.
use Rattle.std.specs.Prelude.{◌≡◌, ℕ, ◌≤◌, IsTrue, List, ◌++◌, length, Option, Ok}
use Rattle.jlr_trace_fields.specs.Reading.{Reader}
use Rattle.jlr_trace_fields.specs.Items.{may_follow}
use Rattle.jlr_trace_fields.specs.Spelling.{IsBytes}

-- what a reader took from the front
pub record Takes (bytes text rest : List ℕ) : Type 0 where
  pub parts : bytes ≡ text ++ rest
  pub rest_fits : IsBytes rest

-- what is read behind some bytes is, with them, the spelling of what was read, which has one
abbrev pub TakesBehind : {A : Type 0} → List ℕ → Reader A → (A → List ℕ) → (A → Type 0) → Type 0
TakesBehind {A} front read spelled Fits = (bytes : List ℕ) (x : A) (rest : List ℕ) → IsBytes bytes
    → read bytes ≡ Ok (x, rest) → Takes (front ++ bytes) (spelled x) rest × Fits x

-- what is read is spelled so, and has a spelling
abbrev pub TakesSpelled : {A : Type 0} → Reader A → (A → List ℕ) → (A → Type 0) → Type 0
TakesSpelled {A} read spelled Fits = (bytes : List ℕ) (x : A) (rest : List ℕ) → IsBytes bytes
    → read bytes ≡ Ok (x, rest) → Takes bytes (spelled x) rest × Fits x

-- what is spelled so is read again, whatever follows
abbrev pub ReadsAgain : {A : Type 0} → Reader A → (A → List ℕ) → (A → Type 0) → Type 0
ReadsAgain {A} read spelled Fits = (x : A) (rest : List ℕ) → Fits x → read (spelled x ++ rest) ≡ Ok (x, rest)

pub record IsField {A : Type 0} (read : Reader A) (spelled : A → List ℕ) (Fits : A → Type 0) : Type 0 where
  pub takes : TakesSpelled read spelled Fits
  pub again : ReadsAgain read spelled Fits

-- none is spelled by fewer bytes
abbrev pub IsShortest : {A : Type 0} → ℕ → (A → List ℕ) → (A → Type 0) → Type 0
IsShortest {A} least spelled Fits = (x : A) → Fits x → least ≤ length (spelled x)

-- the same of an item that is read with the key before it in hand
abbrev pub FollowsWith : {A : Type 0} → (A → Type 0) → (A → ℕ) → Option ℕ → A → Type 0
FollowsWith Fits key before x = Fits x × IsTrue (may_follow before (key x))

pub record IsRisingField {A : Type 0} (read : Option ℕ → Reader A) (spelled : A → List ℕ) (Fits : A → Type 0)
    (key : A → ℕ) : Type 0 where
  pub field : (before : Option ℕ) → IsField (read before) spelled (FollowsWith Fits key before)
