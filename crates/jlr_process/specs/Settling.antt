-- What a collection does to a place: a marked object loses a referent that is not marked; then all that is not marked
-- is removed.
use Rattle.std.specs.Prelude.{◌≡◌, ◌<◌, ℕ, Bool, true, cond, not, ◌&&◌, length, List, [], ◌∷◌, ◌++◌, filter, Option}
use Rattle.std.specs.Prelude.{Some, None, option_map, slice_set}
use Rattle.jlr_machine.specs.declared.object.Object.{Object}
use Rattle.jlr_machine.specs.ReachSet.{up_to}
use Rattle.jlr_machine.specs.Objects.{◌∈◌, ◌∋◌, Heap, any_referent, at, is_distinct, some_and, with_cleanable}
use Rattle.jlr_machine.specs.Objects.{with_reference}
use Rattle.jlr_machine.specs.Collection.{is_ready, made_pending}
use Rattle.jlr_machine.specs.Choices.{Choosing, collecting, pended_by}
use Rattle.jlr_barrier.specs.Graphs.{Graph}
use Rattle.jlr_marks.specs.Marking.{Marking, is_marked}

-- the marked slots below n, rising
abbrev pub marked_below : Marking → ℕ → List ℕ
marked_below m n = filter (is_marked m) (up_to 0 n)

abbrev pub marked_referent : Marking → Option ℕ → Option ℕ
marked_referent m None = None
marked_referent m (Some x) = cond (is_marked m x) (Some x) None

-- an object that is ready, and has a referent that is not marked
abbrev pub loses : Marking → Object → Bool
loses m o = is_ready o && some_and (λ x. not (is_marked m x)) (any_referent o)

-- an object without a referent that is not marked; it is pending, if it was ready and lost one
abbrev pub settled_object : Marking → Object → Object
settled_object m o = made_pending (loses m o)
    (with_reference (λ r. record r { referent = marked_referent m r.referent })
    (with_cleanable (λ c. record c { referent = marked_referent m c.referent }) o))

-- a marked object so, and nothing else
abbrev pub settled : Marking → ℕ → Option Object → Option Object
settled m s o = cond (is_marked m s) (option_map (settled_object m) o) None

-- the slot alone, or none
abbrev pub only_if : Bool → ℕ → List ℕ
only_if b s = cond b (s ∷ []) []

-- the object o at s is settled; it goes on the pending list, if it was ready and lost a referent
abbrev pub with_settled : Marking → Graph → ℕ → Object → Graph
with_settled m g s o = record g {
  objects = slice_set g.objects s (Some (settled_object m o));
  pending = g.pending
      ++ only_if (loses m o) s;
}

-- what is at s becomes pending
abbrev pub is_losing : Marking → Heap → ℕ → Bool
is_losing m heap s = is_marked m s && some_and (loses m) (at heap s)

abbrev pub newly_pending : Marking → Heap → ℕ → List ℕ
newly_pending m heap s = only_if (is_losing m heap s) s

-- what is at a marked slot is settled, and all else is as it was
abbrev pub cleared : Marking → ℕ → Option Object → Option Object
cleared m s o = cond (is_marked m s) (option_map (settled_object m) o) o

abbrev pub cleared_graph : Marking → Graph → ℕ → Graph
cleared_graph m g s = record g {
  objects = slice_set g.objects s (cleared m s (at g.objects s));
  pending = g.pending
      ++ newly_pending m g.objects s;
}

-- What is at the marked ones of these slots is settled, and all else is as it was. The lost ones, each of them once,
-- become pending, and the choice says so
pub record SettlesSlots (m : Marking) (slots : List ℕ) (old : Graph) (before : Choosing) (lost : List ℕ) (new : Graph)
    (after : Choosing) : Type 0 where
  pub long : length new.objects ≡ length old.objects
  pub objects : (s : ℕ) → at new.objects s ≡ cond (slots ∋ s) (cleared m s (at old.objects s)) (at old.objects s)
  pub pending : new.pending ≡ old.pending ++ lost
  pub line : new.line ≡ old.line
  pub mutators : new.mutators ≡ old.mutators
  pub names : new.names ≡ old.names
  pub once : is_distinct lost ≡ true
  pub listed : (s : ℕ) → s ∈ lost → (s ∈ slots) × (is_losing m old.objects s ≡ true)
  pub all : (s : ℕ) → s ∈ slots → is_losing m old.objects s ≡ true → s ∈ lost
  pub chosen : after ≡ collecting before [] lost

-- what is at a slot is kept, if it is marked
abbrev pub kept_if_marked : Marking → ℕ → Option Object → Option Object
kept_if_marked m s o = cond (is_marked m s) o None

-- What is marked is kept, and all else is gone. The choice says so, and what became pending before
pub record KeepsWhatIsMarked (m : Marking) (old : Graph) (before : Choosing) (new : Graph) (after : Choosing) : Type 0
  where
    pub long : length new.objects ≡ length old.objects
    pub objects : (s : ℕ) → s < length old.objects → at new.objects s ≡ kept_if_marked m s (at old.objects s)
    pub pending : new.pending ≡ old.pending
    pub line : new.line ≡ old.line
    pub mutators : new.mutators ≡ old.mutators
    pub names : new.names ≡ old.names
    pub chosen : after ≡ collecting before (marked_below m (length old.objects)) (pended_by before)
