-- What take-ups, failed openings and the handler's step leave at each slot.
use Rattle.std.proofs.Common.{◌≡◌, ℕ, ◌+◌, true, List, [], ◌∷◌, refl, sym, ◌∙◌, ap, subst, inl, Option, Some, None}
use Rattle.std.proofs.lemmas.Bool.{cond_both}
use Rattle.jlr_types.specs.declared.Fault.{Fault}
use Rattle.jlr_machine.specs.declared.object.Object.{Object}
use Rattle.jlr_machine.specs.declared.object.Object.TheVariants.{Plain, Reference, Queue, Cleaner, Cleanable, Guard}
use Rattle.jlr_machine.specs.declared.object.Reference.{Reference as ReferenceOf}
use Rattle.jlr_machine.specs.declared.object.Cleanable.{Cleanable as CleanableOf}
use Rattle.jlr_machine.specs.declared.object.Guard.{Guard as GuardOf}
use Rattle.jlr_machine.specs.declared.object.RefState.{RefState}
use Rattle.jlr_machine.specs.declared.object.RefState.TheVariants.{Fresh, Pending, Queued, Removed}
use Rattle.jlr_machine.specs.declared.object.CleanState.{CleanState}
use Rattle.jlr_machine.specs.declared.object.CleanState.TheVariants.{Armed, Pending as PendingClean, Lined, Spent}
use Rattle.jlr_machine.specs.declared.machine.Machine.{Machine}
use Rattle.jlr_machine.specs.declared.machine.ResourceState.{ResourceState}
use Rattle.jlr_machine.specs.declared.machine.ResourceState.TheVariants.{Closing}
use Rattle.jlr_machine.specs.declared.machine.Call.TheVariants.{Job as CallJob}
use Rattle.jlr_machine.specs.declared.ask.Outcome.TheVariants.{Failed}
use Rattle.jlr_machine.specs.Objects.{at, change_at, with_cleanable, is_spent}
use Rattle.jlr_machine.specs.Lookups.{with_object, with_call, rid_of, cleanable_at}
use Rattle.jlr_machine.specs.Calls.{enqueued, spent, with_work_state, taken_up, cleaned, line_taken, delivered, handed, handed_over}
use Rattle.jlr_machine.specs.Calls.{handed_reference, handed_cleanable, opened}
use Rattle.jlr_machine.specs.WellFormed.{IsReferenceAt, IsCleanableAt, IsWellFormed, FitsItsState}
use Rattle.jlr_histories.specs.Lives.{may_come_after, IsCleanableOn}
use Rattle.jlr_histories.proofs.Becomes.{with_cleanable_on, spent_on}
use Rattle.jlr_histories.proofs.Changes.{IsOver, IsQuiet, quiet, quiet_over, over_quiet, changed}
use Rattle.jlr_histories.proofs.ReferenceAsks.{enqueued_over}

-- ---- Taking up

work_state_objects : (m : Machine) (rid : Option ℕ) (state : ResourceState) → IsQuiet m (with_work_state m rid state)
work_state_objects m None state = quiet m
work_state_objects m (Some rid) state = record { objects = refl; next = refl; taken = refl }

spent_over : (P : ℕ → Type 0) (m : Machine) (s : ℕ) → IsOver P m (with_object m s (with_cleanable spent))
spent_over P m s = changed P m s (with_cleanable spent) (λ x g. with_cleanable_on (P s) spent x (λ c e. spent_on c))

-- one of the line is taken from it
abbrev pub with_line : Machine → List ℕ → Machine
with_line m line = record m { line = line }

pub taken_up_objects : (m : Machine) (line : List ℕ) (by s : ℕ) (c : CleanableOf)
    → (taken_up (with_line m line) by s c).objects ≡ change_at m.objects s (with_cleanable spent)
taken_up_objects m line by s c = (work_state_objects _ (rid_of c.work) Closing).objects

pub taken_up_count : (m : Machine) (line : List ℕ) (by s : ℕ) (c : CleanableOf) → (taken_up (with_line m line) by s c).taken ≡ m.taken + 1
taken_up_count m line by s c = (work_state_objects _ (rid_of c.work) Closing).taken

pub taken_up_over : (P : ℕ → Type 0) (m : Machine) (line : List ℕ) (by s : ℕ) (c : CleanableOf)
    → IsOver P m (taken_up (with_line m line) by s c)
taken_up_over P m line by s c =
    over_quiet P m (with_object m s (with_cleanable spent)) (taken_up (with_line m line) by s c) (spent_over P m s)
    (taken_up_objects m line by s c) (work_state_objects _ (rid_of c.work) Closing).next

pub cleaned_over : (P : ℕ → Type 0) (m : Machine) (k s : ℕ) (o : Option CleanableOf) → IsOver P m (cleaned m k s o)
cleaned_over P m k s None = quiet_over P m m (quiet m)
cleaned_over P m k s (Some c) =
    let t = taken_up_over P m m.line k s c in
    cond_both (is_spent c.state) m (with_call (taken_up m k s c) k None (CallJob c.action)) (λ z. IsOver P m z)
    (λ _. quiet_over P m m (quiet m))
    (λ _. over_quiet P m (taken_up m k s c) (with_call (taken_up m k s c) k None (CallJob c.action)) t refl refl)

pub line_over : (P : ℕ → Type 0) (m : Machine) (line : List ℕ) → IsOver P m (line_taken m line)
line_over P m [] = quiet_over P m (with_line m []) (record { objects = refl; next = refl; taken = refl })
line_over P m (s ∷ rest) =
    elim (cleanable_at m s) as (λ o. IsOver P m (elim
    o as (λ _. Machine) [ None ↦ record m { line = rest } | Some c ↦ taken_up (record m { line = rest }) 255 s c ])) [
      | None ↦ quiet_over P m (with_line m rest) (record { objects = refl; next = refl; taken = refl })
      | Some c ↦ taken_up_over P m rest 255 s c
    ]

-- a failed opening spends the cleanable of the guard
pub open_failed_over : (P : ℕ → Type 0) (m : Machine) (k : ℕ) (g : GuardOf) (fault : Fault) → IsOver P m (opened m k g (Failed fault))
open_failed_over P m k g fault =
    over_quiet P m (with_object m g.cleanable (with_cleanable spent)) (opened m k g (Failed fault)) (spent_over P m g.cleanable) refl refl

-- ---- Handing over

-- what a machine with a shorter pending list leaves
abbrev with_pending : Machine → List ℕ → Machine
with_pending m pending = record m { pending = pending }

over_pending : (P : ℕ → Type 0) (m n : Machine) (pending : List ℕ) → IsOver P (with_pending m pending) n → IsOver P m n
over_pending P m n pending a = record { follows = a.follows; next = a.next }

abbrev lined : CleanableOf → CleanableOf
lined c = record c { state = Lined }

lined_on : (c : CleanableOf) → c.state ≡ PendingClean → IsCleanableOn c (lined c)
lined_on c e = record { action = refl; work = refl; referent = inl refl; state = subst (λ s. may_come_after s Lined ≡ true) (sym e) refl }

pending_over : (P : ℕ → Type 0) (m : Machine) (rest : List ℕ) → IsOver P m (with_pending m rest)
pending_over P m rest = quiet_over P m (with_pending m rest) (record { objects = refl; next = refl; taken = refl })

reference_delivered : (P : ℕ → Type 0) (m : Machine) (rest : List ℕ) (s : ℕ) (r : ReferenceOf) (state : RefState) → IsReferenceAt m s r
    → FitsItsState r state → IsOver P m (delivered (with_pending m rest) s (handed_reference state))
reference_delivered P m rest s r Fresh e h = pending_over P m rest
reference_delivered P m rest s r Pending e h =
    over_pending P m (enqueued (with_pending m rest) s) rest (enqueued_over P (with_pending m rest) s (λ t f.
    let both : Some (Reference r) ≡ Some (Reference t) = sym e ∙ f in
    let same : r ≡ t = cc both in
    inl (ap (λ z. z.referent) (sym same) ∙ h.1)))
reference_delivered P m rest s r Queued e h = pending_over P m rest
reference_delivered P m rest s r Removed e h = pending_over P m rest

lined_over : (P : ℕ → Type 0) (m : Machine) (rest : List ℕ) (s : ℕ) (c : CleanableOf) → IsCleanableAt m s c → c.state ≡ PendingClean
    → IsOver P m (with_object (with_pending m rest) s (with_cleanable lined))
lined_over P m rest s c e h =
    over_pending P m (with_object (with_pending m rest) s (with_cleanable lined)) rest
    (changed P (with_pending m rest) s (with_cleanable lined) (λ x g. with_cleanable_on (P s) lined x (λ d f.
    let both : Some (Cleanable d) ≡ Some (Cleanable c) = ap (λ y. Some y) (sym f) ∙ sym g ∙ e in
    let same : d ≡ c = cc both in
    lined_on d (ap (λ z. z.state) same ∙ h))))

cleanable_delivered : (P : ℕ → Type 0) (m : Machine) (rest : List ℕ) (s : ℕ) (c : CleanableOf) (state : CleanState) → IsCleanableAt m s c
    → c.state ≡ state → IsOver P m (delivered (with_pending m rest) s (handed_cleanable state))
cleanable_delivered P m rest s c Armed e h = pending_over P m rest
cleanable_delivered P m rest s c PendingClean e h =
    let a = lined_over P m rest s c e h in
    over_quiet P m (with_object (with_pending m rest) s (with_cleanable lined))
    (delivered (with_pending m rest) s (handed_cleanable PendingClean)) a refl refl
cleanable_delivered P m rest s c Lined e h = pending_over P m rest
cleanable_delivered P m rest s c Spent e h = pending_over P m rest

object_delivered : (P : ℕ → Type 0) (m : Machine) → IsWellFormed m → (rest : List ℕ) (s : ℕ) (o : Object) → at m.objects s ≡ Some o
    → IsOver P m (delivered (with_pending m rest) s (handed o))
object_delivered P m w rest s (Plain x) e = pending_over P m rest
object_delivered P m w rest s (Reference r) e = reference_delivered P m rest s r r.state e (w.references.states s r e)
object_delivered P m w rest s (Queue x) e = pending_over P m rest
object_delivered P m w rest s Cleaner e = pending_over P m rest
object_delivered P m w rest s (Cleanable c) e = cleanable_delivered P m rest s c c.state e refl
object_delivered P m w rest s (Guard g) e = pending_over P m rest

pub handed_over_over : (P : ℕ → Type 0) (m : Machine) → IsWellFormed m → (slots : List ℕ) → IsOver P m (handed_over m slots)
handed_over_over P m w [] = quiet_over P m m (quiet m)
handed_over_over P m w (s ∷ rest) =
    elim (at m.objects s) as (λ o. at m.objects s ≡ o
    → IsOver P m (elim o as (λ _. Machine) [
      | None ↦ record m { pending = rest }
      | Some o ↦
          delivered (record m { pending = rest }) s (handed o)
    ])) [
      | None ↦ λ e. pending_over P m rest
      | Some o ↦ λ e. object_delivered P m w rest s o e
    ] refl
