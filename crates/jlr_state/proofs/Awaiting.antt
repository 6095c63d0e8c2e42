-- The actions of all unspent cleanables wait, from event to event.
use Rattle.std.proofs.Common.{◌≡◌, ◌≢◌, ◌==◌, true, ◌+◌, ◌-◌, ◌^◌, ◌<◌, ℕ, List, [], Option, Some, None, IfNone, IfSome, inl, inr, refl}
use Rattle.std.proofs.Common.{sym, ◌∙◌, ap, subst, arith, length, option_map, replicate, slice_set}
use Rattle.std.proofs.lemmas.Bool.{cases_lt, eqb-true}
use Rattle.std.proofs.lemmas.List.{length-set, length-replicate}
use Rattle.jlr_machine.specs.declared.machine.Machine.{Machine}
use Rattle.jlr_machine.specs.declared.object.Object.{Object}
use Rattle.jlr_machine.specs.declared.object.Object.TheVariants.{Cleanable, Guard}
use Rattle.jlr_machine.specs.declared.machine.Job.{Job as JobOf}
use Rattle.jlr_machine.specs.declared.ask.Outcome.{Outcome}
use Rattle.jlr_machine.specs.declared.ask.Outcome.TheVariants.{Ok as OutcomeOk, Failed}
use Rattle.jlr_types.specs.declared.Work.TheVariants.{Resource as WorkOn}
use Rattle.jlr_barrier.specs.Guards.{AreFree, with_guard}
use Rattle.jlr_machine.specs.declared.object.Cleanable.{Cleanable as CleanableOf}
use Rattle.jlr_machine.specs.declared.object.CleanState.{CleanState}
use Rattle.jlr_machine.specs.declared.object.CleanState.TheVariants.{Armed, Spent}
use Rattle.jlr_machine.specs.declared.ask.Ask.{Ask}
use Rattle.jlr_machine.specs.declared.ask.Answer.{Answer}
use Rattle.jlr_machine.specs.Chosen.{Chosen}
use Rattle.jlr_machine.specs.declared.entry.Entry.{Entry}
use Rattle.jlr_machine.specs.Objects.{Heap, Table, at, change_at, set_at, with_cleanable}
use Rattle.jlr_machine.specs.Calls.{spent}
use Rattle.jlr_machine.specs.Choices.{Choosing}
use Rattle.jlr_machine.specs.Run.{IsLegal, done, empty_from, with_collection}
use Rattle.jlr_machine.specs.WellFormed.{IsCleanableAt, IsUnspent, IsWellFormed}
use Rattle.jlr_laws.proofs.Changes.{cleanable_same}
use Rattle.jlr_laws.proofs.Frames.{no_some, set_other, set_same, place_within}
use Rattle.jlr_histories.proofs.TakenOnce.{unspent_back}
use Rattle.jlr_histories.specs.CycleLaws.{with_seen}
use Rattle.jlr_histories.proofs.Left.{leaves_the_same}
use Rattle.jlr_laws.proofs.Allowed.{some_and_gives}
use Rattle.jlr_marks.specs.Marking.{Marking}
use Rattle.jlr_cleaner.specs.Jobs.{is_job_of, job_in}
use Rattle.jlr_cleaner.specs.Cleanings.{Cleanings, after_finish, after_register, after_take_up}
use Rattle.jlr_cleaner.proofs.Registering.{nothing_there}
use Rattle.jlr_state.specs.State.{entry_of}
use Rattle.jlr_state.specs.Events.{StepsMachine}
use Rattle.jlr_state.specs.Collecting.{Allocates}
use Rattle.jlr_state.specs.Waiting.{AllWait, Registers, Releases, WaitAsBefore, WaitsOn}
use Rattle.jlr_state.proofs.Stepping.{IsLegalSome, IsUnseen, Left, met, picked_fit}

-- in an empty machine nothing is to wait
pub none_waits : (cells sessions limit next : ℕ) (waiting : Table ℕ) → waiting ≡ replicate cells None
    → AllWait (empty_from cells sessions limit next) waiting
none_waits cells sessions limit next waiting is =
    record {
      places = ap length is ∙ length-replicate {A = Option ℕ} cells None ∙ sym (length-replicate {A = Option Object} cells None);
      actions = λ s c u. no_some (Cleanable c) (sym (nothing_there cells s) ∙ u.there);
    }

-- an unspent cleanable with an action that was given before was there before, with it
abbrev Back : Machine → Machine → Type 0
Back m n = (s : ℕ) (d : CleanableOf) → IsUnspent n s d → d.action < m.next_action → (c : CleanableOf) × IsUnspent m s c
    × (d.action ≡ c.action)

back_by : (m : Machine) (slots : List ℕ) (e : Entry) → IsWellFormed (with_seen m slots) → IsLegal (with_seen m slots) e
    → Back m (with_seen (done m e) [])
back_by m slots e w l s d u small =
    let v = subst (λ (x : Machine). IsUnspent x s d) (sym (leaves_the_same m slots e)) u in
    let b = unspent_back (with_seen m slots) e w l s d (record { there = v.there; unspent = v.unspent }) small in
    (b.0, record { there = b.1.there; unspent = b.1.unspent }, b.2)

back_legal : (m n : Machine) (marking : Marking) (ask : Ask) (answer : Answer) (chosen : Chosen) → IsWellFormed m
    → IsLegalSome m marking ask answer chosen → Left m ask answer chosen n → Back m n
back_legal m n marking ask answer chosen w l left =
    subst (Back m) (sym left) (back_by m l.0 (entry_of ask answer chosen) (picked_fit m marking l.0 w l.1) l.2)

back_from : (m n : Machine) (marking : Marking) (ask : Option Ask) (answer : Option Answer) (chosen : Chosen) → IsUnseen m → IsUnseen n
    → IsWellFormed m → StepsMachine m marking ask answer chosen n → Back m n
back_from m n marking (Some ask) (Some answer) chosen before unseen w s = let l = met m marking ask answer chosen n before unseen s in
    back_legal m n marking ask answer chosen w l.0 l.1
back_from m n marking (Some ask) None chosen before unseen w s = absurd s
back_from m n marking None (Some answer) chosen before unseen w s = absurd s
back_from m n marking None None chosen before unseen w s = subst (Back m) (sym s.1) (λ x d u small. (d, u, refl))

module _ {R : Type 0} (m n : Machine) (old new : Cleanings R) (wn : IsWellFormed n) (back : Back m n)
    (number : m.next_action ≡ old.next_action) (number' : n.next_action ≡ new.next_action) (long : length n.objects ≡ length m.objects)
    (all : AllWait m old.waiting) where
  waited : (s : ℕ) (d : CleanableOf) → IsUnspent n s d → d.action < old.next_action → at old.waiting s ≡ Some d.action
  waited s d u small = let b = back s d u (omega (arith, small, number)) in all.actions s b.0 b.1 ∙ ap (λ (a : ℕ). Some a) (sym b.2)

  given : (s : ℕ) (d : CleanableOf) → IsUnspent n s d → d.action < new.next_action
  given s d u = omega (arith, (wn.actions.of_cleanables s d u.there).1, number')

  registered : Registers n old new → AllWait n new.waiting
  registered r =
      record {
        places = ap length r.waits ∙ length-set old.waiting r.place (Some old.next_action) ∙ all.places ∙ sym long;
        actions = λ s d u. elim (cases_lt d.action old.next_action) [
          | inl small ↦
              let apart : s ≢ r.place = λ e.
              let same : d ≡ r.cleanable =
              cleanable_same n r.place d r.cleanable (subst (λ x. IsCleanableAt n x d) e u.there) r.unspent.there in
              absurd (omega (arith, small, r.action, ap (λ (x : CleanableOf). x.action) same)) in
              ap (λ (t : Table ℕ). at t s) r.waits ∙ set_other old.waiting r.place s (Some old.next_action) apart ∙ waited s d u small
          | inr large ↦
              let is : d.action ≡ old.next_action = omega (arith, large, given s d u, r.next) in
              let here : s ≡ r.place = wn.actions.cleanables s r.place d r.cleanable u r.unspent (is ∙ sym r.action) in
              ap (λ (t : Table ℕ). at t s) r.waits ∙ ap (at (set_at old.waiting r.place old.next_action)) here
              ∙ set_same old.waiting r.place (Some old.next_action) r.inside ∙ ap (λ (a : ℕ). Some a) (sym is)
        ];
      }

  released : Releases n old new → AllWait n new.waiting
  released r =
      record {
        places = ap length r.waits ∙ length-set old.waiting r.place None ∙ all.places ∙ sym long;
        actions = λ s d u.
            let apart : s ≢ r.place = λ e. r.spent d (subst (λ x. IsUnspent n x d) e u) in
            ap (λ (t : Table ℕ). at t s) r.waits ∙ set_other old.waiting r.place s None apart
            ∙ waited s d u (omega (arith, given s d u, r.next));
      }

  waits_on : WaitsOn n old new → AllWait n new.waiting
  waits_on (inl same) =
      record {
        places = ap length same.0 ∙ all.places ∙ sym long;
        actions = λ s d u. ap (λ (t : Table ℕ). at t s) same.0 ∙ waited s d u (omega (arith, given s d u, same.1));
      }
  waits_on (inr (inl r)) = registered r
  waits_on (inr (inr r)) = released r

pub all_wait_after :
    {R : Type 0} (m n : Machine) (marking : Marking) (old new : Cleanings R) (ask : Option Ask) (answer : Option Answer) (chosen : Chosen)
    → IsUnseen m → IsUnseen n → IsWellFormed m → IsWellFormed n → m.next_action ≡ old.next_action → n.next_action ≡ new.next_action
    → length n.objects ≡ length m.objects → StepsMachine m marking ask answer chosen n → AllWait m old.waiting → WaitsOn n old new
    → AllWait n new.waiting
all_wait_after m n marking old new ask answer chosen before unseen w wn number number' long s all on =
    waits_on m n old new wn (back_from m n marking ask answer chosen before unseen w s) number number' long all on

-- ---- Where an action is registered, and where one waits no more

-- the number that was given, where one is left
pub numbered_below : {R : Type 0} (o : Option ℕ) (place : ℕ) (old new : Cleanings R) → old.next_action + 1 < 2 ^ 64
    → IfSome o (λ _. new ≡ after_register old place) → IfNone o ((old.next_action ≡ 2 ^ 64 - 1) × (new ≡ old))
    → new ≡ after_register old place
numbered_below None place old new left given none = absurd (omega (arith, none.0, left))
numbered_below (Some action) place old new left given none = given

-- a cleanable that was made Spent at a slot is not unspent there
pub none_unspent : (m n : Machine) (s : ℕ) (c : CleanableOf) → IsCleanableAt m s c
    → n.objects ≡ change_at m.objects s (with_cleanable spent) → (d : CleanableOf) → IsUnspent n s d → ⊥
none_unspent m n s c there left d u =
    let within = place_within m.objects s (Cleanable c) there in
    let here : at n.objects s ≡ Some (Cleanable (spent c)) = ap (λ (h : Heap). at h s) left
    ∙ ap (λ (o : Option Object). at (slice_set m.objects s (option_map (with_cleanable spent) o)) s) there
    ∙ set_same m.objects s (Some (Cleanable (spent c))) within in
    let same : d ≡ spent c = cleanable_same n s d (spent c) u.there here in
    u.unspent (ap (λ (x : CleanableOf). x.state) same)

-- a new object is there
pub made_there : (m mid : Machine) (o : Object) (new : Choosing) (slot : ℕ) → Allocates m o new slot mid → (slot < length mid.objects)
    × (at mid.objects slot ≡ Some o)
made_there m mid o new slot a =
    let heap = (with_collection m new.chosen.collected).objects in
    let is : mid.objects ≡ set_at heap slot o = ap (λ (x : Machine). x.objects) a.left in (
      subst (λ (h : Heap). slot < length h) (sym is) (subst (λ k. slot < k) (sym (length-set heap slot (Some o))) a.inside),
      ap (λ (h : Heap). at h slot) is ∙ set_same heap slot (Some o) a.inside,
    )

pub armed_unspent : (state : CleanState) → state ≡ Armed → state ≢ Spent
armed_unspent state armed spent_too = absurd (cc (armed, spent_too))

-- an action is registered for a new cleanable that is Armed
pub registers : {R : Type 0} (n : Machine) (old new : Cleanings R) (place : ℕ) (c : CleanableOf) → place < length old.waiting
    → IsCleanableAt n place c → c.state ≡ Armed → c.action ≡ old.next_action → new ≡ after_register old place → Registers n old new
registers {R} n old new place c inside there armed action is =
    record {
      place = place;
      inside = inside;
      cleanable = c;
      unspent = record { there = there; unspent = armed_unspent c.state armed };
      action = action;
      waits = ap {A = Cleanings R} {B = Table ℕ} (λ k. k.waiting) is;
      next = ap {A = Cleanings R} {B = ℕ} (λ k. k.next_action) is;
    }

-- an outcome that is recorded registers nothing
finished_waits_as : {R : Type 0} (old : Cleanings R) (job : JobOf) (outcome : Outcome) → WaitAsBefore old (after_finish old job outcome)
finished_waits_as old job OutcomeOk = (refl, refl)
finished_waits_as old job (Failed fault) = (refl, refl)

pub finished_waits : {R : Type 0} (old new : Cleanings R) (by action : ℕ) (outcome : Outcome) → is_job_of old.jobs by action ≡ true
    → ((job : JobOf) → job_in old.jobs action ≡ Some job → job.by ≡ by → new ≡ after_finish old job outcome) → WaitAsBefore old new
finished_waits old new by action outcome runs finished =
    let job = some_and_gives (λ job. job.by == by) (job_in old.jobs action) runs in
    subst (WaitAsBefore old) (sym (finished job.0 job.1 (eqb-true job.0.by by job.2))) (finished_waits_as old job.0 outcome)

-- the cleanable of a new guard is there
pub guarded_there : (heap : Heap) (guard place rid action : ℕ) → AreFree heap guard place
    → at (with_guard heap guard place rid action) place
    ≡ Some (Cleanable (record { referent = Some guard; action = action; work = WorkOn rid; state = Armed }))
guarded_there heap guard place rid action free =
    let first : Object = Guard (record { rid = rid; cleanable = place }) in
    set_same (set_at heap guard first) place (Some (Cleanable
    (record { referent = Some guard; action = action; work = WorkOn rid; state = Armed })))
    (subst (λ k. place < k) (sym (length-set heap guard (Some first))) free.second_within)

-- what is taken up waits no more
pub releases : {R : Type 0} (n : Machine) (old new : Cleanings R) (place : ℕ) (job : JobOf) → ((c : CleanableOf) → IsUnspent n place c → ⊥)
    → new ≡ after_take_up old place job → Releases n old new
releases {R} n old new place job none is =
    record {
      place = place;
      spent = none;
      waits = ap {A = Cleanings R} {B = Table ℕ} (λ k. k.waiting) is;
      next = ap {A = Cleanings R} {B = ℕ} (λ k. k.next_action) is;
    }
