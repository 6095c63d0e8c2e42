-- A legal entry leads from a well-formed machine to a well-formed one.
use Rattle.std.proofs.Common.{ℕ, List, [], ◌∷◌, refl, sym, subst, Some, None}
use Rattle.jlr_machine.specs.declared.machine.Machine.{Machine}
use Rattle.jlr_machine.specs.declared.ask.Outcome.TheVariants.{Ok as OutcomeOk, Failed}
use Rattle.jlr_machine.specs.declared.ask.Ask.{Ask}
use Rattle.jlr_machine.specs.declared.ask.Ask.TheVariants.{Join, Leave, New, Put, Get, SetInt, Int, Dup, Drop, Same, MakeRef, Deref, Refers}
use Rattle.jlr_machine.specs.declared.ask.Ask.TheVariants.{Clear, Enqueue, Enqueued, MakeQueue, Poll, Remove, MakeCleaner, Register, Clean}
use Rattle.jlr_machine.specs.declared.ask.Ask.TheVariants.{Prepare, Opened, CheckOut, CheckIn, Close, Finish, Bind, Find, Unbind}
use Rattle.jlr_machine.specs.declared.ask.Ask.TheVariants.{Full, HandOver, TakeUp, Begin, Collect, Abandon, Array}
use Rattle.jlr_machine.specs.declared.ask.Answer.{Answer}
use Rattle.jlr_machine.specs.declared.entry.Entry.{Entry}
use Rattle.jlr_machine.specs.Chosen.{Chosen}
use Rattle.jlr_machine.specs.Collection.{after_collection}
use Rattle.jlr_machine.specs.Run.{MayCollect, Answers, with_collection, IsFresh, IsCarriedOut, IsLegal, Run, carried, done, apply}
use Rattle.jlr_machine.specs.WellFormed.{IsWellFormed}
use Rattle.jlr_machine.specs.Run.IsLegal.{carried_out, refused, heap_full, out_of_memory}
use Rattle.jlr_laws.proofs.SeenKept.{keeps_seen}
use Rattle.jlr_laws.proofs.LegalKept.{keeps_full, keeps_refused, keeps_out_of_memory, keeps_heap_full, entry, no_need, keeps_plainly}
use Rattle.jlr_laws.proofs.LegalKept.{keeps_making, keeps_Full, keeps_Collect, make_ref_refusal, register_refusal}
use Rattle.jlr_laws.proofs.keeps.Heap.{keeps_Join, keeps_Leave, keeps_Dup, keeps_Drop, keeps_New, keeps_Array, keeps_Put, keeps_SetInt}
use Rattle.jlr_laws.proofs.keeps.Heap.{keeps_Get}
use Rattle.jlr_laws.proofs.keeps.References.{keeps_MakeQueue, keeps_MakeRef, keeps_Deref, keeps_Clear, keeps_Enqueue, keeps_Poll}
use Rattle.jlr_laws.proofs.keeps.References.{keeps_Remove}
use Rattle.jlr_laws.proofs.keeps.Calls.{keeps_check_out, keeps_check_in, keeps_opened}
use Rattle.jlr_laws.proofs.keeps.OpenFailed.{keeps_open_failed}
use Rattle.jlr_laws.proofs.keeps.TakeUps.{keeps_close, keeps_clean, keeps_take_up}
use Rattle.jlr_laws.proofs.keeps.Finish.{keeps_finish}
use Rattle.jlr_laws.proofs.keeps.Prepare.{keeps_prepare}
use Rattle.jlr_laws.proofs.keeps.Register.{keeps_register}
use Rattle.jlr_laws.proofs.keeps.HandOver.{keeps_HandOver}
use Rattle.jlr_laws.proofs.NamesKept.{keeps_Bind, keeps_Unbind, keeps_Find, keeps_MakeCleaner, keeps_Begin, keeps_Abandon}

prepare_kept : (m : Machine) → IsWellFormed m → (seat k : ℕ) (answer : Answer) (choice : Chosen)
    → IsCarriedOut m (entry seat (Prepare k) answer choice) → IsWellFormed (done m (entry seat (Prepare k) answer choice))
prepare_kept m w seat k answer choice c =
    elim (choice.collected) as (λ o. MayCollect m (Prepare k) o → IsFresh (with_collection m o).objects 2 choice.fresh
    → Answers (with_collection m o) (Prepare k) o answer
    → IsWellFormed (carried (with_collection m o) (Prepare k) answer choice.fresh)) [
      | None ↦ λ h f a. subst (λ x. IsWellFormed (carried m (Prepare k) x choice.fresh)) (sym a.3)
          (keeps_prepare m k a.0 choice.fresh w c.allowed a.2 f)
      | Some x ↦ λ h f a.
          let n = after_collection m x.kept x.pending in
          subst (λ y. IsWellFormed (carried n (Prepare k) y choice.fresh)) (sym a.3)
          (keeps_prepare n k a.0 choice.fresh (keeps_full m w x.kept x.pending h.1.full) c.allowed a.2 f)
    ] c.collection c.fresh c.answers

-- each ask leaves a well-formed machine before what was seen is brought up to date
keeps_done : (m : Machine) → IsWellFormed m → (seat : ℕ) (ask : Ask) (answer : Answer) (choice : Chosen)
    → IsCarriedOut m (entry seat ask answer choice) → IsWellFormed (done m (entry seat ask answer choice))
keeps_done m w seat (Join k) answer choice c =
    keeps_plainly m w seat (Join k) answer choice c (λ x h. no_need m h.0) (keeps_Join m w k c.allowed)
keeps_done m w seat (Leave k) answer choice c =
    keeps_plainly m w seat (Leave k) answer choice c (λ x h. no_need m h.0) (keeps_Leave m w k c.allowed)
keeps_done m w seat (New k layout) answer choice c =
    keeps_making m w seat (New k layout) answer choice c (λ x h. h.1.full) (λ x h. refl)
    (λ n v r f. keeps_New n v k layout r answer choice.fresh f)
keeps_done m w seat (Put k h f v) answer choice c =
    keeps_plainly m w seat (Put k h f v) answer choice c (λ x h. no_need m h.0) (keeps_Put m w k h f v c.allowed)
keeps_done m w seat (Get k h f) answer choice c =
    keeps_plainly m w seat (Get k h f) answer choice c (λ x h. no_need m h.0) (keeps_Get m w k h f c.allowed)
keeps_done m w seat (SetInt k h f v) answer choice c =
    keeps_plainly m w seat (SetInt k h f v) answer choice c (λ x h. no_need m h.0) (keeps_SetInt m w k h f v c.allowed)
keeps_done m w seat (Int k h f) answer choice c = keeps_plainly m w seat (Int k h f) answer choice c (λ x h. no_need m h.0) (λ a fresh. w)
keeps_done m w seat (Dup k h) answer choice c =
    keeps_plainly m w seat (Dup k h) answer choice c (λ x h. no_need m h.0) (keeps_Dup m w k h c.allowed)
keeps_done m w seat (Drop k h) answer choice c =
    keeps_plainly m w seat (Drop k h) answer choice c (λ x h. no_need m h.0) (keeps_Drop m w k h c.allowed)
keeps_done m w seat (Same k h g) answer choice c = keeps_plainly m w seat (Same k h g) answer choice c (λ x h. no_need m h.0) (λ a fresh. w)
keeps_done m w seat (MakeRef k kind h q) answer choice c =
    keeps_making m w seat (MakeRef k kind h q) answer choice c (λ x h. h.1.full) (λ x g. make_ref_refusal m w x.kept x.pending g k kind h q)
    (λ n v r f. keeps_MakeRef n v k kind h q r answer choice.fresh f)
keeps_done m w seat (Deref k h) answer choice c =
    keeps_plainly m w seat (Deref k h) answer choice c (λ x h. no_need m h.0) (keeps_Deref m w k h c.allowed)
keeps_done m w seat (Refers k r h) answer choice c =
    keeps_plainly m w seat (Refers k r h) answer choice c (λ x h. no_need m h.0) (λ a fresh. w)
keeps_done m w seat (Clear k h) answer choice c =
    keeps_plainly m w seat (Clear k h) answer choice c (λ x h. no_need m h.0) (keeps_Clear m w k h c.allowed)
keeps_done m w seat (Enqueue k h) answer choice c =
    keeps_plainly m w seat (Enqueue k h) answer choice c (λ x h. no_need m h.0) (keeps_Enqueue m w k h c.allowed)
keeps_done m w seat (Enqueued k h) answer choice c =
    keeps_plainly m w seat (Enqueued k h) answer choice c (λ x h. no_need m h.0) (λ a fresh. w)
keeps_done m w seat (MakeQueue k) answer choice c =
    keeps_making m w seat (MakeQueue k) answer choice c (λ x h. h.1.full) (λ x h. refl)
    (λ n v r f. keeps_MakeQueue n v k r answer choice.fresh f)
keeps_done m w seat (Poll k h) answer choice c =
    keeps_plainly m w seat (Poll k h) answer choice c (λ x h. no_need m h.0) (keeps_Poll m w k h c.allowed)
keeps_done m w seat (Remove k h) answer choice c =
    keeps_plainly m w seat (Remove k h) answer choice c (λ x h. no_need m h.0) (keeps_Remove m w k h c.allowed)
keeps_done m w seat (MakeCleaner k) answer choice c =
    keeps_making m w seat (MakeCleaner k) answer choice c (λ x h. h.1.full) (λ x h. refl)
    (λ n v r f. keeps_MakeCleaner n v k r answer choice.fresh f)
keeps_done m w seat (Register k g h note) answer choice c =
    keeps_making m w seat (Register k g h note) answer choice c (λ x h. h.1.full)
    (λ x p. register_refusal m w x.kept x.pending p k g h note) (λ n v r f. keeps_register n k g h note answer choice.fresh v r f)
keeps_done m w seat (Clean k h) answer choice c =
    keeps_plainly m w seat (Clean k h) answer choice c (λ x h. no_need m h.0) (λ a fresh. keeps_clean m k h a fresh w c.allowed)
keeps_done m w seat (Prepare k) answer choice c = prepare_kept m w seat k answer choice c
keeps_done m w seat (Opened k OutcomeOk) answer choice c =
    keeps_plainly m w seat (Opened k OutcomeOk) answer choice c (λ x h. no_need m h.0) (λ a fresh. keeps_opened m k a fresh w c.allowed)
keeps_done m w seat (Opened k (Failed fault)) answer choice c =
    keeps_plainly m w seat (Opened k (Failed fault)) answer choice c (λ x h. no_need m h.0)
    (λ a fresh. keeps_open_failed m k fault a fresh w c.allowed)
keeps_done m w seat (CheckOut k h) answer choice c =
    keeps_plainly m w seat (CheckOut k h) answer choice c (λ x h. no_need m h.0) (λ a fresh. keeps_check_out m k h a fresh w c.allowed)
keeps_done m w seat (CheckIn k outcome) answer choice c =
    keeps_plainly m w seat (CheckIn k outcome) answer choice c (λ x h. no_need m h.0)
    (λ a fresh. keeps_check_in m k outcome a fresh w c.allowed)
keeps_done m w seat (Close k h) answer choice c =
    keeps_plainly m w seat (Close k h) answer choice c (λ x h. no_need m h.0) (λ a fresh. keeps_close m k h a fresh w c.allowed)
keeps_done m w seat (Finish by action outcome) answer choice c =
    keeps_plainly m w seat (Finish by action outcome) answer choice c (λ x h. no_need m h.0)
    (λ a fresh. keeps_finish m by action outcome a fresh w c.allowed)
keeps_done m w seat (Bind k name h) answer choice c =
    keeps_plainly m w seat (Bind k name h) answer choice c (λ x h. no_need m h.0) (keeps_Bind m w k name h c.allowed)
keeps_done m w seat (Find k name) answer choice c =
    keeps_plainly m w seat (Find k name) answer choice c (λ x h. no_need m h.0) (keeps_Find m w k name c.allowed)
keeps_done m w seat (Unbind k name) answer choice c =
    keeps_plainly m w seat (Unbind k name) answer choice c (λ x h. no_need m h.0) (keeps_Unbind m w k name)
keeps_done m w seat (Full k mode) answer choice c = keeps_Full m w seat k mode answer choice c
keeps_done m w seat HandOver answer choice c =
    keeps_plainly m w seat HandOver answer choice c (λ x h. no_need m h.0) (keeps_HandOver m w c.allowed)
keeps_done m w seat TakeUp answer choice c =
    keeps_plainly m w seat TakeUp answer choice c (λ x h. no_need m h.0) (λ a fresh. keeps_take_up m a fresh w c.allowed)
keeps_done m w seat Begin answer choice c =
    keeps_plainly m w seat Begin answer choice c (λ x h. no_need m h.0) (keeps_Begin m w)
keeps_done m w seat Collect answer choice c = keeps_Collect m w seat answer choice c
keeps_done m w seat (Array k n) answer choice c =
    keeps_making m w seat (Array k n) answer choice c (λ x h. h.1.full) (λ x h. refl)
    (λ l v r f. keeps_Array l v k n r answer choice.fresh f)
keeps_done m w seat Abandon answer choice c = keeps_plainly m w seat Abandon answer choice c (λ x h. no_need m h.0) (keeps_Abandon m w)
keeps_done m w seat asked answer choice c = keeps_plainly m w seat asked answer choice c (λ x h. no_need m h.0) (λ a fresh. w)

carried_out_kept : (m : Machine) → IsWellFormed m → (seat : ℕ) (ask : Ask) (answer : Answer) (choice : Chosen)
    → IsCarriedOut m (entry seat ask answer choice) → IsWellFormed (apply m (entry seat ask answer choice))
carried_out_kept m w seat ask answer choice c = keeps_seen (done m (entry seat ask answer choice)) (keeps_done m w seat ask answer choice c)

pub legal_kept : (m : Machine) (e : Entry) → IsWellFormed m → IsLegal m e → IsWellFormed (apply m e)
legal_kept m e w (carried_out c) = carried_out_kept m w e.seat e.ask e.answer e.choice c
legal_kept m e w (refused c) = keeps_refused m e w c
legal_kept m e w (heap_full c) = keeps_heap_full m e w c
legal_kept m e w (out_of_memory c) = keeps_out_of_memory m e w c

pub run_kept : (m n : Machine) (entries : List Entry) → IsWellFormed m → Run m entries n → IsWellFormed n
run_kept m n [] w r = subst IsWellFormed (sym r) w
run_kept m n (e ∷ entries) w r = run_kept (apply m e) n entries (legal_kept m e w r.0) r.1
