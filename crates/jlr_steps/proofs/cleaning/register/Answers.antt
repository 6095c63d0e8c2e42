use Rattle.std.proofs.Common.{◌≡◌, ◌-◌, ◌^◌, ◌<◌, ℕ, nat_le, false, Some, inl, inr, length, arith, refl, sym, ap, subst, ◌∙◌}
use Rattle.jlr_machine.specs.declared.object.Cleanable.{Cleanable as CleanableOf}
use Rattle.jlr_machine.specs.Objects.{Heap, at}
use Rattle.jlr_types.specs.declared.Refusal.{Refusal}
use Rattle.jlr_types.specs.declared.Refusal.TheVariants.{NoMemory}
use Rattle.jlr_types.specs.declared.Work.TheVariants.{Note}
use Rattle.jlr_machine.specs.declared.object.Object.TheVariants.{Cleanable}
use Rattle.jlr_machine.specs.declared.object.CleanState.TheVariants.{Armed}
use Rattle.jlr_machine.specs.declared.ask.Ask.TheVariants.{Register}
use Rattle.jlr_machine.specs.declared.ask.Answer.TheVariants.{Refused}
use Rattle.jlr_machine.specs.Chosen.{Chosen}
use Rattle.jlr_machine.specs.Choices.{Choosing}
use Rattle.jlr_machine.specs.Lookups.{with_handle}
use Rattle.jlr_cleaner.specs.Cleanings.{Cleanings}
use Rattle.jlr_state.specs.Machines.{machine_of}
use Rattle.jlr_state.specs.State.{Meets, machine_with}
use Rattle.jlr_state.specs.Collecting.{Allocates}
use Rattle.jlr_state.proofs.Entries.{meets_full, meets_refused, meets_registered, never_memory}
use Rattle.jlr_state.specs.Waiting.{Registers}
use Rattle.jlr_state.proofs.Awaiting.{made_there, registers}
use Rattle.jlr_state.proofs.TakeUps.{numbered}
use Rattle.jlr_laws.proofs.Clearing.{in_option}
use Rattle.jlr_state.proofs.Hands.{named_held}
use Rattle.jlr_marks.specs.Marking.{Marking}
use Rattle.jlr_state.specs.Marks.{BlackensMade}
use Rattle.jlr_state.proofs.Shading.{full_new, given_new}
use Rattle.jlr_steps.proofs.cleaning.register.Goals as goal

pub returns-in-Err-clause-meets : goal.returns-in-Err-clause-meets
returns-in-Err-clause-meets g c =
    let m = machine_of c.args.state.now in
    let ask = Register c.args.by c.args.cleaner c.args.object c.args.note in
    subst (λ (x : Chosen). Meets m ask (Refused c.in-Err.refusal) x m) (sym (ap (λ (x : Choosing). x.chosen) c.requires.nothing))
    (meets_refused m ask c.in-Err.refusal (c.in-Err.ensures c.args.note))

pub returns-in-Err-clause-memory : goal.returns-in-Err-clause-memory
returns-in-Err-clause-memory g c =
    λ e.
    let memory_refusal : c.in-Err.refusal ≡ NoMemory = cc e in
    never_memory (machine_of c.args.state.now) (Register c.args.by c.args.cleaner c.args.object c.args.note) c.in-Err.refusal refl
    (c.in-Err.ensures c.args.note) memory_refusal

pub returns-in-Err-allocate-clause-meets : goal.returns-in-Err-allocate-clause-meets
returns-in-Err-allocate-clause-meets g c =
    let m = machine_of c.args.state.now in
    let n = machine_of c.allocate.new.self in
    let ask = Register c.args.by c.args.cleaner c.args.object c.args.note in
    subst (λ (r : Refusal). Meets m ask (Refused r) c.allocate.new.choice.chosen n) (sym c.in-Err-allocate.ensures.full.0)
    (meets_full m 1 ask c.allocate.new.choice n (c.in-Ok.ensures.0 c.args.note) refl c.in-Err-allocate.ensures.full.1)

pub returns-in-Ok-allocate-clause-meets : goal.returns-in-Ok-allocate-clause-meets
returns-in-Ok-allocate-clause-meets g c =
    let s = c.args.state.now in
    let m = machine_of s in
    let mid = machine_of c.allocate.new.self in
    let same = c.in-Ok-allocate.ensures.rest.cleaner in
    let left = subst (λ (k : Cleanings g.row.R.Denot). nat_le (2 ^ 64 - 1) k.next_action ≡ false) (sym same) c.in-Ok.ensures.3 in
    let number = numbered c.register-action.result c.in-Ok-allocate.slot c.allocate.new.self.cleaner c.register-action.new.self left
    c.register-action.ensures.registered c.register-action.ensures.none in
    let made = subst (λ (k : ℕ). Allocates m (Cleanable
    (record { referent = Some c.in-Ok.target; action = k; work = Note c.args.note; state = Armed })) c.allocate.new.choice
    c.in-Ok-allocate.slot mid) (c.new.ensures ∙ c.next_action.ensures) c.in-Ok-allocate.ensures.allocates in
    meets_registered m mid (machine_of c.give.new.self) c.args.by c.in-Ok-allocate.slot c.args.cleaner c.args.object c.args.note
    c.in-Ok.target c.allocate.new.choice c.give.result (c.in-Ok.ensures.0 c.args.note) c.in-Ok.ensures.1 made c.give.ensures.answer
    (c.give.ensures.held ∙ ap (λ (k : Cleanings g.row.R.Denot). with_handle
    (machine_with k c.allocate.new.self.heap.graph c.allocate.new.self.cycle_open) c.args.by c.in-Ok-allocate.slot) number)

pub returns-in-Ok-allocate-clause-waits : goal.returns-in-Ok-allocate-clause-waits
returns-in-Ok-allocate-clause-waits g c =
    let s = c.args.state.now in
    let mid = c.allocate.new.self in
    let slot = c.in-Ok-allocate.slot in
    let n = machine_of c.give.new.self in
    let same = c.in-Ok-allocate.ensures.rest.cleaner in
    let left = subst (λ (k : Cleanings g.row.R.Denot). nat_le (2 ^ 64 - 1) k.next_action ≡ false) (sym same) c.in-Ok.ensures.3 in
    let number = numbered c.register-action.result slot mid.cleaner c.register-action.new.self left c.register-action.ensures.registered
    c.register-action.ensures.none in
    let made = made_there (machine_of s) (machine_of mid) _ c.allocate.new.choice slot c.in-Ok-allocate.ensures.allocates in
    let armed : CleanableOf = record { referent = Some c.in-Ok.target; action = c.new.result; work = Note c.args.note; state = Armed } in
    let there : at n.objects slot ≡ Some (Cleanable armed) = ap (λ (h : Heap). at h slot) c.give.ensures.objects ∙ made.1 in
    let action : c.new.result ≡ mid.cleaner.next_action = c.new.ensures ∙ c.next_action.ensures
    ∙ ap {A = Cleanings g.row.R.Denot} {B = ℕ} (λ k. k.next_action) (sym same) in
    let long : length mid.cleaner.waiting ≡ length s.cleaner.waiting =
    ap {A = Cleanings g.row.R.Denot} {B = ℕ} (λ k. length k.waiting) same in
    let inside : slot < length mid.cleaner.waiting =
    omega (arith, made.0, long, c.requires.waits.places, c.in-Ok-allocate.ensures.rest.cells) in
    let registered =
    registers n mid.cleaner c.give.new.self.cleaner slot armed inside there refl action
    (c.give.ensures.rest.cleaner ∙ number) in
    inr (inl (subst (λ (k : Cleanings g.row.R.Denot). Registers n k c.give.new.self.cleaner) same registered))

-- a handle names what it is registered for
pub allocate-requires-clause-held : goal.allocate-requires-clause-held
allocate-requires-clause-held g c =
    λ s h. named_held (machine_of c.args.state.now) c.args.by c.args.object s (c.in-Ok.ensures.1 ∙ in_option s (Some c.in-Ok.target) h)

-- it has a handle, and is black
pub returns-in-Ok-allocate-clause-marks : goal.returns-in-Ok-allocate-clause-marks
returns-in-Ok-allocate-clause-marks g c =
    let s = c.args.state.now in
    let mid = c.allocate.new.self in
    let slot = c.in-Ok-allocate.slot in
    let one = subst (λ (k : Marking). BlackensMade c.allocate.new.choice.chosen slot s.heap.marking k) (sym c.give.ensures.marking)
    c.in-Ok-allocate.ensures.one in
    given_new (machine_of s) (machine_of mid) (machine_with c.register-action.new.self mid.heap.graph mid.cycle_open) _ _ s.heap.marking _
    c.allocate.new.choice c.args.by slot c.requires.fit c.in-Ok-allocate.ensures.allocates one c.in-Ok.ensures.2 refl refl
    c.give.ensures.held

pub returns-in-Err-allocate-clause-marks : goal.returns-in-Err-allocate-clause-marks
returns-in-Err-allocate-clause-marks g c = let s = c.args.state.now in
    full_new (machine_of s) _ 1 s.heap.marking _ c.allocate.new.choice c.in-Err-allocate.ensures.full.1
