use Rattle.std.proofs.Common.{rules, ◌≡◌, ◌+◌, ◌∷◌, [], ℕ, None, Some, Option, inl, sym, length, arith, ap, option_map, refl, subst, ◌∙◌}
use Rattle.jlr_types.specs.declared.Work.TheVariants.{Resource as WorkOn}
use Rattle.jlr_machine.specs.declared.object.Object.{Object}
use Rattle.jlr_machine.specs.declared.object.Object.TheVariants.{Cleanable}
use Rattle.jlr_machine.specs.declared.object.Cleanable.{Cleanable as CleanableOf}
use Rattle.jlr_machine.specs.declared.object.CleanState.TheVariants.{Armed}
use Rattle.jlr_machine.specs.Objects.{Table, at, change_at, set_at}
use Rattle.jlr_barrier.specs.Graphs.{Graph}
use Rattle.jlr_cleaner.specs.Cleanings.{Cleanings}
use Rattle.jlr_state.specs.State.{machine_with}
use Rattle.jlr_state.proofs.Awaiting.{armed_unspent, guarded_there, numbered_below}
use Rattle.jlr_machine.specs.declared.machine.Resource.{Resource}
use Rattle.jlr_machine.specs.declared.machine.ResourceState.{ResourceState}
use Rattle.jlr_resource.specs.Resources.{Resources, resource_state_at}
use Rattle.jlr_state.specs.Flows.{LieAsBefore}
use Rattle.jlr_machine.specs.declared.machine.ResourceState.TheVariants.{Opening}
use Rattle.jlr_state.proofs.Moving.{none_lies, none_there, numbered_table, without_value}
use Rattle.jlr_marks.specs.Marking.{IsMarked, Marking}
use Rattle.jlr_laws.proofs.Frames.{some_same}
use Rattle.jlr_machine.specs.declared.machine.Session.{Session}
use Rattle.jlr_machine.specs.declared.machine.Call.TheVariants.{Opening as CallOpening}
use Rattle.jlr_laws.proofs.Allowed.{some_there}
use Rattle.jlr_state.specs.Machines.{machine_of}
use Rattle.jlr_state.specs.Marks.{MarksNew}
use Rattle.jlr_state.proofs.Shading.{active_root, fenced_root, placed_new}
use Rattle.jlr_state.proofs.state.State.place_guard.Goals as goal

pub register-action-requires : goal.register-action-requires
register-action-requires g c =
    let long : length c.prepare.new.self.waiting ≡ length c.args.self.now.cleaner.waiting =
    ap {A = Cleanings g.row.R.Denot} {B = ℕ} (λ k. length k.waiting) c.prepare.ensures.rest in
    omega (arith, long, c.requires.waits, c.in-Some.ensures.free.second_within)

pub returns-clause-waits : goal.returns-clause-waits
returns-clause-waits g c =
    let s = c.args.self.now in
    let old = c.prepare.new.self in
    let guard = c.in-Some.made.0 in
    let place = c.in-Some.made.1 in
    let free = c.in-Some.ensures.free in
    let n = machine_with c.register-action.new.self c.begin_call.new.self.graph s.cycle_open in
    let rest = c.prepare.ensures.rest in
    let next : old.next_action ≡ s.cleaner.next_action = ap {A = Cleanings g.row.R.Denot} {B = ℕ} (λ k. k.next_action) rest in
    let waiting : old.waiting ≡ s.cleaner.waiting = ap {A = Cleanings g.row.R.Denot} {B = Table ℕ} (λ k. k.waiting) rest in
    let number = numbered_below c.register-action.result place old c.register-action.new.self
    (omega (arith, next, c.requires.places.number)) c.register-action.ensures.registered c.register-action.ensures.none in
    let action = c.new-action.result in
    let armed : CleanableOf = record { referent = Some guard; action = action; work = WorkOn c.in-Ok.rid; state = Armed } in
    let there : at c.allocate_guard.new.self.graph.objects place ≡ Some (Cleanable armed) =
    ap {A = Graph} {B = Option Object} (λ h. at h.objects place) c.in-Some.ensures.made
    ∙ guarded_there s.heap.graph.objects guard place c.in-Ok.rid action free in
    let here : at n.objects place ≡ Some (Cleanable armed) =
    ap {A = Graph} {B = Option Object} (λ h. at h.objects place) c.begin_call.ensures.graph ∙ there in
    let numbered : action ≡ s.cleaner.next_action = c.new-action.ensures ∙ c.next_action.ensures in
    let waits : c.register-action.new.self.waiting ≡ set_at old.waiting place old.next_action =
    ap {A = Cleanings g.row.R.Denot} {B = Table ℕ} (λ k. k.waiting) number in
    let later : c.register-action.new.self.next_action ≡ old.next_action + 1 =
    ap {A = Cleanings g.row.R.Denot} {B = ℕ} (λ k. k.next_action) number in
    record {
      place = place;
      inside = omega (arith, c.requires.waits, free.second_within);
      cleanable = armed;
      unspent = record { there = here; unspent = armed_unspent Armed refl };
      action = numbered;
      waits = waits ∙ ap {A = Table ℕ} {B = Table ℕ} (λ t. set_at t place old.next_action) waiting
          ∙ ap {A = ℕ} {B = Table ℕ} (set_at s.cleaner.waiting place) next;
      next = later ∙ ap {A = ℕ} {B = ℕ} (λ k. k + 1) next;
    }

pub returns-clause-lies : goal.returns-clause-lies
returns-clause-lies g c =
    let old = c.args.self.now.cleaner.table in
    let new = c.prepare.new.self.table in
    let rid = c.in-Ok.rid in
    let was : resource_state_at old rid ≡ None =
    ap {A = Option Resource} {B = Option ResourceState} (option_map (λ r. r.state)) c.in-Ok.ensures.free in
    let placed : LieAsBefore old new = without_value old new rid (none_there old rid was)
    (none_lies new rid Opening c.in-Ok.ensures.state (λ e. absurd (cc e))) c.in-Ok.ensures.others in
    subst (λ (t : Resources g.row.R.Denot). LieAsBefore old t)
    (numbered_table c.register-action.result c.in-Some.made.1 c.prepare.new.self c.register-action.new.self
    c.register-action.ensures.registered c.register-action.ensures.none) placed

-- a new guard is black
pub begin_call-requires-clause-held : goal.begin_call-requires-clause-held
begin_call-requires-clause-held g c =
    λ s e. inl (subst (λ x. IsMarked c.allocate_guard.new.self.marking x) (some_same _ s e) c.in-Some.ensures.black.2.marked)

-- both are black; the guard is held by the fence, and its cleanable is Armed
pub returns-clause-marks : goal.returns-clause-marks
returns-clause-marks g c =
    let s = c.args.self.now in
    let k = c.args.by in
    let guard = c.in-Some.made.0 in
    let place = c.in-Some.made.1 in
    let rid = c.in-Ok.rid in
    let n = machine_with c.register-action.new.self c.begin_call.new.self.graph s.cycle_open in
    let armed : CleanableOf = record { referent = Some guard; action = c.new-action.result; work = WorkOn rid; state = Armed } in
    let made : at c.allocate_guard.new.self.graph.objects place ≡ Some (Cleanable armed) =
    ap {A = Graph} {B = Option Object} (λ h. at h.objects place) c.in-Some.ensures.made
    ∙ guarded_there s.heap.graph.objects guard place rid c.new-action.result c.in-Some.ensures.free in
    let here : at n.objects place ≡ Some (Cleanable armed) =
    ap {A = Graph} {B = Option Object} (λ h. at h.objects place) c.begin_call.ensures.graph ∙ made in
    let session = some_there (at s.heap.graph.mutators k) c.requires.places.joined in
    let held : n.mutators ≡ change_at s.heap.graph.mutators k (λ (x : Session). record x { fence = Some guard; call = CallOpening rid }) =
    ap {A = Graph} {B = Table Session} (λ h. h.mutators) c.begin_call.ensures.graph
    ∙ ap {A = Graph} {B = Table Session} (λ h. change_at h.mutators k
    (λ (x : Session). record x { fence = Some guard; call = CallOpening rid })) c.in-Some.ensures.made in
    let fresh : c.add_fresh-2.new.self.chosen.fresh ≡ guard ∷ place ∷ [] = search rules in
    subst (λ (x : Marking). MarksNew (machine_of s) s.heap.marking c.add_fresh-2.new.self.chosen n x) (sym c.begin_call.ensures.marking)
    (placed_new (machine_of s) n s.heap.marking c.in-Some.ensures.black.0 c.allocate_guard.new.self.marking c.add_fresh-2.new.self.chosen
    guard place c.in-Some.ensures.black.1 c.in-Some.ensures.black.2 c.in-Some.ensures.count fresh
    (fenced_root n k guard session.0 (CallOpening rid) s.heap.graph.mutators session.1 held)
    (active_root n place armed here refl))
