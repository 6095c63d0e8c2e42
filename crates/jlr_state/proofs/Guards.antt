-- The guards that calls hold, and those that they name.
use Rattle.std.proofs.Common.{◌≡◌, ◌==◌, ◌&&◌, ◌||◌, ℕ, ◌≤◌, inl, inr, Bool, true, false, not, [], ◌∷◌, Option, Some, None, is_none}
use Rattle.std.proofs.Common.{is_some, IsTrue, refl, sym, ◌∙◌, ap, subst, arith, nat_lt, option_and_then, option_map}
use Rattle.std.proofs.lemmas.Bool.{both_ways, lt-ltb}
use Rattle.jlr_types.specs.declared.Refusal.TheVariants.{Busy, Closed, NoHandle, NoSession, NotOut, Null, WrongKind}
use Rattle.jlr_types.specs.declared.Work.TheVariants.{Resource as WorkOn}
use Rattle.jlr_machine.specs.declared.machine.Machine.{Machine}
use Rattle.jlr_machine.specs.declared.machine.Session.{Session}
use Rattle.jlr_machine.specs.declared.machine.Resource.{Resource}
use Rattle.jlr_machine.specs.declared.machine.Call.{Call}
use Rattle.jlr_machine.specs.declared.machine.Call.TheVariants.{Opening as CallOpening, Out as CallOut}
use Rattle.jlr_machine.specs.declared.machine.ResourceState.{ResourceState}
use Rattle.jlr_machine.specs.declared.machine.ResourceState.TheVariants.{Closing, Idle, Opening, Out}
use Rattle.jlr_machine.specs.declared.object.Object.{Object}
use Rattle.jlr_machine.specs.declared.object.Object.TheVariants.{Guard}
use Rattle.jlr_machine.specs.declared.object.Guard.{Guard as GuardOf}
use Rattle.jlr_machine.specs.declared.object.Cleanable.{Cleanable as CleanableOf}
use Rattle.jlr_machine.specs.declared.object.CleanState.{CleanState}
use Rattle.jlr_machine.specs.declared.object.CleanState.TheVariants.{Armed, Lined, Pending, Spent}
use Rattle.jlr_machine.specs.declared.ask.Ask.TheVariants.{CheckIn, CheckOut, Close, Opened}
use Rattle.jlr_machine.specs.declared.ask.Answer.{Answer}
use Rattle.jlr_machine.specs.declared.ask.Answer.TheVariants.{Out as OutAnswer}
use Rattle.jlr_machine.specs.declared.ask.Outcome.{Outcome}
use Rattle.jlr_machine.specs.declared.ask.CallOutcome.{CallOutcome}
use Rattle.jlr_machine.specs.Objects.{as_cleanable, as_guard, at, is_spent, occupied, some_and}
use Rattle.jlr_machine.specs.Lookups.{cleanable_at, cleanable_of_guard, guard_named, has_free_handle, object_named, on, resource_at}
use Rattle.jlr_machine.specs.Lookups.{slot_named, with_call, with_state}
use Rattle.jlr_machine.specs.Refusals.{applies, has_call, is_cleanable, is_closed, is_guard, is_joined, is_opening, is_out, is_out_call}
use Rattle.jlr_machine.specs.Refusals.{is_out_state, refusal}
use Rattle.jlr_machine.specs.Calls.{after, checked_in, checked_out, fence_of, guard_at, guard_fenced, opened, reply}
use Rattle.jlr_machine.specs.WellFormed.{FitsItsCall, HasResource, IsCleanableAt, IsFencing, IsGuardAt, IsOwnGuard, IsSessionAt}
use Rattle.jlr_machine.specs.WellFormed.{IsWellFormed, OpeningHasRoom}
use Rattle.jlr_laws.proofs.Allowed.{named_of_slot}
use Rattle.jlr_laws.proofs.Frames.{no_some, some_same}
use Rattle.jlr_resource.specs.Resources.{state_in}
use Rattle.jlr_state.specs.declared.resources.Guarded.{Guarded}
use Rattle.jlr_state.specs.Guards.{HoldsGuard, IsGuardNamed, IsIdleAt, fenced_guard, is_spent_at}
use Rattle.jlr_state.proofs.Entries.{skip}

pub record Holds (m : Machine) (k : ℕ) (state : ResourceState) : Type 0 where
  pub held : Guarded
  pub under : fenced_guard m k ≡ Some held
  pub holds : HoldsGuard m k held state

of_fence : (m : Machine) (k rid : ℕ) (s : Session) (state : ResourceState) → IsSessionAt m k s → IsFencing m s rid state → Holds m k state
of_fence m k rid s state there f =
    let fence : fence_of m k ≡ Some f.0 = ap (option_and_then (λ (z : Session). z.fence)) there ∙ f.3 in
    let guard : guard_at m f.0 ≡ Some f.1 = ap (option_and_then as_guard) f.4 in
    record {
      held = record { slot = f.0; guard = f.1 };
      under = ap {A = Option ℕ} {B = Option Guarded} (option_and_then
          (λ z. option_map (λ (g : GuardOf). record { slot = z; guard = g }) (guard_at m z))) fence
          ∙ ap {A = Option GuardOf} {B = Option Guarded} (option_map (λ g. record { slot = f.0; guard = g })) guard;
      holds = record {
        joined = ap is_some there;
        fence = fence;
        guard = f.4;
        cleanable = ap (some_and is_cleanable) f.6;
        resource = ap (state_in m.resources) f.5 ∙ ap {A = Option Resource} {B = Option ResourceState} (option_map (λ r. r.state)) f.8;
      };
    }

pub opening_holds : (m : Machine) (k rid : ℕ) (s : Session) → IsWellFormed m → IsSessionAt m k s → s.call ≡ CallOpening rid
    → Holds m k Opening
opening_holds m k rid s w there e = of_fence m k rid s Opening there (subst (FitsItsCall m k s) e (w.calls.calls k s there))

pub out_holds : (m : Machine) (k rid : ℕ) (s : Session) → IsWellFormed m → IsSessionAt m k s → s.call ≡ CallOut rid → Holds m k Out
out_holds m k rid s w there e = of_fence m k rid s Out there (subst (FitsItsCall m k s) e (w.calls.calls k s there))

-- an open has a handle left for its guard
pub opening_has_room : (m : Machine) (k rid : ℕ) (s : Session) → IsWellFormed m → IsSessionAt m k s → s.call ≡ CallOpening rid
    → has_free_handle m k ≡ true
opening_has_room m k rid s w there e =
    let few : occupied s.handles ≤ 249 = subst (OpeningHasRoom s) e (w.sessions.opening k s there) in
    ap (some_and (λ (z : Session). nat_lt (occupied z.handles) 250)) there ∙ lt-ltb (occupied s.handles) 250 (omega (arith, few))

-- ---- A call that begins or ends leaves the handles

-- ---- The call of a mutator

pub call_there : (m : Machine) (k : ℕ) (x : Call) → Some x ≡ option_map (λ (s : Session). s.call) (at m.mutators k) → (s : Session)
    × IsSessionAt m k s × (s.call ≡ x)
call_there m k x e =
    elim (at m.mutators k) as (λ o. Some x ≡ option_map (λ (s : Session). s.call) o → (s : Session) × (o ≡ Some s) × (s.call ≡ x)) [
      | None ↦ λ f. no_some x (sym f)
      | Some s ↦ λ f. (s, refl, sym (some_same x s.call f))
    ] e

pub opened_allowed : (m : Machine) (k rid : ℕ) (s : Session) (outcome : Outcome) → IsSessionAt m k s → s.call ≡ CallOpening rid
    → refusal m (Opened k outcome) ≡ None
opened_allowed m k rid s outcome there e =
    let p = applies m (Opened k outcome) in
    skip p NoSession (NotOut ∷ []) None (ap (λ (o : Option Session). not (is_some o)) there)
    (skip p NotOut [] None (ap (λ (o : Option Session). not (some_and (λ z. is_opening z.call) o)) there
    ∙ ap (λ (x : Call). not (is_opening x)) e) refl)

pub check_in_allowed : (m : Machine) (k rid : ℕ) (s : Session) (outcome : CallOutcome) → IsSessionAt m k s → s.call ≡ CallOut rid
    → refusal m (CheckIn k outcome) ≡ None
check_in_allowed m k rid s outcome there e =
    let p = applies m (CheckIn k outcome) in
    skip p NoSession (NotOut ∷ []) None (ap (λ (o : Option Session). not (is_some o)) there)
    (skip p NotOut [] None (ap (λ (o : Option Session). not (some_and (λ z. is_out_call z.call) o)) there
    ∙ ap (λ (x : Call). not (is_out_call x)) e) refl)

-- ---- What an end leaves

held_guard : (m : Machine) (k : ℕ) (held : Guarded) (state : ResourceState) → HoldsGuard m k held state → guard_fenced m k ≡ Some held.guard
held_guard m k held state h = ap (option_and_then (guard_at m)) h.fence ∙ ap (option_and_then as_guard) h.guard

pub opened_is : (m : Machine) (k : ℕ) (held : Guarded) (state : ResourceState) (outcome : Outcome) (a : Answer) → HoldsGuard m k held state
    → opened m k held.guard outcome ≡ after m (Opened k outcome) a []
opened_is m k held state outcome a h = ap (λ (o : Option GuardOf). on o (λ g. opened m k g outcome) m) (sym (held_guard m k held state h))

pub checked_in_is : (m : Machine) (k : ℕ) (held : Guarded) (state : ResourceState) (outcome : CallOutcome) (a : Answer)
    → HoldsGuard m k held state → checked_in m k held.guard ≡ after m (CheckIn k outcome) a []
checked_in_is m k held state outcome a h = ap (λ (o : Option GuardOf). on o (checked_in m k) m) (sym (held_guard m k held state h))

-- ---- A guard that is named

object_is : (m : Machine) (k h s : ℕ) (o : Object) → slot_named m k h ≡ Some s → at m.objects s ≡ Some o → object_named m k h ≡ Some o
object_is m k h s o named there = ap (option_and_then (at m.objects)) named ∙ there

guard_is : (m : Machine) (k h : ℕ) (held : Guarded) → IsGuardNamed m k h held → guard_named m k h ≡ Some held.guard
guard_is m k h held n = ap (option_and_then as_guard) (object_is m k h held.slot (Guard held.guard) n.named n.guard)

-- the resource of a guard that is named lies in the table, where it is not closed and not out: a guard under way is named by nobody
pub guard_idle :
    (m : Machine) (k h s : ℕ) (g : GuardOf) (c : CleanableOf) → IsWellFormed m → slot_named m k h ≡ Some s → IsGuardAt m s g
    → IsCleanableAt m g.cleanable c → (c.state ≡ Spent → ⊥)
    → some_and (λ r. is_out_state r.state) (resource_at m g.rid) ≡ false → (c.work ≡ WorkOn g.rid) × HasResource m g.rid c.action Idle
guard_idle m k h s g c w named there cleanable unspent not_out =
    let own : IsOwnGuard m s g c = elim (w.resources.guards s g c there cleanable) [ inl spent ↦ absurd (unspent spent) | inr own ↦ own ] in
    let r = w.resources.of_cleanables g.cleanable g.rid c (record { there = cleanable; unspent = unspent }) own.work in
    let names = named_of_slot m k h s w named in (
      own.work,
      elim (r.0) as (λ state. HasResource m g.rid c.action state → (state ≡ Closing → ⊥) → HasResource m g.rid c.action Idle) [
        | Opening ↦ λ x _. absurd (w.unnamed.handles k h s names.0 names.2.session_there names.2.handle
            (inr (g, c, there, cleanable, own.armed, x)))
        | Idle ↦ λ x _. x
        | Out ↦ λ x _. absurd (both_ways (some_and (λ r. is_out_state r.state) (resource_at m g.rid)) not_out
            (ap (some_and (λ (z : Resource). is_out_state z.state)) x))
        | Closing ↦ λ _ never. absurd (never refl)
      ] r.1 r.2,
    )

not_spent : (c : CleanableOf) → is_spent c.state ≡ false → c.state ≡ Spent → ⊥
not_spent c f e = both_ways (is_spent c.state) f (ap is_spent e)

pub use_idle : (m : Machine) (k h : ℕ) (held : Guarded) → IsWellFormed m → IsGuardNamed m k h held
    → is_spent_at m held.guard.cleanable ≡ false → some_and (λ r. is_out_state r.state) (resource_at m held.guard.rid) ≡ false
    → state_in m.resources held.guard.rid ≡ Some Idle
use_idle m k h held w n open_still not_out =
    let c = w.slots.guarded held.slot held.guard n.guard in
    let spent : is_spent c.0.state ≡ false = sym (ap
    (λ (o : Option Object). some_and (λ (x : CleanableOf). is_spent x.state) (option_and_then as_cleanable o)) c.1) ∙ open_still in
    let r = guard_idle m k h held.slot held.guard c.0 w n.named n.guard c.1 (not_spent c.0 spent) not_out in
    ap {A = Option Resource} {B = Option ResourceState} (option_map (λ z. z.state)) r.1

unspent_is : (state : CleanState) → (state ≡ Spent → ⊥) → is_spent state ≡ false
unspent_is Armed d = refl
unspent_is Pending d = refl
unspent_is Lined d = refl
unspent_is Spent d = absurd (d refl)

pub close_idle : (m : Machine) (k h : ℕ) (held : Guarded) → IsWellFormed m → IsGuardNamed m k h held
    → (not (is_spent_at m held.guard.cleanable) && some_and (λ r. is_out_state r.state) (resource_at m held.guard.rid)) ≡ false
    → IsIdleAt m held.guard.cleanable
close_idle m k h held w n not_busy c cleanable unspent rid work =
    let live : is_spent_at m held.guard.cleanable ≡ false =
    ap (λ (o : Option Object). some_and (λ (x : CleanableOf). is_spent x.state) (option_and_then as_cleanable o)) cleanable
    ∙ unspent_is c.state unspent in
    let not_out = sym (ap (λ b. not b && some_and (λ r. is_out_state r.state) (resource_at m held.guard.rid)) live) ∙ not_busy in
    let r = guard_idle m k h held.slot held.guard c w n.named n.guard cleanable unspent not_out in
    let both : WorkOn held.guard.rid ≡ WorkOn rid = sym r.0 ∙ work in
    let same : held.guard.rid ≡ rid = cc both in
    subst (λ x. HasResource m x c.action Idle) same r.1

pub cleanable_of_named : (m : Machine) (k h : ℕ) (held : Guarded) → IsWellFormed m → IsGuardNamed m k h held
    → (cleanable_of_guard m k h ≡ Some held.guard.cleanable) × IsTrue (some_and is_cleanable (at m.objects held.guard.cleanable))
cleanable_of_named m k h held w n = (
  ap (option_map (λ (g : GuardOf). g.cleanable)) (guard_is m k h held n),
  ap (some_and is_cleanable) (w.slots.guarded held.slot held.guard n.guard).1,
)

-- ---- The asks on it are not refused

or_none : (b : Bool) → b ≡ false → (b || false) ≡ false
or_none b e = ap (λ x. x || false) e

pub use_allowed :
    (m : Machine) (k h : ℕ) (held : Guarded) → is_joined m k ≡ true → (not (h == 0) && is_none (slot_named m k h)) ≡ false
    → (h == 0) ≡ false → IsGuardNamed m k h held
    → is_spent_at m held.guard.cleanable ≡ false → some_and (λ r. is_out_state r.state) (resource_at m held.guard.rid) ≡ false
    → has_call m k ≡ false → refusal m (CheckOut k h) ≡ None
use_allowed m k h held joined in_use not_null n open_still not_out no_call =
    let p = applies m (CheckOut k h) in
    let there = object_is m k h held.slot (Guard held.guard) n.named n.guard in
    let closed : is_closed m k h ≡ false = ap (λ (o : Option GuardOf). some_and (λ c. is_spent c.state)
    (option_and_then (cleanable_at m) (option_map (λ g. g.cleanable) o))) (guard_is m k h held n) ∙ open_still in
    let out : is_out m k h ≡ false =
    ap (λ b. not b && some_and (λ r. is_out_state r.state) (option_and_then (λ (g : GuardOf). resource_at m g.rid) (guard_named m k h)))
    closed
    ∙ ap (λ (o : Option GuardOf). some_and (λ r. is_out_state r.state) (option_and_then (λ g. resource_at m g.rid) o))
    (guard_is m k h held n) ∙ not_out in
    skip p NoSession (NoHandle ∷ Null ∷ WrongKind ∷ Closed ∷ Busy ∷ []) None (ap not joined)
    (skip p NoHandle (Null ∷ WrongKind ∷ Closed ∷ Busy ∷ []) None (or_none (not (h == 0) && is_none (slot_named m k h)) in_use)
    (skip p Null (WrongKind ∷ Closed ∷ Busy ∷ []) None (ap (λ b. (b && true) || false) not_null)
    (skip p WrongKind (Closed ∷ Busy ∷ []) None (ap (λ (o : Option Object). some_and (λ x. not (is_guard x)) o || false) there)
    (skip p Closed (Busy ∷ []) None closed
    (skip p Busy [] None (ap (λ b. b || has_call m k) out ∙ no_call) refl)))))

out_of : (m : Machine) (k h : ℕ) (held : Guarded) → IsGuardNamed m k h held
    → is_out m k h ≡ (not (is_spent_at m held.guard.cleanable) && some_and (λ r. is_out_state r.state) (resource_at m held.guard.rid))
out_of m k h held n =
    ap (λ (o : Option GuardOf). not (some_and (λ c. is_spent c.state) (option_and_then (cleanable_at m) (option_map (λ g. g.cleanable) o)))
    && some_and (λ r. is_out_state r.state) (option_and_then (λ g. resource_at m g.rid) o)) (guard_is m k h held n)

pub close_allowed :
    (m : Machine) (k h : ℕ) (held : Guarded) → is_joined m k ≡ true → (not (h == 0) && is_none (slot_named m k h)) ≡ false
    → (h == 0) ≡ false → IsGuardNamed m k h held
    → (not (is_spent_at m held.guard.cleanable) && some_and (λ r. is_out_state r.state) (resource_at m held.guard.rid)) ≡ false
    → has_call m k ≡ false → refusal m (Close k h) ≡ None
close_allowed m k h held joined in_use not_null n not_busy no_call =
    let p = applies m (Close k h) in
    let there = object_is m k h held.slot (Guard held.guard) n.named n.guard in
    let out : is_out m k h ≡ false = out_of m k h held n ∙ not_busy in
    skip p NoSession (NoHandle ∷ Null ∷ WrongKind ∷ Busy ∷ []) None (ap not joined)
    (skip p NoHandle (Null ∷ WrongKind ∷ Busy ∷ []) None (or_none (not (h == 0) && is_none (slot_named m k h)) in_use)
    (skip p Null (WrongKind ∷ Busy ∷ []) None (ap (λ b. (b && true) || false) not_null)
    (skip p WrongKind (Busy ∷ []) None (ap (λ (o : Option Object). some_and (λ x. not (is_guard x)) o || false) there)
    (skip p Busy [] None (ap (λ b. b || has_call m k) out ∙ no_call) refl))))

-- ---- What a call that begins leaves

pub out_reply : (m : Machine) (k h : ℕ) (held : Guarded) → IsGuardNamed m k h held
    → reply m (CheckOut k h) ≡ Some (OutAnswer held.guard.rid)
out_reply m k h held n = ap (option_map (λ (g : GuardOf). OutAnswer g.rid)) (guard_is m k h held n)

pub checked_out_is : (m : Machine) (k h : ℕ) (held : Guarded) (a : Answer) → IsGuardNamed m k h held
    → with_call (with_state m held.guard.rid Out) k (Some held.slot) (CallOut held.guard.rid) ≡ after m (CheckOut k h) a []
checked_out_is m k h held a n =
    ap (λ (o : Option ℕ). checked_out m k o held.guard) (sym n.named)
    ∙ ap (λ (o : Option GuardOf). on o (checked_out m k (slot_named m k h)) m) (sym (guard_is m k h held n))
