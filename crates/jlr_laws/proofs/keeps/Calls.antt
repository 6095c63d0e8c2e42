-- CheckOut, CheckIn and a successful Opened lead from a well-formed machine to a well-formed one.
use Rattle.std.proofs.Common.{◌≡◌, ℕ, suc, ◌≤◌, Bool, true, false, ◌&&◌, ◌||◌, List, [], ◌∷◌, length, refl, sym, ◌∙◌, ap, subst, ◌⊎◌, inl}
use Rattle.std.proofs.Common.{inr, arith, Option, Some, None, drop, option_and_then}
use Rattle.std.proofs.lemmas.Bool.{or_parts, both_ways}
use Rattle.std.proofs.lemmas.List.{length-set}
use Rattle.jlr_types.specs.declared.Refusal.TheVariants.{Busy, Closed, NoHandle, NotOut, Null, WrongKind}
use Rattle.jlr_machine.specs.declared.object.Object.TheVariants.{Guard}
use Rattle.jlr_machine.specs.declared.object.Cleanable.{Cleanable as CleanableOf}
use Rattle.jlr_machine.specs.declared.object.Guard.{Guard as GuardOf}
use Rattle.jlr_machine.specs.declared.object.CleanState.TheVariants.{Armed, Spent}
use Rattle.jlr_machine.specs.declared.machine.Machine.{Machine}
use Rattle.jlr_machine.specs.declared.machine.Session.{Session}
use Rattle.jlr_machine.specs.declared.machine.Call.{Call}
use Rattle.jlr_machine.specs.declared.machine.Call.TheVariants.{Free, Opening as CallOpening, Out as CallOut, Job as CallJob}
use Rattle.jlr_machine.specs.declared.machine.ResourceState.{ResourceState}
use Rattle.jlr_machine.specs.declared.machine.ResourceState.TheVariants.{Opening, Idle, Out, Closing}
use Rattle.jlr_machine.specs.declared.ask.Ask.TheVariants.{CheckOut, CheckIn, Opened}
use Rattle.jlr_machine.specs.declared.ask.Answer.{Answer}
use Rattle.jlr_machine.specs.declared.ask.Outcome.TheVariants.{Ok as OutcomeOk}
use Rattle.jlr_machine.specs.declared.ask.CallOutcome.{CallOutcome}
use Rattle.jlr_machine.specs.Objects.{Table, at, set_at, change_at, first_free, as_guard, is_spent}
use Rattle.jlr_machine.specs.Lookups.{free_handle, with_handle, with_call, with_state, on, slot_named}
use Rattle.jlr_machine.specs.Refusals.{refusal, has_call, is_out, is_out_state, is_guard}
use Rattle.jlr_machine.specs.Calls.{after, checked_out, checked_in, opened, fence_of, guard_fenced, guard_at, with_given}
use Rattle.jlr_machine.specs.WellFormed.{IsWellFormed, IsSessionAt, IsGuardAt, IsCleanableAt, HasResource, FitsItsCall, IsOwnGuard}
use Rattle.jlr_machine.specs.WellFormed.{IsCallOf}
use Rattle.jlr_laws.proofs.Frames.{some_same, set_cases, set_other, change_as_long}
use Rattle.jlr_laws.proofs.Changes.{change_here, change_beside, resource_same, resource_moved, IsElsewhere}
use Rattle.jlr_laws.proofs.Allowed.{allowed, free_session, opening_session, out_session, IsNamed, only_operand, guard_of, closed_is, out_is}
use Rattle.jlr_laws.proofs.Restated.{restated_is_well_formed}

-- ---- Who else has to do with a resource

-- only the mutator at k calls on this resource, if it is Opening or Out
pub record IsCaller (m : Machine) (k rid : ℕ) (was : ResourceState) : Type 0 where
  pub by_opening : was ≡ Opening → IsCallOf m k (CallOpening rid)
  pub by_out : was ≡ Out → IsCallOf m k (CallOut rid)

pub no_one_else : (m : Machine) (k rid action : ℕ) (was : ResourceState) → IsWellFormed m → HasResource m rid action was
    → IsCaller m k rid was → (j : ℕ) (s : Session) → (j ≡ k → ⊥) → IsSessionAt m j s → IsElsewhere s rid
no_one_else m k rid action was w h c j s d e =
    record {
      not_opening = λ f.
          let fence = subst (λ z. FitsItsCall m j s z) f (w.calls.calls j s e) in
          let both = resource_same m rid fence.2.action action Opening was fence.8 h in
          d (w.calls.one_call j k (CallOpening rid) (s, e, f) (c.by_opening (sym both.1)) (λ z. absurd (cc z)));
      not_out = λ f.
          let fence = subst (λ z. FitsItsCall m j s z) f (w.calls.calls j s e) in
          let both = resource_same m rid fence.2.action action Out was fence.8 h in
          d (w.calls.one_call j k (CallOut rid) (s, e, f) (c.by_out (sym both.1)) (λ z. absurd (cc z)));
    }

-- ---- The guard that a mutator names, with its cleanable and its resource

pub record IsOpenGuard (m : Machine) (t : ℕ) (g : GuardOf) (c : CleanableOf) (state : ResourceState) : Type 0 where
  pub guard : IsGuardAt m t g
  pub cleanable : IsCleanableAt m g.cleanable c
  pub own : IsOwnGuard m t g c
  pub resource : HasResource m g.rid c.action state
  pub not_closing : state ≡ Closing → ⊥
  pub not_opening : state ≡ Opening → ⊥

pub not_spent : (c : CleanableOf) → is_spent c.state ≡ false → c.state ≡ Spent → ⊥
not_spent c e f = both_ways (is_spent c.state) e (ap is_spent f)

pub idle_if : (state : ResourceState) → (state ≡ Closing → ⊥) → (state ≡ Opening → ⊥) → is_out_state state ≡ false → state ≡ Idle
idle_if Opening a b e = absurd (b refl)
idle_if Idle a b e = refl
idle_if Out a b e = absurd (cc e)
idle_if Closing a b e = absurd (a refl)

-- its cleanable is not Spent
pub open_guard : (m : Machine) (k h t : ℕ) (session : Session) (g : GuardOf) (c : CleanableOf) → IsWellFormed m
    → IsNamed m k h t session (Guard g) → IsCleanableAt m g.cleanable c → (c.state ≡ Spent → ⊥)
    → (state : ResourceState) × IsOpenGuard m t g c state
open_guard m k h t session g c w i e d =
    elim (w.resources.guards t g c i.there e) [
      | inl s ↦ absurd (d s)
      | inr own ↦
          let r = w.resources.of_cleanables g.cleanable g.rid c (record { there = e; unspent = d }) own.work in (
            r.0,
            record {
              guard = i.there;
              cleanable = e;
              own = own;
              resource = r.1;
              not_closing = r.2;
              not_opening = λ o. w.unnamed.handles k h t session i.session_there i.handle
                  (inr (g, c, i.there, e, own.armed, resource_moved m g.rid c.action c.action r.0 Opening refl o r.1));
            },
          )
    ]

-- ---- CheckOut

abbrev pub calling : Option ℕ → Call → Session → Session
calling fence call s = record s { fence = fence; call = call }

pub checks_out : (m : Machine) (k h t : ℕ) (session : Session) (g : GuardOf) (c : CleanableOf) → IsWellFormed m
    → IsNamed m k h t session (Guard g) → session.call ≡ Free
    → IsOpenGuard m t g c Idle → IsWellFormed (with_call (with_state m g.rid Out) k (Some t) (CallOut g.rid))
checks_out m k h t session g c w i free x =
    restated_is_well_formed m (change_at m.mutators k (calling (Some t) (CallOut g.rid))) k session
    (calling (Some t) (CallOut g.rid) session) t g c Idle Out w
    (record {
      as_many = change_as_long m.mutators k (calling (Some t) (CallOut g.rid));
      there = i.session_there;
      here = change_here m.mutators k (calling (Some t) (CallOut g.rid)) session i.session_there;
      others = λ j d. change_beside m.mutators k j (calling (Some t) (CallOut g.rid)) d;
      guard = x.guard;
      cleanable = x.cleanable;
      armed = x.own.armed;
      resource = x.resource;
      was_not_closing = λ e. absurd (cc e);
      not_closing = λ e. absurd (cc e);
      not_opening = λ e. absurd (cc e);
      alone = no_one_else m k g.rid c.action Idle w x.resource (record { by_opening = λ e. absurd (cc e); by_out = λ e. absurd (cc e) });
      old_opening = λ rid e. absurd (cc (free, e));
      old_out = λ rid e. absurd (cc (free, e));
      old_job = λ action e. absurd (cc (free, e));
      new_out = λ _. refl;
      new_call = inr (refl, refl);
      free_fence = λ e. absurd (cc e);
      out_fence = λ _. refl;
      places = w.sessions.places k session i.session_there;
      handles = λ h s e. inl e;
    })

pub not_busy : (a b : Bool) → (a || (true && b)) ≡ false → (a ≡ false) × (b ≡ false)
not_busy a b e = or_parts a b e

pub keeps_check_out : (m : Machine) (k h : ℕ) (a : Answer) (fresh : List ℕ) → IsWellFormed m → refusal m (CheckOut k h) ≡ None
    → IsWellFormed (after m (CheckOut k h) a fresh)
keeps_check_out m k h a fresh w r =
    let ok = allowed m (CheckOut k h) r in
    let o = only_operand m k h is_guard w (ok NoHandle refl) (ok Null refl) (ok WrongKind refl) in
    let g = guard_of o.2 o.4 in
    let named : IsNamed m k h o.0 o.1 (Guard g.0) = subst (λ z. IsNamed m k h o.0 o.1 z) g.1 o.3 in
    let c = w.slots.guarded o.0 g.0 named.there in
    let busy = not_busy (is_out m k h) (has_call m k) (ok Busy refl) in
    let closed = closed_is m k h g.0 c.0 named.named c.1 in
    let x = open_guard m k h o.0 o.1 g.0 c.0 w named c.1 (not_spent c.0 (sym closed ∙ (ok Closed refl))) in
    let idle = idle_if x.0 x.1.not_closing x.1.not_opening
    (sym (out_is m k h g.0 (record { rid = g.0.rid; action = c.0.action; state = x.0 }) named.named x.1.resource (ok Closed refl))
    ∙ busy.0) in
    let done = checks_out m k h o.0 o.1 g.0 c.0 w named (free_session m k o.1 named.session_there busy.1)
    (subst (λ z. IsOpenGuard m o.0 g.0 c.0 z) idle x.1) in
    subst (λ z. IsWellFormed (on z (checked_out m k (slot_named m k h)) m)) (sym (ap (option_and_then as_guard) named.named))
    (subst (λ z. IsWellFormed (checked_out m k z g.0)) (sym named.slot) done)

-- ---- CheckIn and a successful Opened

-- what the fence of a call in flight is on
pub fence_on : (m : Machine) (k : ℕ) (session : Session) (t : ℕ) → IsSessionAt m k session → session.fence ≡ Some t → fence_of m k ≡ Some t
fence_on m k session t e f = ap (option_and_then (λ s. s.fence)) e ∙ f

pub guard_on : (m : Machine) (k : ℕ) (session : Session) (t : ℕ) (g : GuardOf) → IsSessionAt m k session → session.fence ≡ Some t
    → IsGuardAt m t g → guard_fenced m k ≡ Some g
guard_on m k session t g e f h = ap (option_and_then (guard_at m)) (fence_on m k session t e f) ∙ ap (option_and_then as_guard) h

pub record IsEnding (m : Machine) (k : ℕ) (session : Session) (t : ℕ) (g : GuardOf) (c : CleanableOf) (was : ResourceState) : Type 0 where
  pub session_there : IsSessionAt m k session
  pub fence : session.fence ≡ Some t
  pub guard : IsGuardAt m t g
  pub cleanable : IsCleanableAt m g.cleanable c
  pub armed : c.state ≡ Armed
  pub resource : HasResource m g.rid c.action was
  pub not_closing : was ≡ Closing → ⊥
  pub caller : IsCaller m k g.rid was
  pub opening_only : (rid : ℕ) → session.call ≡ CallOpening rid → rid ≡ g.rid
  pub out_only : (rid : ℕ) → session.call ≡ CallOut rid → rid ≡ g.rid
  pub no_job : (action : ℕ) → session.call ≡ CallJob action → ⊥

-- back to Idle, with these handles
pub ends_well : (m : Machine) (mutators : Table Session) (k : ℕ) (session : Session) (t : ℕ) (g : GuardOf) (c : CleanableOf)
    (was : ResourceState) (handles : Table ℕ) → IsWellFormed m → IsEnding m k session t g c was
    → at mutators k ≡ Some (record session { handles = handles; fence = None; call = Free })
    → ((j : ℕ) → (j ≡ k → ⊥) → at mutators j ≡ at m.mutators j)
    → length mutators ≡ length m.mutators
    → (length handles ≡ 251) × (at handles 0 ≡ None)
    → ((h s : ℕ) → at handles h ≡ Some s → (at session.handles h ≡ Some s) ⊎ (s ≡ t))
    → IsWellFormed (record (with_state m g.rid Idle) { mutators = mutators })
ends_well m mutators k session t g c was handles w x here others as_many places held =
    restated_is_well_formed m mutators k session (record session { handles = handles; fence = None; call = Free }) t g c was Idle w
    (record {
      as_many = as_many;
      there = x.session_there;
      here = here;
      others = others;
      guard = x.guard;
      cleanable = x.cleanable;
      armed = x.armed;
      resource = x.resource;
      was_not_closing = x.not_closing;
      not_closing = λ e. absurd (cc e);
      not_opening = λ e. absurd (cc e);
      alone = no_one_else m k g.rid c.action was w x.resource x.caller;
      old_opening = x.opening_only;
      old_out = x.out_only;
      old_job = x.no_job;
      new_out = λ e. absurd (cc e);
      new_call = inl refl;
      free_fence = λ _. refl;
      out_fence = λ e. absurd (cc e);
      places = places;
      handles = held;
    })

pub out_ends : (m : Machine) (k : ℕ) (session : Session) (rid : ℕ) → IsWellFormed m → IsSessionAt m k session → session.call ≡ CallOut rid
    → (t : ℕ) × (g : GuardOf) × (c : CleanableOf) × IsEnding m k session t g c Out
out_ends m k session rid w e f =
    let fence = subst (λ z. FitsItsCall m k session z) f (w.calls.calls k session e) in (
      fence.0,
      fence.1,
      fence.2,
      record {
        session_there = e;
        fence = fence.3;
        guard = fence.4;
        cleanable = fence.6;
        armed = fence.7;
        resource = subst (λ z. HasResource m z fence.2.action Out) (sym fence.5) fence.8;
        not_closing = λ z. absurd (cc z);
        caller = record { by_opening = λ z. absurd (cc z); by_out = λ _. (session, e, f ∙ ap CallOut (sym fence.5)) };
        opening_only = λ r z. absurd (cc (f, z));
        out_only = λ r z. let same : CallOut r ≡ CallOut rid = sym z ∙ f in let s : r ≡ rid = cc same in s ∙ sym fence.5;
        no_job = λ r z. absurd (cc (f, z));
      },
    )

pub opening_ends : (m : Machine) (k : ℕ) (session : Session) (rid : ℕ) → IsWellFormed m → IsSessionAt m k session
    → session.call ≡ CallOpening rid → (t : ℕ) × (g : GuardOf) × (c : CleanableOf) × IsEnding m k session t g c Opening
opening_ends m k session rid w e f =
    let fence = subst (λ z. FitsItsCall m k session z) f (w.calls.calls k session e) in (
      fence.0,
      fence.1,
      fence.2,
      record {
        session_there = e;
        fence = fence.3;
        guard = fence.4;
        cleanable = fence.6;
        armed = fence.7;
        resource = subst (λ z. HasResource m z fence.2.action Opening) (sym fence.5) fence.8;
        not_closing = λ z. absurd (cc z);
        caller = record { by_opening = λ _. (session, e, f ∙ ap CallOpening (sym fence.5)); by_out = λ z. absurd (cc z) };
        opening_only = λ r z. let same : CallOpening r ≡ CallOpening rid = sym z ∙ f in let s : r ≡ rid = cc same in s ∙ sym fence.5;
        out_only = λ r z. absurd (cc (f, z));
        no_job = λ r z. absurd (cc (f, z));
      },
    )

pub keeps_check_in : (m : Machine) (k : ℕ) (outcome : CallOutcome) (a : Answer) (fresh : List ℕ) → IsWellFormed m
    → refusal m (CheckIn k outcome) ≡ None → IsWellFormed (after m (CheckIn k outcome) a fresh)
keeps_check_in m k outcome a fresh w r =
    let ok = allowed m (CheckIn k outcome) r in
    let s = out_session m k (ok NotOut refl) in
    let x = out_ends m k s.0 s.2 w s.1 s.3 in
    let done = ends_well m (change_at m.mutators k (calling None Free)) k s.0 x.0 x.1 x.2 Out s.0.handles w x.3
    (change_here m.mutators k (calling None Free) s.0 s.1)
    (λ j d. change_beside m.mutators k j (calling None Free) d)
    (change_as_long m.mutators k (calling None Free))
    (w.sessions.places k s.0 s.1)
    (λ h u e. inl e) in
    subst (λ z. IsWellFormed (on z (checked_in m k) m)) (sym (guard_on m k s.0 x.0 x.1 s.1 x.3.fence x.3.guard)) done

-- ---- The lowest free handle is not null

pub free_from : (n : ℕ) (table : Table ℕ) → n ≤ first_free n table
free_from n [] = omega arith
free_from n (None ∷ places) = omega arith
free_from n (Some x ∷ places) = omega (arith, free_from (suc n) places)

pub not_null : (s : Session) → 0 ≡ free_handle s → ⊥
not_null s z = absurd (omega (arith, free_from 1 (drop 1 s.handles), z))

-- handles with one more
pub places_with : (handles : Table ℕ) (f t : ℕ) → (0 ≡ f → ⊥) → (length handles ≡ 251) × (at handles 0 ≡ None)
    → (length (set_at handles f t) ≡ 251) × (at (set_at handles f t) 0 ≡ None)
places_with handles f t d p = (length-set handles f (Some t) ∙ p.0, set_other handles f 0 (Some t) d ∙ p.1)

pub held_with : (handles : Table ℕ) (f t h s : ℕ) → at (set_at handles f t) h ≡ Some s → (at handles h ≡ Some s) ⊎ (s ≡ t)
held_with handles f t h s e = elim (set_cases handles f h (Some t) s e) [ inl y ↦ inr (some_same s t (sym y.1)) | inr y ↦ inl y.1 ]

pub opens_well : (m : Machine) (k : ℕ) (session : Session) (t : ℕ) (g : GuardOf) (c : CleanableOf) → IsWellFormed m
    → IsEnding m k session t g c Opening → IsWellFormed (with_handle (with_call (with_state m g.rid Idle) k None Free) k t)
opens_well m k session t g c w x =
    let n : Machine = with_call (with_state m g.rid Idle) k None Free in
    let free : Session = record session { fence = None; call = Free } in
    let free_there : IsSessionAt n k free = change_here m.mutators k (calling None Free) session x.session_there in
    let f : ℕ = free_handle session in
    let holding : Session → Session = λ s. record s { handles = set_at s.handles (free_handle s) t } in
    ends_well m (change_at n.mutators k holding) k session t g c Opening (set_at session.handles f t) w x
    (change_here n.mutators k holding free free_there)
    (λ j d. change_beside n.mutators k j holding d ∙ change_beside m.mutators k j (calling None Free) d)
    (change_as_long n.mutators k holding ∙ change_as_long m.mutators k (calling None Free))
    (places_with session.handles f t (not_null session) (w.sessions.places k session x.session_there))
    (λ h s e. held_with session.handles f t h s e)

pub keeps_opened : (m : Machine) (k : ℕ) (a : Answer) (fresh : List ℕ) → IsWellFormed m → refusal m (Opened k OutcomeOk) ≡ None
    → IsWellFormed (after m (Opened k OutcomeOk) a fresh)
keeps_opened m k a fresh w r =
    let ok = allowed m (Opened k OutcomeOk) r in
    let s = opening_session m k (ok NotOut refl) in
    let x = opening_ends m k s.0 s.2 w s.1 s.3 in
    let done = opens_well m k s.0 x.0 x.1 x.2 w x.3 in
    subst (λ z. IsWellFormed (on z (λ g. opened m k g OutcomeOk) m)) (sym (guard_on m k s.0 x.0 x.1 s.1 x.3.fence x.3.guard))
    (subst (λ z. IsWellFormed (with_given (with_call (with_state m x.1.rid Idle) k None Free) k z))
    (sym (fence_on m k s.0 x.0 s.1 x.3.fence)) done)
