-- Well-formedness survives changes of what mutators hold.
use Rattle.std.proofs.Common.{◌≡◌, ◌≢◌, ℕ, suc, ◌≤◌, [], ◌∷◌, length, refl, sym, ◌∙◌, ap, subst, ◌⊎◌, inl, inr, arith, Option, Some, None}
use Rattle.std.proofs.Common.{option_map, drop}
use Rattle.std.proofs.lemmas.Bool.{cases_eq}
use Rattle.std.proofs.lemmas.List.{length-set}
use Rattle.jlr_machine.specs.declared.machine.Machine.{Machine}
use Rattle.jlr_machine.specs.declared.machine.Session.{Session}
use Rattle.jlr_machine.specs.declared.machine.Call.{Call}
use Rattle.jlr_machine.specs.declared.machine.Call.TheVariants.{Free, Opening as CallOpening, Out as CallOut, Job as CallJob}
use Rattle.jlr_machine.specs.Objects.{Table, at, set_at, change_at, first_free}
use Rattle.jlr_machine.specs.Lookups.{with_session, with_handle, free_handle}
use Rattle.jlr_machine.specs.Calls.{with_given}
use Rattle.jlr_machine.specs.WellFormed.{IsObjectAt, IsSessionAt, IsWellFormed, OpeningHasRoom, FitsItsCall, IsCallOf, IsPrivate}
use Rattle.jlr_laws.proofs.Frames.{no_some, some_same, set_same, set_other, place_within, set_cases, IsRoot, held, fencing, named, waiting}
use Rattle.jlr_laws.proofs.Frames.{lining, active, root_gives, root_from, limits_stay, change_as_long}
use Rattle.jlr_laws.proofs.CleaningKept.{actions_kept, resources_kept}

-- ---- A table with one place changed

pub change_back : {A : Type 0} (table : Table A) (n j : ℕ) (f : A → A) (y : A) → at (change_at table n f) j ≡ Some y → (x : A)
    × (at table j ≡ Some x) × (((j ≡ n) × (f x ≡ y)) ⊎ ((j ≡ n → ⊥) × (x ≡ y)))
change_back {A} table n j f y e = elim (set_cases table n j (option_map f (at table n)) y e) [
  | inl here ↦
      elim (at table n) as (λ o. at table n ≡ o → option_map f o ≡ Some y → (x : A) × (at table j ≡ Some x)
      × (((j ≡ n) × (f x ≡ y)) ⊎ ((j ≡ n → ⊥) × (x ≡ y)))) [
        | None ↦ λ t g. no_some y g
        | Some x ↦ λ t g. (x, ap (at table) here.0 ∙ t, inl (here.0, some_same (f x) y g))
      ] refl here.1
  | inr there ↦ (y, there.1, inr (there.0, refl))
]

pub change_forth : {A : Type 0} (table : Table A) (n j : ℕ) (f : A → A) (x : A) → at table j ≡ Some x → (y : A)
    × (at (change_at table n f) j ≡ Some y) × (((j ≡ n) × (y ≡ f x)) ⊎ ((j ≡ n → ⊥) × (y ≡ x)))
change_forth table n j f x e = elim (cases_eq j n) [
  | inl same ↦
      let t : at table n ≡ Some x = ap (at table) (sym same) ∙ e in (
        f x,
        ap (at (change_at table n f)) same ∙ set_same table n (option_map f (at table n)) (place_within table n x t)
            ∙ ap (option_map f) t,
        inl (same, refl),
      )
  | inr other ↦ (x, set_other table n j (option_map f (at table n)) other ∙ e, inr (other, refl))
]

-- ---- New sessions for old

pub record SessionsFollow (m : Machine) (new : Table Session) : Type 0 where
  pub as_many : length new ≡ length m.mutators
  -- fences and calls are those of the old session there, or there are none
  pub back : (k : ℕ) (t : Session) → at new k ≡ Some t → ((s : Session) × IsSessionAt m k s × (s.fence ≡ t.fence) × (s.call ≡ t.call))
      ⊎ ((t.fence ≡ None) × (t.call ≡ Free))
  pub forth : (k : ℕ) (s : Session) → IsSessionAt m k s → s.call ≢ Free → (t : Session) × (at new k ≡ Some t) × (t.call ≡ s.call)
  pub held : (k h x : ℕ) (t : Session) → at new k ≡ Some t → at t.handles h ≡ Some x → IsObjectAt m x × ¬ (IsPrivate m x)
  pub places : (k : ℕ) (t : Session) → at new k ≡ Some t → (length t.handles ≡ 251) × (at t.handles 0 ≡ None)
  pub opening : (k : ℕ) (t : Session) → at new k ≡ Some t → OpeningHasRoom t t.call

module _ (m : Machine) (new : Table Session) (w : IsWellFormed m) (f : SessionsFollow m new) where
  abbrev after_it : Machine
  after_it = record m { mutators = new }

  roots_named : (s : ℕ) → IsRoot after_it s → IsObjectAt m s
  roots_named s (held k h t e g) = (f.held k h s t e g).0
  roots_named s (fencing k t e g) = elim (f.back k t e) [
    | inl old ↦ w.slots.roots s (root_from m s (fencing k old.0 old.1 (old.2 ∙ g)))
    | inr free ↦ no_some s (sym free.0 ∙ g)
  ]
  roots_named s (named h) = w.slots.roots s (root_from m s (named h))
  roots_named s (waiting h) = w.slots.roots s (root_from m s (waiting h))
  roots_named s (lining h) = w.slots.roots s (root_from m s (lining h))
  roots_named s (active h) = w.slots.roots s (root_from m s (active h))

  fits : (k : ℕ) (s t : Session) (call : Call) → s.fence ≡ t.fence → FitsItsCall m k s call → FitsItsCall after_it k t call
  fits k s t Free e h = sym e ∙ h
  fits k s t (CallOpening rid) e h = (h.0, h.1, h.2, sym e ∙ h.3, h.4, h.5, h.6, h.7, h.8)
  fits k s t (CallOut rid) e h = (h.0, h.1, h.2, sym e ∙ h.3, h.4, h.5, h.6, h.7, h.8)
  fits k s t (CallJob action) e h = (sym e ∙ h.0, h.1)

  fits_call : (k : ℕ) (t : Session) → at new k ≡ Some t → FitsItsCall after_it k t t.call
  fits_call k t e = elim (f.back k t e) [
    | inl old ↦ subst (λ c. FitsItsCall after_it k t c) old.3 (fits k old.0 t old.0.call old.2 (w.calls.calls k old.0 old.1))
    | inr free ↦ subst (λ c. FitsItsCall after_it k t c) (sym free.1) free.0
  ]

  call_forth : (k : ℕ) (call : Call) → call ≢ Free → IsCallOf m k call → IsCallOf after_it k call
  call_forth k call d c = let r = f.forth k c.0 c.1 (λ e. d (sym c.2 ∙ e)) in (r.0, r.1, r.2 ∙ c.2)

  call_back : (k : ℕ) (call : Call) → call ≢ Free → IsCallOf after_it k call → IsCallOf m k call
  call_back k call d c = elim (f.back k c.0 c.1) [
    | inl old ↦ (old.0, old.1, old.3 ∙ c.2)
    | inr free ↦ absurd (d (sym c.2 ∙ free.1))
  ]

  opening_busy : (rid : ℕ) → CallOpening rid ≢ Free
  opening_busy rid e = cc e

  out_busy : (rid : ℕ) → CallOut rid ≢ Free
  out_busy rid e = cc e

  job_busy : (action : ℕ) → CallJob action ≢ Free
  job_busy action e = cc e

  pub sessions_kept : IsWellFormed after_it
  sessions_kept =
      record {
        slots = record {
          edges =
              w.slots.edges;
          roots = λ s h. roots_named s (root_gives after_it s h);
          queues = w.slots.queues;
          guarded = w.slots.guarded;
        };
        references =
            record { states = w.references.states; members = w.references.members; once = w.references.once; in_one = w.references.in_one };
        lists = record {
          pending_once = w.lists.pending_once;
          line_once = w.lists.line_once;
          pending_references = w.lists.pending_references;
          pending_cleanables = w.lists.pending_cleanables;
          pending_others = w.lists.pending_others;
          lined = w.lists.lined;
          line_others = w.lists.line_others;
        };
        sessions = record { places = f.places; opening = f.opening; names = w.sessions.names; names_limit = w.sessions.names_limit };
        actions = actions_kept m m.objects new (λ s. refl) (λ s. refl) (omega arith) w.actions;
        resources = resources_kept m m.objects new (λ s. refl) (λ s. refl) w.resources;
        calls = record {
          calls = fits_call;
          opening = λ rid action h. let r = w.calls.opening rid action h in (r.0, call_forth r.0 (CallOpening rid) (opening_busy rid) r.1);
          out = λ rid action h. let r = w.calls.out rid action h in (r.0, call_forth r.0 (CallOut rid) (out_busy rid) r.1);
          one_call = λ j k call c d busy. w.calls.one_call j k call (call_back j call busy c) (call_back k call busy d) busy;
          jobs = λ job j by. call_forth job.by (CallJob job.action) (job_busy job.action) (w.calls.jobs job j by);
        };
        unnamed = record {
          handles =
              λ k h s t e g. (f.held k h s t e g).1;
          names = w.unnamed.names;
          fields = w.unnamed.fields;
          references = w.unnamed.references;
        };
        limits = limits_stay m after_it w.limits refl f.as_many;
        faults = w.faults;
        notes = w.notes;
        seen_rising = w.seen_rising;
        seen_within = w.seen_within;
        seen_in_cycle = w.seen_in_cycle;
      }

-- ---- One session changed

pub record IsHeldChange (m : Machine) (s t : Session) : Type 0 where
  pub fence : s.fence ≡ t.fence
  pub call : s.call ≡ t.call
  pub held : (h x : ℕ) → at t.handles h ≡ Some x → IsObjectAt m x × ¬ (IsPrivate m x)
  pub places : (length t.handles ≡ 251) × (at t.handles 0 ≡ None)
  pub opening : OpeningHasRoom t t.call

-- what a handle of a well-formed machine names
pub held_object : (m : Machine) → IsWellFormed m → (k h x : ℕ) (s : Session) → IsSessionAt m k s → at s.handles h ≡ Some x → IsObjectAt m x
    × ¬ (IsPrivate m x)
held_object m w k h x s e f = (w.slots.roots x (root_from m x (held k h s e f)), w.unnamed.handles k h x s e f)

-- a session where nothing changes
unchanged : (m : Machine) → IsWellFormed m → (k : ℕ) (s : Session) → IsSessionAt m k s → IsHeldChange m s s
unchanged m w k s e =
    record {
      fence = refl;
      call =
          refl;
      held = λ h x f. held_object m w k h x s e f;
      places = w.sessions.places k s e;
      opening = w.sessions.opening k s e;
    }

session_follows : (m : Machine) (w : IsWellFormed m) (k : ℕ) (f : Session → Session)
    → ((s : Session) → IsSessionAt m k s → IsHeldChange m s (f s)) → (j : ℕ) (t : Session) → at (change_at m.mutators k f) j ≡ Some t
    → (s : Session) × IsSessionAt m j s × IsHeldChange m s t
session_follows m w k f h j t e = let r = change_back m.mutators k j f t e in elim r.2 [
  | inl here ↦ (r.0, r.1, subst (IsHeldChange m r.0) here.1 (h r.0 (ap (at m.mutators) (sym here.0) ∙ r.1)))
  | inr there ↦ (r.0, r.1, subst (IsHeldChange m r.0) there.1 (unchanged m w j r.0 r.1))
]

pub keeps_session : (m : Machine) → IsWellFormed m → (k : ℕ) (f : Session → Session)
    → ((s : Session) → IsSessionAt m k s → IsHeldChange m s (f s)) → IsWellFormed (with_session m k f)
keeps_session m w k f h =
    sessions_kept m (change_at m.mutators k f) w (record {
      as_many = change_as_long m.mutators k f;
      back = λ j t e. let r = session_follows m w k f h j t e in inl (r.0, r.1, r.2.fence, r.2.call);
      forth = λ j s e d. let r = change_forth m.mutators k j f s e in elim r.2 [
        | inl here ↦ (r.0, r.1, ap (λ s. s.call) here.1 ∙ sym (h s (ap (at m.mutators) (sym here.0) ∙ e)).call)
        | inr there ↦ (r.0, r.1, ap (λ s. s.call) there.1)
      ];
      held = λ j p x t e g. (session_follows m w k f h j t e).2.held p x g;
      places = λ j t e. (session_follows m w k f h j t e).2.places;
      opening = λ j t e. (session_follows m w k f h j t e).2.opening;
    })

-- ---- A handle given

pub first_free_from : (n : ℕ) (table : Table ℕ) → n ≤ first_free n table
first_free_from n [] = omega arith
first_free_from n (None ∷ places) = omega arith
first_free_from n (Some x ∷ places) = omega (arith, first_free_from (suc n) places)

free_handle_above : (s : Session) → 0 ≡ free_handle s → ⊥
free_handle_above s z = omega (arith, z, first_free_from 1 (drop 1 s.handles))

pub free_has_room : (s : Session) (call : Call) → call ≡ Free → OpeningHasRoom s call
free_has_room s call e = subst (OpeningHasRoom s) (sym e) tt

pub keeps_handle : (m : Machine) → IsWellFormed m → (k s : ℕ) → IsObjectAt m s → ¬ (IsPrivate m s)
    → ((session : Session) → IsSessionAt m k session → session.call ≡ Free) → IsWellFormed (with_handle m k s)
keeps_handle m w k s there public free =
    keeps_session m w k (λ session. record session { handles = set_at session.handles (free_handle session) s }) (λ session e. record {
      fence = refl;
      call = refl;
      held = λ h x f. elim (set_cases session.handles (free_handle session) h (Some s) x f) [
        | inl new ↦ subst (λ x. IsObjectAt m x × ¬ (IsPrivate m x)) (some_same s x new.1) (there, public)
        | inr old ↦ held_object m w k h x session e old.1
      ];
      places = (
        length-set session.handles (free_handle session) (Some s) ∙ (w.sessions.places k session e).0,
        set_other session.handles (free_handle session) 0 (Some s) (free_handle_above session) ∙ (w.sessions.places k session e).1,
      );
      opening = free_has_room (record session { handles = set_at session.handles (free_handle session) s }) session.call (free session e);
    })

pub keeps_given : (m : Machine) → IsWellFormed m → (k : ℕ) (o : Option ℕ) → ((s : ℕ) → o ≡ Some s → IsObjectAt m s × ¬ (IsPrivate m s))
    → ((session : Session) → IsSessionAt m k session → session.call ≡ Free) → IsWellFormed (with_given m k o)
keeps_given m w k None h free = w
keeps_given m w k (Some s) h free = keeps_handle m w k s (h s refl).0 (h s refl).1 free
