-- Close, Clean and TakeUp lead from a well-formed machine to a well-formed one.
use Rattle.std.proofs.Common.{◌≡◌, ℕ, ◌+◌, ◌<◌, Bool, true, false, not, cond, List, [], ◌∷◌, length, refl, sym, ◌∙◌, ap, subst, ◌⊎◌, inl}
use Rattle.std.proofs.Common.{inr, arith, Option, Some, None, map, IsTrue, slice_set, option_map, option_and_then, count_by, ◌==◌}
use Rattle.std.specs.List.{AllByRecursion}
use Rattle.std.proofs.lemmas.Bool.{cases_eq, or_parts, both_ways}
use Rattle.jlr_types.specs.declared.Work.{Work}
use Rattle.jlr_types.specs.declared.Work.TheVariants.{Note, Resource as WorkOn}
use Rattle.jlr_types.specs.declared.Refusal.TheVariants.{Busy, NoHandle, Null, WrongKind}
use Rattle.jlr_machine.specs.declared.object.Object.{Object}
use Rattle.jlr_machine.specs.declared.object.Object.TheVariants.{Cleanable, Guard}
use Rattle.jlr_machine.specs.declared.object.Cleanable.{Cleanable as CleanableOf}
use Rattle.jlr_machine.specs.declared.object.CleanState.{CleanState}
use Rattle.jlr_machine.specs.declared.object.CleanState.TheVariants.{Armed, Pending as PendingClean, Lined, Spent}
use Rattle.jlr_machine.specs.declared.machine.Machine.{Machine}
use Rattle.jlr_machine.specs.declared.machine.Session.{Session}
use Rattle.jlr_machine.specs.declared.machine.Job.{Job as JobOf}
use Rattle.jlr_machine.specs.declared.machine.Resource.{Resource}
use Rattle.jlr_machine.specs.declared.machine.Call.TheVariants.{Free, Job as CallJob}
use Rattle.jlr_machine.specs.declared.machine.ResourceState.{ResourceState}
use Rattle.jlr_machine.specs.declared.machine.ResourceState.TheVariants.{Idle, Closing}
use Rattle.jlr_machine.specs.Objects.{Table, Heap, at, change_at, ◌∈◌, ◌∋◌, is_rising, is_distinct, as_cleanable, with_cleanable, is_spent}
use Rattle.jlr_machine.specs.Objects.{is_lined, some_and, as_guard}
use Rattle.jlr_machine.specs.Lookups.{with_object, with_call, with_job, cleanable_at, cleanable_of_guard, rid_of, on}
use Rattle.jlr_machine.specs.Refusals.{refusal, has_call, is_out, is_guard, is_cleanable}
use Rattle.jlr_machine.specs.Calls.{after, spent, with_work_state, taken_up, cleaned, line_taken, from_lined}
use Rattle.jlr_machine.specs.WellFormed.{IsWellFormed, IsSessionAt, IsCleanableAt, HasResource, IsAction, clean_state_at, is_unspent_place}
use Rattle.std.proofs.lemmas.Bool.{and_parts, cond_both, ne_eqb}
use Rattle.std.proofs.lemmas.List.Sums.{sum_by-set, sum_by-cons}
use Rattle.jlr_machine.specs.declared.ask.Ask.TheVariants.{Close, Clean, TakeUp}
use Rattle.jlr_machine.specs.declared.ask.Answer.{Answer}
use Rattle.jlr_laws.proofs.Sets.{in_rest, in_cons}
use Rattle.jlr_laws.proofs.Frames.{no_some, some_same, place_within, is_cleanable_there, change_as_long}
use Rattle.jlr_laws.proofs.Keyed.{keyed_with, keys_changed, found_changed, found_unchanged, all_changed}
use Rattle.jlr_laws.proofs.Changes.{change_here, change_beside, session_same}
use Rattle.jlr_laws.proofs.Allowed.{allowed, free_session, IsNamed, only_operand, guard_of, cleanable_of, closed_is, out_is, some_and_gives}
use Rattle.jlr_laws.proofs.Restated.{restated}
use Rattle.jlr_laws.proofs.keeps.Calls.{open_guard, calling, not_spent, idle_if, not_busy}
use Rattle.jlr_laws.proofs.Listed.{listed_is_well_formed, as_listed}
use Rattle.std.specs.List.{list_any}
use Rattle.jlr_laws.proofs.TakenUp.{with_job-keyed, has, IsTakenUp, taken_up_is_well_formed}

-- sessions are numbered below 255, which is the cleaner's number as a taker of jobs
pub no_mutator_255 : (m : Machine) (k : ℕ) (s : Session) → IsWellFormed m → IsSessionAt m k s → k ≡ 255 → ⊥
no_mutator_255 m k s w e p = absurd (omega (arith, w.limits.sessions, place_within m.mutators k s e, p))

-- ---- The machine after a take-up, in one record

abbrev pub shut : List Resource → Work → List Resource
shut resources (Note n) = resources
shut resources (WorkOn rid) = restated resources rid Closing

work_in_is : (m : Machine) (work : Work) → with_work_state m (rid_of work) Closing ≡ record m { resources = shut m.resources work }
work_in_is m (Note n) = refl
work_in_is m (WorkOn rid) = refl

abbrev pub job_of_cleanable : ℕ → CleanableOf → JobOf
job_of_cleanable by c = record { action = c.action; work = c.work; by = by }

abbrev pub with_taken : Machine → ℕ → ℕ → CleanableOf → Machine
with_taken m by s c =
    record m {
      objects = change_at m.objects s (with_cleanable spent);
      jobs = keyed_with {A = JobOf} (λ job. job.action) m.jobs (job_of_cleanable by c);
      resources = shut m.resources c.work;
      taken = m.taken + 1;
    }

pub taken_up_is : (m : Machine) (by s : ℕ) (c : CleanableOf) → taken_up m by s c ≡ with_taken m by s c
taken_up_is m by s c =
    work_in_is (record (with_object m s (with_cleanable spent)) { jobs = with_job m.jobs (job_of_cleanable by c); taken = m.taken + 1 })
    c.work
    ∙ ap {A = List JobOf} {B = Machine} (λ l. record m {
      objects = change_at m.objects s (with_cleanable spent);
      jobs = l;
      resources = shut m.resources c.work;
      taken = m.taken + 1;
    }) (with_job-keyed m.jobs (job_of_cleanable by c))

-- ---- Its resources

module _ (m : Machine) (c : CleanableOf) where
  shut_here : (rid : ℕ) → c.work ≡ WorkOn rid → HasResource m rid c.action Idle → has (shut m.resources c.work) rid c.action Closing
  shut_here rid e h =
      subst (λ work. has (shut m.resources work) rid c.action Closing) (sym e)
      (found_changed {A = Resource} (λ r. r.rid) (λ r. record r { state = Closing }) (λ r. refl) m.resources rid
      (record { rid = rid; action = c.action; state = Idle }) h)

  shut_cases : (work : Work) → c.work ≡ work → (rid action : ℕ) (state : ResourceState) → has (shut m.resources work) rid action state
      → (c.work ≡ WorkOn rid) ⊎ HasResource m rid action state
  shut_cases (Note i) e rid action state h = inr h
  shut_cases (WorkOn r) e rid action state h = elim (cases_eq rid r) [
    | inl p ↦ inl (e ∙ ap WorkOn (sym p))
    | inr d ↦ inr
        (sym (found_unchanged {A = Resource} (λ r. r.rid) (λ r. record r { state = Closing }) (λ r. refl) m.resources r rid d) ∙ h)
  ]

  shut_over : (work : Work) → c.work ≡ work → (rid action : ℕ) (state : ResourceState) → (c.work ≡ WorkOn rid → ⊥)
      → HasResource m rid action state → has (shut m.resources work) rid action state
  shut_over (Note i) e rid action state d h = h
  shut_over (WorkOn r) e rid action state d h =
      found_unchanged {A = Resource} (λ r. r.rid) (λ r. record r { state = Closing }) (λ r. refl) m.resources r rid
      (λ p. d (e ∙ ap WorkOn (sym p))) ∙ h

  shut_rising : (work : Work) → IsTrue (is_rising (map (λ r. r.rid) m.resources))
      → IsTrue (is_rising (map (λ r. r.rid) (shut m.resources work)))
  shut_rising (Note i) h = h
  shut_rising (WorkOn r) h = subst (λ l. IsTrue (is_rising l))
      (sym (keys_changed {A = Resource} (λ r. r.rid) (λ r. record r { state = Closing }) (λ r. refl) m.resources r)) h

  shut_actions : (work : Work) → AllByRecursion (λ r. IsAction m r.action) m.resources
      → AllByRecursion (λ r. IsAction m r.action) (shut m.resources work)
  shut_actions (Note i) h = h
  shut_actions (WorkOn r) h = all_changed {A = Resource} (λ r. r.rid) (λ r. record r { state = Closing }) (λ r. refl)
      (λ r. IsAction m r.action) (λ r h. h) m.resources r h

-- ---- How many cleanables are unspent

pub count_set : (heap : Heap) (s : ℕ) (o v : Option Object) → at heap s ≡ o → s < length heap
    → count_by is_unspent_place (slice_set heap s v) + cond (is_unspent_place o) 1 0
    ≡ count_by is_unspent_place heap + cond (is_unspent_place v) 1 0
count_set heap s o v e l = subst (λ z. count_by is_unspent_place (slice_set heap s v) + cond (is_unspent_place z) 1 0
    ≡ count_by is_unspent_place heap + cond (is_unspent_place v) 1 0) e (sum_by-set (λ z. cond (is_unspent_place z) 1 0) heap s v None l)

is_spent_if : (state : CleanState) → (state ≡ Spent → ⊥) → is_spent state ≡ false
is_spent_if Armed d = refl
is_spent_if PendingClean d = refl
is_spent_if Lined d = refl
is_spent_if Spent d = absurd (d refl)

pub one_less : (heap : Heap) (s : ℕ) (c : CleanableOf) → at heap s ≡ Some (Cleanable c) → (c.state ≡ Spent → ⊥)
    → count_by is_unspent_place (change_at heap s (with_cleanable spent)) + 1 ≡ count_by is_unspent_place heap
one_less heap s c e d =
    let was : ◌≡◌ {A = ℕ} (cond (is_unspent_place (Some (Cleanable c))) 1 0) 1 =
    ap {A = Bool} {B = ℕ} (λ b. cond (not b) 1 0) (is_spent_if c.state d) in
    let will : ◌≡◌ {A = ℕ} (cond (is_unspent_place (option_map (with_cleanable spent) (at heap s))) 1 0) 0 =
    ap {A = Option Object} {B = ℕ} (λ o. cond (is_unspent_place (option_map (with_cleanable spent) o)) 1 0) e in
    omega (
      arith,
      count_set heap s (Some (Cleanable c)) (option_map (with_cleanable spent) (at heap s)) e
          (place_within heap s (Cleanable c) e),
      was,
      will,
    )

-- ---- By a mutator

pub mutator_takes : (m : Machine) (k s : ℕ) (session : Session) (c : CleanableOf) → IsWellFormed m → IsSessionAt m k session
    → session.call ≡ Free → IsCleanableAt m s c → (c.state ≡ Spent → ⊥)
    → ((rid : ℕ) → c.work ≡ WorkOn rid → HasResource m rid c.action Idle)
    → IsWellFormed (with_call (taken_up m k s c) k None (CallJob c.action))
mutator_takes m k s session c w there free e d idle =
    let f : Session → Session = calling None (CallJob c.action) in
    let mutators : Table Session = change_at m.mutators k f in
    let here : at mutators k ≡ Some (f session) = change_here m.mutators k f session there in
    let x : IsTakenUp m (change_at m.objects s (with_cleanable spent)) mutators m.line (shut m.resources c.work) k s c =
    record {
      as_long = change_as_long m.objects s (with_cleanable spent);
      as_many = change_as_long m.mutators k f;
      cleanable = e;
      unspent = d;
      here = change_here m.objects s (with_cleanable spent) (Cleanable c) e;
      beside = λ t p. change_beside m.objects s t (with_cleanable spent) p;
      count = one_less m.objects s c e d;
      sessions = λ j z p. elim (cases_eq j k) [
        | inl q ↦
            let same : z ≡ f session = some_same z (f session) (sym p ∙ ap (at mutators) q ∙ here) in
            inl (
              q,
              record {
                before = session;
                there =
                    there;
                was_free = free;
                handles = ap (λ z. z.handles) same;
                fence = ap (λ z. z.fence) same;
                call = ap (λ z. z.call) same;
              },
            )
        | inr q ↦ inr (sym (change_beside m.mutators k j f q) ∙ p)
      ];
      over = λ j z p q. change_beside m.mutators k j f
          (λ r. q (ap (λ z. z.call) (session_same m k z session (ap (at m.mutators) (sym r) ∙ p) there) ∙ free)) ∙ p;
      called = λ _. (f session, here, refl);
      cleaners = omega (
        arith,
        w.actions.cleaners,
        ap {A = Bool} {B = ℕ} (λ b. cond b 1 0)
            (ne_eqb k 255 (no_mutator_255 m k session w there)),
      );
      line_once = w.lists.line_once;
      line_less = λ t h. h;
      line_left = λ t h p. w.lists.lined t h;
      was_idle = idle;
      closing = λ rid p. shut_here m c rid p (idle rid p);
      resource_cases = shut_cases m c c.work refl;
      resource_over = shut_over m c c.work refl;
      rising = shut_rising m c c.work w.resources.rising;
      actions = shut_actions m c c.work w.actions.of_resources;
    } in
    subst (λ z. IsWellFormed (with_call z k None (CallJob c.action))) (sym (taken_up_is m k s c))
    (taken_up_is_well_formed m (change_at m.objects s (with_cleanable spent)) mutators m.line (shut m.resources c.work) k s c w x)

pub cleans : (m : Machine) (k s : ℕ) (session : Session) (c : CleanableOf) → IsWellFormed m → IsSessionAt m k session → session.call ≡ Free
    → IsCleanableAt m s c
    → (is_spent c.state ≡ false → (rid : ℕ) → c.work ≡ WorkOn rid → HasResource m rid c.action Idle) → IsWellFormed (cleaned m k s (Some c))
cleans m k s session c w there free e idle =
    cond_both (is_spent c.state) m (with_call (taken_up m k s c) k None (CallJob c.action)) (λ z. IsWellFormed z)
    (λ _. w)
    (λ p. mutator_takes m k s session c w there free e (not_spent c p) (idle p))

pub keeps_close : (m : Machine) (k h : ℕ) (a : Answer) (fresh : List ℕ) → IsWellFormed m → refusal m (Close k h) ≡ None
    → IsWellFormed (after m (Close k h) a fresh)
keeps_close m k h a fresh w r =
    let ok = allowed m (Close k h) r in
    let o = only_operand m k h is_guard w (ok NoHandle refl) (ok Null refl) (ok WrongKind refl) in
    let g = guard_of o.2 o.4 in
    let named : IsNamed m k h o.0 o.1 (Guard g.0) = subst (λ z. IsNamed m k h o.0 o.1 z) g.1 o.3 in
    let c = w.slots.guarded o.0 g.0 named.there in
    let busy = not_busy (is_out m k h) (has_call m k) (ok Busy refl) in
    let closed = closed_is m k h g.0 c.0 named.named c.1 in
    let idle : is_spent c.0.state ≡ false → (rid : ℕ) → c.0.work ≡ WorkOn rid → HasResource m rid c.0.action Idle = λ p rid e.
    let x = open_guard m k h o.0 o.1 g.0 c.0 w named c.1 (not_spent c.0 p) in
    let idle = idle_if x.0 x.1.not_closing x.1.not_opening
    (sym (out_is m k h g.0 (record { rid = g.0.rid; action = c.0.action; state = x.0 }) named.named x.1.resource (closed ∙ p))
    ∙ busy.0) in
    let works : WorkOn g.0.rid ≡ WorkOn rid = sym x.1.own.work ∙ e in
    let same : g.0.rid ≡ rid = cc works in
    subst (λ i. HasResource m i c.0.action Idle) same (subst (λ st. HasResource m g.0.rid c.0.action st) idle x.1.resource) in
    let done = cleans m k g.0.cleanable o.1 c.0 w named.session_there (free_session m k o.1 named.session_there busy.1) c.1 idle in
    let slot : cleanable_of_guard m k h ≡ Some g.0.cleanable =
    ap (λ o. option_map (λ g. g.cleanable) (option_and_then as_guard o)) named.named in
    let there : cleanable_at m g.0.cleanable ≡ Some c.0 = ap (option_and_then as_cleanable) c.1 in
    subst (λ o. IsWellFormed (on o (λ s. cleaned m k s (cleanable_at m s)) m)) (sym slot)
    (subst (λ z. IsWellFormed (cleaned m k g.0.cleanable z)) (sym there) done)

pub keeps_clean : (m : Machine) (k h : ℕ) (a : Answer) (fresh : List ℕ) → IsWellFormed m → refusal m (Clean k h) ≡ None
    → IsWellFormed (after m (Clean k h) a fresh)
keeps_clean m k h a fresh w r =
    let ok = allowed m (Clean k h) r in
    let o = only_operand m k h is_cleanable w (ok NoHandle refl) (ok Null refl) (ok WrongKind refl) in
    let c = cleanable_of o.2 o.4 in
    let named : IsNamed m k h o.0 o.1 (Cleanable c.0) = subst (λ z. IsNamed m k h o.0 o.1 z) c.1 o.3 in
    let done = cleans m k o.0 o.1 c.0 w named.session_there (free_session m k o.1 named.session_there (ok Busy refl)) named.there
    (λ _ rid e. absurd (w.unnamed.handles k h o.0 o.1 named.session_there named.handle (inl (c.0, rid, named.there, e)))) in
    subst (λ o. IsWellFormed (on o (λ s. cleaned m k s (cleanable_at m s)) m)) (sym named.slot)
    (subst (λ z. IsWellFormed (cleaned m k o.0 (option_and_then as_cleanable z))) (sym named.there) done)

-- ---- By the cleaner

lined_if : (state : CleanState) → is_lined state ≡ true → state ≡ Lined
lined_if Armed e = absurd (cc e)
lined_if PendingClean e = absurd (cc e)
lined_if Lined e = refl
lined_if Spent e = absurd (cc e)

-- what is left of a line of which the head goes
pub record IsCut (m : Machine) (line cut : List ℕ) : Type 0 where
  pub once : IsTrue (is_distinct cut)
  pub less : (t : ℕ) → t ∈ cut → t ∈ line
  pub lined : (t : ℕ) → clean_state_at m t ≡ Some Lined → t ∈ line → t ∈ cut
  pub first : (s : ℕ) (rest : List ℕ) → cut ≡ s ∷ rest → some_and (λ c. is_lined c.state) (cleanable_at m s) ≡ true

lined_test : (o : Option CleanableOf) → option_and_then (λ c. Some c.state) o ≡ Some Lined → some_and (λ c. is_lined c.state) o ≡ true
lined_test None e = no_some Lined e
lined_test (Some c) e = ap is_lined (some_same c.state Lined e)

cut_line : (m : Machine) (line : List ℕ) → IsTrue (is_distinct line) → IsCut m line (from_lined m line)
cut_line m [] once = record { once = refl; less = λ t h. h; lined = λ t e h. h; first = λ s rest e. absurd (cc e) }
cut_line m (x ∷ line) once =
    let p = and_parts (not (line ∋ x)) (is_distinct line) once in
    let r = cut_line m line p.1 in
    cond_both (some_and (λ c. is_lined c.state) (cleanable_at m x)) (x ∷ line) (from_lined m line) (λ l. IsCut m (x ∷ line) l)
    (λ e. record {
      once = once;
      less = λ t h. h;
      lined = λ t f h. h;
      first = λ s rest f. let same : x ≡ s = cc f in subst (λ z. some_and (λ c. is_lined c.state) (cleanable_at m z) ≡ true) same e;
    })
    (λ e. record {
      once = r.once;
      less = λ t h. in_rest t x line (r.less t h);
      lined = λ t f h. elim (in_cons t x line h) [
        | inl same ↦ absurd (both_ways (some_and (λ c. is_lined c.state) (cleanable_at m x)) e
            (lined_test (cleanable_at m x) (ap (clean_state_at m) (sym same) ∙ f)))
        | inr later ↦ r.lined t f later
      ];
      first = r.first;
    })

-- a line that loses only what is Spent
pub line_cut : (m : Machine) (line : List ℕ) → IsWellFormed m → IsCut m m.line line → IsWellFormed (record m { line = line })
line_cut m line w x =
    let o = as_listed m w in
    listed_is_well_formed m m.names m.pending line m.cycle_open m.seen w
    (record {
      names_there = o.names_there;
      names_distinct = o.names_distinct;
      names_limit = o.names_limit;
      pending_once = o.pending_once;
      pending_less = o.pending_less;
      pending_references = o.pending_references;
      pending_cleanables = o.pending_cleanables;
      line_once = x.once;
      line_less = x.less;
      lined = λ s e. x.lined s e (o.lined s e);
      seen_rising = o.seen_rising;
      seen_within = o.seen_within;
      seen_in_cycle = o.seen_in_cycle;
    })

none_count : (p : JobOf → Bool) (jobs : List JobOf) → list_any p jobs ≡ false → count_by p jobs ≡ 0
none_count p [] e = refl
none_count p (job ∷ jobs) e =
    let parts = or_parts (p job) (list_any p jobs) e in
    omega (arith, sum_by-cons (λ z. cond (p z) 1 0) job jobs, ap {A = Bool} {B = ℕ} (λ b. cond b 1 0) parts.0, none_count p jobs parts.1)

pub cleaner_takes : (m : Machine) (s : ℕ) (rest : List ℕ) (c : CleanableOf) → IsWellFormed m
    → list_any (λ job. job.by == 255) m.jobs ≡ false → IsCut m m.line (s ∷ rest) → IsCleanableAt m s c → c.state ≡ Lined
    → IsWellFormed (taken_up (record m { line = rest }) 255 s c)
cleaner_takes m s rest c w none cut e lined =
    let once = and_parts (not (rest ∋ s)) (is_distinct rest) cut.once in
    let unspent : c.state ≡ Spent → ⊥ = λ d. absurd (cc (d, lined)) in
    let idle : (rid : ℕ) → c.work ≡ WorkOn rid → HasResource m rid c.action Idle =
    λ rid p. w.resources.idle s rid c (record { there = e; unspent = unspent }) p (λ d. absurd (cc (d, lined))) in
    let x : IsTakenUp m (change_at m.objects s (with_cleanable spent)) m.mutators rest (shut m.resources c.work) 255 s c =
    record {
      as_long = change_as_long m.objects s (with_cleanable spent);
      as_many = refl;
      cleanable = e;
      unspent = unspent;
      here = change_here m.objects s (with_cleanable spent) (Cleanable c) e;
      beside = λ t p. change_beside m.objects s t (with_cleanable spent) p;
      count = one_less m.objects s c e unspent;
      sessions = λ j z p. inr p;
      over = λ j z p q. p;
      called = λ d. absurd (d refl);
      cleaners = omega (arith, none_count (λ job. job.by == 255) m.jobs none);
      line_once = once.1;
      line_less = λ t h. cut.less t (in_rest t s rest h);
      line_left = λ t h p. elim (in_cons t s rest (cut.lined t h (w.lists.lined t h))) [ inl q ↦ absurd (p q) | inr q ↦ q ];
      was_idle = idle;
      closing = λ rid p. shut_here m c rid p (idle rid p);
      resource_cases = shut_cases m c c.work refl;
      resource_over = shut_over m c c.work refl;
      rising = shut_rising m c c.work w.resources.rising;
      actions = shut_actions m c c.work w.actions.of_resources;
    } in
    subst (λ z. IsWellFormed z) (sym (taken_up_is (record m { line = rest }) 255 s c))
    (taken_up_is_well_formed m (change_at m.objects s (with_cleanable spent)) m.mutators rest (shut m.resources c.work) 255 s c w x)

takes_line : (m : Machine) (line : List ℕ) → IsWellFormed m → list_any (λ job. job.by == 255) m.jobs ≡ false → IsCut m m.line line
    → IsWellFormed (line_taken m line)
takes_line m [] w none cut = line_cut m [] w cut
takes_line m (s ∷ rest) w none cut =
    let r = some_and_gives (λ c. is_lined c.state) (cleanable_at m s) (cut.first s rest refl) in
    let there : IsCleanableAt m s r.0 = is_cleanable_there (at m.objects s) r.0 r.1 in
    subst (λ o. IsWellFormed (elim o as (λ _. Machine) [
      | None ↦ record m { line = rest }
      | Some c ↦
          taken_up (record m { line = rest }) 255 s c
    ])) (sym r.1)
    (cleaner_takes m s rest r.0 w none cut there (lined_if r.0.state r.2))

pub keeps_take_up : (m : Machine) (a : Answer) (fresh : List ℕ) → IsWellFormed m → refusal m TakeUp ≡ None
    → IsWellFormed (after m TakeUp a fresh)
keeps_take_up m a fresh w r = takes_line m (from_lined m m.line) w (allowed m TakeUp r Busy refl) (cut_line m m.line w.lists.line_once)
