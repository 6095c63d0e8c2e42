-- Names bound, found and unbound leave a well-formed machine.
use Rattle.std.proofs.Common.{◌≡◌, ℕ, suc, ◌+◌, ◌≤◌, Bool, true, false, cond, not, ◌&&◌, List, [], ◌∷◌, length, refl, sym, ◌∙◌, ap, subst}
use Rattle.std.proofs.Common.{◌⊎◌, inl, inr, arith, Some, None, option_map, is_none, find, map, nat_eq, nat_le}
use Rattle.std.specs.List.{IsDistinct, AllByRecursion}
use Rattle.std.proofs.lemmas.Bool.{both_ways, and_parts, eqb-true, le-leb, cases_lt}
use Rattle.jlr_types.specs.declared.Refusal.TheVariants.{Busy, NamesFull, NoHandle, Null}
use Rattle.jlr_machine.specs.declared.object.Cleanable.{Cleanable as CleanableOf}
use Rattle.jlr_machine.specs.declared.machine.Machine.{Machine}
use Rattle.jlr_machine.specs.declared.machine.Binding.{Binding}
use Rattle.jlr_machine.specs.declared.machine.ResourceState.{ResourceState}
use Rattle.jlr_machine.specs.declared.machine.ResourceState.TheVariants.{Opening, Idle, Out, Closing}
use Rattle.jlr_machine.specs.declared.object.Object.TheVariants.{Cleaner}
use Rattle.jlr_machine.specs.declared.ask.Ask.TheVariants.{MakeCleaner, Bind, Find, Unbind, Begin, Abandon}
use Rattle.jlr_machine.specs.declared.ask.Answer.{Answer}
use Rattle.jlr_machine.specs.Objects.{◌∈◌}
use Rattle.jlr_machine.specs.Lookups.{same_name, slot_bound, bound, unbound, with_new, with_handle, on, object_named}
use Rattle.jlr_machine.specs.Refusals.{refusal, is_any}
use Rattle.jlr_machine.specs.Calls.{after}
use Rattle.jlr_machine.specs.Run.{IsFresh}
use Rattle.jlr_machine.specs.WellFormed.{IsWellFormed, IsObjectAt, IsUnspent, HasWorker}
use Rattle.jlr_laws.proofs.Sets.{nothing, in_front, in_rest, in_cons}
use Rattle.jlr_laws.proofs.Frames.{no_some, some_same, IsRoot, held, fencing, named, waiting, lining, active, root_gives, root_from}
use Rattle.jlr_laws.proofs.Frames.{limits_stay}
use Rattle.jlr_laws.proofs.SessionsKept.{keeps_given, held_object}
use Rattle.jlr_laws.proofs.Allowed.{allowed, only_operand, free_session, any_fits}
use Rattle.jlr_laws.proofs.Fits.{Shown, edge_split, fresh_one, keeps_made}
use Rattle.jlr_laws.proofs.SeenKept.{with_seen}

-- ---- Lists of bindings

same_is : (x y : List ℕ) → same_name x y ≡ true → x ≡ y
same_is [] [] e = refl
same_is [] (y ∷ ys) e = absurd (both_ways false refl e)
same_is (x ∷ xs) [] e = absurd (both_ways false refl e)
same_is (x ∷ xs) (y ∷ ys) e =
    let p = and_parts (nat_eq x y) (same_name xs ys) e in
    ap (λ z. z ∷ xs) (eqb-true x y p.0) ∙ ap (λ zs. y ∷ zs) (same_is xs ys p.1)

abbrev key : Binding → List ℕ
key b = b.name

abbrev keys : List Binding → List (List ℕ)
keys names = map key names

abbrev slots : List Binding → List ℕ
slots names = map (λ b. b.slot) names

all_bound : (P : List ℕ → Type 0) (names : List Binding) (name : List ℕ) (s : ℕ) → AllByRecursion P (keys names) → P name
    → AllByRecursion P (keys (bound names name s))
all_bound P [] name s h p = (p, tt)
all_bound P (b ∷ names) name s h p =
    elim (same_name b.name name) as (λ c. AllByRecursion P
    (keys (cond c (record { name = name; slot = s } ∷ names) (b ∷ bound names name s)))) [
      | true ↦ (p, h.1)
      | false ↦ (h.0, all_bound P names name s h.1 p)
    ]

distinct_bound : (names : List Binding) (name : List ℕ) (s : ℕ) → IsDistinct same_name (keys names)
    → IsDistinct same_name (keys (bound names name s))
unfolding IsDistinct
distinct_bound [] name s d = (tt, tt)
distinct_bound (b ∷ names) name s d =
    elim (same_name b.name name) as (λ c. same_name b.name name ≡ c
    → IsDistinct same_name (keys (cond c (record { name = name; slot = s } ∷ names) (b ∷ bound names name s)))) [
      | true ↦ λ e. subst (λ x. IsDistinct same_name (x ∷ keys names)) (same_is b.name name e) d
      | false ↦ λ e. (all_bound (λ y. same_name b.name y ≡ false) names name s d.0 e, distinct_bound names name s d.1)
    ] refl

all_unbound : (P : List ℕ → Type 0) (names : List Binding) (name : List ℕ) → AllByRecursion P (keys names)
    → AllByRecursion P (keys (unbound names name))
all_unbound P [] name h = tt
all_unbound P (b ∷ names) name h =
    elim (not (same_name b.name name)) as (λ c. AllByRecursion P (keys (cond c (b ∷ unbound names name) (unbound names name)))) [
      | true ↦ (h.0, all_unbound P names name h.1)
      | false ↦ all_unbound P names name h.1
    ]

distinct_unbound : (names : List Binding) (name : List ℕ) → IsDistinct same_name (keys names)
    → IsDistinct same_name (keys (unbound names name))
unfolding IsDistinct
distinct_unbound [] name d = tt
distinct_unbound (b ∷ names) name d =
    elim (not (same_name b.name name)) as (λ c. IsDistinct same_name (keys (cond c (b ∷ unbound names name) (unbound names name)))) [
      | true ↦ (all_unbound (λ y. same_name b.name y ≡ false) names name d.0, distinct_unbound names name d.1)
      | false ↦ distinct_unbound names name d.1
    ]

length_unbound : (names : List Binding) (name : List ℕ) → length (unbound names name) ≤ length names
length_unbound [] name = omega arith
length_unbound (b ∷ names) name =
    let rest = length_unbound names name in
    elim (not (same_name b.name name)) as (λ c. length (cond c (b ∷ unbound names name) (unbound names name)) ≤ suc (length names)) [
      | true ↦
          omega (arith, rest)
      | false ↦ omega (arith, rest)
    ]

length_bound : (names : List Binding) (name : List ℕ) (s : ℕ) → length (bound names name s) ≤ length names + 1
length_bound [] name s = omega arith
length_bound (b ∷ names) name s =
    let rest = length_bound names name s in
    elim (same_name b.name name) as (λ c. length (cond c (record { name = name; slot = s } ∷ names) (b ∷ bound names name s)) ≤ suc
    (length names) + 1) [ true ↦ omega arith | false ↦ omega (arith, rest) ]

-- an old name keeps its place
length_rebound : (names : List Binding) (name : List ℕ) (s : ℕ) → is_none (slot_bound names name) ≡ false
    → length (bound names name s) ≤ length names
length_rebound [] name s e = absurd (cc e)
length_rebound (b ∷ names) name s e =
    elim (same_name b.name name) as (λ c. is_none (option_map (λ b. b.slot) (cond c (Some b) (find (λ b. same_name b.name name) names)))
    ≡ false → length (cond c (record { name = name; slot = s } ∷ names) (b ∷ bound names name s)) ≤ suc (length names)) [
      | true ↦ λ e. omega arith
      | false ↦ λ e. omega (arith, length_rebound names name s e)
    ] e

slots_bound : (names : List Binding) (name : List ℕ) (s x : ℕ) → x ∈ slots (bound names name s) → (x ≡ s) ⊎ (x ∈ slots names)
slots_bound [] name s x h = elim (in_cons x s [] h) [ inl e ↦ inl e | inr h ↦ nothing x h ]
slots_bound (b ∷ names) name s x h =
    elim (same_name b.name name) as (λ c. x ∈ slots (cond c (record { name = name; slot = s } ∷ names) (b ∷ bound names name s)) → (x ≡ s)
    ⊎ (x ∈ slots (b ∷ names))) [
      | true ↦ λ h. elim (in_cons x s (slots names) h) [ inl e ↦ inl e | inr h ↦ inr (in_rest x b.slot (slots names) h) ]
      | false ↦ λ h. elim (in_cons x b.slot (slots (bound names name s)) h) [
        | inl e ↦ inr (in_front x b.slot (slots names) e)
        | inr h ↦ elim (slots_bound names name s x h) [ inl e ↦ inl e | inr h ↦ inr (in_rest x b.slot (slots names) h) ]
      ]
    ] h

slots_unbound : (names : List Binding) (name : List ℕ) (x : ℕ) → x ∈ slots (unbound names name) → x ∈ slots names
slots_unbound [] name x h = h
slots_unbound (b ∷ names) name x h =
    elim (not (same_name b.name name)) as (λ c. x ∈ slots (cond c (b ∷ unbound names name) (unbound names name)) → x ∈ slots (b ∷ names)) [
      | true ↦ λ h. elim (in_cons x b.slot (slots (unbound names name)) h) [
        | inl e ↦ in_front x b.slot (slots names) e
        | inr h ↦
            in_rest x b.slot (slots names) (slots_unbound names name x h)
      ]
      | false ↦ λ h. in_rest x b.slot (slots names) (slots_unbound names name x h)
    ] h

slot_in_names : (names : List Binding) (name : List ℕ) (x : ℕ) → slot_bound names name ≡ Some x → x ∈ slots names
slot_in_names [] name x e = no_some x e
slot_in_names (b ∷ names) name x e =
    elim (same_name b.name name) as (λ c. option_map (λ b. b.slot) (cond c (Some b) (find (λ b. same_name b.name name) names)) ≡ Some x
    → x ∈ slots (b ∷ names)) [
      | true ↦ λ e. in_front x b.slot (slots names) (sym (some_same b.slot x e))
      | false ↦ λ e. in_rest x b.slot (slots names) (slot_in_names names name x e)
    ] e

-- ---- New names for old

module _ (m : Machine) (new : List Binding) (w : IsWellFormed m) where
  abbrev n : Machine
  n = record m { names = new }

  back : (s : ℕ) (c : CleanableOf) → IsUnspent n s c → IsUnspent m s c
  back s c u = record { there = u.there; unspent = u.unspent }

  forth : (s : ℕ) (c : CleanableOf) → IsUnspent m s c → IsUnspent n s c
  forth s c u = record { there = u.there; unspent = u.unspent }

  worker_forth : (rid action : ℕ) (state : ResourceState) → HasWorker m rid action state → HasWorker n rid action state
  worker_forth rid action Closing h = h
  worker_forth rid action Opening h = (h.0, h.1, forth h.0 h.1 h.2, h.3, h.4)
  worker_forth rid action Idle h = (h.0, h.1, forth h.0 h.1 h.2, h.3, h.4)
  worker_forth rid action Out h = (h.0, h.1, forth h.0 h.1 h.2, h.3, h.4)

  roots_named : (s : ℕ) → ((x : ℕ) → x ∈ slots new → Shown m x) → IsRoot n s → IsObjectAt m s
  roots_named s shown (held k h session e g) = w.slots.roots s (root_from m s (held k h session e g))
  roots_named s shown (fencing k session e g) = w.slots.roots s (root_from m s (fencing k session e g))
  roots_named s shown (named h) = (shown s h).0
  roots_named s shown (waiting h) = w.slots.roots s (root_from m s (waiting h))
  roots_named s shown (lining h) = w.slots.roots s (root_from m s (lining h))
  roots_named s shown (active h) = w.slots.roots s (root_from m s (active h))

  pub with_names : ((x : ℕ) → x ∈ slots new → Shown m x) → IsDistinct same_name (keys new) → length new ≤ 256 → IsWellFormed n
  with_names shown distinct limit =
      let root : (s : ℕ) → IsRoot n s → IsObjectAt m s = λ s r. roots_named s shown r in
      record {
        slots = record {
          edges =
              w.slots.edges;
          roots = λ s h. root s (root_gives n s h);
          queues = w.slots.queues;
          guarded = w.slots.guarded;
        };
        references =
            record { states = w.references.states; members = w.references.members; once = w.references.once; in_one = w.references.in_one };
        lists = record {
          pending_once = w.lists.pending_once;
          line_once = w.lists.line_once;
          pending_references = w.lists.pending_references;
          pending_cleanables = w.lists.pending_cleanables;
          pending_others = w.lists.pending_others;
          lined = w.lists.lined;
          line_others = w.lists.line_others;
        };
        sessions = record { places = w.sessions.places; opening = w.sessions.opening; names = distinct; names_limit = limit };
        actions = record {
          cleanables = λ s t c d u v e. w.actions.cleanables s t c d (back s c u) (back t d v) e;
          apart = λ s c u. w.actions.apart s c (back s c u);
          jobs = w.actions.jobs;
          of_cleanables = w.actions.of_cleanables;
          of_jobs = w.actions.of_jobs;
          of_resources = w.actions.of_resources;
          of_faults = w.actions.of_faults;
          referents = w.actions.referents;
          cleaners = w.actions.cleaners;
          taken = w.actions.taken;
          room = w.actions.room;
        };
        resources = record {
          rising = w.resources.rising;
          worked = λ rid action state h. worker_forth rid action state (w.resources.worked rid action state h);
          of_cleanables = λ s rid c u e. w.resources.of_cleanables s rid c (back s c u) e;
          idle = λ s rid c u e d. w.resources.idle s rid c (back s c u) e d;
          of_jobs = w.resources.of_jobs;
          one_guard = w.resources.one_guard;
          guards = λ s g c e f. elim (w.resources.guards s g c e f) [
            | inl spent ↦ inl spent
            | inr own ↦ inr (record { armed = own.armed; referent = own.referent; work = own.work })
          ];
          guarded = w.resources.guarded;
        };
        calls = record {
          calls =
              w.calls.calls;
          opening = w.calls.opening;
          out = w.calls.out;
          one_call = w.calls.one_call;
          jobs = w.calls.jobs;
        };
        unnamed = record {
          handles =
              w.unnamed.handles;
          names = λ s h. (shown s h).1;
          fields = w.unnamed.fields;
          references = w.unnamed.references;
        };
        limits = limits_stay m n w.limits refl refl;
        faults = w.faults;
        notes = w.notes;
        seen_rising = w.seen_rising;
        seen_within = w.seen_within;
        seen_in_cycle = w.seen_in_cycle;
      }

-- what a name stands for may be held
named_shown : (m : Machine) → IsWellFormed m → (x : ℕ) → x ∈ slots m.names → Shown m x
named_shown m w x h = (w.slots.roots x (root_from m x (named h)), w.unnamed.names x h)

-- ---- The asks

names_fit : (found full : Bool) (names : List Binding) (name : List ℕ) (s : ℕ) → is_none (slot_bound names name) ≡ found
    → nat_le 256 (length names) ≡ full → (found && full) ≡ false → length names ≤ 256 → length (bound names name s) ≤ 256
names_fit true true names name s e f h l = absurd (cc h)
names_fit true false names name s e f h l = elim (cases_lt (length names) 256) [
  | inl below ↦ omega (arith, length_bound names name s, below)
  | inr above ↦ absurd (both_ways (nat_le 256 (length names)) f (le-leb 256 (length names) above))
]
names_fit false full names name s e f h l = omega (arith, length_rebound names name s e, l)

pub keeps_Bind : (m : Machine) → IsWellFormed m → (k : ℕ) (name : List ℕ) (h : ℕ) → refusal m (Bind k name h) ≡ None
    → (a : Answer) (fresh : List ℕ) → IsWellFormed (after m (Bind k name h) a fresh)
keeps_Bind m w k name h no_refusal a fresh =
    let ok = allowed m (Bind k name h) no_refusal in
    let o = only_operand m k h is_any w (ok NoHandle refl) (ok Null refl) (any_fits (object_named m k h)) in
    let s : ℕ = o.0 in
    subst (λ o. IsWellFormed (on o (λ s. record m { names = bound m.names name s }) m)) (sym o.3.slot)
    (with_names m (bound m.names name s) w
    (λ x g. elim (slots_bound m.names name s x g) [
      | inl e ↦ subst (Shown m) (sym e) (held_object m w k h o.0 o.1 o.3.session_there o.3.handle)
      | inr g ↦ named_shown m w x g
    ])
    (distinct_bound m.names name s w.sessions.names)
    (names_fit (is_none (slot_bound m.names name)) (nat_le 256 (length m.names)) m.names name s refl refl (ok NamesFull refl)
    w.sessions.names_limit))

pub keeps_Unbind : (m : Machine) → IsWellFormed m → (k : ℕ) (name : List ℕ) (a : Answer) (fresh : List ℕ)
    → IsWellFormed (after m (Unbind k name) a fresh)
keeps_Unbind m w k name a fresh =
    with_names m (unbound m.names name) w (λ x g. named_shown m w x (slots_unbound m.names name x g))
    (distinct_unbound m.names name w.sessions.names) (omega (arith, length_unbound m.names name, w.sessions.names_limit))

pub keeps_Find : (m : Machine) → IsWellFormed m → (k : ℕ) (name : List ℕ) → refusal m (Find k name) ≡ None → (a : Answer) (fresh : List ℕ)
    → IsWellFormed (after m (Find k name) a fresh)
keeps_Find m w k name no_refusal a fresh =
    keeps_given m w k (slot_bound m.names name) (λ x e. named_shown m w x (slot_in_names m.names name x e))
    (λ s e. free_session m k s e (allowed m (Find k name) no_refusal Busy refl))

pub keeps_MakeCleaner : (m : Machine) → IsWellFormed m → (k : ℕ) → refusal m (MakeCleaner k) ≡ None → (a : Answer) (fresh : List ℕ)
    → IsFresh m.objects 1 fresh → IsWellFormed (after m (MakeCleaner k) a fresh)
keeps_MakeCleaner m w k no_refusal a fresh f =
    let s = fresh_one m.objects fresh f in
    subst (λ o. IsWellFormed (on o (λ s. with_handle (with_new m s Cleaner) k s) m)) (sym s.1)
    (keeps_made m s.0 Cleaner w (record {
      new_cleanable = refl;
      new_guard = refl;
      edges = λ x h. elim (edge_split Cleaner x h) [ inl h ↦ nothing x h | inr h ↦ no_some x h ];
      queue_fits = λ q r g. no_some r g;
      fresh = λ r g. no_some r g;
      public_referent = λ x r g. no_some r g;
      empty = λ xs g. no_some xs g;
      public_fields = λ x xs g h. no_some xs g;
    }) s.2 s.3 k (λ session e. free_session m k session e (allowed m (MakeCleaner k) no_refusal Busy refl)))

pub keeps_Begin : (m : Machine) → IsWellFormed m → (a : Answer) (fresh : List ℕ) → IsWellFormed (after m Begin a fresh)
keeps_Begin m w a fresh = with_seen m true m.seen w w.seen_rising w.seen_within (λ e. absurd (both_ways true e refl))

-- nothing is seen outside a cycle
pub keeps_Abandon : (m : Machine) → IsWellFormed m → (a : Answer) (fresh : List ℕ) → IsWellFormed (after m Abandon a fresh)
keeps_Abandon m w a fresh = with_seen m false [] w refl (λ s h. nothing s h) (λ _. refl)
