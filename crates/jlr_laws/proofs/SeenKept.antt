-- Well-formedness after an entry has brought what was seen up to date, and after a cycle was closed or opened.
use Rattle.std.proofs.Common.{◌≡◌, ℕ, zero, suc, ◌<◌, Bool, true, false, cond, ◌||◌, List, [], ◌∷◌, length, refl, inl, inr, arith, IsTrue}
use Rattle.std.proofs.Common.{filter, nat_lt}
use Rattle.std.proofs.lemmas.Bool.{both_ways, lt-ltb, and_from}
use Rattle.jlr_machine.specs.declared.object.Cleanable.{Cleanable as CleanableOf}
use Rattle.jlr_machine.specs.declared.machine.Machine.{Machine}
use Rattle.jlr_machine.specs.declared.machine.ResourceState.{ResourceState}
use Rattle.jlr_machine.specs.declared.machine.ResourceState.TheVariants.{Opening, Idle, Out, Closing}
use Rattle.jlr_machine.specs.Objects.{◌∋◌, is_above, is_rising, ◌∈◌}
use Rattle.jlr_machine.specs.Edges.{roots}
use Rattle.jlr_machine.specs.ReachSet.{reach_set, up_to}
use Rattle.jlr_machine.specs.Run.{seen_with, now_seen}
use Rattle.jlr_machine.specs.WellFormed.{IsWellFormed, IsUnspent, HasWorker}
use Rattle.jlr_machine.specs.Edges.Chain.{UpToSoft}
use Rattle.jlr_laws.proofs.Sets.{nothing, in_filter, in_up_to}
use Rattle.jlr_laws.proofs.Frames.{limits_stay}

-- ---- A selection of rising numbers rises

above_filter : (p : ℕ → Bool) (s from n : ℕ) → s < from → is_above s (filter p (up_to from n)) ≡ true
above_filter p s from zero h = refl
above_filter p s from (suc n) h =
    elim (p from) as (λ b. is_above s (cond b (from ∷ filter p (up_to (suc from) n)) (filter p (up_to (suc from) n))) ≡ true) [
      | true ↦ and_from (nat_lt s from) (is_above s (filter p (up_to (suc from) n))) (lt-ltb s from h)
          (above_filter p s (suc from) n (omega (arith, h)))
      | false ↦ above_filter p s (suc from) n (omega (arith, h))
    ]

pub rising_filter : (p : ℕ → Bool) (from n : ℕ) → is_rising (filter p (up_to from n)) ≡ true
rising_filter p from zero = refl
rising_filter p from (suc n) =
    elim (p from) as (λ b. is_rising (cond b (from ∷ filter p (up_to (suc from) n)) (filter p (up_to (suc from) n))) ≡ true) [
      | true ↦ and_from (is_above from (filter p (up_to (suc from) n))) (is_rising (filter p (up_to (suc from) n)))
          (above_filter p from (suc from) n (omega arith)) (rising_filter p (suc from) n)
      | false ↦ rising_filter p (suc from) n
    ]

-- ---- What was seen, and whether a cycle is open, matter to nothing else

module _ (m : Machine) (b : Bool) (slots : List ℕ) (w : IsWellFormed m) where
  abbrev n : Machine
  n = record m { cycle_open = b; seen = slots }

  back : (s : ℕ) (c : CleanableOf) → IsUnspent n s c → IsUnspent m s c
  back s c u = record { there = u.there; unspent = u.unspent }

  forth : (s : ℕ) (c : CleanableOf) → IsUnspent m s c → IsUnspent n s c
  forth s c u = record { there = u.there; unspent = u.unspent }

  worker_forth : (rid action : ℕ) (state : ResourceState) → HasWorker m rid action state → HasWorker n rid action state
  worker_forth rid action Closing h = h
  worker_forth rid action Opening h = (h.0, h.1, forth h.0 h.1 h.2, h.3, h.4)
  worker_forth rid action Idle h = (h.0, h.1, forth h.0 h.1 h.2, h.3, h.4)
  worker_forth rid action Out h = (h.0, h.1, forth h.0 h.1 h.2, h.3, h.4)

  pub with_seen : IsTrue (is_rising slots) → ((s : ℕ) → s ∈ slots → s < length m.objects) → (b ≡ false → slots ≡ []) → IsWellFormed n
  with_seen rising inside closed =
      record {
        slots = record { edges = w.slots.edges; roots = w.slots.roots; queues = w.slots.queues; guarded = w.slots.guarded };
        references =
            record { states = w.references.states; members = w.references.members; once = w.references.once; in_one = w.references.in_one };
        lists = record {
          pending_once = w.lists.pending_once;
          line_once = w.lists.line_once;
          pending_references = w.lists.pending_references;
          pending_cleanables = w.lists.pending_cleanables;
          pending_others = w.lists.pending_others;
          lined = w.lists.lined;
          line_others = w.lists.line_others;
        };
        sessions = record {
          places =
              w.sessions.places;
          opening = w.sessions.opening;
          names = w.sessions.names;
          names_limit = w.sessions.names_limit;
        };
        actions = record {
          cleanables = λ s t c d u v e. w.actions.cleanables s t c d (back s c u) (back t d v) e;
          apart = λ s c u. w.actions.apart s c (back s c u);
          jobs = w.actions.jobs;
          of_cleanables = w.actions.of_cleanables;
          of_jobs = w.actions.of_jobs;
          of_resources = w.actions.of_resources;
          of_faults = w.actions.of_faults;
          referents = w.actions.referents;
          cleaners = w.actions.cleaners;
          taken = w.actions.taken;
          room = w.actions.room;
        };
        resources = record {
          rising = w.resources.rising;
          worked = λ rid action state h. worker_forth rid action state (w.resources.worked rid action state h);
          of_cleanables = λ s rid c u e. w.resources.of_cleanables s rid c (back s c u) e;
          idle = λ s rid c u e d. w.resources.idle s rid c (back s c u) e d;
          of_jobs = w.resources.of_jobs;
          one_guard = w.resources.one_guard;
          guards = λ s g c e f. elim (w.resources.guards s g c e f) [
            | inl spent ↦ inl spent
            | inr own ↦ inr (record { armed = own.armed; referent = own.referent; work = own.work })
          ];
          guarded = w.resources.guarded;
        };
        calls = record {
          calls =
              w.calls.calls;
          opening = w.calls.opening;
          out = w.calls.out;
          one_call = w.calls.one_call;
          jobs = w.calls.jobs;
        };
        unnamed = record {
          handles =
              w.unnamed.handles;
          names = w.unnamed.names;
          fields = w.unnamed.fields;
          references = w.unnamed.references;
        };
        limits = limits_stay m n w.limits refl refl;
        faults = w.faults;
        notes = w.notes;
        seen_rising = rising;
        seen_within = inside;
        seen_in_cycle = closed;
      }

-- ---- After an entry

seen_now : (b : Bool) (seen reach : List ℕ) (cells : ℕ)
    → is_rising (elim b as (λ _. List ℕ) [ true ↦ seen_with seen reach cells | false ↦ [] ]) ≡ true
seen_now true seen reach cells = rising_filter (λ s. (seen ∋ s) || (reach ∋ s)) 0 cells
seen_now false seen reach cells = refl

seen_closed : (b : Bool) (seen reach : List ℕ) (cells : ℕ) → b ≡ false
    → elim b as (λ _. List ℕ) [ true ↦ seen_with seen reach cells | false ↦ [] ] ≡ []
seen_closed true seen reach cells e = absurd (both_ways true e refl)
seen_closed false seen reach cells e = refl

pub now_seen_within : (n : Machine) (s : ℕ) → s ∈ now_seen n → s < length n.objects
now_seen_within n s =
    elim n.cycle_open as (λ b. s ∈ elim b [
      | true ↦ seen_with n.seen (reach_set UpToSoft n.objects (roots n)) (length n.objects)
      | false ↦
          []
    ] → s < length n.objects) [
      | true ↦ λ h. (let r = (in_up_to 0 (length n.objects) s
          (in_filter (λ s. (n.seen ∋ s) || (reach_set UpToSoft n.objects (roots n) ∋ s)) (up_to 0 (length n.objects)) s h).1).1 in
          omega (arith, r))
      | false ↦ λ h. nothing s h
    ]

pub keeps_seen : (m : Machine) → IsWellFormed m → IsWellFormed (record m { seen = now_seen m })
keeps_seen m w =
    with_seen m m.cycle_open (now_seen m) w (seen_now m.cycle_open m.seen (reach_set UpToSoft m.objects (roots m)) (length m.objects))
    (now_seen_within m) (seen_closed m.cycle_open m.seen (reach_set UpToSoft m.objects (roots m)) (length m.objects))
