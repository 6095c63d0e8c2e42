-- Other names, a shorter pending list or line, another cycle or other seen slots: everything else as it was.
use Rattle.std.proofs.Common.{◌≡◌, ℕ, ◌≤◌, Bool, false, List, [], length, refl, inl, inr, Some, map, IsTrue, ◌<◌}
use Rattle.jlr_machine.specs.declared.object.Cleanable.{Cleanable as CleanableOf}
use Rattle.jlr_machine.specs.declared.object.CleanState.TheVariants.{Pending as PendingClean, Lined}
use Rattle.jlr_machine.specs.declared.object.RefState.TheVariants.{Pending}
use Rattle.jlr_machine.specs.declared.machine.Machine.{Machine}
use Rattle.jlr_machine.specs.declared.machine.Session.{Session}
use Rattle.jlr_machine.specs.declared.machine.Call.{Call}
use Rattle.jlr_machine.specs.declared.machine.Call.TheVariants.{Free, Opening as CallOpening, Out as CallOut, Job as CallJob}
use Rattle.jlr_machine.specs.Objects.{◌∈◌, is_rising, is_distinct}
use Rattle.jlr_machine.specs.Lookups.{same_name, bound_names}
use Rattle.jlr_machine.specs.WellFormed.{IsWellFormed, IsObjectAt, IsPrivate, IsUnspent, FitsItsCall, AreResources, state_at}
use Rattle.jlr_machine.specs.WellFormed.{clean_state_at}
use Rattle.std.specs.List.{IsDistinct}
use Rattle.jlr_machine.specs.declared.machine.Binding.{Binding}
use Rattle.jlr_laws.proofs.Frames.{IsRoot, root_gives, root_from, limits_stay}
use Rattle.jlr_laws.proofs.Frames.IsRoot.{held, fencing, named, waiting, lining, active}
use Rattle.jlr_laws.proofs.Changes.{HasCleanable, worker_over}

pub record IsListed (m : Machine) (names : List Binding) (pending line : List ℕ) (cycle_open : Bool) (seen : List ℕ) : Type 0 where
  pub names_there : (s : ℕ) → s ∈ map (λ b. b.slot) names → IsObjectAt m s × ¬ (IsPrivate m s)
  pub names_distinct : IsDistinct same_name (bound_names names)
  pub names_limit : length names ≤ 256
  pub pending_once : IsTrue (is_distinct pending)
  pub pending_less : (s : ℕ) → s ∈ pending → s ∈ m.pending
  pub pending_references : (s : ℕ) → state_at m s ≡ Some Pending → s ∈ pending
  pub pending_cleanables : (s : ℕ) → clean_state_at m s ≡ Some PendingClean → s ∈ pending
  pub line_once : IsTrue (is_distinct line)
  pub line_less : (s : ℕ) → s ∈ line → s ∈ m.line
  pub lined : (s : ℕ) → clean_state_at m s ≡ Some Lined → s ∈ line
  pub seen_rising : IsTrue (is_rising seen)
  pub seen_within : (s : ℕ) → s ∈ seen → s < length m.objects
  pub seen_in_cycle : cycle_open ≡ false → seen ≡ []

module _ (m : Machine) (names : List Binding) (pending line : List ℕ) (cycle_open : Bool) (seen : List ℕ) (w : IsWellFormed m)
    (x : IsListed m names pending line cycle_open seen) where
  abbrev n : Machine
  n = record m { names = names; pending = pending; line = line; cycle_open = cycle_open; seen = seen }

  private_back : (s : ℕ) → IsPrivate n s → IsPrivate m s
  private_back s (inl p) = inl p
  private_back s (inr p) = inr p

  root_there : (s : ℕ) → IsRoot n s → IsObjectAt m s
  root_there s (held k h session e f) = w.slots.roots s (root_from m s (held k h session e f))
  root_there s (fencing k session e f) = w.slots.roots s (root_from m s (fencing k session e f))
  root_there s (named h) = (x.names_there s h).0
  root_there s (waiting h) = w.slots.roots s (root_from m s (waiting (x.pending_less s h)))
  root_there s (lining h) = w.slots.roots s (root_from m s (lining (x.line_less s h)))
  root_there s (active h) = w.slots.roots s (root_from m s (active h))

  unspent_back : (s : ℕ) (c : CleanableOf) → IsUnspent n s c → IsUnspent m s c
  unspent_back s c u = record { there = u.there; unspent = u.unspent }

  cleanable_over : (rid action : ℕ) → HasCleanable m rid action → HasCleanable n rid action
  cleanable_over rid action h = (h.0, h.1, record { there = h.2.there; unspent = h.2.unspent }, h.3, h.4)

  resources_kept : AreResources n
  resources_kept =
      record {
        rising = w.resources.rising;
        worked = λ rid action state h. worker_over m n rid action state (cleanable_over rid action) (λ z. z)
            (w.resources.worked rid action state h);
        of_cleanables = λ s rid c u e. w.resources.of_cleanables s rid c (unspent_back s c u) e;
        idle = λ s rid c u e a. w.resources.idle s rid c (unspent_back s c u) e a;
        of_jobs = w.resources.of_jobs;
        one_guard = w.resources.one_guard;
        guards = λ s g c e f. elim (w.resources.guards s g c e f) [
          | inl y ↦ inl y
          | inr y ↦
              inr (record { armed = y.armed; referent = y.referent; work = y.work })
        ];
        guarded = w.resources.guarded;
      }

  fits_over : (k : ℕ) (s : Session) (call : Call) → FitsItsCall m k s call → FitsItsCall n k s call
  fits_over k s Free f = f
  fits_over k s (CallOpening rid) f = f
  fits_over k s (CallOut rid) f = f
  fits_over k s (CallJob action) f = f

  pub listed_is_well_formed : IsWellFormed n
  listed_is_well_formed =
      record {
        slots = record {
          edges =
              w.slots.edges;
          roots = λ s h. root_there s (root_gives n s h);
          queues = w.slots.queues;
          guarded = w.slots.guarded;
        };
        references =
            record { states = w.references.states; members = w.references.members; once = w.references.once; in_one = w.references.in_one };
        lists = record {
          pending_once = x.pending_once;
          line_once = x.line_once;
          pending_references = x.pending_references;
          pending_cleanables = x.pending_cleanables;
          pending_others = λ s h. w.lists.pending_others s (x.pending_less s h);
          lined = x.lined;
          line_others = λ s h. w.lists.line_others s (x.line_less s h);
        };
        sessions = record {
          places =
              w.sessions.places;
          opening = w.sessions.opening;
          names = x.names_distinct;
          names_limit = x.names_limit;
        };
        actions = record {
          cleanables = λ s t c d p q. w.actions.cleanables s t c d (unspent_back s c p) (unspent_back t d q);
          apart = λ s c p. w.actions.apart s c (unspent_back s c p);
          jobs = w.actions.jobs;
          of_cleanables = w.actions.of_cleanables;
          of_jobs = w.actions.of_jobs;
          of_resources = w.actions.of_resources;
          of_faults = w.actions.of_faults;
          referents = w.actions.referents;
          cleaners = w.actions.cleaners;
          taken = w.actions.taken;
          room = w.actions.room;
        };
        resources = resources_kept;
        calls = record {
          calls = λ k s e. fits_over k s s.call (w.calls.calls k s e);
          opening = w.calls.opening;
          out = w.calls.out;
          one_call = w.calls.one_call;
          jobs = w.calls.jobs;
        };
        unnamed = record {
          handles = λ k h s session e f p. w.unnamed.handles k h s session e f (private_back s p);
          names = λ s h p. (x.names_there s h).1 (private_back s p);
          fields = λ t s fields e h p. w.unnamed.fields t s fields e h (private_back s p);
          references = λ t s r e f p. w.unnamed.references t s r e f (private_back s p);
        };
        limits = limits_stay m n w.limits refl refl;
        faults = w.faults;
        notes = w.notes;
        seen_rising = x.seen_rising;
        seen_within = x.seen_within;
        seen_in_cycle = x.seen_in_cycle;
      }

-- the lists as they are
pub as_listed : (m : Machine) → IsWellFormed m → IsListed m m.names m.pending m.line m.cycle_open m.seen
as_listed m w =
    record {
      names_there = λ s h. (w.slots.roots s (root_from m s (named h)), w.unnamed.names s h);
      names_distinct = w.sessions.names;
      names_limit = w.sessions.names_limit;
      pending_once = w.lists.pending_once;
      pending_less = λ s h. h;
      pending_references = w.lists.pending_references;
      pending_cleanables = w.lists.pending_cleanables;
      line_once = w.lists.line_once;
      line_less = λ s h. h;
      lined = w.lists.lined;
      seen_rising = w.seen_rising;
      seen_within = w.seen_within;
      seen_in_cycle = w.seen_in_cycle;
    }
