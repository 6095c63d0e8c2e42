-- What is well formed of actions, resources and privacy survives where cleanables and guards stay.
use Rattle.std.proofs.Common.{◌≡◌, ℕ, ◌≤◌, sym, ◌∙◌, ap, inl, inr, arith, Some, option_and_then, count_by}
use Rattle.jlr_machine.specs.declared.object.Cleanable.{Cleanable as CleanableOf}
use Rattle.jlr_machine.specs.declared.object.Guard.{Guard as GuardOf}
use Rattle.jlr_machine.specs.declared.object.Object.TheVariants.{Cleanable, Guard}
use Rattle.jlr_machine.specs.declared.machine.Machine.{Machine}
use Rattle.jlr_machine.specs.declared.machine.Session.{Session}
use Rattle.jlr_machine.specs.declared.machine.ResourceState.{ResourceState}
use Rattle.jlr_machine.specs.declared.machine.ResourceState.TheVariants.{Opening, Idle, Out, Closing}
use Rattle.jlr_machine.specs.Objects.{Table, Heap, at, as_cleanable, as_guard}
use Rattle.jlr_machine.specs.WellFormed.{AreActions, AreResources, IsPrivate, IsUnspent, IsCleanableAt, IsGuardAt, HasWorker, IsFencing}
use Rattle.jlr_machine.specs.WellFormed.{is_unspent_place}
use Rattle.jlr_laws.proofs.Frames.{is_cleanable_there, is_guard_there}

module _ (m : Machine) (heap : Heap) (table : Table Session)
    (cleanables : (s : ℕ) → option_and_then as_cleanable (at heap s) ≡ option_and_then as_cleanable (at m.objects s))
    (guards : (s : ℕ) → option_and_then as_guard (at heap s) ≡ option_and_then as_guard (at m.objects s)) where
  abbrev n : Machine
  n = record m { objects = heap; mutators = table }

  pub cleanable_back : (s : ℕ) (c : CleanableOf) → at heap s ≡ Some (Cleanable c) → IsCleanableAt m s c
  cleanable_back s c e = is_cleanable_there (at m.objects s) c (sym (cleanables s) ∙ ap (option_and_then as_cleanable) e)

  pub cleanable_forth : (s : ℕ) (c : CleanableOf) → IsCleanableAt m s c → at heap s ≡ Some (Cleanable c)
  cleanable_forth s c e = is_cleanable_there (at heap s) c (cleanables s ∙ ap (option_and_then as_cleanable) e)

  pub guard_back : (s : ℕ) (c : GuardOf) → at heap s ≡ Some (Guard c) → IsGuardAt m s c
  guard_back s c e = is_guard_there (at m.objects s) c (sym (guards s) ∙ ap (option_and_then as_guard) e)

  pub guard_forth : (s : ℕ) (c : GuardOf) → IsGuardAt m s c → at heap s ≡ Some (Guard c)
  guard_forth s c e = is_guard_there (at heap s) c (guards s ∙ ap (option_and_then as_guard) e)

  unspent_back : (s : ℕ) (c : CleanableOf) → IsUnspent n s c → IsUnspent m s c
  unspent_back s c u = record { there = cleanable_back s c u.there; unspent = u.unspent }

  unspent_forth : (s : ℕ) (c : CleanableOf) → IsUnspent m s c → IsUnspent n s c
  unspent_forth s c u = record { there = cleanable_forth s c u.there; unspent = u.unspent }

  worker_forth : (rid action : ℕ) (state : ResourceState) → HasWorker m rid action state → HasWorker n rid action state
  worker_forth rid action Closing h = h
  worker_forth rid action Opening h = (h.0, h.1, unspent_forth h.0 h.1 h.2, h.3, h.4)
  worker_forth rid action Idle h = (h.0, h.1, unspent_forth h.0 h.1 h.2, h.3, h.4)
  worker_forth rid action Out h = (h.0, h.1, unspent_forth h.0 h.1 h.2, h.3, h.4)

  pub fencing_forth : (s t : Session) (rid : ℕ) (state : ResourceState) → s.fence ≡ t.fence → IsFencing m s rid state
      → IsFencing n t rid state
  fencing_forth s t rid state e h =
      (h.0, h.1, h.2, sym e ∙ h.3, guard_forth h.0 h.1 h.4, h.5, cleanable_forth h.1.cleanable h.2 h.6, h.7, h.8)

  pub private_back : (s : ℕ) → IsPrivate n s → IsPrivate m s
  private_back s (inl p) = inl (p.0, p.1, cleanable_back s p.0 p.2, p.3)
  private_back s (inr p) = inr (p.0, p.1, guard_back s p.0 p.2, cleanable_back p.0.cleanable p.1 p.3, p.4, p.5)

  pub resources_kept : AreResources m → AreResources n
  resources_kept w =
      record {
        rising = w.rising;
        worked = λ rid action state h. worker_forth rid action state (w.worked rid action state h);
        of_cleanables = λ s rid c u e. w.of_cleanables s rid c (unspent_back s c u) e;
        idle = λ s rid c u e d. w.idle s rid c (unspent_back s c u) e d;
        of_jobs = w.of_jobs;
        one_guard = λ s t g h e f k. w.one_guard s t g h (guard_back s g e) (guard_back t h f) k;
        guards = λ s g c e f. elim (w.guards s g c (guard_back s g e) (cleanable_back g.cleanable c f)) [
          | inl spent ↦ inl spent
          | inr own ↦ inr (record { armed = own.armed; referent = own.referent; work = own.work })
        ];
        guarded = λ s rid c e armed work. let r = w.guarded s rid c (cleanable_back s c e) armed work in
            (r.0, r.1, guard_forth r.0 r.1 r.2, r.3);
      }

  pub actions_kept : count_by is_unspent_place heap ≤ count_by is_unspent_place m.objects → AreActions m → AreActions n
  actions_kept count w =
      record {
        cleanables = λ s t c d u v e. w.cleanables s t c d (unspent_back s c u) (unspent_back t d v) e;
        apart = λ s c u. w.apart s c (unspent_back s c u);
        jobs = w.jobs;
        of_cleanables = λ s c e. w.of_cleanables s c (cleanable_back s c e);
        of_jobs = w.of_jobs;
        of_resources = w.of_resources;
        of_faults = w.of_faults;
        referents = λ s c e d. w.referents s c (cleanable_back s c e) d;
        cleaners = w.cleaners;
        taken = w.taken;
        room = omega (arith, w.room, count);
      }
