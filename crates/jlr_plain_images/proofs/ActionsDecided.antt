-- What the test of actions tells.
use Rattle.std.proofs.Common.{◌≡◌, ◌≢◌, ◌↔◌, ℕ, ◌+◌, ◌<◌, ◌≤◌, true, false, Decides, IsTrue, length, refl, sym, ◌∙◌, ap, count_by, cond}
use Rattle.std.proofs.Common.{Option, Some, None, is_none, nat_eq}
use Rattle.std.specs.List.{AllByRecursion}
use Rattle.std.proofs.lemmas.Bool.{both_ways}
use Rattle.jlr_machine.specs.declared.object.Object.{Object}
use Rattle.jlr_machine.specs.declared.object.Object.TheVariants.{Cleanable}
use Rattle.jlr_machine.specs.declared.object.Cleanable.{Cleanable as CleanableOf}
use Rattle.jlr_machine.specs.declared.object.CleanState.TheVariants.{Armed, Spent}
use Rattle.jlr_machine.specs.declared.machine.Machine.{Machine}
use Rattle.jlr_machine.specs.Objects.{at, is_spent}
use Rattle.jlr_machine.specs.Lookups.{job_of}
use Rattle.jlr_machine.specs.WellFormed.{AreActions, IsAction, IsUnspent, is_unspent_place}
use Rattle.jlr_laws.proofs.Frames.{no_some, some_same}
use Rattle.jlr_plain_images.specs.Places.{keys_are_apart}
use Rattle.jlr_plain_images.specs.Actions.{unspent_action, is_action, acts, all_are_actions, action_of, counts_fit, actions_fit}
use Rattle.jlr_plain_images.proofs.States.{spent_is, unless_spent, unless_armed}
use Rattle.jlr_plain_images.proofs.Everywhere.{Decides-most, Decides-less, Decides-equal, Decides-none, Decides-each, Decides-cleanables}
use Rattle.jlr_plain_images.proofs.Everywhere.{Decides-rising, Decides-apart, also, turned}

Decides-action : (m : Machine) (action : ℕ) → Decides (is_action m action) (IsAction m action)
Decides-action m action = also (Decides-most 1 action) (Decides-less action m.next_action)

abbrev Acts : Machine → CleanableOf → Type 0
Acts m c = (IsAction m c.action × (c.state ≢ Spent → job_of m c.action ≡ None)) × (c.state ≢ Armed → c.referent ≡ None)

Decides-acts : (m : Machine) (c : CleanableOf) → Decides (acts m c) (Acts m c)
Decides-acts m c =
    also (also (Decides-action m c.action) (unless_spent c.state (is_none (job_of m c.action)) (Decides-none (job_of m c.action))))
    (unless_armed c.state (is_none c.referent) (Decides-none c.referent))

-- ---- Actions of unspent cleanables

action_there : (c : CleanableOf) → c.state ≢ Spent → cond (is_spent c.state) None (Some c.action) ≡ Some c.action
action_there c n =
    elim (is_spent c.state) as (λ t. is_spent c.state ≡ t → cond t None (Some c.action) ≡ Some c.action) [
      | true ↦ λ e. absurd (n (spent_is c.state e))
      | false ↦ λ e. refl
    ] refl

unspent_gives : (o : Option Object) (a : ℕ) → unspent_action o ≡ Some a → (c : CleanableOf) × (o ≡ Some (Cleanable c)) × (c.state ≢ Spent)
    × (c.action ≡ a)
unspent_gives None a e = no_some a e
unspent_gives (Some (Cleanable c)) a e =
    elim (is_spent c.state) as (λ t. is_spent c.state ≡ t → cond t None (Some c.action) ≡ Some a → (d : CleanableOf)
    × (Some (Cleanable c) ≡ Some (Cleanable d)) × (d.state ≢ Spent) × (d.action ≡ a)) [
      | true ↦ λ f e. no_some a e
      | false ↦ λ f e. (c, refl, (λ g. both_ways (is_spent c.state) f (ap is_spent g)), some_same c.action a e)
    ] refl e
unspent_gives (Some _) a e = no_some a e

unspent_from : (o : Option Object) (c : CleanableOf) → o ≡ Some (Cleanable c) → c.state ≢ Spent → unspent_action o ≡ Some c.action
unspent_from o c e n = ap unspent_action e ∙ action_there c n

abbrev UnspentApart : Machine → Type 0
UnspentApart m = (s t : ℕ) (c d : CleanableOf) → IsUnspent m s c → IsUnspent m t d → c.action ≡ d.action → s ≡ t

Decides-unspent : (m : Machine) → Decides (keys_are_apart unspent_action m.objects) (UnspentApart m)
Decides-unspent m = turned (Decides-apart unspent_action m.objects refl)
    (λ w s t c d u v e. w s t c.action (unspent_from (at m.objects s) c u.there u.unspent)
    (unspent_from (at m.objects t) d v.there v.unspent ∙ ap (λ a. Some a) (sym e)))
    (λ w s t a e f.
    let x = unspent_gives (at m.objects s) a e in
    let y = unspent_gives (at m.objects t) a f in
    w s t x.0 y.0 (record { there = x.1; unspent = x.2 }) (record { there = y.1; unspent = y.2 }) (x.3 ∙ sym y.3))

-- ---- All

abbrev AllActions : Machine → Type 0
AllActions m = (AllByRecursion (λ job. IsAction m job.action) m.jobs × AllByRecursion (λ r. IsAction m r.action) m.resources)
    × AllByRecursion (λ f. IsAction m f.action) m.faults

Decides-all_actions : (m : Machine) → Decides (all_are_actions m) (AllActions m)
Decides-all_actions m =
    also (also (Decides-each (λ job. is_action m job.action) (λ job. IsAction m job.action) m.jobs (λ job. Decides-action m job.action))
    (Decides-each (λ r. is_action m r.action) (λ r. IsAction m r.action) m.resources (λ r. Decides-action m r.action)))
    (Decides-each (λ f. is_action m f.action) (λ f. IsAction m f.action) m.faults (λ f. Decides-action m f.action))

abbrev CountsFit : Machine → Type 0
CountsFit m = ((count_by (λ job. nat_eq job.by 255) m.jobs ≤ 1) × (m.taken ≡ m.ok + m.failed + length m.jobs))
    × (m.taken + count_by is_unspent_place m.objects < m.next_action)

Decides-counts : (m : Machine) → Decides (counts_fit m) (CountsFit m)
Decides-counts m =
    also (also (Decides-most (count_by (λ job. nat_eq job.by 255) m.jobs) 1) (Decides-equal m.taken (m.ok + m.failed + length m.jobs)))
    (Decides-less (m.taken + count_by is_unspent_place m.objects) m.next_action)

pub actions_decided : (m : Machine) → IsTrue (actions_fit m) ↔ AreActions m
actions_decided m =
    let cleanables = Decides-cleanables (acts m) (Acts m) m.objects (Decides-acts m) in
    turned (also (also (also (also (Decides-unspent m) cleanables) (Decides-rising action_of m.jobs)) (Decides-all_actions m))
    (Decides-counts m))
    (λ p. record {
      cleanables = p.0.0.0.0;
      apart = λ s c u. (p.0.0.0.1 s c u.there).0.1 u.unspent;
      jobs = p.0.0.1;
      of_cleanables = λ s c e. (p.0.0.0.1 s c e).0.0;
      of_jobs = p.0.1.0.0;
      of_resources = p.0.1.0.1;
      of_faults = p.0.1.1;
      referents = λ s c e. (p.0.0.0.1 s c e).1;
      cleaners = p.1.0.0;
      taken = p.1.0.1;
      room = p.1.1;
    })
    (λ w. (
      (
        (
          (
            w.cleanables,
            (λ s c e. (
              (w.of_cleanables s c e, (λ n. w.apart s c (record { there = e; unspent = n }))),
              w.referents s c e,
            )),
          ),
          w.jobs,
        ),
        ((w.of_jobs, w.of_resources), w.of_faults),
      ),
      ((w.cleaners, w.taken), w.room),
    ))
