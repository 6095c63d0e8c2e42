-- A core goes on standing for each machine for which it stands.
use Rattle.std.proofs.Common.{◌≡◌, ℕ, true, List, [], ◌++◌, inl, inr, refl, sym, ap, subst}
use Rattle.std.proofs.lemmas.List.{append-nil}
use Rattle.jlr_machine.specs.declared.machine.Machine.{Machine}
use Rattle.jlr_machine.specs.declared.entry.Entry.{Entry}
use Rattle.jlr_machine.specs.Objects.{◌∈◌}
use Rattle.jlr_machine.specs.Edges.{roots}
use Rattle.jlr_machine.specs.Edges.Chain.{UpToSoft}
use Rattle.jlr_machine.specs.Reachable.{IsReached}
use Rattle.jlr_machine.specs.Run.{IsLegal, apply, done, now_seen}
use Rattle.jlr_machine.specs.WellFormed.{IsWellFormed}
use Rattle.jlr_machine.specs.StandsFor.{StandsFor}
use Rattle.jlr_laws.specs.Laws.{IsWithinHeap}
use Rattle.jlr_laws.proofs.Sets.{nothing}
use Rattle.jlr_laws.proofs.Empty.{well_formed_within}
use Rattle.jlr_laws.proofs.SeenKept.{keeps_seen, with_seen as unseen}
use Rattle.jlr_laws.proofs.Law.{legal_kept}
use Rattle.jlr_histories.specs.CycleLaws.{with_seen, StandsAfter, GoesOnStanding, LegalInAllForWhichItStands, CoreStaysWellFormed}
use Rattle.jlr_histories.proofs.Seen.{now_seen_gives, reached_is_seen, none_seen}
use Rattle.jlr_histories.proofs.Legal.{legal_when_more_was_seen}
use Rattle.jlr_histories.proofs.Left.{leaves_the_same}

-- a core with nothing marked stands for the machine in which what the roots reach was seen
pub stands_for_seen : (n : Machine) → IsWithinHeap n.objects (roots n) → StandsFor (with_seen n []) [] (with_seen n (now_seen n))
stands_for_seen n within =
    record {
      same = refl;
      seen = λ e s r. reached_is_seen n within s e (subst (λ base. IsReached UpToSoft n.objects base s) (append-nil (roots n)) r);
      outside = none_seen n;
    }

-- ---- After an entry

module _ (m : Machine) (e : Entry) (w : IsWellFormed (with_seen m []))
    (seen : m.cycle_open ≡ true → (s : ℕ) → IsReached UpToSoft m.objects (roots m ++ []) s → s ∈ m.seen) where
  abbrev now : List ℕ
  now = now_seen (with_seen m [])

  now_was_seen : (s : ℕ) → s ∈ now → s ∈ m.seen
  now_was_seen s h =
      let given = now_seen_gives (with_seen m []) (well_formed_within (with_seen m []) w) s h in
      elim given.1 [
        | inl before ↦ nothing s before
        | inr r ↦ seen given.0 s (subst (λ base. IsReached UpToSoft m.objects base s) (sym (append-nil (roots m))) r)
      ]

  within_after : IsLegal (with_seen m now) e → IsWithinHeap (done m e).objects (roots (done m e))
  within_after legal =
      let kept : IsWellFormed (apply (with_seen m now) e) = legal_kept (with_seen m now) e (keeps_seen (with_seen m []) w) legal in
      subst (λ (n : Machine). IsWithinHeap n.objects (roots n)) (leaves_the_same m now e)
      (well_formed_within (apply (with_seen m now) e) kept)

  goes_on : IsLegal (with_seen m now) e → StandsAfter (with_seen m []) m e
  goes_on legal = (
    legal_when_more_was_seen (with_seen m now) m.seen e now_was_seen legal,
    subst (λ core. StandsFor core [] (apply m e)) (sym (leaves_the_same m [] e)) (stands_for_seen (done m e) (within_after legal)),
  )

pub goes_on_standing : GoesOnStanding
goes_on_standing core m e w s legal =
    subst (λ core. IsWellFormed core → IsLegal (with_seen core (now_seen core)) e → StandsAfter core m e) (sym s.same)
    (λ w legal. goes_on m e w s.seen legal) w legal

pub legal_in_all : LegalInAllForWhichItStands
legal_in_all core m e w s legal =
    goes_on_standing core m e w s (legal_when_more_was_seen core (now_seen core) e
    (λ x h. nothing x (subst (λ l. x ∈ l) (ap (λ (c : Machine). c.seen) s.same) h)) legal)

-- ---- The core's own machine

-- nothing seen fits each well-formed machine
unseen_kept : (n : Machine) → IsWellFormed n → IsWellFormed (with_seen n [])
unseen_kept n w = unseen n n.cycle_open [] w refl (λ s h. nothing s h) (λ _. refl)

pub core_kept : (core : Machine) (slots : List ℕ) (e : Entry) → IsWellFormed (with_seen core slots) → IsLegal (with_seen core slots) e
    → IsWellFormed (with_seen (done core e) [])
core_kept core slots e w legal =
    subst IsWellFormed (leaves_the_same core slots e)
    (unseen_kept (apply (with_seen core slots) e) (legal_kept (with_seen core slots) e w legal))

pub core_stays_well_formed : CoreStaysWellFormed
core_stays_well_formed core e w (inl legal) = core_kept core core.seen e w legal
core_stays_well_formed core e w (inr legal) = core_kept core (now_seen core) e (keeps_seen core w) legal
