-- The laws of resources, in one entry and in a run.
use Rattle.std.proofs.Common.{◌≡◌, ℕ, suc, ◌≤◌, ◌<◌, ◌==◌, List, [], ◌∷◌, ◌++◌, refl, sym, ◌∙◌, ap, subst, ◌⊎◌, inl, inr, arith, Option}
use Rattle.std.proofs.Common.{Some, None, option_to_list}
use Rattle.std.proofs.lemmas.Bool.{both_ways, cond-true, cases_lt, eq-eqb, lt-ltb}
use Rattle.jlr_types.specs.declared.Work.TheVariants.{Resource as WorkOn}
use Rattle.jlr_machine.specs.declared.machine.Machine.{Machine}
use Rattle.jlr_machine.specs.declared.machine.ResourceState.{ResourceState}
use Rattle.jlr_machine.specs.declared.machine.ResourceState.TheVariants.{Opening, Idle, Out, Closing}
use Rattle.jlr_machine.specs.declared.ask.Answer.TheVariants.{Job}
use Rattle.jlr_machine.specs.declared.entry.Entry.{Entry}
use Rattle.jlr_machine.specs.Run.{IsLegal, Run, apply, empty_from}
use Rattle.jlr_machine.specs.WellFormed.{IsWellFormed, HasResource}
use Rattle.jlr_laws.proofs.Empty.{empty_from_is_well_formed}
use Rattle.jlr_laws.proofs.Law.{legal_kept, run_kept}
use Rattle.jlr_laws.proofs.Frames.{some_same}
use Rattle.jlr_histories.specs.Lives.{is_job}
use Rattle.jlr_histories.specs.ResourceLives.{Phase, phase_of, phase, Deed, after_deed, deed_of, done_to, deed, deeds, GoesOn}
use Rattle.jlr_histories.specs.ResourceLives.{reads_and_writes, IsWholeLife}
use Rattle.jlr_histories.specs.ResourceLives.Phase.{NotYet, In, Over}
use Rattle.jlr_histories.specs.ResourceLives.Deed.{BeginsOpen, EndsOpen, FailsOpen, BeginsCall, EndsCall, BeginsFinish, EndsFinish}
use Rattle.jlr_histories.specs.Laws.{OneResourceAnAction, PhaseIsItsState, ResourceKeepsItsRid, CallsFindTheirResourcesIdle}
use Rattle.jlr_histories.specs.Laws.{JobsFindTheirResourcesIdle, ResourceGoesOn, OverIsOver, ResourceLivesInOrder}
use Rattle.jlr_histories.specs.Laws.{ResourceLivesInOrderInRuns}
use Rattle.jlr_histories.proofs.Steps.{legal_step}
use Rattle.jlr_histories.proofs.Takes.{legal_taking}
use Rattle.jlr_histories.proofs.Takes.IsTaking.{none, one}
use Rattle.jlr_histories.proofs.ResourceStands.{one_resource, given, phase_in, phase_out, standing, not_yet}
use Rattle.jlr_histories.proofs.ResourceStands.IsStanding.{there, not_there}
use Rattle.jlr_histories.proofs.Moving.{IsMoving, goes_on, same_rid}
use Rattle.jlr_histories.proofs.Moving.IsMoving.{still, opens, moves, ends}
use Rattle.jlr_histories.proofs.ResourceSteps.{legal_moving, out_was_idle}

pub one_resource_an_action : OneResourceAnAction
one_resource_an_action m r q action s t w h k = one_resource m w r q action s t h k

pub phase_is_its_state : PhaseIsItsState
phase_is_its_state m rid action s w h = phase_in m w rid action s h

-- ---- One entry

-- what was seen is no matter of resources
up_to_date : (m : Machine) (e : Entry) → IsWellFormed m → IsLegal m e → IsMoving m (apply m e) (deed_of m e.ask e.answer)
up_to_date m e w l = elim (legal_moving m e w l) [
  | still a b ↦ still a b
  | opens rid free a b ↦ opens rid free a b
  | moves rid action old new d h a b c ↦ moves rid action old new d h a b c
  | ends rid action old d h a b c ↦ ends rid action old d h a b c
]

pub resource_goes_on : ResourceGoesOn
resource_goes_on m e action w l =
    goes_on m (apply m e) w (legal_kept m e w l) (legal_step m e w l).next action (deed_of m e.ask e.answer) (up_to_date m e w l)

-- ---- What is over

over_stays : (d : Option Deed) (p : Phase) → GoesOn Over d p → (p ≡ Over) × (d ≡ None)
over_stays None p (inl e) = (e, refl)
over_stays None p (inr e) = (e.1, refl)
over_stays (Some d) p e = absurd (cc e)

pub over_is_over : OverIsOver
over_is_over m n [] action w run h = (ap (λ z. phase z action) run ∙ h, refl)
over_is_over m n (e ∷ entries) action w run h =
    let o = over_stays (deed m e action) (phase (apply m e) action)
    (subst (λ p. GoesOn p (deed m e action) (phase (apply m e) action)) h (resource_goes_on m e action w run.0)) in
    let rest = over_is_over (apply m e) n entries action (legal_kept m e w run.0) run.1 o.0 in
    (rest.0, ap (λ d. option_to_list d ++ deeds (apply m e) entries action) o.1 ∙ rest.1)

-- ---- The Rid

-- what is not there any more, after it was, is over
gone_is_over : (m n : Machine) (action : ℕ) → IsWellFormed m → action < m.next_action → m.next_action ≤ n.next_action
    → ((rid : ℕ) (s : ResourceState) → HasResource n rid action s → ⊥) → IsWellFormed n → phase n action ≡ Over
gone_is_over m n action w known later gone v = phase_out n v action gone
    ∙ ap (phase_of None) (lt-ltb action n.next_action (omega (arith, known, later)))

pub resource_keeps_its_rid : ResourceKeepsItsRid
resource_keeps_its_rid m n [] action r q s t w run h k = (one_resource m w r q action s t h (subst (λ z. HasResource z q action t) run k)).0
resource_keeps_its_rid m n (e ∷ entries) action r q s t w run h k =
    let v = legal_kept m e w run.0 in
    let later = (legal_step m e w run.0).next in
    elim (standing (apply m e) action v) [
      | there p u x ↦ same_rid m (apply m e) w v later action (deed_of m e.ask e.answer) (up_to_date m e w run.0) r p s u h x
          ∙ resource_keeps_its_rid (apply m e) n entries action p q u t v run.1 x k
      | not_there gone ↦
          let over = (over_is_over (apply m e) n entries action v run.1
          (gone_is_over m (apply m e) action w (given m w r action s h) later gone v)).0 in
          let both : Over ≡ In t = sym over ∙ phase_in n (run_kept (apply m e) n entries v run.1) q action t k in
          absurd (cc both)
    ]

-- ---- Lives

abbrev finish : List Deed
finish = BeginsFinish ∷ EndsFinish ∷ []

-- how a life goes on from a phase to its end
abbrev IsRest : Phase → List Deed → Type 0
IsRest NotYet all = IsWholeLife all
IsRest (In Opening) all = (all ≡ FailsOpen ∷ []) ⊎ ((n : ℕ) × (all ≡ EndsOpen ∷ (reads_and_writes n ++ finish)))
IsRest (In Idle) all = (n : ℕ) × (all ≡ reads_and_writes n ++ finish)
IsRest (In Out) all = (n : ℕ) × (all ≡ EndsCall ∷ (reads_and_writes n ++ finish))
IsRest (In Closing) all = all ≡ EndsFinish ∷ []
IsRest Over all = all ≡ []

-- from each phase it can
ends_somehow : (p : Phase) → (rest : List Deed) × IsRest p rest
ends_somehow NotYet = (BeginsOpen ∷ FailsOpen ∷ [], inl refl)
ends_somehow (In Opening) = (FailsOpen ∷ [], inl refl)
ends_somehow (In Idle) = (finish, (0, refl))
ends_somehow (In Out) = (EndsCall ∷ finish, (0, refl))
ends_somehow (In Closing) = (EndsFinish ∷ [], refl)
ends_somehow Over = ([], refl)

-- a deed before what follows it
after_it : (p : Phase) (d : Deed) (q : Phase) (all : List Deed) → after_deed p d ≡ Some q → IsRest q all → IsRest p (d ∷ all)
after_it NotYet BeginsOpen q all e h = elim (subst (λ z. IsRest z all) (some_same q (In Opening) (sym e)) h) [
  | inl f ↦ inl (ap (λ l. BeginsOpen ∷ l) f)
  | inr f ↦ inr (f.0, ap (λ l. BeginsOpen ∷ l) f.1)
]
after_it (In Opening) EndsOpen q all e h = let f = subst (λ z. IsRest z all) (some_same q (In Idle) (sym e)) h in
    inr (f.0, ap (λ l. EndsOpen ∷ l) f.1)
after_it (In Opening) FailsOpen q all e h = let f = subst (λ z. IsRest z all) (some_same q Over (sym e)) h in
    inl (ap (λ l. FailsOpen ∷ l) f)
after_it (In Idle) BeginsCall q all e h = let f = subst (λ z. IsRest z all) (some_same q (In Out) (sym e)) h in
    (suc f.0, ap (λ l. BeginsCall ∷ l) f.1)
after_it (In Idle) BeginsFinish q all e h = let f = subst (λ z. IsRest z all) (some_same q (In Closing) (sym e)) h in
    (0, ap (λ l. BeginsFinish ∷ l) f)
after_it (In Out) EndsCall q all e h = let f = subst (λ z. IsRest z all) (some_same q (In Idle) (sym e)) h in
    (f.0, ap (λ l. EndsCall ∷ l) f.1)
after_it (In Closing) EndsFinish q all e h = let f = subst (λ z. IsRest z all) (some_same q Over (sym e)) h in ap (λ l. EndsFinish ∷ l) f
after_it p d q all e h = absurd (cc e)

nothing_later : (later rest : List Deed) → later ++ rest ≡ [] → later ≡ []
nothing_later [] rest e = refl
nothing_later (d ∷ later) rest e = absurd (cc e)

-- of a number that was given to another action nothing comes
goes_never : (p : Phase) (later : List Deed) → p ≡ NotYet → later ≡ [] → (rest : List Deed) × IsRest p (later ++ rest)
goes_never p later e f =
    let rest : List Deed = BeginsOpen ∷ FailsOpen ∷ [] in
    (rest, subst (λ z. IsRest z (later ++ rest)) (sym e) (subst (λ l. IsWholeLife (l ++ rest)) (sym f) (inl refl)))

goes_from : (p q : Phase) (d : Option Deed) (later : List Deed) → GoesOn p d q → ((rest : List Deed) × IsRest q (later ++ rest))
    → (rest : List Deed) × IsRest p ((option_to_list d ++ later) ++ rest)
goes_from p q (Some d) later g h = (h.0, after_it p d q (later ++ h.0) g h.1)
goes_from p q None later (inl e) h = (h.0, subst (λ z. IsRest z (later ++ h.0)) e h.1)
goes_from p q None later (inr e) h = goes_never p later e.0 (nothing_later later h.0 (subst (λ z. IsRest z (later ++ h.0)) e.1 h.1))

-- a life in a run, from where it stands
life : (m n : Machine) (entries : List Entry) (action : ℕ) → IsWellFormed m → Run m entries n → (rest : List Deed)
    × IsRest (phase m action) (deeds m entries action ++ rest)
life m n [] action w run = ends_somehow (phase m action)
life m n (e ∷ entries) action w run =
    let later = life (apply m e) n entries action (legal_kept m e w run.0) run.1 in
    goes_from (phase m action) (phase (apply m e) action) (deed m e action) (deeds (apply m e) entries action)
    (resource_goes_on m e action w run.0) later

pub resource_lives_in_order : ResourceLivesInOrder
resource_lives_in_order m n entries action w run h =
    let l = life m n entries action w run in
    (l.0, subst (λ p. IsRest p (deeds m entries action ++ l.0)) (not_yet m action w h) l.1)

pub resource_lives_in_runs : ResourceLivesInOrderInRuns
resource_lives_in_runs cells sessions resources next_action n entries action started small few run =
    let m : Machine = empty_from cells sessions resources next_action in
    let w : IsWellFormed m = empty_from_is_well_formed cells sessions resources next_action started small few in
    elim (cases_lt action next_action) [
      | inr later ↦ resource_lives_in_order m n entries action w run later
      | inl given ↦
          let over : phase m action ≡ Over = ap (phase_of None) (lt-ltb action next_action given) in
          let nothing = (over_is_over m n entries action w run over).1 in
          (BeginsOpen ∷ FailsOpen ∷ [], subst (λ l. IsWholeLife (l ++ BeginsOpen ∷ FailsOpen ∷ [])) (sym nothing) (inl refl))
    ]

-- ---- What is handed out

only_idle : (s : ResourceState) (p : Phase) → after_deed (In s) BeginsFinish ≡ Some p → s ≡ Idle
only_idle Opening p e = absurd (cc e)
only_idle Idle p e = refl
only_idle Out p e = absurd (cc e)
only_idle Closing p e = absurd (cc e)

pub calls_find_their_resources_idle : CallsFindTheirResourcesIdle
calls_find_their_resources_idle m e rid w l a = out_was_idle m e rid w l a

pub jobs_find_their_resources_idle : JobsFindTheirResourcesIdle
jobs_find_their_resources_idle m e action rid w l a = elim (legal_taking m e l) [
  | none t ↦ absurd (both_ways (is_job e.answer) t.no_job (ap is_job a))
  | one s c u b n x ↦
      let both : Job c.action c.work ≡ Job action (WorkOn rid) = sym b ∙ a in
      let number : c.action ≡ action = cc both in
      let work : c.work ≡ WorkOn rid = cc both in
      let r = w.resources.of_cleanables s rid c u work in
      let was : HasResource m rid action r.0 = subst (λ i. HasResource m rid i r.0) number r.1 in
      let what : deed m e action ≡ Some BeginsFinish = ap (λ z. done_to action (deed_of m e.ask z)) a
      ∙ cond-true (action == action) (Some BeginsFinish) None (eq-eqb action action refl) in
      let goes : after_deed (In r.0) BeginsFinish ≡ Some (phase (apply m e) action) =
      subst (λ p. after_deed p BeginsFinish ≡ Some (phase (apply m e) action)) (phase_in m w rid action r.0 was)
      (subst (λ d. GoesOn (phase m action) d (phase (apply m e) action)) what (resource_goes_on m e action w l)) in
      subst (λ st. HasResource m rid action st) (only_idle r.0 (phase (apply m e) action) goes) was
]
