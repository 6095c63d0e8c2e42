-- What follows each reply, in one way and in another along a relation between the two.
use Rattle.std.proofs.Common.{◌≡◌, ◌≢◌, ℕ, List, [], ◌∷◌, inl, inr, refl, sym, ◌∙◌, subst}
use Rattle.jlr_event.specs.declared.event.Event.{Event}
use Rattle.jlr_machine.specs.declared.ask.Outcome.{Outcome}
use Rattle.jlr_machine.specs.declared.ask.Ask.TheVariants.{Finish, HandOver, TakeUp}
use Rattle.jlr_event.specs.declared.event.Event.TheVariants.{Ask as Asks}
use Rattle.jlr_event.specs.Events.{outcome_of}
use Rattle.jlr_event.specs.declared.event.Reply.{Reply}
use Rattle.jlr_device.specs.Handling.{Handling}
use Rattle.jlr_prog.specs.Settling.{Helpers, Turns, TurnsToTheEnd, TurnsUntilRefused, HandsOver, DoesJob, Works, CleansUp, Settles}

abbrev pub IsTurnAlong : {H X : Type 0} → (H → H → Type 0) → (X → X → Type 0) → (H → X → Type 0) → Type 0
IsTurnAlong {H} {X} turn other S = (h k : H) (x : X) → turn h k → S h x → (y : X) × other x y × S k y

-- an event that is asked in one way is asked in another as well, with the same reply
abbrev pub IsAskAlong : {H X R : Type 0} → (H → Event R → Reply R → H → Type 0) → (X → Event R → Reply R → X → Type 0) → (H → X → Type 0)
    → Event R → Type 0
IsAskAlong {H} {X} {R} asks tells S event = (h k : H) (x : X) (reply : Reply R) → asks h event reply k → S h x → (y : X)
    × tells x event reply y × S k y

-- and so are all events of a settling, over the same lists
pub record IsSettledAlong {H X R : Type 0} (helpers : Helpers H R) (others : Helpers X R) (S : H → X → Type 0) : Type 0 where
  pub hands_over : IsAskAlong helpers.hands others.hands S (Asks HandOver)
  pub takes_up : IsAskAlong helpers.cleans others.cleans S (Asks TakeUp)
  pub finishes : (action : ℕ) (outcome : Outcome) → IsAskAlong helpers.cleans others.cleans S (Asks (Finish 255 action outcome))
  pub same_pending : (h : H) (x : X) → S h x → others.pending x ≡ helpers.pending h
  pub same_line : (h : H) (x : X) → S h x → others.line x ≡ helpers.line h

turns_along : {H X : Type 0} (turn : H → H → Type 0) (other : X → X → Type 0) (S : H → X → Type 0) → IsTurnAlong turn other S
    → (states : List H) (h k : H) (x : X) → Turns turn states h k → S h x → (y : X) × (others : List X) × Turns other others x y × S k y
turns_along turn other S f [] h k x e s = (x, [], refl, subst (λ l. S l x) (sym e) s)
turns_along turn other S f (next ∷ later) h k x e s =
    let one = f h next x e.0 s in
    let more = turns_along turn other S f later next k one.0 e.1 one.2 in
    (more.0, one.0 ∷ more.1, (one.1, more.2), more.3)

module _ {H X : Type 0} (turn : H → H → Type 0) (other : X → X → Type 0) (left : H → List ℕ) (remains : X → List ℕ) (S : H → X → Type 0)
    (f : IsTurnAlong turn other S)
    (same : (h : H) (x : X) → S h x → remains x ≡ left h) where
  to_the_end_along : IsTurnAlong (TurnsToTheEnd turn left) (TurnsToTheEnd other remains) S
  to_the_end_along h k x u s =
      let on = turns_along turn other S f u.states h k x u.turns s in
      (on.0, record { states = on.1; turns = on.2; nothing_left = same k on.0 on.3 ∙ u.nothing_left }, on.3)

  until_refused_along : {R : Type 0} (asks : H → Event R → Reply R → H → Type 0) (tells : X → Event R → Reply R → X → Type 0)
      (event : Event R) → IsAskAlong asks tells S event
      → IsTurnAlong (TurnsUntilRefused asks turn event left) (TurnsUntilRefused tells other event remains) S
  until_refused_along asks tells event g h k x u s =
      let on = turns_along turn other S f u.states h u.before x u.turns s in
      let one = g u.before k on.0 u.last u.asked on.3 in (
        one.0,
        record {
          states = on.1;
          before = on.0;
          last = u.last;
          turns =
              on.2;
          something_left = λ e. u.something_left (sym (same u.before on.0 on.3) ∙ e);
          asked = one.1;
          refused = u.refused;
        },
        one.2,
      )

module _ {H X R : Type 0} (helpers : Helpers H R) (others : Helpers X R) (S : H → X → Type 0) (f : IsSettledAlong helpers others S) where
  hands_over_along : IsTurnAlong (HandsOver helpers) (HandsOver others) S
  hands_over_along h k x t s =
      let one = f.hands_over h k x t.1 t.2 s in
      (one.0, (λ e. t.0 (sym (f.same_pending h x s) ∙ e), t.1, one.1, t.3), one.2)

  job_along : (resource : Handling R) → IsTurnAlong (DoesJob helpers resource) (DoesJob others resource) S
  job_along resource h k x t s =
      let taken = f.takes_up h t.2 x t.0 t.5 s in
      let is : t.3 ≡ Asks (Finish 255 t.1.action (outcome_of t.7.0)) = t.7.2 in
      let finished = subst (IsAskAlong helpers.cleans others.cleans S) (sym is) (f.finishes t.1.action (outcome_of t.7.0)) in
      let told = finished t.2 k taken.0 t.4 t.8 taken.2 in
      (told.0, (t.0, t.1, taken.0, t.3, t.4, taken.1, t.6, t.7, told.1), told.2)

  works_along : (resource : Handling R) → IsTurnAlong (Works helpers resource) (Works others resource) S
  works_along resource h k x t s =
      let some : others.line x ≢ [] = λ e. t.0 (sym (f.same_line h x s) ∙ e) in
      elim (t.1) [
        | inl job ↦ let d = job_along resource h k x job s in (d.0, (some, inl d.1), d.2)
        | inr none ↦ let d = f.takes_up h k x none.0 none.1 s in (d.0, (some, inr (none.0, d.1, none.2)), d.2)
      ]

  cleans_along : (resource : Handling R) → IsTurnAlong (CleansUp helpers resource) (CleansUp others resource) S
  cleans_along resource h k x t s = elim t [
    | inl u ↦ let d = to_the_end_along (Works helpers resource) (Works others resource) helpers.line others.line S (works_along resource)
        f.same_line h k x u s in (d.0, inl d.1, d.2)
    | inr u ↦
        let d = until_refused_along (Works helpers resource) (Works others resource) helpers.line others.line S (works_along resource)
        f.same_line helpers.cleans others.cleans (Asks TakeUp) f.takes_up h k x u s in
        (d.0, inr d.1, d.2)
  ]

  pub settles_along : (resource : Handling R) → IsTurnAlong (Settles helpers resource) (Settles others resource) S
  settles_along resource h k x t s = elim t [
    | inl u ↦
        let d = to_the_end_along (HandsOver helpers) (HandsOver others) helpers.pending others.pending S hands_over_along f.same_pending h
        u.0 x u.1 s in
        let e = cleans_along resource u.0 k d.0 u.2 d.2 in
        (e.0, inl (d.0, d.1, e.1), e.2)
    | inr u ↦
        let d = until_refused_along (HandsOver helpers) (HandsOver others) helpers.pending others.pending S hands_over_along f.same_pending
        helpers.hands others.hands (Asks HandOver) f.hands_over h k x u s in
        (d.0, inr d.1, d.2)
  ]
