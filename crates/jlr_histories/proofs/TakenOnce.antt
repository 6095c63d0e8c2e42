-- An action is taken up at most once in a run, and the machine counts what was taken up.
use Rattle.std.proofs.Common.{◌≡◌, ◌≢◌, ℕ, ◌+◌, ◌<◌, Bool, true, false, cond, List, [], ◌∷◌, refl, sym, ◌∙◌, ap, subst, inl, inr, arith}
use Rattle.std.proofs.Common.{Some, None}
use Rattle.std.proofs.lemmas.Bool.{both_ways, cases_Bool, eqb-true}
use Rattle.std.proofs.lemmas.List.Sums.{sum_by-cons}
use Rattle.jlr_machine.specs.declared.object.Object.TheVariants.{Cleanable}
use Rattle.jlr_machine.specs.declared.object.Cleanable.{Cleanable as CleanableOf}
use Rattle.jlr_machine.specs.declared.object.CleanState.{CleanState}
use Rattle.jlr_machine.specs.declared.object.CleanState.TheVariants.{Armed, Pending as PendingClean, Lined, Spent}
use Rattle.jlr_machine.specs.declared.machine.Machine.{Machine}
use Rattle.jlr_machine.specs.declared.ask.Answer.{Answer}
use Rattle.jlr_machine.specs.declared.ask.Answer.TheVariants.{Job}
use Rattle.jlr_machine.specs.declared.entry.Entry.{Entry}
use Rattle.jlr_machine.specs.Objects.{at, ◌∋◌}
use Rattle.jlr_machine.specs.Calls.{spent}
use Rattle.jlr_machine.specs.Run.{IsLegal, Run, apply}
use Rattle.jlr_machine.specs.WellFormed.{IsWellFormed, IsCleanableAt, IsUnspent}
use Rattle.jlr_laws.proofs.Changes.{cleanable_same}
use Rattle.jlr_laws.proofs.Law.{legal_kept}
use Rattle.jlr_histories.specs.Lives.{may_come_after, is_job, is_job_for, take_ups}
use Rattle.jlr_histories.specs.Laws.{TakenUpAtMostOnce, TakeUpsAreCounted}
use Rattle.jlr_histories.proofs.Becomes.{Follows, cleanable_back}
use Rattle.jlr_histories.proofs.Changes.{IsNewAt}
use Rattle.jlr_histories.proofs.Steps.{Clears, legal_step}
use Rattle.jlr_histories.proofs.Takes.{legal_taking}
use Rattle.jlr_histories.proofs.Takes.IsTaking.{none, one}

-- ---- Unspent cleanables

spent_for_ever : (state : CleanState) → may_come_after Spent state ≡ true → state ≡ Spent
spent_for_ever Armed h = absurd (both_ways false refl h)
spent_for_ever PendingClean h = absurd (both_ways false refl h)
spent_for_ever Lined h = absurd (both_ways false refl h)
spent_for_ever Spent h = refl

-- an unspent cleanable was there before with its action, unless it is new
pub unspent_back : (m : Machine) (e : Entry) → IsWellFormed m → IsLegal m e → (s : ℕ) (d : CleanableOf) → IsUnspent (apply m e) s d
    → d.action < m.next_action → (c : CleanableOf) × IsUnspent m s c × (d.action ≡ c.action)
unspent_back m e w l s d u small =
    let step = legal_step m e w l in
    let P = Clears m e.ask e.choice s in
    elim (cases_Bool (e.choice.fresh ∋ s)) [
      | inl new ↦ let made : IsNewAt m.next_action (Some (Cleanable d)) = subst (IsNewAt m.next_action) u.there (step.new s new) in
          absurd (omega (arith, made.1, small))
      | inr old ↦
          elim (at m.objects s) as (λ o. at m.objects s ≡ o → Follows P o (Some (Cleanable d)) → (c : CleanableOf) × IsUnspent m s c
          × (d.action ≡ c.action)) [
            | None ↦ λ a h. absurd h
            | Some o ↦ λ a h.
                let c = cleanable_back P o d h in (
                  c.0,
                  record {
                    there = a ∙ ap (λ x. Some x) c.1;
                    unspent =
                        λ z. u.unspent (spent_for_ever d.state (subst (λ st. may_come_after st d.state ≡ true) z c.2.state));
                  },
                  c.2.action,
                )
          ] refl (subst (λ q. Follows P (at m.objects s) q) u.there (step.follows s old))
    ]

-- an action that no unspent cleanable has, and none will have
record IsGone (m : Machine) (action : ℕ) : Type 0 where
  pub given : action < m.next_action
  pub none_left : (s : ℕ) (c : CleanableOf) → IsUnspent m s c → c.action ≢ action

gone_stays : (m : Machine) (e : Entry) (action : ℕ) → IsWellFormed m → IsLegal m e → IsGone m action → IsGone (apply m e) action
gone_stays m e action w l g =
    record {
      given = omega (arith, g.given, (legal_step m e w l).next);
      none_left = λ s d u p. let c = unspent_back m e w l s d u (omega (arith, p, g.given)) in g.none_left s c.0 c.1 (sym c.2 ∙ p);
    }

-- ---- One entry

pub a_job : (action : ℕ) (a : Answer) → is_job a ≡ false → is_job_for action a ≡ false
a_job action (Job x work) h = absurd (both_ways true h refl)
a_job action a h = refl

-- an action that is gone is not taken up
not_again : (m : Machine) (e : Entry) (action : ℕ) → IsLegal m e → IsGone m action → is_job_for action e.answer ≡ false
not_again m e action l g = elim (legal_taking m e l) [
  | none t ↦ a_job action e.answer t.no_job
  | one s c u a n h ↦ elim (cases_Bool (is_job_for action e.answer)) [
    | inl yes_it ↦ absurd (g.none_left s c u (eqb-true c.action action (sym (ap (is_job_for action) a) ∙ yes_it)))
    | inr no_it ↦ no_it
  ]
]

-- one that is taken up is gone
gone_now : (m : Machine) (e : Entry) (action : ℕ) → IsWellFormed m → IsLegal m e → is_job_for action e.answer ≡ true
    → IsGone (apply m e) action
gone_now m e action w l h = elim (legal_taking m e l) [
  | none t ↦ absurd (both_ways (is_job_for action e.answer) (a_job action e.answer t.no_job) h)
  | one s c u a n there ↦
      let same : c.action ≡ action = eqb-true c.action action (sym (ap (is_job_for action) a) ∙ h) in
      let small : c.action < m.next_action = (w.actions.of_cleanables s c u.there).1 in
      record {
        given = omega (arith, same, small, (legal_step m e w l).next);
        none_left = λ t d v p.
            let b = unspent_back m e w l t d v (omega (arith, p, same, small)) in
            let place : t ≡ s = w.actions.cleanables t s b.0 c b.1 u (sym b.2 ∙ p ∙ sym same) in
            let last : d ≡ spent c =
            cleanable_same (apply m e) s d (spent c) (subst (λ i. IsCleanableAt (apply m e) i d) place v.there) there in
            v.unspent (ap (λ z. z.state) last);
      }
]

one_taken : (m : Machine) (e : Entry) → IsLegal m e → (apply m e).taken ≡ m.taken + cond (is_job e.answer) 1 0
one_taken m e l = elim (legal_taking m e l) [
  | none t ↦ omega (arith, t.same, ap {A = Bool} {B = ℕ} (λ b. cond b 1 0) t.no_job)
  | one s c u a n there ↦ omega (arith, n, ap {A = Answer} {B = ℕ} (λ x. cond (is_job x) 1 0) a)
]

-- ---- Runs

never_again : (m n : Machine) (entries : List Entry) (action : ℕ) → IsWellFormed m → Run m entries n → IsGone m action
    → take_ups action entries ≡ 0
never_again m n [] action w run g = refl
never_again m n (e ∷ entries) action w run g =
    omega (
      arith,
      sum_by-cons (λ (x : Entry). cond (is_job_for action x.answer) 1 0) e entries,
      ap {A = Bool} {B = ℕ} (λ b. cond b 1 0) (not_again m e action run.0 g),
      never_again (apply m e) n entries action (legal_kept m e w run.0) run.1 (gone_stays m e action w run.0 g),
    )

pub taken_up_at_most_once : TakenUpAtMostOnce
taken_up_at_most_once m n [] action w run = omega arith
taken_up_at_most_once m n (e ∷ entries) action w run =
    let kept = legal_kept m e w run.0 in
    let first = sum_by-cons (λ (x : Entry). cond (is_job_for action x.answer) 1 0) e entries in
    elim (cases_Bool (is_job_for action e.answer)) [
      | inl h ↦ omega (
        arith,
        first,
        ap {A = Bool} {B = ℕ} (λ b. cond b 1 0) h,
        never_again (apply m e) n entries action kept run.1 (gone_now m e action w run.0 h),
      )
      | inr h ↦ omega (
        arith,
        first,
        ap {A = Bool} {B = ℕ} (λ b. cond b 1 0) h,
        taken_up_at_most_once (apply m e) n entries action kept run.1,
      )
    ]

pub take_ups_are_counted : TakeUpsAreCounted
take_ups_are_counted m n [] run = omega (arith, ap (λ z. z.taken) run)
take_ups_are_counted m n (e ∷ entries) run =
    omega (
      arith,
      one_taken m e run.0,
      sum_by-cons (λ (x : Entry). cond (is_job x.answer) 1 0) e entries,
      take_ups_are_counted (apply m e) n entries run.1,
    )
