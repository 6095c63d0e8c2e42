-- References and cleanables only go forward, in one entry and in a life.
use Rattle.std.proofs.Common.{◌≡◌, ℕ, ◌≤◌, true, false, not, List, [], ◌∷◌, refl, sym, ◌∙◌, ap, subst, inl, inr, arith, Option, Some}
use Rattle.std.proofs.Common.{IsTrue}
use Rattle.std.proofs.lemmas.Bool.{both_ways, not-true}
use Rattle.jlr_machine.specs.declared.object.Object.{Object}
use Rattle.jlr_machine.specs.declared.object.Object.TheVariants.{Plain, Reference, Cleanable}
use Rattle.jlr_machine.specs.declared.object.Reference.{Reference as ReferenceOf}
use Rattle.jlr_machine.specs.declared.object.Cleanable.{Cleanable as CleanableOf}
use Rattle.jlr_machine.specs.declared.object.RefState.{RefState}
use Rattle.jlr_machine.specs.declared.object.RefState.TheVariants.{Fresh, Pending, Queued, Removed}
use Rattle.jlr_machine.specs.declared.object.CleanState.{CleanState}
use Rattle.jlr_machine.specs.declared.object.CleanState.TheVariants.{Armed, Pending as PendingClean, Lined, Spent}
use Rattle.jlr_machine.specs.declared.machine.Machine.{Machine}
use Rattle.jlr_machine.specs.declared.entry.Entry.{Entry}
use Rattle.jlr_machine.specs.Objects.{at, ◌∋◌}
use Rattle.jlr_machine.specs.Run.{IsLegal, apply}
use Rattle.jlr_machine.specs.WellFormed.{IsWellFormed, IsObjectAt, IsReferenceAt, IsCleanableAt, FitsItsState}
use Rattle.jlr_laws.proofs.Allowed.{some_there}
use Rattle.jlr_laws.proofs.Law.{legal_kept}
use Rattle.jlr_histories.specs.Lives.{LivesOn, StaysOrGoes, stage, may_become, clean_stage, may_come_after, IsReferenceLater, IsCleanableOn}
use Rattle.jlr_histories.specs.Lives.{IsCleanableLater}
use Rattle.jlr_histories.specs.Sizes.{PlainKeepsItsSize}
use Rattle.jlr_histories.specs.Laws.{ReferenceGoesForward, CleanableGoesForward, ReferenceLifeGoesForward, CleanableLifeGoesForward}
use Rattle.jlr_histories.specs.Laws.{EnqueuedIsCleared, NewIsFresh, NewIsArmed, OnlyTheyClear}
use Rattle.jlr_histories.proofs.Becomes.{IsKept, Becomes, Follows, plain_forth, reference_forth, cleanable_forth}
use Rattle.jlr_histories.proofs.Changes.{IsNewAt}
use Rattle.jlr_histories.proofs.Steps.{Clears, legal_step}

-- ---- One entry

-- a life begins with an object that is there
pub begins : (m : Machine) (entries : List Entry) (s : ℕ) → LivesOn m entries s → IsObjectAt m s
begins m [] s h = h
begins m (e ∷ entries) s h = h.0

module _ (m : Machine) (e : Entry) (w : IsWellFormed m) (l : IsLegal m e) (s : ℕ) where
  -- what the object at s becomes, where none is made in its place
  pub becomes : (o p : Object) → IsTrue (not (e.choice.fresh ∋ s)) → at m.objects s ≡ Some o → at (apply m e).objects s ≡ Some p
      → Becomes (Clears m e.ask e.choice s) o p
  becomes o p f a b =
      let follows = (legal_step m e w l).follows s (not-true (e.choice.fresh ∋ s) f) in
      subst (λ q. Follows (Clears m e.ask e.choice s) (Some o) q) b
      (subst (λ q. Follows (Clears m e.ask e.choice s) q (at (apply m e).objects s)) a follows)

  pub reference_on : (r : ReferenceOf) → IsTrue (not (e.choice.fresh ∋ s)) → IsObjectAt (apply m e) s → IsReferenceAt m s r
      → (t : ReferenceOf) × IsReferenceAt (apply m e) s t × IsKept (Clears m e.ask e.choice s) r t
  reference_on r f h a =
      let p = some_there (at (apply m e).objects s) h in
      let t = reference_forth (Clears m e.ask e.choice s) r p.0 (becomes (Reference r) p.0 f a p.1) in
      (t.0, p.1 ∙ ap (λ x. Some x) t.1, t.2)

  pub cleanable_on : (c : CleanableOf) → IsTrue (not (e.choice.fresh ∋ s)) → IsObjectAt (apply m e) s → IsCleanableAt m s c
      → (d : CleanableOf) × IsCleanableAt (apply m e) s d × IsCleanableOn c d
  cleanable_on c f h a =
      let p = some_there (at (apply m e).objects s) h in
      let d = cleanable_forth (Clears m e.ask e.choice s) c p.0 (becomes (Cleanable c) p.0 f a p.1) in
      (d.0, p.1 ∙ ap (λ x. Some x) d.1, d.2)

pub plain_keeps_its_size : PlainKeepsItsSize
plain_keeps_its_size m e s x w l h a =
    let p = some_there (at (apply m e).objects s) h.2 in
    let t = plain_forth (Clears m e.ask e.choice s) x p.0 (becomes m e w l s (Plain x) p.0 h.1 a p.1) in
    (t.0, p.1 ∙ ap (λ o. Some o) t.1, t.2)

pub reference_goes_forward : ReferenceGoesForward
reference_goes_forward m e s r w l h a = let t = reference_on m e w l s r h.1 h.2 a in (t.0, t.1, t.2.on)

pub cleanable_goes_forward : CleanableGoesForward
cleanable_goes_forward m e s c w l h a = cleanable_on m e w l s c h.1 h.2 a

pub only_they_clear : OnlyTheyClear
only_they_clear m e s r t w l h a b d =
    let k = reference_on m e w l s r h.1 h.2 a in
    let both : Some (Reference k.0) ≡ Some (Reference t) = sym k.1 ∙ b in
    let same : k.0 ≡ t = cc both in
    elim (k.2.referent) [ inl e ↦ absurd (d (ap (λ x. x.referent) (sym same) ∙ e)) | inr p ↦ p ]

pub new_is_fresh : NewIsFresh
new_is_fresh m e s r w l f a = subst (IsNewAt m.next_action) a ((legal_step m e w l).new s f)

pub new_is_armed : NewIsArmed
new_is_armed m e s c w l f a =
    let new : IsNewAt m.next_action (Some (Cleanable c)) = subst (IsNewAt m.next_action) a ((legal_step m e w l).new s f) in new.0

pub enqueued_is_cleared : EnqueuedIsCleared
enqueued_is_cleared m e s r w l a q =
    let fits : FitsItsState r Queued = subst (FitsItsState r) q ((legal_kept m e w l).references.states s r a) in fits.1

-- ---- A life

stays_or_goes : (old between new : Option ℕ) → StaysOrGoes old between → StaysOrGoes between new → StaysOrGoes old new
stays_or_goes old between new a (inr f) = inr f
stays_or_goes old between new (inl e) (inl f) = inl (f ∙ e)
stays_or_goes old between new (inr e) (inl f) = inr (f ∙ e)

stage_up : (a b : RefState) → may_become a b ≡ true → stage a ≤ stage b
stage_up Fresh b h = omega arith
stage_up Pending Fresh h = absurd (both_ways false refl h)
stage_up Pending b h = omega arith
stage_up Queued Fresh h = absurd (both_ways false refl h)
stage_up Queued Pending h = absurd (both_ways false refl h)
stage_up Queued b h = omega arith
stage_up Removed Removed h = omega arith
stage_up Removed b h = absurd (both_ways false refl h)

clean_stage_up : (a b : CleanState) → may_come_after a b ≡ true → clean_stage a ≤ clean_stage b
clean_stage_up Armed b h = omega arith
clean_stage_up PendingClean Armed h = absurd (both_ways false refl h)
clean_stage_up PendingClean b h = omega arith
clean_stage_up Lined Armed h = absurd (both_ways false refl h)
clean_stage_up Lined PendingClean h = absurd (both_ways false refl h)
clean_stage_up Lined b h = omega arith
clean_stage_up Spent Spent h = omega arith
clean_stage_up Spent b h = absurd (both_ways false refl h)

pub reference_life : ReferenceLifeGoesForward
reference_life m n [] s r w run h a =
    (r, subst (λ z. IsReferenceAt z s r) (sym run) a, record { kind = refl; referent = inl refl; queue = inl refl; state = omega arith })
reference_life m n (e ∷ entries) s r w run h a =
    let t = reference_on m e w run.0 s r h.1 (begins (apply m e) entries s h.2) a in
    let on = t.2.on in
    let u = reference_life (apply m e) n entries s t.0 (legal_kept m e w run.0) run.1 h.2 t.1 in
    let later : IsReferenceLater r u.0 = record {
      kind = u.2.kind ∙ on.kind;
      referent = stays_or_goes r.referent t.0.referent u.0.referent on.referent u.2.referent;
      queue = stays_or_goes r.queue t.0.queue u.0.queue on.queue u.2.queue;
      state = omega (arith, stage_up r.state t.0.state on.state, u.2.state);
    } in
    (u.0, u.1, later)

pub cleanable_life : CleanableLifeGoesForward
cleanable_life m n [] s c w run h a =
    (c, subst (λ z. IsCleanableAt z s c) (sym run) a, record { action = refl; work = refl; referent = inl refl; state = omega arith })
cleanable_life m n (e ∷ entries) s c w run h a =
    let t = cleanable_on m e w run.0 s c h.1 (begins (apply m e) entries s h.2) a in
    let u = cleanable_life (apply m e) n entries s t.0 (legal_kept m e w run.0) run.1 h.2 t.1 in
    let later : IsCleanableLater c u.0 = record {
      action = u.2.action ∙ t.2.action;
      work = u.2.work ∙ t.2.work;
      referent = stays_or_goes c.referent t.0.referent u.0.referent t.2.referent u.2.referent;
      state = omega (arith, clean_stage_up c.state t.0.state t.2.state, u.2.state);
    } in
    (u.0, u.1, later)
