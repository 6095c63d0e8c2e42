-- What the tests of works and of resources tell.
use Rattle.std.proofs.Common.{◌≡◌, ℕ, true, false, Decides, refl, sym, ◌∙◌, ap, Some, nat_eq}
use Rattle.std.proofs.lemmas.Bool.{both_ways, and_parts, and_from, eqb-true, eq-eqb}
use Rattle.jlr_types.specs.declared.Work.{Work}
use Rattle.jlr_types.specs.declared.Work.TheVariants.{Note, Resource as WorkOn}
use Rattle.jlr_machine.specs.declared.machine.Machine.{Machine}
use Rattle.jlr_machine.specs.declared.machine.Resource.{Resource}
use Rattle.jlr_machine.specs.declared.machine.ResourceState.{ResourceState}
use Rattle.jlr_machine.specs.declared.machine.ResourceState.TheVariants.{Opening, Idle, Out, Closing}
use Rattle.jlr_machine.specs.Objects.{some_and}
use Rattle.jlr_machine.specs.Lookups.{resource_at, rid_of}
use Rattle.jlr_machine.specs.WellFormed.{HasResource}
use Rattle.jlr_laws.proofs.Frames.{no_some, some_same}
use Rattle.jlr_laws.proofs.Keyed.{key_found}
use Rattle.jlr_plain_images.specs.Resources.{is_on_resource, is_work_on, is_opening_state, is_idle, is_state_out, is_closing, is_state}
use Rattle.jlr_plain_images.specs.Resources.{fits_resource}
use Rattle.jlr_plain_images.specs.Resources.{has_resource}
use Rattle.jlr_plain_images.proofs.Everywhere.{there_gives}

-- ---- Works

pub same_rid : (w : Work) (a b : ℕ) → w ≡ WorkOn a → w ≡ WorkOn b → a ≡ b
same_rid w a b e f = some_same a b (ap rid_of (sym e ∙ f))

pub no_rid : {P : Type 0} (n rid : ℕ) → Note n ≡ WorkOn rid → P
no_rid n rid e = no_some rid (ap rid_of e)

pub Decides-work : (rid : ℕ) (w : Work) → Decides (is_work_on rid w) (w ≡ WorkOn rid)
Decides-work rid (WorkOn r) = ((λ h. ap (λ n. WorkOn n) (eqb-true r rid h)), (λ e. eq-eqb r rid (same_rid (WorkOn r) r rid refl e)))
Decides-work rid (Note n) = ((λ h. absurd (both_ways false refl h)), (λ e. no_rid n rid e))

pub on_gives : (w : Work) → is_on_resource w ≡ true → (rid : ℕ) × (w ≡ WorkOn rid)
on_gives (WorkOn rid) h = (rid, refl)
on_gives (Note n) h = absurd (both_ways false refl h)

-- ---- States

pub opening_is : (s : ResourceState) → is_opening_state s ≡ true → s ≡ Opening
opening_is Opening h = refl
opening_is Idle h = absurd (both_ways false refl h)
opening_is Out h = absurd (both_ways false refl h)
opening_is Closing h = absurd (both_ways false refl h)

pub idle_is : (s : ResourceState) → is_idle s ≡ true → s ≡ Idle
idle_is Idle h = refl
idle_is Opening h = absurd (both_ways false refl h)
idle_is Out h = absurd (both_ways false refl h)
idle_is Closing h = absurd (both_ways false refl h)

pub out_is : (s : ResourceState) → is_state_out s ≡ true → s ≡ Out
out_is Out h = refl
out_is Opening h = absurd (both_ways false refl h)
out_is Idle h = absurd (both_ways false refl h)
out_is Closing h = absurd (both_ways false refl h)

pub closing_is : (s : ResourceState) → is_closing s ≡ true → s ≡ Closing
closing_is Closing h = refl
closing_is Opening h = absurd (both_ways false refl h)
closing_is Idle h = absurd (both_ways false refl h)
closing_is Out h = absurd (both_ways false refl h)

state_is : (wanted s : ResourceState) → is_state wanted s ≡ true → s ≡ wanted
state_is Opening s h = opening_is s h
state_is Idle s h = idle_is s h
state_is Out s h = out_is s h
state_is Closing s h = closing_is s h

own_state : (s : ResourceState) → is_state s s ≡ true
own_state Opening = refl
own_state Idle = refl
own_state Out = refl
own_state Closing = refl

-- ---- Resources

abbrev resource_of : ℕ → ℕ → ResourceState → Resource
resource_of rid action state = record { rid = rid; action = action; state = state }

pub resource_is : (r : Resource) (rid action : ℕ) (state : ResourceState) → r.rid ≡ rid → r.action ≡ action → r.state ≡ state
    → r ≡ resource_of rid action state
resource_is r rid action state e f g =
    ap (λ x. resource_of x r.action r.state) e ∙ ap (λ x. resource_of rid x r.state) f ∙ ap (λ x. resource_of rid action x) g

-- the resource that is found there, by its parts
pub found_resource : (m : Machine) (rid : ℕ) (r : Resource) (action : ℕ) (state : ResourceState) → resource_at m rid ≡ Some r
    → r.action ≡ action → r.state ≡ state → HasResource m rid action state
found_resource m rid r action state e f g =
    e ∙ ap (λ x. Some x) (resource_is r rid action state (key_found (λ r. r.rid) m.resources rid r e) f g)

pub Decides-resource : (m : Machine) (rid action : ℕ) (state : ResourceState)
    → Decides (has_resource m rid action state) (HasResource m rid action state)
Decides-resource m rid action state = (
  (λ h.
      let x = there_gives (fits_resource action state) (resource_at m rid) h in
      let p = and_parts (nat_eq x.0.action action) (is_state state x.0.state) x.2 in
      found_resource m rid x.0 action state x.1 (eqb-true x.0.action action p.0) (state_is state x.0.state p.1)),
  (λ e. ap (some_and (fits_resource action state)) e
      ∙ and_from (nat_eq action action) (is_state state state) (eq-eqb action action refl) (own_state state)),
)
