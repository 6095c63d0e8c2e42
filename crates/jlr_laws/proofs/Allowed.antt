-- What is known where an ask is not refused.
use Rattle.std.proofs.Common.{◌≡◌, ℕ, Bool, true, false, not, ◌&&◌, ◌||◌, cond, List, [], ◌∷◌, refl, sym, ◌∙◌, ap, inl, inr, nat_eq, Option}
use Rattle.std.proofs.Common.{Some, None, is_some, is_none, find, option_map, option_and_then, ◌==◌}
use Rattle.std.specs.List.{list_any}
use Rattle.std.proofs.lemmas.Bool.{both_ways, not-false, or_cases}
use Rattle.jlr_types.specs.declared.Refusal.{Refusal}
use Rattle.jlr_types.specs.Numbers.{number_of}
use Rattle.jlr_machine.specs.declared.object.Object.{Object}
use Rattle.jlr_machine.specs.declared.object.Object.TheVariants.{Plain, Reference, Queue, Cleaner, Cleanable, Guard}
use Rattle.jlr_machine.specs.declared.object.Cleanable.{Cleanable as CleanableOf}
use Rattle.jlr_machine.specs.declared.object.Guard.{Guard as GuardOf}
use Rattle.jlr_machine.specs.declared.machine.Machine.{Machine}
use Rattle.jlr_machine.specs.declared.machine.Session.{Session}
use Rattle.jlr_machine.specs.declared.machine.Call.{Call}
use Rattle.jlr_machine.specs.declared.machine.Call.TheVariants.{Free, Opening as CallOpening, Out as CallOut, Job as CallJob}
use Rattle.jlr_machine.specs.declared.machine.Resource.{Resource}
use Rattle.jlr_machine.specs.declared.ask.Ask.{Ask}
use Rattle.jlr_machine.specs.Objects.{at, some_and, as_guard, as_cleanable, is_spent}
use Rattle.jlr_machine.specs.Lookups.{slot_named, object_named, cleanable_at, resource_at}
use Rattle.jlr_machine.specs.Refusals.{is_any, applies, listed, refusal, is_joined, has_call, is_in_flight, object, names_no_object}
use Rattle.jlr_machine.specs.Refusals.{is_wrongly_null, is_of_wrong_kind, is_closed, is_out, is_out_state, is_opening, is_out_call}
use Rattle.jlr_machine.specs.Refusals.{is_guard, is_cleanable}
use Rattle.jlr_machine.specs.WellFormed.{IsWellFormed, IsSessionAt, IsCleanableAt}
use Rattle.jlr_laws.proofs.SameProof.{Decides-refusal}
use Rattle.jlr_laws.proofs.Frames.{no_some, root_from}
use Rattle.jlr_laws.proofs.Frames.IsRoot.{held}

-- ---- No listed refusal applies

same_number : (a b : Refusal) → nat_eq (number_of a) (number_of b) ≡ true → a ≡ b
same_number a b h = (Decides-refusal a b).0 h

-- the ask lists the refusal
abbrev pub is_listed : Ask → Refusal → Bool
is_listed ask by = list_any (λ r. nat_eq (number_of r) (number_of by)) (listed ask)

pub first_fails : {A : Type 0} (p : A → Bool) (x : A) (xs : List A) → find p (x ∷ xs) ≡ None → (p x ≡ false) × (find p xs ≡ None)
first_fails p x xs h =
    elim (p x) as (λ b. p x ≡ b → cond b (Some x) (find p xs) ≡ None → (p x ≡ false) × (find p xs ≡ None)) [
      | true ↦ λ _ f. no_some x (sym f)
      | false ↦ λ e f. (e, f)
    ] refl h

none_applies : (p : Refusal → Bool) (by : Refusal) (xs : List Refusal) → find p xs ≡ None
    → list_any (λ r. nat_eq (number_of r) (number_of by)) xs ≡ true → p by ≡ false
none_applies p by [] h l = absurd (both_ways false refl l)
none_applies p by (x ∷ xs) h l =
    let f = first_fails p x xs h in
    elim (or_cases (nat_eq (number_of x) (number_of by)) (list_any (λ r. nat_eq (number_of r) (number_of by)) xs) l) [
      | inl e ↦ ap p (sym (same_number x by e)) ∙ f.0
      | inr r ↦ none_applies p by xs f.1 r
    ]

pub allowed : (m : Machine) (ask : Ask) → refusal m ask ≡ None → (by : Refusal) → is_listed ask by ≡ true → applies m ask by ≡ false
allowed m ask h by l = none_applies (applies m ask) by (listed ask) h l

-- ---- Options

pub some_there : {A : Type 0} (o : Option A) → is_some o ≡ true → (x : A) × (o ≡ Some x)
some_there None e = absurd (both_ways false refl e)
some_there (Some x) e = (x, refl)

pub and_then_gives : {A B : Type 0} (f : A → Option B) (o : Option A) (y : B) → option_and_then f o ≡ Some y → (x : A) × (o ≡ Some x)
    × (f x ≡ Some y)
and_then_gives f None y e = no_some y e
and_then_gives f (Some x) y e = (x, refl, e)

pub some_and_gives : {A : Type 0} (p : A → Bool) (o : Option A) → some_and p o ≡ true → (x : A) × (o ≡ Some x) × (p x ≡ true)
some_and_gives p None e = absurd (both_ways false refl e)
some_and_gives p (Some x) e = (x, refl, e)

-- ---- The mutator

pub joined_session : (m : Machine) (k : ℕ) → not (is_joined m k) ≡ false → (s : Session) × IsSessionAt m k s
joined_session m k e = some_there (at m.mutators k) (not-false (is_joined m k) e)

free_call : (call : Call) → is_in_flight call ≡ false → call ≡ Free
free_call Free e = refl
free_call (CallOpening rid) e = absurd (cc e)
free_call (CallOut rid) e = absurd (cc e)
free_call (CallJob action) e = absurd (cc e)

-- with no call in flight
pub free_session : (m : Machine) (k : ℕ) (s : Session) → IsSessionAt m k s → has_call m k ≡ false → s.call ≡ Free
free_session m k s e h = free_call s.call (sym (ap (some_and (λ s. is_in_flight s.call)) e) ∙ h)

opening_call : (call : Call) → is_opening call ≡ true → (rid : ℕ) × (call ≡ CallOpening rid)
opening_call Free e = absurd (cc e)
opening_call (CallOpening rid) e = (rid, refl)
opening_call (CallOut rid) e = absurd (cc e)
opening_call (CallJob action) e = absurd (cc e)

out_call : (call : Call) → is_out_call call ≡ true → (rid : ℕ) × (call ≡ CallOut rid)
out_call Free e = absurd (cc e)
out_call (CallOpening rid) e = absurd (cc e)
out_call (CallOut rid) e = (rid, refl)
out_call (CallJob action) e = absurd (cc e)

pub opening_session : (m : Machine) (k : ℕ) → not (some_and (λ s. is_opening s.call) (at m.mutators k)) ≡ false → (s : Session)
    × IsSessionAt m k s × (rid : ℕ) × (s.call ≡ CallOpening rid)
opening_session m k e =
    let r = some_and_gives (λ s. is_opening s.call) (at m.mutators k) (not-false _ e) in
    let c = opening_call r.0.call r.2 in
    (r.0, r.1, c.0, c.1)

pub out_session : (m : Machine) (k : ℕ) → not (some_and (λ s. is_out_call s.call) (at m.mutators k)) ≡ false → (s : Session)
    × IsSessionAt m k s × (rid : ℕ) × (s.call ≡ CallOut rid)
out_session m k e =
    let r = some_and_gives (λ s. is_out_call s.call) (at m.mutators k) (not-false _ e) in
    let c = out_call r.0.call r.2 in
    (r.0, r.1, c.0, c.1)

-- ---- What a handle names

pub record IsNamed (m : Machine) (k h s : ℕ) (session : Session) (o : Object) : Type 0 where
  pub session_there : IsSessionAt m k session
  pub handle : at session.handles h ≡ Some s
  pub slot : slot_named m k h ≡ Some s
  pub there : at m.objects s ≡ Some o
  pub named : object_named m k h ≡ Some o

pub named_of_slot : (m : Machine) (k h s : ℕ) → IsWellFormed m → slot_named m k h ≡ Some s → (session : Session) × (o : Object)
    × IsNamed m k h s session o
named_of_slot m k h s w e =
    let r = and_then_gives (λ z. at z.handles h) (at m.mutators k) s e in
    let o = some_there (at m.objects s) (w.slots.roots s (root_from m s (held k h r.0 r.1 r.2))) in
    (r.0, o.0, record { session_there = r.1; handle = r.2; slot = e; there = o.1; named = ap (option_and_then (at m.objects)) e ∙ o.1 })

not_null : (a b : Bool) → ((a && true) || false) ≡ false → ((not a && b) || false) ≡ false → b ≡ false
not_null true b e f = absurd (cc e)
not_null false true e f = absurd (cc f)
not_null false false e f = refl

some_if_not_none : {A : Type 0} (o : Option A) → is_none o ≡ false → (x : A) × (o ≡ Some x)
some_if_not_none None e = absurd (cc e)
some_if_not_none (Some x) e = (x, refl)

fits_there : (b : Bool) → (not b || false) ≡ false → b ≡ true
fits_there true e = refl
fits_there false e = absurd (cc e)

-- the only handle of an ask
pub only_operand : (m : Machine) (k h : ℕ) (fits : Object → Bool) → IsWellFormed m
    → (names_no_object m k (object h fits) || false) ≡ false → (is_wrongly_null (object h fits) || false) ≡ false
    → (is_of_wrong_kind m k (object h fits) || false) ≡ false
    → (s : ℕ) × (session : Session) × (o : Object) × IsNamed m k h s session o × (fits o ≡ true)
only_operand m k h fits w a b c =
    let s = some_if_not_none (slot_named m k h) (not_null (h == 0) (is_none (slot_named m k h)) b a) in
    let r = named_of_slot m k h s.0 w s.1 in
    (s.0, r.0, r.1, r.2, fits_there (fits r.1) (sym (ap (λ o. some_and (λ o. not (fits o)) o || false) r.2.named) ∙ c))

-- where any object fits
pub any_fits : (o : Option Object) → (some_and (λ o. not (is_any o)) o || false) ≡ false
any_fits None = refl
any_fits (Some o) = refl

pub guard_of : (o : Object) → is_guard o ≡ true → (g : GuardOf) × (o ≡ Guard g)
guard_of (Plain fields) e = absurd (cc e)
guard_of (Reference r) e = absurd (cc e)
guard_of (Queue members) e = absurd (cc e)
guard_of Cleaner e = absurd (cc e)
guard_of (Cleanable c) e = absurd (cc e)
guard_of (Guard g) e = (g, refl)

pub cleanable_of : (o : Object) → is_cleanable o ≡ true → (c : CleanableOf) × (o ≡ Cleanable c)
cleanable_of (Plain fields) e = absurd (cc e)
cleanable_of (Reference r) e = absurd (cc e)
cleanable_of (Queue members) e = absurd (cc e)
cleanable_of Cleaner e = absurd (cc e)
cleanable_of (Cleanable c) e = (c, refl)
cleanable_of (Guard g) e = absurd (cc e)

-- ---- The guard that an ask names

pub closed_is : (m : Machine) (k h : ℕ) (g : GuardOf) (c : CleanableOf) → object_named m k h ≡ Some (Guard g)
    → IsCleanableAt m g.cleanable c → is_closed m k h ≡ is_spent c.state
closed_is m k h g c e f =
    ap (λ o. some_and (λ c. is_spent c.state) (option_and_then (cleanable_at m)
    (option_map (λ g. g.cleanable) (option_and_then as_guard o)))) e
    ∙ ap (λ o. some_and (λ c. is_spent c.state) (option_and_then as_cleanable o)) f

pub out_is : (m : Machine) (k h : ℕ) (g : GuardOf) (r : Resource) → object_named m k h ≡ Some (Guard g) → resource_at m g.rid ≡ Some r
    → is_closed m k h ≡ false → is_out m k h ≡ is_out_state r.state
out_is m k h g r e f d =
    ap (λ b. not b && some_and (λ r. is_out_state r.state)
    (option_and_then (λ g. resource_at m g.rid) (option_and_then as_guard (object_named m k h)))) d
    ∙ ap (λ o. some_and (λ r. is_out_state r.state) (option_and_then (λ g. resource_at m g.rid) (option_and_then as_guard o))) e
    ∙ ap (some_and (λ r. is_out_state r.state)) f
