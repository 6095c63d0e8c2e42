-- What a book tells after an entry more, a refused end, and a cut.
use Rattle.std.proofs.Common.{nat_lt, replicate, zero, ◌≡◌, inl, inr, append-nil, ℕ, suc, ◌+◌, ◌≤◌, ◌<◌, ◌^◌, Bool, true, false, cond, List}
use Rattle.std.proofs.Common.{[], ◌∷◌, ◌++◌, length, Option, Some, None, refl, sym, ◌∙◌, ap, subst, arith, option_to_list, length-append}
use Rattle.std.proofs.lemmas.Bool.{both_ways, lt-ltb, ltb-true}
use Rattle.std.proofs.lemmas.List.{length-replicate}
use Rattle.jlr_types.specs.declared.limits.Limits.{Limits}
use Rattle.jlr_machine.specs.declared.machine.Machine.{Machine}
use Rattle.jlr_machine.specs.declared.ask.Ask.{Ask}
use Rattle.jlr_machine.specs.Chosen.{Chosen}
use Rattle.jlr_machine.specs.declared.entry.Entry.{Entry}
use Rattle.jlr_machine.specs.Refusals.{is_end}
use Rattle.jlr_machine.specs.declared.object.Object.{Object}
use Rattle.jlr_machine.specs.declared.machine.Session.{Session}
use Rattle.jlr_machine.specs.Run.{Run, apply, empty}
use Rattle.jlr_machine.specs.WellFormed.{IsImage, IsWellFormed}
use Rattle.jlr_event.specs.declared.event.Event.{Event}
use Rattle.jlr_event.specs.declared.event.Reply.{Reply}
use Rattle.jlr_event.specs.Events.{ask_of, answer_in}
use Rattle.jlr_steps.specs.Cores.{Kept}
use Rattle.jlr_steps.specs.Steps.{IsStep}
use Rattle.jlr_book.specs.Histories.{LeadsToCore, HasLimits, HasNumbers, History, IsHistory, seated, spare}
use Rattle.jlr_laws.proofs.Empty.{empty_is_well_formed}
use Rattle.jlr_histories.specs.Owing.{owed, owed_by, most_owed}
use Rattle.jlr_histories.proofs.Owing.{owed_bounded}
use Rattle.jlr_book.proofs.Limits.{runs_keep_the_limits}
use Rattle.jlr_steps.proofs.Ranges.{limits_hold}
use Rattle.jlr_steps.proofs.Starts.{stands_at_start, start_cells}
use Rattle.jlr_book.specs.Rules.{AsksBy, BookSteps, Cuts, EndsBy, Enters, GivesUp, Readies, StepsBy}
use Rattle.jlr_book.specs.Writing.{Stands}
use Rattle.jlr_book.proofs.Entering.{WritesEnd, WritesEntry, closed, ends_more, owed_less_by, refused_stays, stands_for_its_own}
use Rattle.jlr_book.proofs.Entering.{stands_there}

abbrev pub told : {R : Type 0} → Limits → ℕ → Machine → List Entry → Kept R → History R
told limits base image entries core = record { limits = limits; base = base; image = image; entries = entries; core = core }

-- at most 129 ends are owed where a core stands
pub owes_few : {R : Type 0} (core : Kept R) → Stands core → owed core.machine ≤ most_owed
owes_few core st =
    let few = owed_bounded st.0 st.2 in
    let same : owed core.machine ≡ owed st.0 = ap {A = Machine} {B = ℕ} owed st.1.same in
    omega (arith, few, same)

pub bit_small : (b : Bool) → cond b 1 0 ≤ 1
bit_small true = omega arith
bit_small false = omega arith

one_at_most : {A : Type 0} (o : Option A) → length (option_to_list o) ≤ 1
one_at_most None = omega arith
one_at_most (Some x) = omega arith

pub as_many : (xs ys : List Entry) (o : Option Entry) → ys ≡ xs ++ option_to_list o → length ys ≤ length xs + 1
as_many xs ys o e =
    let whole : length ys ≡ length (xs ++ option_to_list o) = ap {A = List Entry} {B = ℕ} length e in
    let parts = length-append xs (option_to_list o) in
    let one = one_at_most o in
    omega (arith, whole, parts, one)

-- an entry more, or none, where numbers for all that may be owed are left
pub goes_on : {R : Type 0} (limits : Limits) (base : ℕ) (image : Machine) (entries entries' : List Entry) (core core' : Kept R) (seat : ℕ)
    (e : Event R) (reply : Reply R)
    → IsHistory (told limits base image entries core) → WritesEntry seat core entries e reply core' entries'
    → length core'.machine.objects ≡ length core.machine.objects
    → base + length entries' + spare core'.machine < 2 ^ 64 → IsHistory (told limits base image entries' core')
goes_on limits base image entries entries' core core' seat e reply h w cells fits =
    record {
      image = h.image;
      limits_are = h.limits_are;
      at_0 = h.at_0;
      ends = subst (λ l. LeadsToCore image l core') (sym w.adds) (ends_more image entries core core' seat e reply w.chosen w.step h.ends);
      fits = fits;
      cells = cells ∙ h.cells;
    }

pub stands_after : {R : Type 0} (image : Machine) (entries : List Entry) (core core' : Kept R) (e : Event R) (reply : Reply R)
    (chosen : Chosen) → IsStep core e reply chosen core' → LeadsToCore image entries core → Stands core'
stands_after image entries core core' e reply chosen s ends =
    stands_there image _ core' (ends_more image entries core core' 0 e reply chosen s ends)

nothing_left : (entries : List Entry) → length entries ≡ 0 → entries ≡ []
nothing_left [] e = refl
nothing_left (x ∷ entries) e = absurd (omega (arith, e))

-- the machine of a core that stands at an image, with no entry since
at_image : {R : Type 0} (image : Machine) (core : Kept R) → IsImage image → LeadsToCore image [] core → closed core.machine ≡ image
at_image image core i ends =
    let none : image.seen ≡ [] = i.well_formed.seen_in_cycle i.no_cycle in
    let same : core.machine ≡ record image { seen = [] } = ends.2.same
    ∙ ap {A = Machine} {B = Machine} (λ n. record n { seen = [] }) ends.1 in
    ap {A = Machine} {B = Machine} closed same ∙ sym
    (ap {A = List ℕ} {B = Machine} (λ l. record image { seen = l }) none
    ∙ ap {A = Bool} {B = Machine} (λ b. record image { seen = []; cycle_open = b }) i.no_cycle)

-- the machine of a core has the limits of its book, also with no cycle open
core_limits : {R : Type 0} (limits : Limits) (base : ℕ) (image : Machine) (entries : List Entry) (core : Kept R)
    → IsHistory (told limits base image entries core) → HasLimits limits (closed core.machine)
core_limits limits base image entries core h =
    let kept = runs_keep_the_limits image h.ends.0 entries h.ends.1 in
    let same = h.ends.2.same in
    record {
      cells = ap {A = Machine} {B = ℕ} (λ m. length m.objects) same ∙ kept.cells ∙ h.limits_are.cells;
      sessions = ap {A = Machine} {B = ℕ} (λ m. length m.mutators) same ∙ kept.sessions ∙ h.limits_are.sessions;
      resources = ap {A = Machine} {B = ℕ} (λ m. m.resource_limit) same ∙ kept.resources ∙ h.limits_are.resources;
    }

-- after a cut
pub cut_history : {R : Type 0} (limits : Limits) (base used : ℕ) (image : Machine) (entries : List Entry) (core core' : Kept R)
    → IsHistory (told limits base image entries core) → core'.machine ≡ closed core.machine → Stands core'
    → used ≡ length entries + cond core.machine.cycle_open 1 0
    → base + used + spare core'.machine < 2 ^ 64 → IsHistory (told limits (base + used) (closed core.machine) [] core')
cut_history limits base used image entries core core' h same st is fits =
    let shut : core'.machine.cycle_open ≡ false = ap {A = Machine} {B = Bool} (λ m. m.cycle_open) same in
    let ends : LeadsToCore (closed core.machine) [] core' = subst (λ m. LeadsToCore m [] core') same (stands_for_its_own core' st shut) in
    record {
      image = record { well_formed = subst IsWellFormed ends.1 ends.3; no_cycle = refl };
      limits_are = core_limits limits base image entries core h;
      at_0 = λ z.
          let none : entries ≡ [] = nothing_left entries (omega (arith, z, is)) in
          let here : LeadsToCore image [] core = subst (λ l. LeadsToCore image l core) none h.ends in
          at_image image core h.image here ∙ h.at_0 (omega (arith, z));
      ends = ends;
      fits = omega (arith, fits);
      cells = ap {A = Machine} {B = ℕ} (λ m. length m.objects) same ∙ h.cells;
    }

-- ---- LeadsToCore

-- a run leads to one machine
same_end : (image m n : Machine) (entries : List Entry) → Run image entries m → Run image entries n → m ≡ n
same_end image m n [] r t = r ∙ sym t
same_end image m n (e ∷ entries) r t = same_end (apply image e) m n entries r.1 t.1

same_owed : {R : Type 0} (image : Machine) (entries : List Entry) (core core' : Kept R) → LeadsToCore image entries core
    → LeadsToCore image entries core'
    → owed core'.machine ≡ owed core.machine
same_owed image entries core core' a b =
    ap {A = Machine} {B = ℕ} owed b.2.same ∙ ap {A = Machine} {B = ℕ} owed (same_end image b.0 a.0 entries b.1 a.1)
    ∙ sym (ap {A = Machine} {B = ℕ} owed a.2.same)

-- an end that was written down, or turned away
pub end_goes_on : {R : Type 0} (limits : Limits) (base room : ℕ) (image : Machine) (entries entries' : List Entry) (core core' : Kept R)
    (seat : ℕ) (e : Event R) (reply : Reply R) (asked : Ask)
    → IsHistory (told limits base image entries core) → ask_of e ≡ Some asked → is_end asked ≡ true
    → WritesEnd seat core entries e reply core' entries'
    → length core'.machine.objects ≡ length core.machine.objects → length entries + owed core.machine ≤ room
    → IsHistory (told limits base image entries' core') × (length entries' + owed core'.machine ≤ room)
end_goes_on limits base room image entries entries' core core' seat e reply asked h is end (inl w) cells places =
    let less = owed_less_by core core' e reply w.0.chosen asked w.0.step is end w.1 (stands_there image entries core h.ends) in
    let more = as_many entries entries' _ w.0.adds in (
      goes_on limits base image entries entries' core core' seat e reply h w.0 cells (omega (arith, less, more, h.fits)),
      omega (arith, less, more, places),
    )
end_goes_on limits base room image entries entries' core core' seat e reply asked h is end (inr r) cells places =
    let ends : LeadsToCore image entries core' =
    refused_stays image entries core core' e reply r.steps.0 asked r.by r.steps.1 is end r.refused h.ends in
    let st = stands_there image entries core h.ends in
    let st' = stands_there image entries core' ends in
    let owes : owed core'.machine ≡ owed core.machine = same_owed image entries core core' h.ends ends in (
      record {
        image = h.image;
        limits_are = h.limits_are;
        at_0 = h.at_0;
        ends = subst (λ l. LeadsToCore image l core') (sym r.stays) ends;
        fits = subst (λ l. base + length l + spare core'.machine < 2 ^ 64) (sym r.stays) (omega (arith, owes, h.fits));
        cells = cells ∙ h.cells;
      },
      subst (λ l. length l + owed core'.machine ≤ room) (sym r.stays) (omega (arith, owes, places)),
    )

-- ---- What callers see

pub ends_by : {R : Type 0} (limits : Limits) (base : ℕ) (image : Machine) (entries entries' : List Entry) (core core' : Kept R) (seat : ℕ)
    (e : Event R) (reply : Reply R)
    → WritesEnd seat core entries e reply core' entries'
    → EndsBy seat (told limits base image entries core) e reply (told limits base image entries' core')
ends_by {R} limits base image entries entries' core core' seat e reply (inl w) =
    inl (
      record {
        chosen = w.0.chosen;
        step =
            w.0.step;
        adds = ap {A = List Entry} {B = History R} (λ l. told limits base image l core') w.0.adds;
      },
      λ r. w.1 r.0 r.1,
    )
ends_by {R} limits base image entries entries' core core' seat e reply (inr r) =
    inr (record {
      steps = r.steps;
      by =
          r.by;
      refused = r.refused;
      stays = ap {A = List Entry} {B = History R} (λ l. told limits base image l core') r.stays;
    })

pub enters_by : {R : Type 0} (limits : Limits) (base : ℕ) (image : Machine) (entries entries' : List Entry) (core core' : Kept R) (seat : ℕ)
    (e : Event R) (reply : Reply R)
    → WritesEntry seat core entries e reply core' entries'
    → Enters seat (told limits base image entries core) e reply (told limits base image entries' core')
enters_by {R} limits base image entries entries' core core' seat e reply w =
    record { chosen = w.chosen; step = w.step; adds = ap {A = List Entry} {B = History R} (λ l. told limits base image l core') w.adds }

-- ---- Marking

marks : {R : Type 0} (core core' : Kept R) (entries : List Entry) (seat : ℕ) (e : Event R) (reply : Reply R) (chosen : Chosen)
    → IsStep core e reply chosen core' → ask_of e ≡ None → WritesEntry seat core entries e reply core' entries
marks core core' entries seat e reply chosen s is =
    record {
      chosen = chosen;
      step = s;
      adds =
          subst (λ o. entries ≡ entries ++ option_to_list (seated seat o (answer_in reply) chosen)) (sym is) (sym (append-nil entries));
    }

pub mark_goes_on : {R : Type 0} (limits : Limits) (base room : ℕ) (image : Machine) (entries : List Entry) (core core' : Kept R)
    (e : Event R) (reply : Reply R) (chosen : Chosen)
    → IsHistory (told limits base image entries core) → IsStep core e reply chosen core' → ask_of e ≡ None
    → length core'.machine.objects ≡ length core.machine.objects → length entries + owed core.machine ≤ room
    → IsHistory (told limits base image entries core') × (length entries + owed core'.machine ≤ room)
mark_goes_on limits base room image entries core core' e reply chosen h s is cells places =
    let w = marks core core' entries 0 e reply chosen s is in
    let ends : LeadsToCore image entries core' =
    subst (λ l. LeadsToCore image l core') (sym w.adds) (ends_more image entries core core' 0 e reply w.chosen w.step h.ends) in
    let owes = same_owed image entries core core' h.ends ends in
    (goes_on limits base image entries entries core core' 0 e reply h w cells (omega (arith, owes, h.fits)), omega (arith, owes, places))

-- ---- Asks that are no end

-- numbers for the entry and for all that may be owed then
pub enter_goes_on : {R : Type 0} (limits : Limits) (base : ℕ) (image : Machine) (entries entries' : List Entry) (core core' : Kept R)
    (seat : ℕ) (e : Event R) (reply : Reply R)
    → IsHistory (told limits base image entries core) → WritesEntry seat core entries e reply core' entries'
    → length core'.machine.objects ≡ length core.machine.objects
    → base + length entries + 131 < 2 ^ 64 → IsHistory (told limits base image entries' core') × (length entries' ≤ length entries + 1)
    × (owed core'.machine ≤ most_owed)
enter_goes_on limits base image entries entries' core core' seat e reply h w cells fits =
    let more = as_many entries entries' _ w.adds in
    let few = owes_few core' (stands_after image entries core core' e reply w.chosen w.step h.ends) in
    (goes_on limits base image entries entries' core core' seat e reply h w cells (omega (arith, more, few, fits)), more, few)

module _ {R : Type 0} (h ready : History R) where
  readies_as_it_is : length h.entries < h.limits.trace → ready ≡ h → Readies h ready
  readies_as_it_is l same =
      elim (nat_lt (length h.entries) h.limits.trace) as (λ b. nat_lt (length h.entries) h.limits.trace ≡ b
      → elim b as (λ _. Type 0) [ true ↦ ready ≡ h | false ↦ Cuts h ready ]) [
        | true ↦ λ _. same
        | false ↦ λ f. absurd (both_ways (nat_lt (length h.entries) h.limits.trace) f (lt-ltb (length h.entries) h.limits.trace l))
      ] refl

  readies_by_a_cut : h.limits.trace ≤ length h.entries → Cuts h ready → Readies h ready
  readies_by_a_cut l cut =
      elim (nat_lt (length h.entries) h.limits.trace) as (λ b. nat_lt (length h.entries) h.limits.trace ≡ b
      → elim b as (λ _. Type 0) [ true ↦ ready ≡ h | false ↦ Cuts h ready ]) [
        | true ↦ λ t. (let less = ltb-true (length h.entries) h.limits.trace t in absurd (omega (arith, less, l)))
        | false ↦ λ _. cut
      ] refl

pub asks_by : {R : Type 0} (limits : Limits) (base : ℕ) (image : Machine) (entries entries' : List Entry) (core core' : Kept R) (seat : ℕ)
    (e : Event R) (reply : Reply R)
    → HasNumbers (told limits base image entries core) → length entries < limits.trace → WritesEntry seat core entries e reply core'
    entries'
    → AsksBy seat (told limits base image entries core) e reply (told limits base image entries' core')
asks_by limits base image entries entries' core core' seat e reply n l w =
    let h = told limits base image entries core in
    inl (record {
      numbers = n;
      ready =
          h;
      readies = readies_as_it_is h h l refl;
      enters = enters_by limits base image entries entries' core core' seat e reply w;
    })

-- an ask that is no end
pub steps_as_asked : {R : Type 0} (seat : ℕ) (old new : History R) (e : Event R) (reply : Reply R) (asked : Ask)
    → ask_of e ≡ Some asked → is_end asked ≡ false → AsksBy seat old e reply new → BookSteps seat old e reply new
steps_as_asked {R} seat old new e reply asked is end by =
    subst (λ o. StepsBy seat o old e reply new) (sym is)
    (subst (λ b. elim b as (λ _. Type 0) [ true ↦ EndsBy seat old e reply new | false ↦ AsksBy seat old e reply new ]) (sym end) by)

-- an end
pub steps_as_ended : {R : Type 0} (seat : ℕ) (old new : History R) (e : Event R) (reply : Reply R) (asked : Ask)
    → ask_of e ≡ Some asked → is_end asked ≡ true → EndsBy seat old e reply new → BookSteps seat old e reply new
steps_as_ended {R} seat old new e reply asked is end by =
    subst (λ o. StepsBy seat o old e reply new) (sym is)
    (subst (λ b. elim b as (λ _. Type 0) [ true ↦ EndsBy seat old e reply new | false ↦ AsksBy seat old e reply new ]) (sym end) by)

-- ---- Cuts

-- a cut, between the core before and the one after it
module _ {R : Type 0} (limits : Limits) (base used : ℕ) (image image' : Machine) (entries : List Entry) (core between : Kept R) where
  pub record IsCut : Type 0 where
    pub history : IsHistory (told limits base image entries core)
    pub numbers : HasNumbers (told limits base image entries core)
    pub image_is : image' ≡ closed core.machine
    pub machine : between.machine ≡ closed core.machine
    pub gives_up : GivesUp core.machine.cycle_open core between
    pub stands : Stands between
    pub used_is : used ≡ length entries + cond core.machine.cycle_open 1 0

  pub cuts : IsCut → Cuts (told limits base image entries core) (told limits (base + used) image' [] between)
  cuts x = record { base = omega (arith, x.used_is); image = x.image_is; entries = refl; gives_up = x.gives_up; limits = refl }

  cut_stays : IsCut → IsHistory (told limits (base + used) (closed core.machine) [] between)
  cut_stays x =
      let bit = bit_small core.machine.cycle_open in
      let few = owes_few between x.stands in
      cut_history limits base used image entries core between x.history x.machine x.stands x.used_is
      (omega (arith, few, bit, x.used_is, x.numbers))

  pub cut_is_history : IsCut → IsHistory (told limits (base + used) image' [] between)
  cut_is_history x = subst (λ m. IsHistory (told limits (base + used) m [] between)) (sym x.image_is) (cut_stays x)

  pub cut_owes : IsCut → owed between.machine ≡ owed core.machine
  cut_owes x = ap {A = Machine} {B = ℕ} owed x.machine

  -- and then an entry
  module _ (entries' : List Entry) (core' : Kept R) (seat : ℕ) (e : Event R) (reply : Reply R) where
    pub cut_goes_on : IsCut → WritesEntry seat between [] e reply core' entries' → length core'.machine.objects
        ≡ length between.machine.objects
        → IsHistory (told limits (base + used) image' entries' core') × (length entries' ≤ 1) × (owed core'.machine ≤ most_owed)
    cut_goes_on x w cells =
        let bit = bit_small core.machine.cycle_open in
        let on = enter_goes_on limits (base + used) (closed core.machine) [] entries' between core' seat e reply (cut_stays x) w cells
        (omega (arith, bit, x.used_is, x.numbers)) in
        (subst (λ m. IsHistory (told limits (base + used) m entries' core')) (sym x.image_is) on.0, omega (arith, on.1), on.2)

    pub cut_asks_by : IsCut → limits.trace ≤ length entries → WritesEntry seat between [] e reply core' entries'
        → AsksBy seat (told limits base image entries core) e reply (told limits (base + used) image' entries' core')
    cut_asks_by x long w =
        let ready = told limits (base + used) image' [] between in
        inl (record {
          numbers = x.numbers;
          ready = ready;
          readies = readies_by_a_cut (told limits base image entries core) ready long (cuts x);
          enters = enters_by limits (base + used) image' [] entries' between core' seat e reply w;
        })

-- ---- The start

none_owed : (sessions : ℕ) → owed_by (replicate {A = Option Session} sessions None) ≡ 0
none_owed zero = refl
none_owed (suc n) = let e = none_owed n in omega (arith, e)

pub nothing_owed : {R : Type 0} (limits : Limits) (core : Kept R) → core.machine ≡ empty limits.cells limits.sessions limits.resources
    → owed core.machine ≡ 0
nothing_owed limits core is = let none = none_owed limits.sessions in
    let same : owed core.machine ≡ owed (empty limits.cells limits.sessions limits.resources) = ap {A = Machine} {B = ℕ} owed is in
    omega (arith, same, none)

abbrev none_of : (A : Type 0) → Option A
none_of A = None

pub starts : {R : Type 0} (limits : Limits) (image : Machine) (core : Kept R)
    → core.machine ≡ empty limits.cells limits.sessions limits.resources → image ≡ core.machine → IsHistory (told limits 0 image [] core)
starts limits image core is copied =
    let fit = limits_hold limits in
    let m = empty limits.cells limits.sessions limits.resources in
    let formed = empty_is_well_formed limits.cells limits.sessions limits.resources fit.0 fit.2 in
    let here : image ≡ m = copied ∙ is in
    let owes = nothing_owed limits core is in
    record {
      image = subst IsImage (sym here) (record { well_formed = formed; no_cycle = refl });
      limits_are = subst (HasLimits limits) (sym here)
          (record {
            cells = length-replicate limits.cells (none_of Object);
            sessions = length-replicate limits.sessions (none_of Session);
            resources = refl;
          });
      at_0 = λ _. here;
      ends = subst (λ n. LeadsToCore n [] core) (sym here)
          (m, refl, stands_at_start core limits.cells limits.sessions limits.resources is, formed, refl);
      fits = omega (arith, owes);
      cells = start_cells core limits.cells limits.sessions limits.resources is;
    }
