-- What an image keeps at its start, at a cut, and once its empty machine is made.
use Rattle.std.proofs.Common.{◌≡◌, ℕ, ◌≤◌, Bool, true, false, cond, nat_le, List, [], Option, Some, None, option_map, replicate, is_some}
use Rattle.std.proofs.Common.{refl, sym, ◌∙◌, ap, subst, arith}
use Rattle.std.proofs.lemmas.Bool.{and_parts, both_ways, leb-true}
use Rattle.jlr_types.specs.declared.limits.Limits.{Limits}
use Rattle.jlr_types.specs.declared.limits.LimitFault.{LimitFault}
use Rattle.jlr_types.specs.declared.limits.LimitFault.TheVariants.{Cells, Sessions}
use Rattle.jlr_types.specs.Ranges.{is_within}
use Rattle.jlr_machine.specs.declared.machine.Machine.{Machine}
use Rattle.jlr_plain.specs.declared.record.Record.{Record}
use Rattle.jlr_plain.specs.Records.{replayed}
use Rattle.jlr_machine.specs.Run.{Run, empty}
use Rattle.jlr_laws.proofs.Empty.{empty_is_well_formed}
use Rattle.jlr_laws.proofs.Frames.{no_some}
use Rattle.jlr_plain.specs.Unseen.{unseen}
use Rattle.jlr_book.specs.Led.{with_cycle_closed, led, shut, LeadsOn}
use Rattle.jlr_book.specs.ImageKeeping.{image_from, kept_from, AreEmptyCells}
use Rattle.std.specs.Global.{Vec}
use Rattle.std.specs.Vec.{vec_len}
use Rattle.jlr_machine.specs.declared.object.Object.{Object}
use Rattle.jlr_book.proofs.Led.{led_by_run}

-- ---- At the start

passes : (b : Bool) (rest : Option LimitFault) (fault : LimitFault) → cond b rest (Some fault) ≡ None → (b ≡ true) × (rest ≡ None)
passes true rest fault e = (refl, e)
passes false rest fault e = no_some fault (sym e)

at_most : (low high n : ℕ) → is_within low high n ≡ true → n ≤ high
at_most low high n e = leb-true n high (and_parts (nat_le low n) (nat_le n high) e).1

pub starts : (limits : Limits) → LeadsOn (empty limits.cells limits.sessions limits.resources) []
starts limits =
    let m = empty limits.cells limits.sessions limits.resources in
    let cells = passes (is_within 16 65536 limits.cells) _ Cells limits.in_range in
    let sessions = passes (is_within 1 64 limits.sessions) _ Sessions cells.1 in
    record {
      machine = m;
      same = refl;
      formed = empty_is_well_formed limits.cells limits.sessions limits.resources (at_most 16 65536 limits.cells cells.0)
          (at_most 1 64 limits.sessions sessions.0);
      last = m;
      run = refl;
    }

-- ---- At a cut

shut_is_closed : (n m : Machine) → n ≡ unseen m → with_cycle_closed n ≡ shut n
shut_is_closed n m same = ap {A = Machine} {B = Machine} with_cycle_closed same ∙ sym (ap {A = Machine} {B = Machine} shut same)

-- what is kept is the image, once all is followed and the cycle is closed
kept_is : (limits : Limits) (kept : Option Machine) → LeadsOn (kept_from limits kept) []
    → kept_from limits (option_map with_cycle_closed kept) ≡ shut (kept_from limits kept)
kept_is limits None h = refl
kept_is limits (Some n) h = shut_is_closed n h.machine h.same

led_from : (x image m : Machine) (records : List Record) → image ≡ shut x → Run image (replayed image records) m
    → led (shut x) records ≡ unseen m
led_from x image m records is run =
    led_by_run (shut x) m records (subst (λ (y : Machine). Run y (replayed y records) m) is run)

pub takes_over : (limits : Limits) (kept : Option Machine) (image m : Machine) (rest records : List Record)
    → LeadsOn (kept_from limits kept) rest → rest ≡ [] → image_from limits kept rest ≡ image
    → Run image (replayed image records) m → image_from limits (option_map with_cycle_closed kept) records ≡ shut m
takes_over limits kept image m rest records leads none is run =
    let here = subst (LeadsOn (kept_from limits kept)) none leads in
    let shut_here : image ≡ shut (kept_from limits kept) = sym is
    ∙ ap {A = List Record} {B = Machine} (λ l. image_from limits kept l) none in
    ap {A = Machine} {B = Machine} (λ x. shut (led x records)) (kept_is limits kept here)
    ∙ ap {A = Machine} {B = Machine} shut (led_from (kept_from limits kept) image m records shut_here run)

-- ---- Once the empty machine is made

is_none : (kept : Option Machine) → is_some kept ≡ false → kept ≡ None
is_none None e = refl
is_none (Some m) e = absurd (both_ways false refl (sym e))

pub made : (limits : Limits) (kept : Option Machine) (m : Machine) (cells : Vec (Option Object)) (places : List (Option Object))
    → is_some kept ≡ false → AreEmptyCells cells limits.cells → limits.cells ≤ vec_len cells → places ≡ cells.items
    → ((n : ℕ) → places ≡ replicate n None → m ≡ empty n limits.sessions limits.resources)
    → kept_from limits (Some m) ≡ kept_from limits kept
made limits kept m cells places none free many same is =
    let whole : vec_len cells ≡ limits.cells = omega (arith, free.few, many) in
    is limits.cells (same ∙ free.nothing ∙ ap {A = ℕ} {B = List (Option Object)} (λ n. replicate n None) whole)
    ∙ sym (ap {A = Option Machine} {B = Machine} (kept_from limits) (is_none kept none))
