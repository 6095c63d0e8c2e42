use Rattle.std.proofs.Common.{◌≡◌, ℕ, length, ◌+◌, ◌-◌, List, ◌++◌, Option, Some, None, Ok, subst, sym, ap, ◌∙◌, arith}
use Rattle.std.proofs.lemmas.Result.{err_from_is_err_and}
use Rattle.std.specs.Prelude.{replicate}
use Rattle.jlr_machine.specs.declared.object.Object.{Object}
use Rattle.jlr_trace_fields.specs.Items.{rising_items_at}
use Rattle.jlr_trace_fields.proofs.Loop.{with_front}
use Rattle.jlr_trace_fields.proofs.RisingLoop.{goes_on, ends, is_done}
use Rattle.jlr_trace_fields.specs.declared.parts.record.Placed.{Placed}
use Rattle.jlr_trace_fields.specs.Records.{placed_after}
use Rattle.jlr_trace_entries.specs.Images.{listed_from, placed}
use Rattle.jlr_trace_entries.proofs.Placing.{above-next, placed_follows, padded}
use Rattle.jlr_trace_entries.proofs.places.placed_at.Goals as goal

pub returns-in_err-item-clause-reads : goal.returns-in_err-item-clause-reads
returns-in_err-item-clause-reads c =
    let p = err_from_is_err_and c.from_residual.result c.from_residual.ensures.1 in
    rw (p.1, p.2) (ends (placed_after c.args.version) (λ p. p.slot) c.in_err-item.field-0.0
    (listed_from placed 0 c.loop.places.items ++ c.loop.strays.items) c.args.count c.loop.counter c.loop.before c.loop.bytes.now
    (rising_items_at (placed_after c.args.version) (λ p. p.slot) c.args.count None c.args.bytes.now.now) c.loop-test.true
    c.in_err-item.ensures c.loop.invariant.read)

pub put_in-requires-clause-above : goal.put_in-requires-clause-above
put_in-requires-clause-above c =
    let above = above-next c.loop.before c.in_ok-item.item.slot
    (placed_follows c.args.version c.loop.before c.loop.bytes.now c.in_ok-item.item c.take_placed.new.bytes.now c.in_ok-item.ensures) in
    omega (arith, above, c.loop.invariant.below)

pub put_in-requires-clause-after : goal.put_in-requires-clause-after
put_in-requires-clause-after c = λ some.
    let above = above-next c.loop.before c.in_ok-item.item.slot
    (placed_follows c.args.version c.loop.before c.loop.bytes.now c.in_ok-item.item c.take_placed.new.bytes.now c.in_ok-item.ensures) in
    omega (arith, above, c.loop.invariant.apart some)

pub loop-preserved : goal.loop-preserved
loop-preserved c = record {
  read = rw c.number.ensures (subst (λ (xs : List Placed). with_front xs
      (rising_items_at (placed_after c.args.version) (λ p. p.slot) (c.args.count - (c.loop.counter + 1)) (Some c.in_ok-item.item.slot)
      c.take_placed.new.bytes.now) ≡ rising_items_at (placed_after c.args.version) (λ p. p.slot) c.args.count None c.args.bytes.now.now)
      (sym c.in_ok-put_in.ensures.listed)
      (goes_on (placed_after c.args.version) (λ p. p.slot) (listed_from placed 0 c.loop.places.items ++ c.loop.strays.items) c.args.count
      c.loop.counter c.loop.before c.loop.bytes.now c.in_ok-item.item c.take_placed.new.bytes.now
      (rising_items_at (placed_after c.args.version) (λ p. p.slot) c.args.count None c.args.bytes.now.now) c.loop-test.true
      c.in_ok-item.ensures c.loop.invariant.read));
  below = omega (arith, c.number.ensures, c.in_ok-put_in.ensures.below);
  few = c.in_ok-put_in.ensures.few;
  apart = λ some. omega (arith, c.number.ensures, c.in_ok-put_in.ensures.apart some);
  strays = c.in_ok-put_in.ensures.strays;
}

placed_list : (places padded_places table : List (Option Object)) (strays listed_strays : List Placed) (n : ℕ) → padded_places ≡ places
    ++ replicate n None → table ≡ padded_places → listed_strays ≡ strays
    → listed_from placed 0 table ++ listed_strays ≡ listed_from placed 0 places ++ strays
placed_list places padded_places table strays listed_strays n p q r =
    ap (λ (l : List (Option Object)). listed_from placed 0 l ++ listed_strays) (q ∙ p)
    ∙ ap (λ (l : List Placed). l ++ listed_strays) (padded placed places n)
    ∙ ap (λ (l : List Placed). listed_from placed 0 places ++ l) r

pub returns-clause-reads : goal.returns-clause-reads
returns-clause-reads c =
    subst (λ (xs : List Placed). rising_items_at (placed_after c.args.version) (λ p. p.slot) c.args.count None c.args.bytes.now.now
    ≡ Ok (xs, c.loop.bytes.now))
    (sym (placed_list c.loop.places.items c.pad.new.places.items c.from_vec.result c.loop.strays.items c.from_vec-2.result
    (c.args.cells - length c.loop.places.items) c.in_ok-pad.ensures c.from_vec.ensures c.from_vec-2.ensures))
    (is_done (placed_after c.args.version) (λ p. p.slot) (listed_from placed 0 c.loop.places.items ++ c.loop.strays.items) c.args.count
    c.loop.counter c.loop.before c.loop.bytes.now (rising_items_at (placed_after c.args.version) (λ p. p.slot) c.args.count None
    c.args.bytes.now.now) c.loop-test.false c.loop.invariant.read)
