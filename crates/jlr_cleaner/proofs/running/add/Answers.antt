use Rattle.std.proofs.Common.{◌≡◌, ◌∙◌, arith, IsOk}
use Rattle.std.specs.List.{position_or_len}
use Rattle.jlr_machine.specs.Lookups.{with_job}
use Rattle.jlr_cleaner.proofs.Apart.{apart_with, room_for_taker}
use Rattle.jlr_cleaner.proofs.Listing.{inserted, is_above, when_ok}
use Rattle.jlr_cleaner.proofs.running.add.Goals as goal

added : (g : goal.After-insert) → g.insert.new.self.items ≡ with_job g.args.jobs.now.items g.args.job
added g =
    let few = room_for_taker g.args.jobs.now.items g.args.job.by (omega arith) g.requires.taker g.requires.apart in
    let well : IsOk g.insert.result = g.insert.ensures.succeeds (omega (arith, few, g.requires.room)) in
    let place : g.place_of-place.result ≡ position_or_len (is_above g.args.job.action) g.args.jobs.now.items =
    rw (← g.deref.ensures.value) g.place_of-place.ensures.place in
    g.insert.ensures.items ∙ when_ok g.insert.result _ _ well ∙ rw place (inserted g.args.jobs.now.items g.args.job)

pub returns-clause-added : goal.returns-clause-added
returns-clause-added c = added c

pub returns-clause-apart : goal.returns-clause-apart
returns-clause-apart c =
    rw (added c) (apart_with c.args.jobs.now.items c.args.job (omega arith) c.requires.action c.requires.taker c.requires.apart)
