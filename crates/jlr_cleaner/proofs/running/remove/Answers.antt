use Rattle.std.proofs.Common.{◌≡◌, ◌∙◌, refl, sym, Some, None}
use Rattle.std.specs.List.{position}
use Rattle.jlr_cleaner.proofs.Apart.{apart_without}
use Rattle.jlr_cleaner.proofs.Listing.{has_action, none_found, job_found, job_removed, not_its}
use Rattle.jlr_cleaner.proofs.running.remove.Goals as goal

pub returns-in-None-clause-none : goal.returns-in-None-clause-none
returns-in-None-clause-none c =
    let none : position (has_action c.args.action) c.args.jobs.now.items ≡ None =
    rw (← c.deref.ensures.value) (sym c.position.ensures ∙ c.in-None.is) in
    (none_found c.args.jobs.now.items c.args.action c.args.by none, refl)

found : (g : goal.Then-index-by) → position (has_action g.args.action) g.args.jobs.now.items ≡ Some g.in-Some.place
found g = rw (← g.deref.ensures.value) (sym g.position.ensures ∙ g.in-Some.is)

pub returns-then-index-by-clause-none : goal.returns-then-index-by-clause-none
returns-then-index-by-clause-none c = (
  not_its c.args.jobs.now.items c.args.action c.in-Some.place (found c) c.index.result.now c.args.by c.index.ensures c.if-index-by.true,
  refl,
)

found_after : (g : goal.After-remove) → position (has_action g.args.action) g.args.jobs.now.items ≡ Some g.in-Some.place
found_after g = rw (← g.deref.ensures.value) (sym g.position.ensures ∙ g.in-Some.is)

pub returns-else-index-by-clause-job : goal.returns-else-index-by-clause-job
returns-else-index-by-clause-job c =
    let removed = job_found c.args.jobs.now.items c.args.action c.in-Some.place (found_after c) c.remove.result c.remove.ensures.value in
    let tested = job_found c.args.jobs.now.items c.args.action c.in-Some.place (found_after c) c.index.result.now c.index.ensures in
    let same : c.remove.result ≡ c.index.result.now = cc in
    (removed, rw same c.if-index-by.false)

pub returns-else-index-by-clause-ended : goal.returns-else-index-by-clause-ended
returns-else-index-by-clause-ended c =
    c.remove.ensures.items ∙ job_removed c.args.jobs.now.items c.args.action c.in-Some.place (found_after c) c.requires.apart.actions

pub returns-else-index-by-clause-apart : goal.returns-else-index-by-clause-apart
returns-else-index-by-clause-apart c =
    rw (c.remove.ensures.items ∙ job_removed c.args.jobs.now.items c.args.action c.in-Some.place (found_after c) c.requires.apart.actions)
    (apart_without c.args.jobs.now.items c.args.action c.requires.apart)
