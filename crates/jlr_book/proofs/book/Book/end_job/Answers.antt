use Rattle.std.proofs.Common.{None, inl, inr, arith, sym, subst, refl, vec_capacity, ◌∙◌}
use Rattle.jlr_machine.specs.declared.ask.Ask.TheVariants as ask
use Rattle.jlr_machine.specs.Run.{no_choice}
use Rattle.jlr_plain.specs.Records.{replayed}
use Rattle.jlr_plain.proofs.Records.{as_many}
use Rattle.jlr_event.specs.declared.event.Event.TheVariants.{Ask as Asks}
use Rattle.jlr_event.specs.declared.event.Reply.TheVariants.{Answered}
use Rattle.jlr_book.specs.Rules.{EndsBy}
use Rattle.jlr_book.proofs.Entering.{end_more, entry_recorded, not_refused, owed_less_by, stands_there, turned_away}
use Rattle.jlr_book.proofs.Histories.{end_goes_on, ends_by, told}
use Rattle.jlr_book.proofs.book.Book.end_job.Goals as goal

pub push_reserved-requires : goal.push_reserved-requires
push_reserved-requires g c =
    let old = c.self.inside in
    let told = c.finish-answer in
    let kept = c.self.invariant in
    let event = Asks (ask.Finish c.args.by c.args.action c.args.outcome) in
    let asked = ask.Finish c.args.by c.args.action c.args.outcome in
    let stands = stands_there old.image (replayed old.image old.trace.items) old.core kept.history.ends in
    let less = owed_less_by old.core told.new.self event (Answered told.result None) _ asked told.ensures.step refl refl
    (λ by e. not_refused told.result by (sym c.is_refused.ensures ∙ c.if-is_refused.false) e) stands in
    let l = old.trace.ok.0 in
    let m = as_many old.image old.trace.items in
    omega (arith, l, less, kept.places)

-- ---- Where the core refuses it

pub invariant_of-self : goal.invariant_of-self
invariant_of-self g c =
    let old = c.self.inside in
    let told = c.finish-answer in
    let kept = c.self.invariant in
    let event = Asks (ask.Finish c.args.by c.args.action c.args.outcome) in
    let asked = ask.Finish c.args.by c.args.action c.args.outcome in
    let l = old.trace.ok.0 in
    let m = as_many old.image old.trace.items in
    let entries = replayed old.image old.trace.items in
    let refused = sym c.is_refused.ensures ∙ c.if-is_refused.true in
    let away = end_more old.image old.trace.items old.trace.items old.core told.new.self c.args.seat event (Answered told.result None)
    kept.history.ends (inr (turned_away old.core told.new.self event told.result None _ old.trace.items told.ensures.step refused)) in
    let x = end_goes_on old.limits old.base (vec_capacity old.trace) old.image entries entries old.core told.new.self c.args.seat event
    (Answered told.result None) asked kept.history refl refl away told.ensures.cells (omega (arith, l, m, kept.places)) in
    record { history = x.0; places = omega (arith, l, m, x.1); choice = kept.choice }

pub returns-then-is_refused : goal.returns-then-is_refused
returns-then-is_refused g c =
    let old = c.self.inside in
    let told' = c.finish-answer in
    let event = Asks (ask.Finish c.args.by c.args.action c.args.outcome) in
    let reply = Answered told'.result None in
    let entries = replayed old.image old.trace.items in
    let refused = sym c.is_refused.ensures ∙ c.if-is_refused.true in
    let away = end_more old.image old.trace.items old.trace.items old.core told'.new.self c.args.seat event reply
    c.self.invariant.history.ends
    (inr (turned_away old.core told'.new.self event told'.result None _ old.trace.items told'.ensures.step refused)) in (
      reply,
      subst (λ h. EndsBy c.args.seat h event reply (told old.limits old.base old.image entries told'.new.self)) c.self.view_is
          (ends_by old.limits old.base old.image entries entries old.core told'.new.self c.args.seat event reply away),
    )

-- ---- Where it is an entry

pub invariant_of-self-2 : goal.invariant_of-self-2
invariant_of-self-2 g c =
    let old = c.self.inside in
    let told = c.finish-answer in
    let kept = c.self.invariant in
    let entries = replayed old.image old.trace.items in
    let entries' = replayed old.image c.push_reserved.new.self.items in
    let event = Asks (ask.Finish c.args.by c.args.action c.args.outcome) in
    let asked = ask.Finish c.args.by c.args.action c.args.outcome in
    let l = old.trace.ok.0 in
    let m = as_many old.image old.trace.items in
    let m' = as_many old.image c.push_reserved.new.self.items in
    let l' = c.push_reserved.new.self.ok.0 in
    let w = entry_recorded old.image old.trace.items c.push_reserved.new.self.items old.core told.new.self c.args.seat event
    (Answered told.result None) c.self.invariant.history.ends told.result asked no_choice c.nothing.result c.new.result told.ensures.step
    c.nothing.ensures refl refl c.new.ensures c.push_reserved.ensures.items in
    let x = end_goes_on old.limits old.base (vec_capacity old.trace) old.image entries entries' old.core told.new.self
    c.args.seat event (Answered told.result None) asked kept.history refl refl
    (inl (w, λ by e. not_refused told.result by (sym c.is_refused.ensures ∙ c.if-is_refused.false) e)) told.ensures.cells
    (omega (arith, l, m, kept.places)) in
    record { history = x.0; places = omega (arith, l', m', x.1, c.push_reserved.ensures.capacity); choice = kept.choice }

pub returns : goal.returns
returns g c =
    let old = c.self.inside in
    let told' = c.finish-answer in
    let entries = replayed old.image old.trace.items in
    let entries' = replayed old.image c.push_reserved.new.self.items in
    let event = Asks (ask.Finish c.args.by c.args.action c.args.outcome) in
    let asked = ask.Finish c.args.by c.args.action c.args.outcome in
    let reply = Answered told'.result None in
    let w = entry_recorded old.image old.trace.items c.push_reserved.new.self.items old.core told'.new.self c.args.seat event reply
    c.self.invariant.history.ends told'.result asked no_choice c.nothing.result c.new.result told'.ensures.step
    c.nothing.ensures refl refl c.new.ensures c.push_reserved.ensures.items in (
      reply,
      subst (λ h. EndsBy c.args.seat h event reply (told old.limits old.base old.image entries' told'.new.self)) c.self.view_is
          (ends_by old.limits old.base old.image entries entries' old.core told'.new.self c.args.seat event reply
          (inl (w, λ by e. not_refused told'.result by (sym c.is_refused.ensures ∙ c.if-is_refused.false) e))),
    )
