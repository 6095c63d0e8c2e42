use Rattle.std.proofs.Common.{subst}
use Rattle.jlr_sets.specs.Bits.{IsTrimmedLen}
use Rattle.jlr_sets.proofs.Ending.{trimmed_slots, trimmed_is}
use Rattle.jlr_sets.proofs.slots.SlotSet.trim.Goals as goal

pub returns-clause-slots : goal.returns-clause-slots
returns-clause-slots c =
    let so = subst (λ l. IsTrimmedLen l c.trimmed_len.result) c.deref.ensures.value c.trimmed_len.ensures in
    rw (c.shrink_to_fit.ensures.items, c.truncate.ensures.items, ← c.self.view_is)
    (trimmed_slots c.self.inside.words.items c.trimmed_len.result so)

pub returns-clause-trimmed : goal.returns-clause-trimmed
returns-clause-trimmed c =
    let so = subst (λ l. IsTrimmedLen l c.trimmed_len.result) c.deref.ensures.value c.trimmed_len.ensures in
    rw (c.shrink_to_fit.ensures.items, c.truncate.ensures.items) (trimmed_is c.self.inside.words.items c.trimmed_len.result so)
