use Rattle.std.proofs.Common.{◌≡◌, ◌+◌, drop, Ok, Err, OnOk, subst}
use Rattle.jlr_machine.specs.Run.{apply}
use Rattle.jlr_plain.specs.Records.{entry_in}
use Rattle.jlr_plain.specs.Unseen.{unseen}
use Rattle.jlr_book.specs.Led.{LeadsOn}
use Rattle.jlr_book.proofs.Led.{leads_past, legal_next, rest_is}
use Rattle.jlr_book.proofs.image.following.follow_at.Goals as goal

pub follow_plain-requires : goal.follow_plain-requires
follow_plain-requires c =
    let n = c.args.machine.now in
    let records = c.args.records.now in
    let r = c.index-records-place.result in
    let rest = rest_is records c.args.place r c.requires.place c.index-records-place.is in
    legal_next n r (drop (c.args.place + 1) records) (subst (LeadsOn n) rest c.requires.leads)

pub returns-clause-leads : goal.returns-clause-leads
returns-clause-leads c =
    let n = c.args.machine.now in
    let n' = c.follow_plain.new.machine in
    let r = c.index-records-place.result in
    elim c.follow_plain.result as (λ x. OnOk x (n' ≡ unseen (apply n (entry_in n r)))
    → OnOk x (LeadsOn n' (drop (c.args.place + 1) c.args.records.now))) [
      | Ok x ↦ λ to. leads_past n n' c.args.records.now c.args.place r c.requires.place c.index-records-place.is c.requires.leads to
      | Err x ↦ λ h. h
    ] c.follow_plain.ensures.ok
