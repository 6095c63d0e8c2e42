use Rattle.std.proofs.Common.{◌≡◌, subst, sym, ap}
use Rattle.jlr_machine.specs.declared.ask.Answer.{Answer}
use Rattle.jlr_machine.specs.declared.entry.Entry.{Entry}
use Rattle.jlr_plain.specs.Records.{entry_in}
use Rattle.jlr_trace_fields.specs.declared.version.Version.TheVariants.{Two}
use Rattle.jlr_trace_entries.specs.Entries.{made_entry, EntryCounts}
use Rattle.jlr_trace_entries.proofs.SectionCounts.{entry_counts}
use Rattle.jlr_trace.specs.Ranges.{EntryRange}
use Rattle.jlr_trace.proofs.Entries.{entry_fits}
use Rattle.jlr_commands.proofs.saving.file.put_next.Goals as goal

pub put_parts-done-requires : goal.put_parts-done-requires
put_parts-done-requires c =
    let r = c.args.kept.now in
    let e = entry_in c.args.machine.now r in
    let l = c.requires in
    let same : made_entry r.seat r.ask c.in_ok-answer.answer r.choice ≡ e =
    ap {A = Answer} {B = Entry} (λ a. made_entry r.seat r.ask a r.choice) c.in_ok-answer.ensures in
    subst (EntryCounts Two) (sym same)
    (entry_counts Two e (entry_fits l.machine l.formed e l.legal (subst EntryRange same c.parts_in_range.ensures)))
