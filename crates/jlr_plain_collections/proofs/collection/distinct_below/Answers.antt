use Rattle.std.proofs.Common.{◌<◌, ◌∙◌, sym, ap, length, subst}
use Rattle.std.proofs.lemmas.List.{length-replicate}
use Rattle.jlr_plain_collections.proofs.Tables.{table_begins}
use Rattle.jlr_plain_collections.proofs.collection.distinct_below.Goals as goal

pub all_new-once-requires : goal.all_new-once-requires
all_new-once-requires c =
    let e = c.deref_mut.ensures.value ∙ c.in_ok-marks.ensures in
    record {
      none = table_begins c.args.slots.now c.args.cells c.deref_mut.result.now e;
      within = λ s m. subst (λ n. s < n) (sym (ap length e ∙ length-replicate c.args.cells _)) (c.requires s m);
    }
