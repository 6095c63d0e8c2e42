use Rattle.std.proofs.Common.{[]}
use Rattle.jlr_trace_fields.specs.declared.version.Version.TheVariants.{Two}
use Rattle.jlr_trace_entries.specs.Images.{whole_image}
use Rattle.jlr_trace_entries.proofs.SectionCounts.{image_counts}
use Rattle.jlr_trace.proofs.Machines.{image_fits, image_shape}
use Rattle.jlr_trace.proofs.writing.begin_history.Goals as goal

pub put_front-requires : goal.put_front-requires
put_front-requires c =
    let m = c.args.image.now in
    let w = c.requires.image.well_formed in
    let range = c.machine_in_range.ensures in
    let bound = c.base_in_range.ensures in
    image_counts Two (whole_image c.args.base m []) (image_fits m w c.args.base [] bound c.requires.limits range)
    (image_shape m w c.args.base [] bound c.requires.limits range c.requires.image.no_cycle)
