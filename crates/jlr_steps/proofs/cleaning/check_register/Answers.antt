use Rattle.std.proofs.Common.{◌∙◌}
use Rattle.jlr_state.specs.Machines.{machine_of}
use Rattle.jlr_state.proofs.Named.{named_object}
use Rattle.jlr_steps.proofs.cleaning.check_register.Goals as goal

pub check_cleaner-requires : goal.check_cleaner-requires
check_cleaner-requires g c =
    named_object (machine_of c.args.state.now) c.args.by c.args.cleaner c.in_ok-cleaner-2.cleaner c.requires
    (c.in_ok-cleaner.ensures.0 ∙ c.in_ok-cleaner-2.ensures.ok_part)
