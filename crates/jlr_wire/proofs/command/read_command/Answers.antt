use Rattle.std.proofs.Common.{◌≡◌, Some, None, Ok, sym, ◌∙◌, ap}
use Rattle.std.specs.List.{slice_split}
use Rattle.std.proofs.lemmas.Option.{same_Some, none-some}
use Rattle.jlr_wire.specs.Fields.{is_space}
use Rattle.jlr_wire.specs.Reading.{reading}
use Rattle.jlr_wire.proofs.Exact.{read_is_command, command_is_read}
use Rattle.jlr_wire.proofs.command.read_command.Goals as goal

pub returns-in-Some-clause-exact : goal.returns-in-Some-clause-exact
returns-in-Some-clause-exact c =
    let read : Some c.in-Some.command ≡ reading (slice_split is_space c.args.line.now) =
    sym c.in-Some.is ∙ c.command_in.ensures in
    λ k. (
      λ e. read_is_command c.args.line.now k c.if-line-gt-LINE_LIMIT.false
          (sym read ∙ (let same : c.in-Some.command ≡ k = cc in ap Some same)),
      λ h. let same = same_Some _ _ (read ∙ command_is_read c.args.line.now k h) in ap Ok same,
    )

pub returns-in-None-clause-exact : goal.returns-in-None-clause-exact
returns-in-None-clause-exact c =
    let read : None ≡ reading (slice_split is_space c.args.line.now) =
    sym c.in-None.is ∙ c.command_in.ensures in
    λ k. (λ e. absurd cc, λ h. absurd (none-some k (read ∙ command_is_read c.args.line.now k h)))
