use Rattle.std.proofs.Common.{sym, ◌∙◌}
use Rattle.std.specs.Prelude.{bytes_eq}
use Rattle.std.proofs.lemmas.List.{length-map}
use Rattle.std.specs.Cmp.Lexicographic.{unequal}
use Rattle.jlr_machine.specs.Lookups.{bound_names}
use Rattle.jlr_plain_asks.proofs.answers.answers.all_names_agree.Goals as goal

pub returns-then-left-right : goal.returns-then-left-right
returns-then-left-right c = sym (unequal bytes_eq c.args.left.now (bound_names c.args.right.now)
    (λ e. c.if-left-right.true (e ∙ length-map c.args.right.now (λ b. b.name))))
