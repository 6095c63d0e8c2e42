use Rattle.std.proofs.Common.{rules, ◌≡◌, ◌≢◌, sym, ◌∙◌, false}
use Rattle.std.specs.Prelude.{codes}
use Rattle.std.specs.Str.{bytes_eq}
use Rattle.std.proofs.lemmas.Slice.Eq.{bytes_eq-Decides}
use Rattle.std.proofs.lemmas.Bool.{false≢true}
use Rattle.jlr_wire.proofs.Layouts.{bad_letter}
use Rattle.jlr_wire.proofs.layout.parse_layout.Goals as goal

pub returns-in_default-clause-none : goal.returns-in_default-clause-none
returns-in_default-clause-none c = λ kinds le e.
    let unlike : false ≡ bytes_eq c.args.text.now c.as_slice.result.now = sym c.if-eq.false ∙ c.eq.ensures in
    let dash : c.args.text.now ≢ codes "-" =
    λ h. false≢true (unlike ∙ (bytes_eq-Decides c.args.text.now c.as_slice.result.now).1 (h ∙ sym c.as_slice.ensures)) in
    bad_letter kinds c.args.text.now c.loop-letter.letter-index c.loop-letter-test.true dash (search rules) (search rules) e
