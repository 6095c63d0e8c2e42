use Rattle.std.specs.Int.{w64}
use Rattle.std.specs.Fmt.{signed_decimal}
use Rattle.std.proofs.Common.{◌≡◌, to_z, of_z, arith, sym, ◌∙◌, ap, Ok}
use Rattle.std.proofs.lemmas.Str.{IsUtf8-from_ascii}
use Rattle.std.proofs.lemmas.Fmt.{IsAscii-signed, parse-signed_decimal}
use Rattle.std.proofs.lemmas.Slice.Eq.{bytes_eq-Decides}
use Rattle.std.proofs.lemmas.Bool.{false≢true}
use Rattle.std.proofs.lemmas.Int.{to_z-of_z}
use Rattle.jlr_wire.proofs.integer.parse_integer.Goals as goal

pub returns-in_default-clause-none : goal.returns-in_default-clause-none
returns-in_default-clause-none c = λ n fits e.
    c.in_default.ensures.cases.0 (rw e (IsUtf8-from_ascii _ (IsAscii-signed n fits.sfits)))

pub returns-in_default-parse-clause-none : goal.returns-in_default-parse-clause-none
returns-in_default-parse-clause-none c = λ n fits e.
    c.in_default-parse.not-Ok n (parse-signed_decimal w64 n _ _ fits fits.sfits (c.in-Ok.ensures.cases.0 ∙ e) c.parse.ensures.value.0)

pub returns-else-eq-clause-none : goal.returns-else-eq-clause-none
returns-else-eq-clause-none c = λ n fits e.
    let read : c.parse.result ≡ Ok n =
    parse-signed_decimal w64 n _ _ fits fits.sfits (c.in-Ok.ensures.cases.0 ∙ e) c.parse.ensures.value.0 in
    let same : c.in-Ok-parse.n ≡ n = grind (arith, read, c.in-Ok-parse.is) in
    let passed : to_z w64 (of_z w64 c.in-Ok-parse.n) ≡ n = ap (λ z. to_z w64 (of_z w64 z)) same ∙ to_z-of_z w64 n fits in
    let text : c.as_bytes.result.now ≡ c.args.text.now = c.as_bytes.ensures.value ∙ c.format.ensures.text ∙ ap signed_decimal passed
    ∙ sym e in
    false≢true (sym c.if-eq.false ∙ c.eq.ensures ∙ (bytes_eq-Decides _ _).1 text)
