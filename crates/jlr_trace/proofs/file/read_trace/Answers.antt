use Rattle.std.proofs.Common.{ap, subst, ◌∙◌, arith}
use Rattle.jlr_trace.specs.Files.{file_text, file_read, FileGives}
use Rattle.jlr_trace.proofs.FileLaws.{is_found, file_again}
use Rattle.jlr_trace.proofs.FaultLaws.{is_fault}
use Rattle.jlr_trace.proofs.Shapes.{read_back}
use Rattle.jlr_trace.proofs.file.read_trace.Goals as goal

pub returns-clause-found : goal.returns-clause-found
returns-clause-found c = is_found c.args.bytes.now c.all_of.result (λ i. omega (arith, c.type_inv.bytes i)) c.all_of.ensures.exact

pub returns-clause-only : goal.returns-clause-only
returns-clause-only c =
    λ t fits e. subst (λ r. FileGives file_text c.all_of.result r) (ap file_read e ∙ file_again t fits) c.all_of.ensures.exact

pub returns-clause-again : goal.returns-clause-again
returns-clause-again c = λ f has e. read_back c.all_of.result f has
    (subst (λ r. FileGives file_text c.all_of.result r) (ap file_read e ∙ file_again (file_text f) has.text) c.all_of.ensures.exact)
    c.all_of.ensures.shape

pub returns-clause-fault : goal.returns-clause-fault
returns-clause-fault c = is_fault file_text c.args.bytes.now c.all_of.result (λ i. omega (arith, c.type_inv.bytes i)) c.all_of.ensures.exact
