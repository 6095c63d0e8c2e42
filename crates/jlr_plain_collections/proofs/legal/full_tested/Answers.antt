use Rattle.std.proofs.Common.{◌≡◌, ◌∙◌, ℕ, List, IfOk, subst}
use Rattle.jlr_machine.specs.Edges.{roots}
use Rattle.jlr_machine.specs.Edges.Chain.{UpToSoft}
use Rattle.jlr_laws.specs.Deciding.{cuts_off}
use Rattle.jlr_plain_collections.proofs.legal.full_tested.Goals as goal

pub returns : goal.returns
returns c =
    let base : c.as_slice.result.now ≡ roots c.args.machine.now = c.as_slice.ensures.value ∙ c.in_ok-base.ensures in
    let kept : c.as_slice-2.result.now ≡ c.args.c.now.kept = c.as_slice-2.ensures.value ∙ c.in_ok-kept.ensures in
    subst (λ (p : List ℕ). IfOk c.tested.result (λ b. b
    ≡ cuts_off UpToSoft c.args.machine.now.objects (roots c.args.machine.now) c.args.c.now.kept p)) c.as_slice-3.ensures
    (subst (λ (k : List ℕ). IfOk c.tested.result (λ b. b
    ≡ cuts_off UpToSoft c.args.machine.now.objects (roots c.args.machine.now) k c.as_slice-3.result.now)) kept
    (subst (λ (r : List ℕ). IfOk c.tested.result (λ b. b
    ≡ cuts_off UpToSoft c.args.machine.now.objects r c.as_slice-2.result.now c.as_slice-3.result.now)) base c.tested.ensures))
