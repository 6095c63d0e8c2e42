use Rattle.std.proofs.Common.{◌-◌, List, ℕ, ◌++◌, length, replicate, ap, ◌∙◌}
use Rattle.std.proofs.lemmas.List.{drop-replicate}
use Rattle.jlr_embed.proofs.handle.tell.pad.Goals as goal

pub returns : goal.returns
returns c =
    ap (λ (l : List ℕ). c.copy_from_slice.new.self ++ l) (drop-replicate (length c.args.name.now) 33 0)
    ∙ ap (λ (l : List ℕ). l ++ replicate (33 - length c.args.name.now) 0) c.copy_from_slice.ensures.after
