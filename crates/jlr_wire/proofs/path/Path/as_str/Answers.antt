use Rattle.jlr_wire.proofs.Texts.{path_is_utf8, ok_unless}
use Rattle.jlr_wire.proofs.path.Path.as_str.Goals as goal

pub unwrap-requires : goal.unwrap-requires
unwrap-requires c =
    let utf8 = path_is_utf8 _ c.self.invariant in
    ok_unless c.from_utf8.result _ _ c.from_utf8.ensures.cases (λ e h. h.0 utf8)
