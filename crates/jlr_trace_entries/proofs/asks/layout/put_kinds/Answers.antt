use Rattle.std.proofs.Common.{◌≡◌, ℕ, zero, suc, List, [], ◌∷◌, ◌++◌, take, add-one, refl, sym, ap, ◌∙◌, append_assoc}
use Rattle.std.specs.Prelude.{slice_get}
use Rattle.std.specs.List.{flat_map}
use Rattle.std.proofs.lemmas.List.{append-nil}
use Rattle.std.proofs.lemmas.List.Concat.{flat_map-cons}
use Rattle.jlr_types.specs.declared.FieldKind.{FieldKind}
use Rattle.jlr_trace_entries.specs.Asks.{spelled_kind, spelled_kind_at}
use Rattle.jlr_trace_entries.proofs.asks.layout.put_kinds.Goals as goal

more : (xs : List FieldKind) (i : ℕ) → flat_map spelled_kind (take (suc i) xs) ≡ flat_map spelled_kind (take i xs)
    ++ spelled_kind_at (slice_get xs i)
more [] zero = refl
more [] (suc i) = refl
more (x ∷ xs) zero = flat_map-cons spelled_kind x [] ∙ append-nil (spelled_kind x)
more (x ∷ xs) (suc i) =
    flat_map-cons spelled_kind x (take (suc i) xs) ∙ ap (λ (t : List ℕ). spelled_kind x ++ t) (more xs i)
    ∙ sym (append_assoc (spelled_kind x) (flat_map spelled_kind (take i xs)) (spelled_kind_at (slice_get xs i)))
    ∙ ap (λ (t : List ℕ). t ++ spelled_kind_at (slice_get xs i)) (sym (flat_map-cons spelled_kind x (take i xs)))

pub loop-field-preserved : goal.loop-field-preserved
loop-field-preserved c = rw add-one (c.in_ok-put_kind_at.ensures
    ∙ ap (λ (t : List ℕ). t ++ spelled_kind_at (slice_get c.args.layout.now c.loop-field.field)) c.loop-field.invariant
    ∙ append_assoc c.args.out.now.items (flat_map spelled_kind (take c.loop-field.field c.args.layout.now))
    (spelled_kind_at (slice_get c.args.layout.now c.loop-field.field))
    ∙ ap (λ (t : List ℕ). c.args.out.now.items ++ t) (sym (more c.args.layout.now c.loop-field.field)))
