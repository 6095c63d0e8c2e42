use Rattle.std.proofs.Common.{◌≡◌, ℕ, suc, ◌-◌, ◌+◌, ◌/◌, ◌≤◌, ◌<◌, List, [], ◌∷◌, ◌++◌, sym, ◌∙◌, append_assoc, arith, subst}
use Rattle.std.proofs.lemmas.List.{append-nil, length-append}
use Rattle.jlr_types.specs.declared.FieldKind.{FieldKind}
use Rattle.refheap_c.specs.Layouts.{kind_of_bit, layout_of}
use Rattle.refheap_c.proofs.layout.layout.Goals as goal

more : (front : List FieldKind) (kind : FieldKind) (count i bits : ℕ) (whole : List FieldKind)
    → kind ≡ kind_of_bit bits → i < count → front ++ layout_of (count - i) bits ≡ whole → (front ++ kind ∷ [])
    ++ layout_of (count - (i + 1)) (bits / 2) ≡ whole
more front kind count i bits whole e lt so_far =
    let k : count - i ≡ suc (count - (i + 1)) = omega arith in
    let one : front ++ layout_of (count - i) bits ≡ (front ++ kind_of_bit bits ∷ []) ++ layout_of (count - (i + 1)) (bits / 2) =
    rw k (simp append_assoc) in
    subst (λ (x : FieldKind). (front ++ x ∷ []) ++ layout_of (count - (i + 1)) (bits / 2) ≡ whole) (sym e) (sym one ∙ so_far)

all : (front : List FieldKind) (count i bits : ℕ) (whole : List FieldKind) → count ≤ i → front ++ layout_of (count - i) bits ≡ whole
    → front ≡ whole
all front count i bits whole le so_far =
    let k : count - i ≡ 0 = omega arith in
    let one : front ++ layout_of (count - i) bits ≡ front = rw k (append-nil front) in
    sym one ∙ so_far

pub push-requires : goal.push-requires
push-requires c = omega (arith, c.loop.invariant.full, c.loop-test.true, c.requires)

pub loop-preserved : goal.loop-preserved
loop-preserved c = record {
  made = rw c.push.ensures (more c.loop.layout c.kind_of.result c.args.fields c.loop.counter c.loop.bits _ c.kind_of.ensures
      c.loop-test.true c.loop.invariant.made);
  full = rw c.push.ensures (omega (arith, length-append c.loop.layout (c.kind_of.result ∷ []), c.loop.invariant.full));
}

pub returns : goal.returns
returns c = all c.loop.layout c.args.fields c.loop.counter c.loop.bits _ c.loop-test.false c.loop.invariant.made
