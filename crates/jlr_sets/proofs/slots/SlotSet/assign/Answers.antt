use Rattle.std.proofs.Math.Seq.{take-append_seam}
use Rattle.std.proofs.Common.{◌≡◌, ◌<◌, ◌*◌, ◌∙◌, ◌++◌, ℕ, true, List, drop, take, length, get_or, replicate, ap, sym, inl, inr, arith}
use Rattle.std.proofs.lemmas.Bool.{cases_lt}
use Rattle.std.proofs.lemmas.List.{length-replicate, get_or-replicate, get_or_past}
use Rattle.jlr_sets.specs.Bits.{bits_of}
use Rattle.jlr_sets.specs.SlotSets.{is_in, slots_of}
use Rattle.jlr_sets.proofs.Assigning.{assigned, each}
use Rattle.jlr_sets.proofs.Bits.{length-bits_of}
use Rattle.jlr_sets.proofs.slots.SlotSet.assign.Goals as goal

abbrev zeros : ℕ → List ℕ
zeros n = replicate n 0

zeros_only : (n k : ℕ) → get_or (zeros n) k 0 ≡ 0
zeros_only n k = elim (cases_lt k n) [
  | inl h ↦ get_or-replicate n k 0 0 h
  | inr past ↦ get_or_past (replicate n 0) k 0 (omega (arith, length-replicate {A = ℕ} n 0))
]

-- what a vector holds that was written as a slice
written : (n : ℕ) (new old : List ℕ) → length new ≡ n → take n (new ++ drop (length new) old) ≡ new
written n new old e = ap (λ k. take k (new ++ drop (length new) old)) (sym e) ∙ take-append_seam new (drop (length new) old)

pub returns-clause-each : goal.returns-clause-each
returns-clause-each c =
    let filled = c.deref_mut.result.now in
    let cleared : filled ≡ replicate c.self.inside.words.len 0 = c.deref_mut.ensures.value ∙ c.fill.ensures.items (λ y e. e) in
    let first = c.deref.result.now in
    let there : bits_of first ≡ c.args.other.now = ap bits_of c.deref.ensures.value ∙ c.other.view_is in
    let places : 64 * length filled ≡ length c.args.self.now =
    omega (
      arith,
      ap length cleared,
      length-replicate {A = ℕ} c.self.inside.words.len 0,
      length-bits_of c.self.inside.words.items,
      ap length c.self.view_is,
      c.self.inside.words.ok.0,
    ) in
    let none : (k : ℕ) → get_or filled k 0 ≡ 0 = λ k. ap (λ l. get_or l k 0) cleared ∙ zeros_only c.self.inside.words.len k in
    let room : (slot : ℕ) → is_in (bits_of first) slot ≡ true → slot < 64 * length filled =
    λ slot h. omega (arith, c.requires slot (sym (ap (λ p. is_in p slot) there) ∙ h), places) in
    λ k.
    ap (λ l. is_in (bits_of l) k) (written c.fill.new.self.len c.overwrite.new.words c.fill.new.self.items
    (omega (arith, c.overwrite.ensures.long, ap length c.deref_mut.ensures.value, c.fill.new.self.ok.0)))
    ∙ each filled first c.overwrite.new.words c.overwrite.ensures.first c.overwrite.ensures.rest c.overwrite.ensures.long none room k
    ∙ ap (λ p. is_in p k) there

pub returns-clause-slots : goal.returns-clause-slots
returns-clause-slots c =
    let filled = c.deref_mut.result.now in
    let cleared : filled ≡ replicate c.self.inside.words.len 0 = c.deref_mut.ensures.value ∙ c.fill.ensures.items (λ y e. e) in
    let first = c.deref.result.now in
    let there : bits_of first ≡ c.args.other.now = ap bits_of c.deref.ensures.value ∙ c.other.view_is in
    let places : 64 * length filled ≡ length c.args.self.now =
    omega (
      arith,
      ap length cleared,
      length-replicate {A = ℕ} c.self.inside.words.len 0,
      length-bits_of c.self.inside.words.items,
      ap length c.self.view_is,
      c.self.inside.words.ok.0,
    ) in
    let none : (k : ℕ) → get_or filled k 0 ≡ 0 = λ k. ap (λ l. get_or l k 0) cleared ∙ zeros_only c.self.inside.words.len k in
    let room : (slot : ℕ) → is_in (bits_of first) slot ≡ true → slot < 64 * length filled =
    λ slot h. omega (arith, c.requires slot (sym (ap (λ p. is_in p slot) there) ∙ h), places) in
    ap (λ l. slots_of (bits_of l)) (written c.fill.new.self.len c.overwrite.new.words c.fill.new.self.items
    (omega (arith, c.overwrite.ensures.long, ap length c.deref_mut.ensures.value, c.fill.new.self.ok.0)))
    ∙ assigned filled first c.overwrite.new.words c.overwrite.ensures.first c.overwrite.ensures.rest c.overwrite.ensures.long none room
    ∙ ap slots_of there

pub returns-clause-places : goal.returns-clause-places
returns-clause-places c =
    let new = c.overwrite.new.words in
    let long : length new ≡ c.fill.new.self.len =
    omega (arith, c.overwrite.ensures.long, ap length c.deref_mut.ensures.value, c.fill.new.self.ok.0) in
    let same : length (bits_of new) ≡ length c.args.self.now =
    omega (
      arith,
      length-bits_of new,
      long,
      c.fill.ensures.len,
      length-bits_of c.self.inside.words.items,
      ap length c.self.view_is,
      c.self.inside.words.ok.0,
    ) in
    ap (λ l. length (bits_of l)) (written c.fill.new.self.len new c.fill.new.self.items long) ∙ same
