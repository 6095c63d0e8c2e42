use Rattle.std.proofs.Common.{◌≡◌, ◌<◌, ◌*◌, ◌/◌, ◌%◌, ◌^◌, ◌∙◌, ℕ, Bool, List, length, get_or, ap, sym, subst, arith}
use Rattle.jlr_sets.specs.Bits.{bits_of}
use Rattle.jlr_sets.specs.SlotSets.{NoneBetween, NoneFrom, IsFirstFrom, beyond}
use Rattle.jlr_sets.proofs.Finding.{found, none_left, none_past, found_in_word, none_in_word, none_at_all, rest_fits}
use Rattle.jlr_sets.proofs.Beyond.{words_beyond, word_there, length-words_beyond, beyond_is}
use Rattle.jlr_sets.proofs.words.first_beyond_from.Goals as goal

-- what is shown of the words of what is beyond
there : (words others : List ℕ) → ((i : ℕ) → get_or others i 0 < 2 ^ 64) → (P : List Bool → Type 0)
    → P (bits_of (words_beyond words others)) → P (beyond (bits_of words) (bits_of others))
there words others fits P h = subst P (sym (beyond_is words others fits)) h

there_first : (words others : List ℕ) (from slot : ℕ) → ((i : ℕ) → get_or others i 0 < 2 ^ 64)
    → IsFirstFrom (bits_of (words_beyond words others)) from slot → IsFirstFrom (beyond (bits_of words) (bits_of others)) from slot
there_first words others from slot fits h = there words others fits (λ p. IsFirstFrom p from slot) h

there_between : (words others : List ℕ) (from to : ℕ) → ((i : ℕ) → get_or others i 0 < 2 ^ 64)
    → NoneBetween (bits_of (words_beyond words others)) from to → NoneBetween (beyond (bits_of words) (bits_of others)) from to
there_between words others from to fits h = there words others fits (λ p. NoneBetween p from to) h

pub returns-then-start-words : goal.returns-then-start-words
returns-then-start-words c =
    let words = c.args.words.now in
    let others = c.args.others.now in
    there words others (λ i. omega (arith, c.type_inv.others i)) (λ p. NoneFrom p c.args.from)
    (none_past (words_beyond words others) c.args.from (omega (arith, length-words_beyond words others)))

pub returns-then-rest-ne0 : goal.returns-then-rest-ne0
returns-then-rest-ne0 c =
    let words = c.args.words.now in
    let others = c.args.others.now in
    let from = c.args.from in
    let within : from / 64 < length words = omega arith in
    let word : get_or (words_beyond words others) (from / 64) 0 ≡ c.word_beyond.result = word_there words others (from / 64) within
    ∙ sym c.word_beyond.ensures in
    let fits : get_or (words_beyond words others) (from / 64) 0 < 2 ^ 64 = omega (arith, word) in
    there_first words others from _ (λ i. omega (arith, c.type_inv.others i))
    (found (words_beyond words others) from _ fits (ap (λ w. w / 2 ^ (from % 64)) (sym word)) (omega arith)
    (omega (arith, word, rest_fits c.word_beyond.result (from % 64) (omega arith))))

pub loop-at-init : goal.loop-at-init
loop-at-init c =
    let words = c.args.words.now in
    let others = c.args.others.now in
    let from = c.args.from in
    let within : from / 64 < length words = omega arith in
    let word : get_or (words_beyond words others) (from / 64) 0 ≡ c.word_beyond.result = word_there words others (from / 64) within
    ∙ sym c.word_beyond.ensures in
    let fits : get_or (words_beyond words others) (from / 64) 0 < 2 ^ 64 = omega (arith, word) in
    record {
      below = omega arith;
      none = there_between words others from _ (λ i. omega (arith, c.type_inv.others i))
          (none_left (words_beyond words others) from _ fits (ap (λ w. w / 2 ^ (from % 64)) (sym word)) (omega arith));
    }

pub returns-then-word-ne0 : goal.returns-then-word-ne0
returns-then-word-ne0 c =
    let words = c.args.words.now in
    let others = c.args.others.now in
    let at = c.loop-at.at in
    let within : at < length words = omega arith in
    let fits : (i : ℕ) → get_or others i 0 < 2 ^ 64 = λ i. omega (arith, c.type_inv.others i) in
    there_first words others c.args.from _ fits
    (found_in_word (words_beyond words others) c.args.from at _ c.loop-at.invariant.below
    (subst (λ p. NoneBetween p c.args.from (64 * at)) (beyond_is words others fits) c.loop-at.invariant.none)
    (c.word_beyond-word.ensures ∙ sym (word_there words others at within)) (omega arith) (omega arith))

pub loop-at-preserved : goal.loop-at-preserved
loop-at-preserved c =
    let words = c.args.words.now in
    let others = c.args.others.now in
    let at = c.loop-at.at in
    let within : at < length words = omega arith in
    let fits : (i : ℕ) → get_or others i 0 < 2 ^ 64 = λ i. omega (arith, c.type_inv.others i) in
    record {
      below = omega arith;
      none = there_between words others c.args.from _ fits
          (none_in_word (words_beyond words others) c.args.from at _
          (subst (λ p. NoneBetween p c.args.from (64 * at)) (beyond_is words others fits) c.loop-at.invariant.none)
          (c.word_beyond-word.ensures ∙ sym (word_there words others at within)) (omega arith));
    }

pub returns : goal.returns
returns c =
    let words = c.args.words.now in
    let others = c.args.others.now in
    let fits : (i : ℕ) → get_or others i 0 < 2 ^ 64 = λ i. omega (arith, c.type_inv.others i) in
    there words others fits (λ p. NoneFrom p c.args.from)
    (none_at_all (words_beyond words others) c.args.from c.loop-at.at (omega (arith, length-words_beyond words others))
    (subst (λ p. NoneBetween p c.args.from (64 * c.loop-at.at)) (beyond_is words others fits) c.loop-at.invariant.none))
