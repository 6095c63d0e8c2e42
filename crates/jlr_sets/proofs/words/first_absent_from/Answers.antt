use Rattle.std.proofs.Common.{◌≡◌, ◌<◌, ◌*◌, ◌/◌, ◌%◌, ◌^◌, ◌∙◌, ℕ, Bool, List, length, get_or, ap, sym, subst, arith}
use Rattle.jlr_sets.specs.Bits.{bits_of}
use Rattle.jlr_sets.specs.SlotSets.{NoneBetween, NoneFrom, IsFirstFrom, absent}
use Rattle.jlr_sets.proofs.Finding.{found, none_left, none_past, found_in_word, none_in_word, none_at_all, rest_fits}
use Rattle.jlr_sets.proofs.Absent.{words_absent, absent_word, length-words_absent, absent_is}
use Rattle.jlr_sets.proofs.words.first_absent_from.Goals as goal

-- what is shown of the words of what is absent
there : (words : List ℕ) → ((i : ℕ) → get_or words i 0 < 2 ^ 64) → (P : List Bool → Type 0) → P (bits_of (words_absent words))
    → P (absent (bits_of words))
there words fits P h = subst P (sym (absent_is words fits)) h

there_first : (words : List ℕ) (from slot : ℕ) → ((i : ℕ) → get_or words i 0 < 2 ^ 64)
    → IsFirstFrom (bits_of (words_absent words)) from slot → IsFirstFrom (absent (bits_of words)) from slot
there_first words from slot fits h = there words fits (λ p. IsFirstFrom p from slot) h

there_between : (words : List ℕ) (from to : ℕ) → ((i : ℕ) → get_or words i 0 < 2 ^ 64) → NoneBetween (bits_of (words_absent words)) from to
    → NoneBetween (absent (bits_of words)) from to
there_between words from to fits h = there words fits (λ p. NoneBetween p from to) h

pub returns-then-start-words : goal.returns-then-start-words
returns-then-start-words c =
    let words = c.args.words.now in
    there words (λ i. omega (arith, c.type_inv.words i)) (λ p. NoneFrom p c.args.from)
    (none_past (words_absent words) c.args.from (omega (arith, length-words_absent words)))

pub returns-then-rest-ne0 : goal.returns-then-rest-ne0
returns-then-rest-ne0 c =
    let words = c.args.words.now in
    let from = c.args.from in
    let within : from / 64 < length words = omega arith in
    let word : get_or (words_absent words) (from / 64) 0 ≡ c.word_absent.result = absent_word words (from / 64) within
    ∙ sym c.word_absent.ensures in
    let fits : get_or (words_absent words) (from / 64) 0 < 2 ^ 64 = omega (arith, word) in
    there_first words from _ (λ i. omega (arith, c.type_inv.words i))
    (found (words_absent words) from _ fits (ap (λ w. w / 2 ^ (from % 64)) (sym word)) (omega arith)
    (omega (arith, word, rest_fits c.word_absent.result (from % 64) (omega arith))))

pub loop-at-init : goal.loop-at-init
loop-at-init c =
    let words = c.args.words.now in
    let from = c.args.from in
    let within : from / 64 < length words = omega arith in
    let word : get_or (words_absent words) (from / 64) 0 ≡ c.word_absent.result = absent_word words (from / 64) within
    ∙ sym c.word_absent.ensures in
    let fits : get_or (words_absent words) (from / 64) 0 < 2 ^ 64 = omega (arith, word) in
    record {
      below = omega arith;
      none = there_between words from _ (λ i. omega (arith, c.type_inv.words i))
          (none_left (words_absent words) from _ fits (ap (λ w. w / 2 ^ (from % 64)) (sym word)) (omega arith));
    }

pub returns-then-word-ne0 : goal.returns-then-word-ne0
returns-then-word-ne0 c =
    let words = c.args.words.now in
    let at = c.loop-at.at in
    let within : at < length words = omega arith in
    let fits : (i : ℕ) → get_or words i 0 < 2 ^ 64 = λ i. omega (arith, c.type_inv.words i) in
    there_first words c.args.from _ fits
    (found_in_word (words_absent words) c.args.from at _ c.loop-at.invariant.below
    (subst (λ p. NoneBetween p c.args.from (64 * at)) (absent_is words fits) c.loop-at.invariant.none)
    (c.word_absent-word.ensures ∙ sym (absent_word words at within)) (omega arith) (omega arith))

pub loop-at-preserved : goal.loop-at-preserved
loop-at-preserved c =
    let words = c.args.words.now in
    let at = c.loop-at.at in
    let within : at < length words = omega arith in
    let fits : (i : ℕ) → get_or words i 0 < 2 ^ 64 = λ i. omega (arith, c.type_inv.words i) in
    record {
      below = omega arith;
      none = there_between words c.args.from _ fits
          (none_in_word (words_absent words) c.args.from at _
          (subst (λ p. NoneBetween p c.args.from (64 * at)) (absent_is words fits) c.loop-at.invariant.none)
          (c.word_absent-word.ensures ∙ sym (absent_word words at within)) (omega arith));
    }

pub returns : goal.returns
returns c =
    let words = c.args.words.now in
    let fits : (i : ℕ) → get_or words i 0 < 2 ^ 64 = λ i. omega (arith, c.type_inv.words i) in
    there words fits (λ p. NoneFrom p c.args.from)
    (none_at_all (words_absent words) c.args.from c.loop-at.at (omega (arith, length-words_absent words))
    (subst (λ p. NoneBetween p c.args.from (64 * c.loop-at.at)) (absent_is words fits) c.loop-at.invariant.none))
