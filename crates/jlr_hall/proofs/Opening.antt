-- Opening and closing.
use Rattle.std.proofs.Common.{◌≡◌, ◌<◌, ◌+◌, ◌∷◌, [], ◌++◌, ℕ, List, length, refl, sym, ap, ◌∙◌, arith}
use Rattle.std.specs.Prelude.{slice_index_or}
use Rattle.std.proofs.lemmas.List.{get_or_append_left}
use Rattle.std.proofs.Math.Seq.{get_or-append_seam}
use borrow.Author.Count.{below_more}
use Rattle.jlr_types.specs.declared.limits.Limits.{Limits}
use Rattle.jlr_laws.proofs.Empty.{empty_is_well_formed}
use Rattle.jlr_state.proofs.Ranges.{limits_hold}
use Rattle.jlr_core.proofs.RunLaws.{start_run}
use Rattle.jlr_book.specs.Histories.{History, IsNewBook}
use Rattle.jlr_log.specs.Rule.{Knows}
use Rattle.jlr_log.specs.Seeing.{Seen, seen}
use Rattle.jlr_hall.specs.declared.step.Step.{Step}
use Rattle.jlr_hall.specs.OneHistory.{IsWhole, seat_of, trace}
use Rattle.jlr_hall.specs.Closing.{EachKnows}

module _ {R : Type 0} where
  pub new_whole : (limits : Limits) (h : History R) → IsNewBook limits h → IsWhole limits h []
  new_whole limits h new =
      let fit = limits_hold limits in
      let formed = empty_is_well_formed limits.cells limits.sessions limits.resources fit.0 fit.2 in
      record {
        formed = formed;
        run = start_run h.core limits [] formed new.core refl;
        traced = λ i. trace (sym new.base i) (sym new.image i) (sym new.entries i);
        limits_are = new.limits_are;
        seats = tt;
      }

  pub each_more : (log : List (Step R)) (seats : List (Seen (Step R))) (p : Seen (Step R)) → EachKnows log seats
      → Knows seat_of p.seat p.known log → EachKnows log (seats ++ p ∷ [])
  each_more log [] p each knows = (knows, tt)
  each_more log (q ∷ seats) p each knows = (each.0, each_more log seats p each.1 knows)

  pub more_seats : (items new : List (Seen (Step R))) (n : ℕ) (x : Seen (Step R)) → new ≡ items ++ x ∷ [] → length items ≡ n → x ≡ seen n []
      → ((k : ℕ) (p : Seen (Step R)) → k < n → slice_index_or items k p ≡ seen k []) → (k : ℕ) (p : Seen (Step R)) → k < n + 1
      → slice_index_or new k p ≡ seen k []
  more_seats items new n x is len made each k p lt =
      below_more (λ j. (q : Seen (Step R)) → slice_index_or new j q ≡ seen j []) n
      (λ j less q. ap (λ l. slice_index_or l j q) is ∙ get_or_append_left items (x ∷ []) q j (omega (arith, less, len)) ∙ each j q less)
      (λ q. ap (λ l. slice_index_or l n q) is ∙ ap (λ m. slice_index_or (items ++ x ∷ []) m q) (sym len) ∙ get_or-append_seam items x [] q
      ∙ made)
      k lt p
