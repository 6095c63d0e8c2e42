-- Answers that are never long: of asks that make or give an object, that say whether something holds, and that end.
use Rattle.std.proofs.Common.{◌≡◌, ℕ, Bool, List, [], ◌∷◌, Option, Some, None, option_map, refl}
use Rattle.jlr_machine.specs.declared.object.Object.{Object}
use Rattle.jlr_machine.specs.declared.machine.Machine.{Machine}
use Rattle.jlr_machine.specs.declared.machine.Session.{Session}
use Rattle.jlr_machine.specs.declared.ask.Outcome.{Outcome}
use Rattle.jlr_machine.specs.declared.ask.Outcome.TheVariants.{Ok as OutcomeOk, Failed}
use Rattle.jlr_machine.specs.declared.ask.Answer.{Answer}
use Rattle.jlr_machine.specs.declared.ask.Answer.TheVariants.{Done, Handle, Truth, Handed}
use Rattle.jlr_machine.specs.Objects.{at}
use Rattle.jlr_machine.specs.Lookups.{free_handle}
use Rattle.jlr_machine.specs.Calls.{handed, handle_given, hand_over_answer, new_handle, outcome_answer}
use Rattle.jlr_plain_asks.specs.Replaying.{where_long}

handle_is_short : (o : Option Session) → where_long (option_map (λ s. Handle (free_handle s)) o) ≡ Done
handle_is_short None = refl
handle_is_short (Some s) = refl

pub new_is_short : (m : Machine) (k : ℕ) → where_long (new_handle m k) ≡ Done
new_is_short m k = handle_is_short (at m.mutators k)

pub given_is_short : (m : Machine) (k : ℕ) (o : Option ℕ) → where_long (handle_given m k o) ≡ Done
given_is_short m k None = refl
given_is_short m k (Some s) = new_is_short m k

pub truth_is_short : {A : Type 0} (f : A → Bool) (o : Option A) → where_long (option_map (λ x. Truth (f x)) o) ≡ Done
truth_is_short f None = refl
truth_is_short f (Some x) = refl

pub outcome_is_short : (outcome : Outcome) (o : Option Answer) → where_long o ≡ Done → where_long (outcome_answer outcome o) ≡ Done
outcome_is_short OutcomeOk o h = h
outcome_is_short (Failed fault) o h = refl

pub opened_is_short : (m : Machine) (k : ℕ) (outcome : Outcome) → where_long (outcome_answer outcome (new_handle m k)) ≡ Done
opened_is_short m k outcome = outcome_is_short outcome (new_handle m k) (new_is_short m k)

pub finished_is_short : (outcome : Outcome) → where_long (outcome_answer outcome (Some Done)) ≡ Done
finished_is_short outcome = outcome_is_short outcome (Some Done) refl

handed_is_short : (o : Option Object) → where_long (option_map (λ x. Handed (handed x)) o) ≡ Done
handed_is_short None = refl
handed_is_short (Some x) = refl

pub hand_over_is_short : (m : Machine) (slots : List ℕ) → where_long (hand_over_answer m slots) ≡ Done
hand_over_is_short m [] = refl
hand_over_is_short m (s ∷ slots) = handed_is_short (at m.objects s)
