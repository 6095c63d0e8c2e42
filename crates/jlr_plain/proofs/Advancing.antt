-- The parts of the test whether an entry is legal, put together.
use Rattle.std.proofs.Common.{◌≡◌, Bool, true, false, ◌&&◌, ◌||◌, is_none, refl, sym, ◌∙◌, ap}
use Rattle.std.proofs.lemmas.Bool.{both_ways}
use Rattle.jlr_machine.specs.declared.machine.Machine.{Machine}
use Rattle.jlr_machine.specs.declared.entry.Entry.{Entry}
use Rattle.jlr_machine.specs.Refusals.{refusal, cells_needed}
use Rattle.jlr_machine.specs.Run.{IsLegal, with_collection}
use Rattle.jlr_machine.specs.WellFormed.{IsWellFormed}
use Rattle.jlr_laws.specs.Deciding.{is_carried_out, is_rightly_refused, is_heap_full, is_out_of_memory, is_legal, may_have_collected}
use Rattle.jlr_laws.specs.Deciding.{are_fresh, is_answer}
use Rattle.jlr_laws.proofs.Legality.{legality_is_decided}
use Rattle.jlr_plain.specs.Deciding.{fits_after, declines, HasAllowedCollection}

or_grouped : (a b c d : Bool) → (a || (b || c || d)) ≡ (a || b || c || d)
or_grouped true b c d = refl
or_grouped false b c d = refl

and_grouped : (a b c d : Bool) → ((a && b) && (c && d)) ≡ (a && b && c && d)
and_grouped true true c d = refl
and_grouped true false c d = refl
and_grouped false b c d = refl

-- carried out or declined
pub legal_parts : (m : Machine) (e : Entry) → (is_carried_out m e || declines m e) ≡ is_legal m e
legal_parts m e = or_grouped (is_carried_out m e) (is_rightly_refused m e) (is_heap_full m e) (is_out_of_memory m e)

pub carried_parts : (m : Machine) (e : Entry) → ((is_none (refusal m e.ask) && may_have_collected m e.ask e.choice.collected)
    && fits_after e (with_collection m e.choice.collected)) ≡ is_carried_out m e
carried_parts m e =
    let n = with_collection m e.choice.collected in
    and_grouped (is_none (refusal m e.ask)) (may_have_collected m e.ask e.choice.collected)
    (are_fresh n.objects (cells_needed e.ask) e.choice.fresh) (is_answer n e.ask e.choice.collected e.answer)

or_last : (a b : Bool) → b ≡ true → (a || b) ≡ true
or_last true b e = refl
or_last false b e = e

pub declined_is_legal : (m : Machine) (e : Entry) → IsWellFormed m → declines m e ≡ true → IsLegal m e
declined_is_legal m e w d = (legality_is_decided m e w).0 (sym (legal_parts m e) ∙ or_last (is_carried_out m e) (declines m e) d)

-- what is neither
pub neither_is_legal : (m : Machine) (e : Entry) → IsWellFormed m → is_carried_out m e ≡ false → declines m e ≡ false → ¬ (IsLegal m e)
neither_is_legal m e w c d legal =
    both_ways false refl
    (sym (ap (λ a. a || declines m e) c ∙ d) ∙ legal_parts m e ∙ (legality_is_decided m e w).1 legal)

pub not_allowed : (m : Machine) (e : Entry) → IsWellFormed m → (is_none (refusal m e.ask) && may_have_collected m e.ask e.choice.collected)
    ≡ false
    → declines m e ≡ false → ¬ (IsLegal m e)
not_allowed m e w a d =
    neither_is_legal m e w (sym (carried_parts m e) ∙ ap (λ b. b && fits_after e (with_collection m e.choice.collected)) a) d

pub not_fitting : (m : Machine) (e : Entry) → IsWellFormed m → HasAllowedCollection m e
    → fits_after e (with_collection m e.choice.collected) ≡ false
    → ¬ (IsLegal m e)
not_fitting m e w a f = neither_is_legal m e w (sym (carried_parts m e)
    ∙ ap (λ b. b && fits_after e (with_collection m e.choice.collected)) a.allowed ∙ f) a.carried_out

pub fitting : (m : Machine) (e : Entry) → IsWellFormed m → HasAllowedCollection m e → fits_after e (with_collection m e.choice.collected)
    ≡ true
    → IsLegal m e
fitting m e w a f =
    let carried = sym (carried_parts m e) ∙ ap (λ b. b && fits_after e (with_collection m e.choice.collected)) a.allowed ∙ f in
    (legality_is_decided m e w).0 (sym (legal_parts m e) ∙ ap (λ b. b || declines m e) carried)
