-- An entry more, an end that is refused, and an open cycle that is given up.
use Rattle.std.proofs.Common.{◌≡◌, ◌⊎◌, inl, inr, ℕ, ◌+◌, ◌≤◌, Bool, true, false, not, IsTrue, List, [], ◌∷◌, ◌++◌, length, map}
use Rattle.std.proofs.Common.{Option, Some}
use Rattle.std.proofs.Common.{None, refl, sym, ◌∙◌, ap, subst, arith, option_to_list, append-nil}
use Rattle.std.proofs.lemmas.Bool.{both_ways}
use Rattle.jlr_types.specs.declared.Progress.{Progress}
use Rattle.jlr_types.specs.declared.Refusal.{Refusal}
use Rattle.jlr_types.specs.declared.Refusal.TheVariants.{NoMemory}
use Rattle.jlr_machine.specs.declared.machine.Machine.{Machine}
use Rattle.jlr_machine.specs.declared.ask.Ask.{Ask}
use Rattle.jlr_machine.specs.declared.ask.Ask.TheVariants as ask
use Rattle.jlr_machine.specs.declared.ask.Answer.{Answer}
use Rattle.jlr_machine.specs.declared.ask.Answer.TheVariants.{Refused, Truth}
use Rattle.jlr_machine.specs.Chosen.{Chosen}
use Rattle.jlr_machine.specs.declared.entry.Collected.{Collected}
use Rattle.jlr_machine.specs.declared.entry.Entry.{Entry}
use Rattle.jlr_machine.specs.Refusals.{is_end, cells_needed}
use Rattle.jlr_machine.specs.Run.{Run, IsLegal, MayCollect, Answers, has_room, no_choice, with_collection, now_seen, apply}
use Rattle.jlr_machine.specs.Run.IsLegal.{carried_out, refused, heap_full, out_of_memory}
use Rattle.jlr_machine.specs.WellFormed.{IsWellFormed}
use Rattle.jlr_laws.specs.Laws.{IsUpToDate}
use Rattle.jlr_laws.proofs.Frames.{no_some, some_same}
use Rattle.jlr_laws.proofs.LegalKept.{no_need}
use Rattle.jlr_laws.proofs.Law.{legal_kept}
use Rattle.jlr_laws.proofs.Seats.{legality_looks_at_no_seat}
use Rattle.jlr_laws.proofs.UpToDate.{seen_stays_up_to_date}
use Rattle.jlr_histories.specs.Collecting.{may_collect}
use Rattle.jlr_histories.specs.Owing.{owed}
use Rattle.jlr_histories.proofs.Collecting.{no_collection_unless_it_may}
use Rattle.jlr_histories.proofs.Owing.{end_collects, end_lowers}
use Rattle.jlr_event.specs.declared.event.Event.{Event}
use Rattle.jlr_event.specs.declared.event.Event.TheVariants as event
use Rattle.jlr_event.specs.declared.event.Reply.{Reply}
use Rattle.jlr_event.specs.declared.event.Reply.TheVariants.{Answered, Marked}
use Rattle.jlr_event.specs.Events.{ask_of, answer_in}
use Rattle.jlr_plain.specs.declared.record.Record.{Record}
use Rattle.jlr_plain.specs.Records.{record_of, replayed}
use Rattle.jlr_plain.proofs.Records.{one_more}
use Rattle.jlr_steps.specs.Cores.{Kept, StandsIn}
use Rattle.jlr_steps.specs.Events.{EntersLegally, carries_none, GoesOut, entry_of}
use Rattle.jlr_steps.specs.Steps.{IsStep, Steps}
use Rattle.jlr_book.specs.Histories.{LeadsToCore, seated}
use Rattle.jlr_book.specs.Kinds.{fits_fast_path}
use Rattle.jlr_book.specs.Making.{SuitsChoice}
use Rattle.jlr_book.specs.Writing.{AddsEnd, AddsNone, AddsRecord, Stands}
use Rattle.jlr_machine.specs.Refusals.{is_refusal}
use Rattle.jlr_book.specs.declared.room.ChoiceRoom.{ChoiceRoom}
use Rattle.jlr_book.specs.declared.room.ChoiceRoom.TheVariants.{Collecting, Plain}

-- ---- Entries

abbrev pub entry_by : ℕ → Ask → Answer → Chosen → Entry
entry_by seat ask answer chosen = record { seat = seat; ask = ask; answer = answer; choice = chosen }

run_snoc : (m n : Machine) (entries : List Entry) (e : Entry) → Run m entries n → IsLegal n e → Run m (entries ++ e ∷ []) (apply n e)
run_snoc m n [] e r l = subst (λ k. IsLegal k e × (apply n e ≡ apply k e)) r (l, refl)
run_snoc m n (x ∷ entries) e r l = (r.0, run_snoc (apply m x) n entries e r.1 l)

entered : (image m n : Machine) (entries : List Entry) (seat : ℕ) (ask : Option Ask) (answer : Option Answer) (chosen : Chosen)
    → Run image entries m → IsWellFormed m → IsUpToDate m → EntersLegally m ask answer chosen n
    → Run image (entries ++ option_to_list (seated seat ask answer chosen)) n × IsWellFormed n × IsUpToDate n
entered image m n entries seat (Some ask) (Some answer) chosen r w u e =
    let entry = entry_by seat ask answer chosen in
    let legal : IsLegal m entry = legality_looks_at_no_seat m (entry_of ask answer chosen) seat e.0 in
    let applied : n ≡ apply m entry = e.1 in (
      subst (Run image (entries ++ entry ∷ [])) (sym applied) (run_snoc image m entries entry r legal),
      subst IsWellFormed (sym applied) (legal_kept m entry w legal),
      subst IsUpToDate (sym applied) (seen_stays_up_to_date.1 m entry),
    )
entered image m n entries seat (Some ask) None chosen r w u e = absurd e
entered image m n entries seat None (Some answer) chosen r w u e = absurd e
entered image m n entries seat None None chosen r w u e =
    let same : n ≡ m = e.1 in (
      subst (Run image (entries ++ [])) (sym same) (subst (λ l. Run image l m) (sym (append-nil entries)) r),
      subst IsWellFormed (sym same) w,
      subst IsUpToDate (sym same) u,
    )

pub ends_more : {R : Type 0} (image : Machine) (entries : List Entry) (h k : Kept R) (seat : ℕ) (e : Event R) (reply : Reply R)
    (chosen : Chosen) (s : IsStep h e reply chosen k)
    → LeadsToCore image entries h → LeadsToCore image (entries ++ option_to_list (seated seat (ask_of e) (answer_in reply) chosen)) k
ends_more image entries h k seat e reply chosen s ends =
    let x = s.entry ends.0 ends.2 in
    let y = entered image ends.0 x.0 entries seat (ask_of e) (answer_in reply) chosen ends.1 ends.3 ends.4 x.1 in
    (x.0, y.0, x.2, y.1, y.2)

-- ---- Steps whose ask is known

-- a step that is answered is a legal entry of the machine for which the core stands, and leads on
module _ {R : Type 0} (h k : Kept R) (e : Event R) (answer : Answer) (resource : Option R) (chosen : Chosen) (asked : Ask) where
  pub as_entered : (s : IsStep h e (Answered answer resource) chosen k) → ask_of e ≡ Some asked → (st : Stands h) → (n : Machine)
      × EntersLegally st.0 (Some asked) (Some answer) chosen n × StandsIn k n
  as_entered s is st =
      let x = s.entry st.0 st.1 in
      (x.0, subst (λ o. EntersLegally st.0 o (Some answer) chosen x.0) is x.1, x.2)

-- an ask is answered
pub not_marked : {R : Type 0} (h k : Kept R) (e : Event R) (progress : Progress) (chosen : Chosen) (asked : Ask)
    → IsStep h e (Marked progress) chosen k → ask_of e ≡ Some asked → Stands h → ⊥
not_marked h k e progress chosen asked s is st =
    let x = s.entry st.0 st.1 in
    absurd (subst (λ o. EntersLegally st.0 o None chosen x.0) is x.1)

-- ---- Choices

-- the machine for which a core stands may collect as the one that it keeps
module _ (m : Machine) (ask : Option Ask) (answer : Option Answer) (chosen : Chosen) (n : Machine) where
  pub none_collected : EntersLegally m ask answer chosen n → may_collect m ask ≡ false → chosen.collected ≡ None
  none_collected = elim ask as (λ o. EntersLegally m o answer chosen n → may_collect m o ≡ false → chosen.collected ≡ None) [
    | None ↦ elim answer as (λ a. EntersLegally m None a chosen n → may_collect m None ≡ false → chosen.collected ≡ None) [
      | None ↦ λ x may. ap {A = Chosen} {B = Option Collected} (λ c. c.collected) x.0
      | Some a ↦ λ x may. absurd x
    ]
    | Some asked ↦ elim answer as (λ a. EntersLegally m (Some asked) a chosen n → may_collect m (Some asked) ≡ false → chosen.collected
        ≡ None) [
          | None ↦ λ x may. absurd x
          | Some a ↦ λ x may. no_collection_unless_it_may m (entry_of asked a chosen) x.0 may
        ]
  ]

abbrev choice_of : Option Collected → List ℕ → Chosen
choice_of collected fresh = record { collected = collected; fresh = fresh }

module _ {R : Type 0} (h k : Kept R) (e : Event R) (reply : Reply R) (chosen : Chosen) (s : IsStep h e reply chosen k) (st : Stands h) where
  collected_none : may_collect h.machine (ask_of e) ≡ false → chosen.collected ≡ None
  collected_none may =
      let x = s.entry st.0 st.1 in
      let same : may_collect h.machine (ask_of e) ≡ may_collect st.0 (ask_of e) =
      ap {A = Machine} {B = Bool} (λ m. may_collect m (ask_of e)) st.1.same in
      none_collected st.0 (ask_of e) (answer_in reply) chosen x.0 x.1 (sym same ∙ may)

  -- where it may not collect, the slots of new objects are all that is chosen
  pub chosen_plainly : (fresh : List ℕ) → may_collect h.machine (ask_of e) ≡ false → fresh ≡ chosen.fresh
      → IsStep h e reply (choice_of None fresh) k
  chosen_plainly fresh may same =
      subst (λ c. IsStep h e reply c k) (ap {A = Option Collected} {B = Chosen} (λ o. choice_of o chosen.fresh) (collected_none may)
      ∙ ap {A = List ℕ} {B = Chosen} (λ l. choice_of None l) (sym same)) s

-- ---- LeadsToCore

-- an end takes no cell
no_cells : (m : Machine) (ask : Ask) → is_end ask ≡ true → IsTrue (not (has_room m (cells_needed ask))) → ⊥
no_cells m (ask.Leave k) is h = no_need m h
no_cells m (ask.Opened k outcome) is h = no_need m h
no_cells m (ask.CheckIn k outcome) is h = no_need m h
no_cells m (ask.Finish by action outcome) is h = no_need m h
no_cells m a is h = absurd (both_ways false refl is)

nothing_in : (slots : List ℕ) → length slots ≡ 0 → slots ≡ []
nothing_in [] e = refl
nothing_in (s ∷ slots) e = absurd (omega (arith, e))

none_fresh : (ask : Ask) (slots : List ℕ) → is_end ask ≡ true → length slots ≡ cells_needed ask → slots ≡ []
none_fresh (ask.Leave k) slots is e = nothing_in slots e
none_fresh (ask.Opened k outcome) slots is e = nothing_in slots e
none_fresh (ask.CheckIn k outcome) slots is e = nothing_in slots e
none_fresh (ask.Finish by action outcome) slots is e = nothing_in slots e
none_fresh a slots is e = absurd (both_ways false refl is)

is_nothing : (chosen : Chosen) → chosen.collected ≡ None → chosen.fresh ≡ [] → chosen ≡ no_choice
is_nothing chosen e f = ap {A = Option Collected} {B = Chosen} (λ o. choice_of o chosen.fresh) e
    ∙ ap {A = List ℕ} {B = Chosen} (λ l. choice_of None l) f

-- no collection comes with what takes no cell and asks for none
alone : (m : Machine) (ask : Ask) (collected : Option Collected) → ((c : Collected) → MayCollect m ask (Some c) → ⊥)
    → MayCollect m ask collected → collected ≡ None
alone m ask None never g = refl
alone m ask (Some c) never g = absurd (never c g)

-- an end chooses nothing
pub end_chooses : (m : Machine) (ask : Ask) (answer : Answer) (chosen : Chosen) → is_end ask ≡ true → IsLegal m (entry_of ask answer chosen)
    → chosen ≡ no_choice
end_chooses m ask answer chosen is (carried_out c) =
    is_nothing chosen (alone m ask chosen.collected (λ x g. end_collects m ask x is g) c.collection)
    (none_fresh ask chosen.fresh is c.fresh.count)
end_chooses m ask answer chosen is (refused r) = r.nothing
end_chooses m ask answer chosen is (heap_full r) = absurd (no_cells m ask is r.no_room)
end_chooses m ask answer chosen is (out_of_memory r) = r.nothing

-- an end that the core refuses leaves the machine
pub refused_stays : {R : Type 0} (image : Machine) (entries : List Entry) (h k : Kept R) (e : Event R) (reply : Reply R) (chosen : Chosen)
    (asked : Ask) (by : Refusal) → IsStep h e reply chosen k
    → ask_of e ≡ Some asked → is_end asked ≡ true → answer_in reply ≡ Some (Refused by) → LeadsToCore image entries h
    → LeadsToCore image entries k
refused_stays image entries h k e reply chosen asked by s is end was ends =
    let m = ends.0 in
    let x = s.entry m ends.2 in
    let first : EntersLegally m (Some asked) (answer_in reply) chosen x.0 = subst (λ o. EntersLegally m o (answer_in reply) chosen x.0) is
    x.1 in
    let enters : EntersLegally m (Some asked) (Some (Refused by)) chosen x.0 = subst (λ o. EntersLegally m (Some asked) o chosen x.0) was
    first in
    let none = end_chooses m asked (Refused by) chosen end enters.0 in
    let same : apply m (entry_of asked (Refused by) chosen) ≡ m =
    ap {A = Chosen} {B = Machine} (λ c. apply m (entry_of asked (Refused by) c)) none
    ∙ ap {A = List ℕ} {B = Machine} (λ l. record m { seen = l }) (sym ends.4) in
    (m, ends.1, subst (StandsIn k) (enters.1 ∙ same) x.2, ends.3, ends.4)

-- ---- Answers

-- an ask is answered
pub answered : {R : Type 0} (h k : Kept R) (e : Event R) (reply : Reply R) (chosen : Chosen) (asked : Ask)
    → IsStep h e reply chosen k → ask_of e ≡ Some asked → Stands h → (answer : Answer) × (answer_in reply ≡ Some answer)
answered h k e (Answered answer resource) chosen asked s is st = (answer, refl)
answered h k e (Marked progress) chosen asked s is st = absurd (not_marked h k e progress chosen asked s is st)

-- an ask whose entry takes its place alone is no end
pub brief_is_no_end : (asked : Ask) → fits_fast_path asked ≡ true → is_end asked ≡ false
brief_is_no_end (ask.Leave k) is = absurd (both_ways false refl is)
brief_is_no_end (ask.Opened k outcome) is = absurd (both_ways false refl is)
brief_is_no_end (ask.CheckIn k outcome) is = absurd (both_ways false refl is)
brief_is_no_end (ask.Finish by action outcome) is = absurd (both_ways false refl is)
brief_is_no_end a is = refl

-- no file or socket goes in or out with it
pub brief_carries_none : (asked : Ask) → fits_fast_path asked ≡ true → carries_none asked ≡ true
brief_carries_none (ask.Clean k c) is = absurd (both_ways false refl is)
brief_carries_none (ask.Opened k outcome) is = absurd (both_ways false refl is)
brief_carries_none (ask.CheckOut k h) is = absurd (both_ways false refl is)
brief_carries_none (ask.CheckIn k outcome) is = absurd (both_ways false refl is)
brief_carries_none (ask.Close k h) is = absurd (both_ways false refl is)
brief_carries_none ask.TakeUp is = absurd (both_ways false refl is)
brief_carries_none a is = refl

-- ---- A cycle that is given up

pub abandon_answers : (m : Machine) (answer : Answer) (chosen : Chosen) → (answer ≡ Refused NoMemory → ⊥)
    → IsLegal m (entry_of ask.Abandon answer chosen) → (answer ≡ Truth m.cycle_open) × (chosen ≡ no_choice)
abandon_answers m answer chosen memory (carried_out c) =
    let none = alone m ask.Abandon chosen.collected (λ x g. no_need m g.0) c.collection in
    let says : Answers (with_collection m None) ask.Abandon None answer =
    subst (λ o. Answers (with_collection m o) ask.Abandon o answer) none c.answers in
    (sym (some_same (Truth m.cycle_open) answer says), is_nothing chosen none (nothing_in chosen.fresh c.fresh.count))
abandon_answers m answer chosen memory (refused r) = no_some r.by r.first
abandon_answers m answer chosen memory (heap_full r) = absurd (no_need m r.no_room)
abandon_answers m answer chosen memory (out_of_memory r) = absurd (memory r.answers)

abbrev pub closed : Machine → Machine
closed m = record m { cycle_open = false }

-- what may not collect may not with the cycle closed
pub closed_collects : (m : Machine) (ask : Option Ask) → may_collect m ask ≡ false → may_collect (closed m) ask ≡ false
closed_collects m None e = e
closed_collects m (Some (ask.Full k mode)) e = e
closed_collects m (Some ask.Collect) e = refl
closed_collects m (Some a) e = e

pub abandons : {R : Type 0} (h k : Kept R) (reply : Reply R) (chosen : Chosen) → IsStep h (event.Ask ask.Abandon) reply chosen k → Stands h
    → h.machine.cycle_open ≡ true
    → (reply ≡ Answered (Truth true) None) × (k.machine ≡ closed h.machine) × Stands k
abandons h k (Marked progress) chosen s st was = (let x = s.entry st.0 st.1 in absurd x.1)
abandons {R} h k (Answered answer resource) chosen s st was =
    let m = st.0 in
    let x = s.entry m st.1 in
    let a = abandon_answers m answer chosen (λ e. s.memory (ap {A = Answer} {B = Option Answer} (λ a. Some a) e)) x.1.0 in
    let was_open : m.cycle_open ≡ true = sym (ap {A = Machine} {B = Bool} (λ n. n.cycle_open) st.1.same) ∙ was in
    let yes_said : answer ≡ Truth true = a.0 ∙ ap {A = Bool} {B = Answer} (λ b. Truth b) was_open in
    let goes : resource ≡ None = subst (λ q. GoesOut h.table None (Some q) resource) yes_said s.goes_out in
    let left : x.0 ≡ record m { cycle_open = false; seen = [] } =
    x.1.1 ∙ ap {A = Answer} {B = Machine} (λ q. apply m (entry_of ask.Abandon q chosen)) yes_said
    ∙ ap {A = Chosen} {B = Machine} (λ c. apply m (entry_of ask.Abandon (Truth true) c)) a.1 in (
      ap {A = Answer} {B = Reply R} (λ q. Answered q resource) yes_said
          ∙ ap {A = Option R} {B = Reply R} (λ r. Answered (Truth true) r) goes,
      x.2.same ∙ ap {A = Machine} {B = Machine} (λ n. record n { seen = [] }) left ∙ sym (ap {A = Machine} {B = Machine} closed st.1.same),
      (x.0, x.2, subst IsWellFormed (sym x.1.1) (legal_kept m (entry_of ask.Abandon answer chosen) st.2 x.1.0)),
    )

when_shut : (m : Machine) → m.cycle_open ≡ false → now_seen m ≡ []
when_shut m shut = rw shut refl

-- with no cycle open a core stands for the machine that it keeps
pub stands_for_its_own : {R : Type 0} (h : Kept R) → Stands h → h.machine.cycle_open ≡ false → LeadsToCore h.machine [] h
stands_for_its_own h st shut =
    let m = st.0 in
    let was_shut : m.cycle_open ≡ false = sym (ap {A = Machine} {B = Bool} (λ n. n.cycle_open) st.1.same) ∙ shut in
    let none : m.seen ≡ [] = st.1.outside was_shut in
    let same : h.machine ≡ m = st.1.same ∙ ap {A = List ℕ} {B = Machine} (λ l. record m { seen = l }) (sym none) in
    let date : IsUpToDate m = none ∙ sym (when_shut m was_shut) in
    subst (λ n. LeadsToCore n [] h) (sym same) (m, refl, st.1, st.2, date)

-- ---- What is recorded

pub adds_record : {R : Type 0} (h k : Kept R) (e : Event R) (reply : Reply R) (answer : Answer) (asked : Ask) (chosen : Chosen)
    (records records' : List Record) (seat : ℕ)
    → IsStep h e reply chosen k → ask_of e ≡ Some asked → answer_in reply ≡ Some answer
    → records' ≡ records ++ record_of (entry_by seat asked answer chosen) ∷ []
    → AddsRecord seat h records e reply k records'
adds_record h k e reply answer asked chosen records records' seat s is said more = record {
  chosen = chosen;
  step = s;
  adds =
      subst (λ o. records' ≡ records ++ map record_of (option_to_list (seated seat o (answer_in reply) chosen))) (sym is)
      (subst (λ a. records' ≡ records ++ map record_of (option_to_list (seated seat (Some asked) a chosen))) (sym said) more);
}

-- an end that is answered chose nothing
pub end_chose : {R : Type 0} (h k : Kept R) (e : Event R) (answer : Answer) (resource : Option R) (asked : Ask) (chosen : Chosen)
    → IsStep h e (Answered answer resource) chosen k
    → ask_of e ≡ Some asked → is_end asked ≡ true → Stands h → no_choice ≡ chosen
end_chose h k e answer resource asked chosen s is end st =
    let x = as_entered h k e answer resource chosen asked s is st in
    sym (end_chooses st.0 asked answer chosen end x.1.0)

pub not_refused : (answer : Answer) (by : Refusal) → is_refusal answer ≡ false → Some answer ≡ Some (Refused by) → ⊥
not_refused answer by h e = both_ways (is_refusal answer) h (ap is_refusal (some_same answer (Refused by) e))

pub stands_there : {R : Type 0} (image : Machine) (entries : List Entry) (core : Kept R) → LeadsToCore image entries core → Stands core
stands_there image entries core ends = (ends.0, ends.2, ends.3)

-- an end that is not refused was owed, whatever the reply
pub owed_less_by : {R : Type 0} (h k : Kept R) (e : Event R) (reply : Reply R) (chosen : Chosen) (asked : Ask) → IsStep h e reply chosen k
    → ask_of e ≡ Some asked → is_end asked ≡ true
    → ((by : Refusal) → answer_in reply ≡ Some (Refused by) → ⊥) → Stands h → owed k.machine + 1 ≤ owed h.machine
owed_less_by h k e (Marked progress) chosen asked s is end kept st = absurd (not_marked h k e progress chosen asked s is st)
owed_less_by h k e (Answered answer resource) chosen asked s is end kept st =
    let m = st.0 in
    let x = as_entered h k e answer resource chosen asked s is st in
    let less = end_lowers m (entry_of asked answer chosen) st.2 x.1.0 end
    (λ by f. kept by (ap {A = Answer} {B = Option Answer} (λ a. Some a) f)) in
    let new : owed k.machine ≡ owed (apply m (entry_of asked answer chosen)) = ap {A = Machine} {B = ℕ} owed x.2.same
    ∙ ap {A = Machine} {B = ℕ} owed x.1.1 in
    let old : owed h.machine ≡ owed m = ap {A = Machine} {B = ℕ} owed st.1.same in
    omega (arith, less, new, old)

-- ---- Room

suits_closed : (m : Machine) (ask : Option Ask) (room : ChoiceRoom) → SuitsChoice m ask room → SuitsChoice (closed m) ask room
suits_closed m ask (Collecting choice) x = x
suits_closed m ask Plain x = closed_collects m ask x

-- room that was made before a cut serves after it
pub still_suits : (m n : Machine) (ask : Option Ask) (room : ChoiceRoom) → n ≡ closed m → SuitsChoice m ask room → SuitsChoice n ask room
still_suits m n ask room same x = subst (λ k. SuitsChoice k ask room) (sym same) (suits_closed m ask room x)

-- ---- An end that the core refuses

pub turned_away : {R : Type 0} (h k : Kept R) (e : Event R) (answer : Answer) (resource : Option R) (chosen : Chosen)
    (records : List Record)
    → IsStep h e (Answered answer resource) chosen k → is_refusal answer ≡ true
    → AddsNone h records e (Answered answer resource) k records
turned_away h k e (Refused by) resource chosen records s is = record { steps = (chosen, s); by = by; refused = refl; stays = refl }
turned_away h k e answer resource chosen records s is = absurd (both_ways false refl is)

-- ---- The entries of what is recorded

-- an entry more, or none
replayed_more : (image m n : Machine) (records : List Record) (seat : ℕ) (ask : Option Ask) (answer : Option Answer) (chosen : Chosen)
    → Run image (replayed image records) m → EntersLegally m ask answer chosen n
    → replayed image (records ++ map record_of (option_to_list (seated seat ask answer chosen)))
    ≡ replayed image records ++ option_to_list (seated seat ask answer chosen)
replayed_more image m n records seat (Some ask) (Some answer) chosen r e =
    one_more image m records (entry_by seat ask answer chosen) r (legality_looks_at_no_seat m (entry_of ask answer chosen) seat e.0)
replayed_more image m n records seat (Some ask) None chosen r e = absurd e
replayed_more image m n records seat None (Some answer) chosen r e = absurd e
replayed_more image m n records seat None None chosen r e =
    ap {A = List Record} {B = List Entry} (replayed image) (append-nil records) ∙ sym (append-nil (replayed image records))

-- a step of the core, and its entry behind the others
pub record WritesEntry {R : Type 0} (seat : ℕ) (old : Kept R) (entries : List Entry) (event : Event R) (reply : Reply R)
    (new : Kept R) (entries' : List Entry) : Type 0 where
  pub chosen : Chosen
  pub step : IsStep old event reply chosen new
  pub adds : entries' ≡ entries ++ option_to_list (seated seat (ask_of event) (answer_in reply) chosen)

-- a step of the core that refused an end, and no entry
pub record Refuses {R : Type 0} (old : Kept R) (entries : List Entry) (event : Event R) (reply : Reply R) (new : Kept R)
    (entries' : List Entry) : Type 0 where
  pub steps : Steps old event reply new
  pub by : Refusal
  pub refused : answer_in reply ≡ Some (Refused by)
  pub stays : entries' ≡ entries

-- an end: one of the two, as its answer says
abbrev pub WritesEnd : {R : Type 0} → ℕ → Kept R → List Entry → Event R → Reply R → Kept R → List Entry → Type 0
WritesEnd seat old entries event reply new entries' =
    (WritesEntry seat old entries event reply new entries' × ((by : Refusal) → answer_in reply ≡ Some (Refused by) → ⊥))
    ⊎ Refuses old entries event reply new entries'

-- records since an image, of which the first led to a core
module _ {R : Type 0} (image : Machine) (records records' : List Record) (h k : Kept R) (seat : ℕ) (e : Event R) (reply : Reply R)
    (ends : LeadsToCore image (replayed image records) h) where
  pub entry_more : AddsRecord seat h records e reply k records'
      → WritesEntry seat h (replayed image records) e reply k (replayed image records')
  entry_more a =
      let x = a.step.entry ends.0 ends.2 in
      record {
        chosen = a.chosen;
        step = a.step;
        adds = ap {A = List Record} {B = List Entry} (replayed image) a.adds
            ∙ replayed_more image ends.0 x.0 records seat (ask_of e) (answer_in reply) a.chosen ends.1 x.1;
      }

  -- the record of a step that is answered
  pub entry_recorded : (answer : Answer) (asked : Ask) (chosen noted : Chosen) (r : Record) → IsStep h e reply chosen k
      → noted ≡ chosen → ask_of e ≡ Some asked → answer_in reply ≡ Some answer → r ≡ record_of (entry_by seat asked answer noted)
      → records' ≡ records ++ r ∷ []
      → WritesEntry seat h (replayed image records) e reply k (replayed image records')
  entry_recorded answer asked chosen noted r s same is said kept more =
      entry_more (adds_record h k e reply answer asked noted records records' seat
      (subst (λ (c : Chosen). IsStep h e reply c k) (sym same) s) is said
      (more ∙ ap {A = Record} {B = List Record} (λ x. records ++ x ∷ []) kept))

  pub end_more : AddsEnd seat h records e reply k records'
      → WritesEnd seat h (replayed image records) e reply k (replayed image records')
  end_more (inl a) = inl (entry_more a.0, a.1)
  end_more (inr r) = inr (record {
    steps = r.steps;
    by = r.by;
    refused = r.refused;
    stays = ap {A = List Record} {B = List Entry} (replayed image) r.stays;
  })
