-- A step of a book is told whole.
use Rattle.std.proofs.Common.{◌≡◌, ◌⊎◌, ◌≤◌, ◌<◌, ◌+◌, ◌^◌, ◌&&◌, ℕ, Bool, true, false, not, cond, List, [], ◌∷◌, ◌++◌, length}
use Rattle.std.proofs.Common.{length-append, Option, Some, None, inl, inr, refl, sym, ◌∙◌, ap, subst, arith, nat_lt, append_assoc}
use Rattle.std.specs.Prelude.{◌==◌}
use Rattle.std.specs.Option.{option_to_list}
use Rattle.std.proofs.lemmas.List.{append-nil, map-append}
use Rattle.std.proofs.lemmas.Bool.{lt-ltb}
use Rattle.std.proofs.lemmas.Bool.Decides.{nat_tests}
use Rattle.jlr_types.specs.declared.limits.Limits.{Limits}
use Rattle.jlr_types.specs.declared.Refusal.{Refusal}
use Rattle.jlr_types.specs.declared.Refusal.TheVariants.{NoMemory, Exhausted}
use Rattle.jlr_machine.specs.declared.ask.Ask.{Ask}
use Rattle.jlr_machine.specs.declared.ask.Answer.{Answer}
use Rattle.jlr_machine.specs.declared.ask.Answer.TheVariants.{Refused, Truth}
use Rattle.jlr_machine.specs.Chosen.{Chosen}
use Rattle.jlr_machine.specs.declared.entry.Entry.{Entry}
use Rattle.jlr_machine.specs.declared.machine.Machine.{Machine}
use Rattle.jlr_machine.specs.Refusals.{is_end}
use Rattle.jlr_machine.specs.Run.{Run, apply}
use Rattle.jlr_machine.specs.WellFormed.{IsWellFormed}
use Rattle.jlr_event.specs.declared.event.Event.{Event}
use Rattle.jlr_machine.specs.declared.ask.Ask.TheVariants.{Abandon}
use Rattle.jlr_event.specs.declared.event.Event.TheVariants.{Ask as Asks}
use Rattle.jlr_event.specs.declared.event.Reply.{Reply}
use Rattle.jlr_event.specs.declared.event.Reply.TheVariants.{Answered}
use Rattle.jlr_event.specs.Events.{ask_of, answer_in, resource_of_event}
use Rattle.jlr_core.specs.Runs.{AreAnswered, IsRunOf}
use Rattle.jlr_hall.proofs.Runs.{run_more_by}
use Rattle.jlr_book.specs.Cores.{Kept, EntersLegally as EntersMachine, IsStep}
use Rattle.jlr_book.specs.Histories.{History, IsHistory, LeadsToCore, empty_of, last, seated}
use Rattle.jlr_book.specs.Led.{shut}
use Rattle.jlr_book.specs.Rules.{AsksBy, BookSteps, Cuts, GivesUp, EndsBy, Enters, Readies, StepsBy, was_refused}
use Rattle.jlr_book.specs.Writing.{Stands}
use Rattle.jlr_book.proofs.Entering.{abandons, closed, ends_more, stands_there}
use Rattle.jlr_book.proofs.Replies.{ready_stands}
use Rattle.jlr_log.specs.Rule.{Knows}
use Rattle.jlr_log.specs.Views.{own}
use Rattle.jlr_log.specs.Seeing.{Seen, AllOf}
use Rattle.jlr_hall.specs.declared.step.Step.{Step}
use Rattle.jlr_hall.specs.OneHistory.{AllSit, IsWhole, Trace, add, step_entry, events_of, is_ending, is_refused_reply, replies_of, seat_of}
use Rattle.jlr_hall.specs.OneHistory.{step}
use Rattle.jlr_hall.specs.OneHistory.{behind, new_trace, trace, trace_in, trace_of}
use Rattle.jlr_hall.specs.Asking.{AskedIn, gave_up, is_cut, is_trace_full, may_cut, with_cut}
use Rattle.jlr_hall.specs.Locking.{IsLocked, Shows, dues_after, effect_of, owing_where}
use Rattle.jlr_hall.specs.Telling.{added}
use Rattle.jlr_hall.specs.declared.dues.Dues.{Dues}
use Rattle.jlr_hall.proofs.Owing.{shown_declined, shown_now}

-- ---- How the number of the last entry goes on

module _ {R : Type 0} (h new : History R) (is : IsHistory h) (seat : ℕ) (e : Event R) (reply : Reply R) (ask : Ask)
    (asks : ask_of e ≡ Some ask) where
  answered : (core core' : Kept R) (chosen : Chosen) → Stands core → IsStep core e reply chosen core' → (answer : Answer)
      × (answer_in reply ≡ Some answer)
  answered core core' chosen st s =
      let entry = s.entry st.0 st.1 in
      elim (answer_in reply) as (λ o. answer_in reply ≡ o → (answer : Answer) × (answer_in reply ≡ Some answer)) [
        | Some a ↦ λ some. (a, some)
        | None ↦ λ none. absurd (subst (λ o. EntersMachine st.0 (Some ask) o chosen entry.0) none
            (subst (λ o. EntersMachine st.0 o (answer_in reply) chosen entry.0) asks entry.1))
      ] refl

  one_more : (ready : History R) → Stands ready.core → Enters seat ready e reply new → (answer : Answer) × (answer_in reply ≡ Some answer)
      × (last new ≡ last ready + 1)
  one_more ready st x =
      let a = answered ready.core new.core x.chosen st x.step in
      let now_one : seated seat (ask_of e) (answer_in reply) x.chosen
      ≡ Some (record { seat = seat; ask = ask; answer = a.0; choice = x.chosen }) =
      ap (λ o. seated seat o (answer_in reply) x.chosen) asks ∙ ap (λ o. seated seat (Some ask) o x.chosen) a.1 in
      let base : new.base ≡ ready.base = ap {A = History R} {B = ℕ} (λ y. y.base) x.adds in
      let entries : new.entries ≡ ready.entries ++ (record { seat = seat; ask = ask; answer = a.0; choice = x.chosen } ∷ []) =
      ap {A = History R} {B = List Entry} (λ y. y.entries) x.adds
      ∙ ap {A = Option Entry} {B = List Entry} (λ o. ready.entries ++ option_to_list o) now_one in
      let long = ap {A = List Entry} {B = ℕ} length entries ∙ length-append ready.entries _ in
      (a.0, a.1, omega (arith, base, long))

  readied : (ready : History R) → Readies h ready → (last ready ≡ last h) ⊎ (last ready ≡ last h + 1)
  readied ready r =
      elim (nat_lt (length h.entries) h.limits.trace) as (λ b. elim b as (λ _. Type 0) [ true ↦ ready ≡ h | false ↦ Cuts h ready ]
      → (last ready ≡ last h) ⊎ (last ready ≡ last h + 1)) [
        | true ↦ λ same. inl (ap {A = History R} {B = ℕ} last same)
        | false ↦ λ cut.
            let none : length ready.entries ≡ 0 = ap {A = List Entry} {B = ℕ} length cut.entries in
            elim h.core.machine.cycle_open as (λ b. ready.base ≡ last h + cond b 1 0 → (last ready ≡ last h) ⊎ (last ready ≡ last h + 1)) [
              | true ↦ λ base. inr (omega (arith, base, none))
              | false ↦ λ base. inl (omega (arith, base, none))
            ] cut.base
      ] r

no_rise : (a b : ℕ) → b ≡ a → nat_lt a b ≡ false
no_rise a b is = grind (arith, nat_tests)

-- ---- What entries leave

run_is : (m n : Machine) (entries : List Entry) → Run m entries n → n ≡ behind m entries
run_is m n [] r = r
run_is m n (e ∷ entries) r = run_is (apply m e) n entries r.1

-- the machine behind the entries of a book is its core's, with no cycle open
left_behind : {R : Type 0} (image : Machine) (entries : List Entry) (core : Kept R) → LeadsToCore image entries core
    → shut (behind image entries) ≡ closed core.machine
left_behind image entries core ends =
    ap {A = Machine} {B = Machine} shut (sym (run_is image ends.0 entries ends.1))
    ∙ sym (ap {A = Machine} {B = Machine} closed ends.2.same)

-- ---- One step more of a run, and its trace

module _ {R : Type 0} where
  trace_more : (t : Trace) (log : List (Step R)) (choices : List Chosen) (e : Step R) (c : Chosen)
      → AreAnswered (events_of log) (replies_of log) choices
      → trace_of t (log ++ e ∷ []) (choices ++ c ∷ []) ≡ add (trace_of t log choices) e c
  trace_more t [] [] e c a = refl
  trace_more t (x ∷ log) (d ∷ choices) e c a = trace_more (add t x d) log choices e c a.1
  trace_more t [] (d ∷ choices) e c a = absurd a
  trace_more t (x ∷ log) [] e c a = absurd a

  sit_more : (seats : ℕ) (log : List (Step R)) (e : Step R) → AllSit seats log → e.seat < seats → AllSit seats (log ++ e ∷ [])
  sit_more seats [] e all sits = (sits, tt)
  sit_more seats (x ∷ log) e all sits = (all.0, sit_more seats log e all.1 sits)

-- the steps lead to this core and this trace
abbrev Leads : {R : Type 0} → Limits → List (Step R) → Kept R → Trace → Type 0
Leads limits log core t = (run : IsRunOf limits (events_of log) (replies_of log) core) × (trace_of (new_trace limits) log run.choices ≡ t)

not_refused : {R : Type 0} (reply : Reply R) → (was_refused reply → ⊥) → is_refused_reply (answer_in reply) ≡ false
not_refused reply not_so = none (answer_in reply) not_so
  where
    none : (o : Option Answer) → ((by : Refusal) × (o ≡ Some (Refused by)) → ⊥) → is_refused_reply o ≡ false
    none None so = refl
    none (Some (Refused by)) so = absurd (so (by, refl))
    none (Some answer) so = refl

module _ {R : Type 0} (seat : ℕ) (e : Event R) (reply : Reply R) (cuts : Bool) (chosen : Chosen) where
  -- the entry of a step that is no end which was refused
  as_seated : (is_ending (ask_of e) && is_refused_reply (answer_in reply)) ≡ false
      → step_entry (step seat e reply cuts) chosen ≡ option_to_list (seated seat (ask_of e) (answer_in reply) chosen)
  as_seated is = ap (λ b. cond b [] (option_to_list (seated seat (ask_of e) (answer_in reply) chosen))) is

  as_none : (is_ending (ask_of e) && is_refused_reply (answer_in reply)) ≡ true → step_entry (step seat e reply cuts) chosen ≡ []
  as_none is = ap (λ b. cond b [] (option_to_list (seated seat (ask_of e) (answer_in reply) chosen))) is

-- why a book declines
abbrev Declining : {R : Type 0} → History R → Refusal → Type 0
Declining h by = (by ≡ NoMemory) ⊎ ((by ≡ Exhausted) × (2 ^ 64 ≤ last h + 1024))

-- a cut of a book with an open cycle moved its base on
abbrev pub given_up : {R : Type 0} → History R → History R → Bool
given_up h new = h.core.machine.cycle_open && not (new.base == h.base)

stays_open : (b : Bool) (n m : ℕ) → m ≡ n → (b && not (m == n)) ≡ false
stays_open true n m is = grind (arith, nat_tests)
stays_open false n m is = refl

moves_on : (n m : ℕ) → n < m → not (m == n) ≡ true
moves_on n m less = grind (arith, nat_tests)

and_false : (b : Bool) → (b && false) ≡ false
and_false true = refl
and_false false = refl

-- what is told leads from a book on to the new one, and is the event, or the book refused it
pub record Tells {R : Type 0} (limits : Limits) (log : List (Step R)) (seat : ℕ) (h : History R) (e : Event R) (reply : Reply R)
    (now : List (Step R)) (new : History R) : Type 0 where
  pub leads : Leads limits (log ++ now) new.core (trace_in new)
  pub limits_are : new.limits ≡ limits
  pub seats : AllSit (limits.sessions + 3) (log ++ now)
  pub fate : ((now ≡ with_cut seat h e reply (is_cut h e)) × (given_up h new ≡ (is_cut h e && h.core.machine.cycle_open)))
      ⊎ ((now ≡ []) × (may_cut (ask_of e) ≡ true) × (by : Refusal) × Declining h by × (reply ≡ Answered (Refused by) (resource_of_event e))
      × (given_up h new ≡ false))

module _ {R : Type 0} (limits : Limits) (formed : IsWellFormed (empty_of limits)) (log : List (Step R)) (seat : ℕ)
    (sits : seat < limits.sessions + 3) (all : AllSit (limits.sessions + 3) log) where
  one : (earlier : List (Step R)) (core core' : Kept R) (t : Trace) (e : Event R) (r : Reply R) (cuts : Bool) (chosen : Chosen)
      → Leads limits earlier core t → IsStep core e r chosen core'
      → Leads limits (earlier ++ step seat e r cuts ∷ []) core' (add t (step seat e r cuts) chosen)
  one earlier core core' t e r cuts chosen x now =
      let s = step seat e r cuts in
      let more = run_more_by limits (events_of earlier) (replies_of earlier) core core' e r chosen formed x.0 now in
      let traced = ap (trace_of (new_trace limits) (earlier ++ s ∷ [])) more.1
      ∙ trace_more (new_trace limits) earlier (x.0).choices s chosen (x.0).answered ∙ ap (λ y. add y s chosen) x.1 in
      subst (λ (p : List (Event R) × List (Reply R)). (run : IsRunOf limits p.0 p.1 core')
      × (trace_of (new_trace limits) (earlier ++ s ∷ []) run.choices ≡ add t s chosen))
      (λ i. (sym (map-append (λ (y : Step R). y.event) earlier (s ∷ [])) i, sym (map-append (λ (y : Step R). y.reply) earlier (s ∷ [])) i))
      (more.0, traced)

  -- a step of the core, with no cut
  plainly : (h new : History R) (e : Event R) (reply : Reply R) (chosen : Chosen) → Leads limits log h.core (trace_in h)
      → IsStep h.core e reply chosen new.core
      → new.base ≡ h.base → new.image ≡ h.image → new.entries ≡ h.entries ++ step_entry (step seat e reply false) chosen
      → new.limits ≡ limits
      → added seat h e reply new ≡ step seat e reply false ∷ [] → is_cut h e ≡ false
      → added seat h e reply new ≡ with_cut seat h e reply (is_cut h e)
      → Tells limits log seat h e reply (added seat h e reply new) new
  plainly h new e reply chosen run now base image entries limits_are is no_cut told =
      let s = step seat e reply false in
      let t : trace h.base h.image (h.entries ++ step_entry s chosen) ≡ trace_in new =
      λ i. trace (sym base i) (sym image i) (sym entries i) in
      let leads = subst (Leads limits (log ++ s ∷ []) new.core) t
      (one log h.core new.core (trace_in h) e reply false chosen run now) in
      record {
        leads = subst (λ l. Leads limits (log ++ l) new.core (trace_in new)) (sym is) leads;
        limits_are = limits_are;
        seats = subst (λ l. AllSit (limits.sessions + 3) (log ++ l)) (sym is) (sit_more _ log s all sits);
        fate = inl (
          told,
          stays_open h.core.machine.cycle_open h.base new.base base
              ∙ sym (ap (λ b. b && h.core.machine.cycle_open) no_cut),
        );
      }

  -- a step of the core, after a cut that gave up no cycle
  after_shut : (h new : History R) (e : Event R) (reply : Reply R) (chosen : Chosen) → Leads limits log h.core (trace_in h)
      → IsStep h.core e reply chosen new.core → LeadsToCore h.image h.entries h.core
      → new.base ≡ last h → new.image ≡ closed h.core.machine → new.entries ≡ step_entry (step seat e reply true) chosen
      → new.limits ≡ limits
      → h.core.machine.cycle_open ≡ false → added seat h e reply new ≡ step seat e reply true ∷ []
      → added seat h e reply new ≡ with_cut seat h e reply (is_cut h e)
      → Tells limits log seat h e reply (added seat h e reply new) new
  after_shut h new e reply chosen run now ends base image entries limits_are not_open is told =
      let s = step seat e reply true in
      let left = left_behind h.image h.entries h.core ends ∙ sym image in
      let t : trace (last h) (shut (behind h.image h.entries)) (step_entry s chosen) ≡ trace_in new =
      λ i. trace (sym base i) (left i) (sym entries i) in
      let leads = subst (Leads limits (log ++ s ∷ []) new.core) t
      (one log h.core new.core (trace_in h) e reply true chosen run now) in
      record {
        leads = subst (λ l. Leads limits (log ++ l) new.core (trace_in new)) (sym is) leads;
        limits_are = limits_are;
        seats = subst (λ l. AllSit (limits.sessions + 3) (log ++ l)) (sym is) (sit_more _ log s all sits);
        fate = inl (
          told,
          ap (λ b. b && not (new.base == h.base)) not_open ∙ sym (and_false (is_cut h e))
              ∙ ap (λ b. is_cut h e && b) (sym not_open),
        );
      }

  -- and after one that gave one up
  after_open : (h new : History R) (mid : Kept R) (e : Event R) (reply : Reply R) (chosen chosen' : Chosen)
      → Leads limits log h.core (trace_in h)
      → IsStep h.core (Asks Abandon) (Answered (Truth true) None) chosen' mid → IsStep mid e reply chosen new.core
      → LeadsToCore h.image h.entries h.core → new.base ≡ last h + 1 → new.image ≡ closed h.core.machine
      → new.entries ≡ step_entry (step seat e reply true) chosen → new.limits ≡ limits
      → is_cut h e ≡ true → h.core.machine.cycle_open ≡ true → added seat h e reply new ≡ gave_up seat true ++ step seat e reply true ∷ []
      → added seat h e reply new ≡ with_cut seat h e reply (is_cut h e)
      → Tells limits log seat h e reply (added seat h e reply new) new
  after_open h new mid e reply chosen chosen' run gives now ends base image entries limits_are cuts opened is told =
      let up : Step R = step seat (Asks Abandon) (Answered (Truth true) None) false in
      let s = step seat e reply true in
      let given = h.entries ++ step_entry up chosen' in
      let first = one log h.core mid (trace_in h) (Asks Abandon) (Answered (Truth true) None) false chosen' run gives in
      let second = one (log ++ up ∷ []) mid new.core (trace h.base h.image given) e reply true chosen first now in
      let long : length given ≡ length h.entries + 1 = length-append h.entries (step_entry up chosen') in
      let higher : h.base + length given ≡ new.base = omega (arith, base, long) in
      let further : h.base < new.base = omega (arith, base) in
      let up_ends : LeadsToCore h.image given mid =
      ends_more h.image h.entries h.core mid seat (Asks Abandon) (Answered (Truth true) None) chosen' gives ends in
      let gave = (abandons h.core mid (Answered (Truth true) None) chosen' gives (stands_there h.image h.entries h.core ends) opened).1 in
      let left : shut (behind h.image given) ≡ new.image =
      left_behind h.image given mid up_ends ∙ ap {A = Machine} {B = Machine} closed gave ∙ sym image in
      let t : trace (h.base + length given) (shut (behind h.image given)) (step_entry s chosen) ≡ trace_in new =
      λ i. trace (higher i) (left i) (sym entries i) in
      let leads = subst (Leads limits ((log ++ up ∷ []) ++ s ∷ []) new.core) t second in
      let joined = append_assoc log (up ∷ []) (s ∷ []) in
      record {
        leads = subst (λ l. Leads limits (log ++ l) new.core (trace_in new)) (sym is)
            (subst (λ l. Leads limits l new.core (trace_in new)) joined leads);
        limits_are = limits_are;
        seats = subst (λ l. AllSit (limits.sessions + 3) (log ++ l)) (sym is)
            (subst (AllSit (limits.sessions + 3)) joined (sit_more _ (log ++ up ∷ []) s (sit_more _ log up all sits) sits));
        fate = inl (
          told,
          ap (λ b. b && not (new.base == h.base)) opened ∙ moves_on h.base new.base further
              ∙ sym (ap (λ b. b && h.core.machine.cycle_open) cuts ∙ opened),
        );
      }

  -- ---- Each kind of event

  added_plain : (h new : History R) (e : Event R) (reply : Reply R) → may_cut (ask_of e) ≡ false
      → added seat h e reply new ≡ step seat e reply false ∷ []
  added_plain h new e reply is =
      ap (λ b. cond b (cond (nat_lt (last h) (last new)) (with_cut seat h e reply (is_trace_full h)) []) (step seat e reply false ∷ [])) is

  -- an end, and a piece of marking, come behind no cut
  told_plain : (h new : History R) (e : Event R) (reply : Reply R) → may_cut (ask_of e) ≡ false
      → added seat h e reply new ≡ with_cut seat h e reply (is_cut h e)
  told_plain h new e reply is = added_plain h new e reply is ∙ sym (ap (λ b. with_cut seat h e reply (b && is_trace_full h)) is)

  added_none : (h new : History R) (e : Event R) (reply : Reply R) → may_cut (ask_of e) ≡ true → last new ≡ last h
      → added seat h e reply new ≡ []
  added_none h new e reply is same =
      ap (λ b. cond b (cond (nat_lt (last h) (last new)) (with_cut seat h e reply (is_trace_full h)) []) (step seat e reply false ∷ [])) is
      ∙ ap (λ b. cond b (with_cut seat h e reply (is_trace_full h)) []) (no_rise (last h) (last new) same)

  added_ask : (h new : History R) (e : Event R) (reply : Reply R) → may_cut (ask_of e) ≡ true → last h < last new
      → added seat h e reply new ≡ with_cut seat h e reply (is_trace_full h)
  added_ask h new e reply is more =
      ap (λ b. cond b (cond (nat_lt (last h) (last new)) (with_cut seat h e reply (is_trace_full h)) []) (step seat e reply false ∷ [])) is
      ∙ ap (λ b. cond b (with_cut seat h e reply (is_trace_full h)) []) (lt-ltb (last h) (last new) more)

  enters : (h new : History R) (e : Event R) (reply : Reply R) → Leads limits log h.core (trace_in h) → h.limits ≡ limits
      → may_cut (ask_of e) ≡ false
      → (is_ending (ask_of e) && is_refused_reply (answer_in reply)) ≡ false → Enters seat h e reply new
      → Tells limits log seat h e reply (added seat h e reply new) new
  enters h new e reply run limits_are may written x =
      plainly h new e reply x.chosen run x.step (ap {A = History R} {B = ℕ} (λ y. y.base) x.adds)
      (ap {A = History R} {B = Machine} (λ y. y.image) x.adds)
      (ap {A = History R} {B = List Entry} (λ y. y.entries) x.adds
      ∙ ap (λ l. h.entries ++ l) (sym (as_seated seat e reply false x.chosen written)))
      (ap {A = History R} {B = Limits} (λ y. y.limits) x.adds ∙ limits_are) (added_plain h new e reply may)
      (ap (λ b. b && is_trace_full h) may) (told_plain h new e reply may)

  by_end : (h new : History R) (e : Event R) (reply : Reply R) → Leads limits log h.core (trace_in h) → h.limits ≡ limits
      → may_cut (ask_of e) ≡ false → is_ending (ask_of e) ≡ true
      → EndsBy seat h e reply new → Tells limits log seat h e reply (added seat h e reply new) new
  by_end h new e reply run limits_are may end (inl x) =
      enters h new e reply run limits_are may (ap (λ b. b && is_refused_reply (answer_in reply)) end ∙ not_refused reply x.1) x.0
  by_end h new e reply run limits_are may end (inr x) =
      let refused : (is_ending (ask_of e) && is_refused_reply (answer_in reply)) ≡ true = ap (λ b. b && is_refused_reply (answer_in reply))
      end
      ∙ ap is_refused_reply x.refused in
      plainly h new e reply x.steps.0 run x.steps.1 (ap {A = History R} {B = ℕ} (λ y. y.base) x.stays)
      (ap {A = History R} {B = Machine} (λ y. y.image) x.stays)
      (ap {A = History R} {B = List Entry} (λ y. y.entries) x.stays ∙ sym (append-nil h.entries)
      ∙ ap (λ l. h.entries ++ l) (sym (as_none seat e reply false x.steps.0 refused)))
      (ap {A = History R} {B = Limits} (λ y. y.limits) x.stays ∙ limits_are) (added_plain h new e reply may)
      (ap (λ b. b && is_trace_full h) may) (told_plain h new e reply may)

  by_ask : (h new : History R) (e : Event R) (reply : Reply R) (ask : Ask) → ask_of e ≡ Some ask → is_end ask ≡ false → IsHistory h
      → Leads limits log h.core (trace_in h) → h.limits ≡ limits
      → may_cut (ask_of e) ≡ true → AsksBy seat h e reply new → Tells limits log seat h e reply (added seat h e reply new) new
  by_ask h new e reply ask asks end is run limits_are may (inr x) =
      let none = added_none h new e reply may (ap {A = History R} {B = ℕ} last x.same) in
      let here : Leads limits (log ++ []) new.core (trace_in new) =
      subst (λ l. Leads limits l new.core (trace_in new)) (sym (append-nil log))
      (subst (λ (k : History R). Leads limits log k.core (trace_in k)) (sym x.same) run) in
      let stays = stays_open h.core.machine.cycle_open h.base new.base (ap {A = History R} {B = ℕ} (λ y. y.base) x.same) in
      record {
        leads = subst (λ l. Leads limits (log ++ l) new.core (trace_in new)) (sym none) here;
        limits_are = ap {A = History R} {B = Limits} (λ y. y.limits) x.same ∙ limits_are;
        seats = subst (λ l. AllSit (limits.sessions + 3) (log ++ l)) (sym none)
            (subst (AllSit (limits.sessions + 3)) (sym (append-nil log)) all);
        fate = elim x.why [
          | inl w ↦ inr (none, may, NoMemory, inl refl, w.1, stays)
          | inr w ↦ inr (none, may, Exhausted, inr (refl, w.0), w.1, stays)
        ];
      }
  by_ask h new e reply ask asks end is run limits_are may (inl x) =
      let more = one_more h new is seat e reply ask asks x.ready (ready_stands h is x.ready x.readies) x.enters in
      let far = readied h new is seat e reply ask asks x.ready x.readies in
      let longer : last h < last new = elim far [ inl same ↦ omega (arith, more.2, same) | inr cut ↦ omega (arith, more.2, cut) ] in
      let told = added_ask h new e reply may longer in
      let as_cut : added seat h e reply new ≡ with_cut seat h e reply (is_cut h e) = told
      ∙ ap (λ b. with_cut seat h e reply (b && is_trace_full h)) (sym may) in
      let base : new.base ≡ (x.ready).base = ap {A = History R} {B = ℕ} (λ y. y.base) x.enters.adds in
      let image : new.image ≡ (x.ready).image = ap {A = History R} {B = Machine} (λ y. y.image) x.enters.adds in
      let entries = ap {A = History R} {B = List Entry} (λ y. y.entries) x.enters.adds in
      let same_limits = ap {A = History R} {B = Limits} (λ y. y.limits) x.enters.adds in
      let ends_nothing : is_ending (ask_of e) ≡ false = ap is_ending asks ∙ end in
      let written : (is_ending (ask_of e) && is_refused_reply (answer_in reply)) ≡ false =
      ap (λ b. b && is_refused_reply (answer_in reply)) ends_nothing in
      elim (nat_lt (length h.entries) h.limits.trace) as (λ b. nat_lt (length h.entries) h.limits.trace ≡ b
      → elim b as (λ _. Type 0) [ true ↦ x.ready ≡ h | false ↦ Cuts h x.ready ]
      → Tells limits log seat h e reply (added seat h e reply new) new) [
        | true ↦ λ short same.
            let is_short : with_cut seat h e reply (is_trace_full h) ≡ step seat e reply false ∷ [] =
            ap (λ b. with_cut seat h e reply (not b)) short in
            plainly h new e reply x.enters.chosen run (subst (λ (k : History R). IsStep k.core e reply x.enters.chosen new.core) same
            x.enters.step) (base ∙ ap {A = History R} {B = ℕ} (λ y. y.base) same)
            (image ∙ ap {A = History R} {B = Machine} (λ y. y.image) same)
            (entries ∙ ap {A = History R} {B = List Entry}
            (λ y. y.entries ++ option_to_list (seated seat (ask_of e) (answer_in reply) x.enters.chosen)) same
            ∙ ap (λ l. h.entries ++ l) (sym (as_seated seat e reply false x.enters.chosen written)))
            (same_limits ∙ ap {A = History R} {B = Limits} (λ y. y.limits) same ∙ limits_are) (told ∙ is_short)
            (ap (λ b. b && is_trace_full h) may ∙ ap not short) as_cut
        | false ↦ λ full cut.
            let full_is : with_cut seat h e reply (is_trace_full h) ≡ with_cut seat h e reply true =
            ap (λ b. with_cut seat h e reply (not b)) full in
            let fresh : new.entries ≡ step_entry (step seat e reply true) x.enters.chosen =
            entries ∙ ap {A = List Entry} {B = List Entry}
            (λ l. l ++ option_to_list (seated seat (ask_of e) (answer_in reply) x.enters.chosen)) cut.entries
            ∙ sym (as_seated seat e reply true x.enters.chosen written) in
            cut_case h new e reply x.ready x.enters.chosen run cut x.enters.step is.ends base (image ∙ cut.image) fresh
            (same_limits ∙ cut.limits ∙ limits_are) (told ∙ full_is) (ap (λ b. b && is_trace_full h) may ∙ ap not full)
            as_cut (h.core.machine.cycle_open) refl
      ] refl x.readies
    where
      cut_case : (h new : History R) (e : Event R) (reply : Reply R) (ready : History R) (chosen : Chosen)
          → Leads limits log h.core (trace_in h) → Cuts h ready → IsStep ready.core e reply chosen new.core
          → LeadsToCore h.image h.entries h.core → new.base ≡ ready.base → new.image ≡ closed h.core.machine
          → new.entries ≡ step_entry (step seat e reply true) chosen → new.limits ≡ limits
          → added seat h e reply new ≡ with_cut seat h e reply true → is_cut h e ≡ true
          → added seat h e reply new ≡ with_cut seat h e reply (is_cut h e) → (b : Bool) → h.core.machine.cycle_open ≡ b
          → Tells limits log seat h e reply (added seat h e reply new) new
      cut_case h new e reply ready chosen run cut now ends base image fresh limits_are told cuts as_cut true opened =
          let gives = subst (λ b. GivesUp b h.core ready.core) opened cut.gives_up in
          after_open h new ready.core e reply chosen gives.0 run gives.1 now ends
          (base ∙ cut.base ∙ ap (λ b. last h + cond b 1 0) opened) image fresh limits_are cuts opened
          (told ∙ ap (λ b. gave_up seat b ++ step seat e reply true ∷ []) opened) as_cut
      cut_case h new e reply ready chosen run cut now ends base image fresh limits_are told cuts as_cut false not_open =
          let same = subst (λ b. GivesUp b h.core ready.core) not_open cut.gives_up in
          let higher : new.base ≡ last h = let there = base ∙ cut.base ∙ ap (λ b. last h + cond b 1 0) not_open in omega (arith, there) in
          after_shut h new e reply chosen run (subst (λ (k : Kept R). IsStep k e reply chosen new.core) same now) ends higher image
          fresh limits_are not_open (told ∙ ap (λ b. gave_up seat b ++ step seat e reply true ∷ []) not_open) as_cut

  tells_by : (h new : History R) (e : Event R) (reply : Reply R) → IsHistory h → Leads limits log h.core (trace_in h)
      → h.limits ≡ limits → BookSteps seat h e reply new → Tells limits log seat h e reply (added seat h e reply new) new
  tells_by h new e reply is run limits_are steps =
      elim (ask_of e) as (λ o. ask_of e ≡ o → StepsBy seat o h e reply new
      → Tells limits log seat h e reply (added seat h e reply new) new) [
        | None ↦ λ none x. enters h new e reply run limits_are (ap may_cut none)
            (ap (λ o. is_ending o && is_refused_reply (answer_in reply)) none) x
        | Some ask ↦ λ some x. elim (is_end ask) as (λ b. is_end ask ≡ b
            → elim b as (λ _. Type 0) [ true ↦ EndsBy seat h e reply new | false ↦ AsksBy seat h e reply new ]
            → Tells limits log seat h e reply (added seat h e reply new) new) [
              | true ↦ λ end y. by_end h new e reply run limits_are
                  (ap may_cut some ∙ ap (λ b. elim b as (λ _. Bool) [ true ↦ false | false ↦ true ]) end) (ap is_ending some ∙ end) y
              | false ↦ λ end y. by_ask h new e reply ask some end is run limits_are
                  (ap may_cut some ∙ ap (λ b. elim b as (λ _. Bool) [ true ↦ false | false ↦ true ]) end) y
            ] refl x
      ] refl steps

pub tells : {R : Type 0} (limits : Limits) (log : List (Step R)) (seat : ℕ) (h new : History R) (e : Event R) (reply : Reply R)
    → seat < limits.sessions + 3 → IsHistory h → IsWhole limits h log → BookSteps seat h e reply new
    → Tells limits log seat h e reply (added seat h e reply new) new
tells limits log seat h new e reply sits is w steps =
    tells_by limits w.formed log seat sits w.seats h new e reply is (w.run, w.traced) w.limits_are steps

-- what then lies under the lock
pub whole_now : {R : Type 0} (limits : Limits) (log now : List (Step R)) (seat : ℕ) (h new : History R) (e : Event R) (reply : Reply R)
    → IsWhole limits h log → Tells limits log seat h e reply now new → IsWhole limits new (log ++ now)
whole_now limits log now seat h new e reply w t =
    record { formed = w.formed; run = t.leads.0; traced = t.leads.1; limits_are = t.limits_are; seats = t.seats }

pub locked_now : {R : Type 0} (limits : Limits) (d : Dues) (log now : List (Step R)) (seat : ℕ) (h new : History R) (e : Event R)
    (reply : Reply R) → seat < 256 → IsLocked limits h d log → Tells limits log seat h e reply now new
    → IsLocked limits new (dues_after seat (effect_of e) reply (owing_where (given_up h new) d)) (log ++ now)
locked_now limits d log now seat h new e reply sits l t = record {
  whole = whole_now limits log now seat h new e reply l.whole t;
  shows = elim t.fate [
    | inl x ↦ subst (λ b. Shows (dues_after seat (effect_of e) reply (owing_where b d)) (log ++ now)) (sym x.1)
        (shown_now d log now seat e reply (is_cut h e) (is_cut h e && h.core.machine.cycle_open) sits x.0 l.shows)
    | inr x ↦ subst (λ b. Shows (dues_after seat (effect_of e) reply (owing_where b d)) (log ++ now)) (sym x.5)
        (shown_declined d log now seat e reply x.2 x.0 (elim x.3 [ inl why ↦ inl why | inr why ↦ inr why.0 ]) x.4 l.shows)
  ];
}

-- all of it is the seat's
pub all_added : {R : Type 0} (seat : ℕ) (h : History R) (e : Event R) (reply : Reply R) (new : History R)
    → AllOf seat_of seat (added seat h e reply new)
all_added seat h e reply new =
    elim (may_cut (ask_of e)) as (λ b. AllOf seat_of seat
    (cond b (cond (nat_lt (last h) (last new)) (with_cut seat h e reply (is_trace_full h)) []) (step seat e reply false ∷ []))) [
      | true ↦ elim (nat_lt (last h) (last new)) as (λ c. AllOf seat_of seat (cond c (with_cut seat h e reply (is_trace_full h)) [])) [
        | true ↦ cut_ones (is_trace_full h && h.core.machine.cycle_open)
        | false ↦ tt
      ]
      | false ↦ (refl, tt)
    ]
  where
    cut_ones : (b : Bool) → AllOf seat_of seat (gave_up seat b ++ step seat e reply (is_trace_full h) ∷ [])
    cut_ones true = (refl, (refl, tt))
    cut_ones false = (refl, tt)

-- ---- What an ask is then known to be

pub asked : {R : Type 0} (limits : Limits) (old new : Seen (Step R)) (n : ℕ) (all now : List (Step R)) (h book : History R) (e : Event R)
    (reply : Reply R)
    → old.seat ≡ n → Knows seat_of n old.known all → new.seat ≡ n → new.known ≡ all ++ now → IsWhole limits h all
    → Tells limits all n h e reply now book → AskedIn limits all old e reply new
asked {R} limits old new n all now h book e reply is knows seat known w t = elim t.fate [
  | inl x ↦ (
    inl (record {
      seat = seat ∙ sym is;
      between = knows.0;
      others = ap (λ k. own seat_of k knows.0) is ∙ knows.2;
      book = h;
      lay = subst (IsWhole limits h) knows.1 w;
      known = known ∙ ap (λ l. all ++ l) x.0 ∙ ap (λ l. l ++ with_cut n h e reply (is_cut h e)) knows.1
          ∙ ap (λ k. (old.known ++ knows.0) ++ with_cut k h e reply (is_cut h e)) (sym is);
      legal = (book, subst (IsWhole limits book) (sym known) (whole_now limits all now n h book e reply w t));
    }),
    sym knows.1,
  )
  | inr x ↦ (
    inr (record {
      seat = seat ∙ sym is;
      between = knows.0;
      others = ap (λ k. own seat_of k knows.0) is ∙ knows.2;
      known = known ∙ ap (λ l. all ++ l) x.0 ∙ append-nil all ∙ knows.1;
      ends_nothing = x.1;
      by = x.2;
      why = elim x.3 [ inl why ↦ inl why | inr why ↦ inr (why.0, (h, subst (IsWhole limits h) knows.1 w, why.1)) ];
      refused = x.4;
    }),
    sym knows.1,
  )
]
