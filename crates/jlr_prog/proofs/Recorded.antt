-- A step of a book is one entry more of all since opening, perhaps after a cut, or none.
use Rattle.std.proofs.Common.{◌≡◌, ℕ, ◌+◌, Bool, true, false, cond, nat_lt, List, [], ◌∷◌, ◌++◌, length, Option, Some, None, ◌⊎◌, inl, inr}
use Rattle.std.proofs.Common.{refl, sym, ◌∙◌, ap, subst, arith, option_to_list, append-nil, append_assoc, length-append}
use Rattle.std.proofs.lemmas.Bool.{lt-ltb, ltb-true}
use Rattle.jlr_types.specs.declared.Refusal.{Refusal}
use Rattle.jlr_types.specs.declared.Refusal.TheVariants.{NoMemory, Exhausted}
use Rattle.jlr_machine.specs.declared.machine.Machine.{Machine}
use Rattle.jlr_machine.specs.declared.ask.Ask.{Ask}
use Rattle.jlr_machine.specs.declared.ask.Ask.TheVariants as ask
use Rattle.jlr_machine.specs.declared.ask.Answer.{Answer}
use Rattle.jlr_machine.specs.declared.ask.Answer.TheVariants.{Refused, Truth}
use Rattle.jlr_machine.specs.Chosen.{Chosen}
use Rattle.jlr_machine.specs.declared.entry.Entry.{Entry}
use Rattle.jlr_machine.specs.Refusals.{is_end}
use Rattle.jlr_machine.specs.Run.{Run, IsLegal, no_choice, apply}
use Rattle.jlr_machine.specs.WellFormed.{IsWellFormed}
use Rattle.jlr_laws.specs.Laws.{IsUpToDate}
use Rattle.jlr_laws.proofs.Frames.{no_some, some_same}
use Rattle.jlr_laws.proofs.Law.{legal_kept}
use Rattle.jlr_laws.proofs.Seats.{legality_looks_at_no_seat}
use Rattle.jlr_laws.proofs.UpToDate.{seen_stays_up_to_date}
use Rattle.jlr_event.specs.declared.event.Event.{Event}
use Rattle.jlr_event.specs.declared.event.Event.TheVariants as event
use Rattle.jlr_event.specs.declared.event.Reply.{Reply}
use Rattle.jlr_event.specs.declared.event.Reply.TheVariants.{Answered, Marked}
use Rattle.jlr_event.specs.Events.{ask_of, answer_in}
use Rattle.jlr_book.specs.Cores.{Kept, StandsIn, EntersLegally, entry_of, IsStep}
use Rattle.jlr_book.specs.Histories.{History, seated}
use Rattle.jlr_book.specs.Rules.{AsksBy, BookSteps, Cuts, Declines, EndsBy, GivesUp, Readies, StepsBy}
use Rattle.jlr_book.specs.Rules as rules
use Rattle.jlr_book.proofs.Entering.{abandon_answers, end_chooses}
use Rattle.jlr_prog.specs.Wholes.{WholeRun, WholeSteps, given_up}

-- ---- Lists and bits

run_snoc : (m n : Machine) (entries : List Entry) (e : Entry) → Run m entries n → IsLegal n e → Run m (entries ++ e ∷ []) (apply n e)
run_snoc m n [] e r l = subst (λ k. IsLegal k e × (apply n e ≡ apply k e)) r (l, refl)
run_snoc m n (x ∷ entries) e r l = (r.0, run_snoc (apply m x) n entries e r.1 l)

-- what is let go where the base rose by so much, and where it stayed
rose : (a b : ℕ) (xs : List Entry) → b ≡ a + length xs → cond (nat_lt a b) xs [] ≡ xs
rose a b [] is = elim (nat_lt a b) as (λ t. cond {A = List Entry} t [] [] ≡ []) [ true ↦ refl | false ↦ refl ]
rose a b (x ∷ xs) is = ap {A = Bool} {B = List Entry} (λ t. cond t (x ∷ xs) []) (lt-ltb a b (omega (arith, is)))

pub stayed : (a b : ℕ) (xs : List Entry) → b ≡ a → cond (nat_lt a b) xs [] ≡ []
stayed a b xs same = elim (nat_lt a b) as (λ t. nat_lt a b ≡ t → cond t xs [] ≡ []) [
  | true ↦ λ t. (let less = ltb-true a b t in absurd (omega (arith, less, same)))
  | false ↦ λ f. refl
] refl

given_up_length : (seat : ℕ) (m : Machine) → length (given_up seat m) ≡ cond m.cycle_open 1 0
given_up_length seat m = elim (m.cycle_open) as (λ b. length
    (cond {A = List Entry} b (record { seat = seat; ask = ask.Abandon; answer = Truth true; choice = no_choice } ∷ []) []) ≡ cond b 1 0) [
      | true ↦ refl
      | false ↦ refl
    ]

-- ---- Refused ends

refused_stays : (n : Machine) (asked : Ask) (by : Refusal) → IsUpToDate n → apply n (entry_of asked (Refused by) no_choice) ≡ n
refused_stays n asked by date = ap {A = List ℕ} {B = Machine} (λ l. record n { seen = l }) (sym date)

refused_leaves : (n : Machine) (asked : Ask) (answer : Answer) (chosen : Chosen) (by : Refusal) → answer ≡ Refused by → chosen ≡ no_choice
    → IsUpToDate n → apply n (entry_of asked answer chosen) ≡ n
refused_leaves n asked answer chosen by refused none date =
    subst (λ a. apply n (entry_of asked a chosen) ≡ n) (sym refused)
    (subst (λ c. apply n (entry_of asked (Refused by) c) ≡ n) (sym none) (refused_stays n asked by date))

-- ---- What is kept along steps

-- the entry of an ask that was answered leads from P to Q
abbrev pub Leads : {R : Type 0} → (Machine → Type 0) → (Machine → Type 0) → Ask → Reply R → Chosen → Type 0
Leads {R} P Q asked reply chosen = (n : Machine) (answer : Answer) (resource : Option R) → reply ≡ Answered answer resource → IsWellFormed n
    → P n
    → IsLegal n (entry_of asked answer chosen) → Q (apply n (entry_of asked answer chosen))

-- and so does each step of a core in which it is asked
abbrev pub LeadsOn : {R : Type 0} → (Machine → Type 0) → (Machine → Type 0) → Event R → Ask → Reply R → Type 0
LeadsOn {R} P Q e asked reply = (h k : Kept R) (chosen : Chosen) → IsStep h e reply chosen k → Leads P Q asked reply chosen

-- it leads there as well where the book refuses it by itself, and stays as it is
abbrev pub LeadsNowhere : {R : Type 0} → (Machine → Type 0) → (Machine → Type 0) → History R → History R → Reply R → Type 0
LeadsNowhere {R} P Q h k reply = (n : Machine) (by : Refusal) (resource : Option R) → k ≡ h → reply ≡ Answered (Refused by) resource → P n
    → Q n

-- giving up a cycle keeps P
abbrev pub StaysClosed : (Machine → Type 0) → Type 0
StaysClosed P = (n : Machine) (seen : List ℕ) → P n → P (record n { cycle_open = false; seen = seen })

abbrev pub Begins : List Entry → List Entry → Type 0
Begins front entries = (later : List Entry) × (entries ≡ front ++ later)

begins_more : (front entries more entries' : List Entry) → entries' ≡ entries ++ more → Begins front entries → Begins front entries'
begins_more front entries more entries' is b =
    (b.0 ++ more, is ∙ ap {A = List Entry} {B = List Entry} (λ l. l ++ more) b.1 ∙ append_assoc front b.0 more)

abbrev entry_by : ℕ → Ask → Answer → Chosen → Entry
entry_by seat asked answer chosen = record { seat = seat; ask = asked; answer = answer; choice = chosen }

abbrev whole : {R : Type 0} → History R → List Entry → WholeRun R
whole h earlier = record { book = h; earlier = earlier }

module _ {R : Type 0} (m : Machine) where
  -- the entries lead from m to a machine for which the core stands, and of which P holds
  abbrev pub IsAfter : (Machine → Type 0) → Kept R → List Entry → Type 0
  IsAfter P core entries = (n : Machine) × Run m entries n × StandsIn core n × IsWellFormed n × IsUpToDate n × P n

  -- ---- One step of the core

  told : (P Q : Machine → Type 0) (e : Event R) (asked : Ask) → ask_of e ≡ Some asked
      → (seat : ℕ) (h k : Kept R) (entries : List Entry) (reply : Reply R) (chosen : Chosen) → IsStep h e reply chosen k
      → Leads P Q asked reply chosen → IsAfter P h entries
      → IsAfter Q k (entries ++ option_to_list (seated seat (ask_of e) (answer_in reply) chosen))
  told P Q e asked is seat h k entries (Answered answer resource) chosen s leads a =
      let x = s.entry a.0 a.2 in
      let entry = entry_by seat asked answer chosen in
      let enters : EntersLegally a.0 (Some asked) (Some answer) chosen x.0 = subst (λ q. EntersLegally a.0 q (Some answer) chosen x.0) is
      x.1 in
      let legal : IsLegal a.0 entry = legality_looks_at_no_seat a.0 (entry_of asked answer chosen) seat enters.0 in
      let applied : x.0 ≡ apply a.0 entry = enters.1 in
      subst (λ q. IsAfter Q k (entries ++ option_to_list (seated seat q (Some answer) chosen))) (sym is) (
        x.0,
        subst (Run m (entries ++ entry ∷ [])) (sym applied) (run_snoc m a.0 entries entry a.1 legal),
        x.2,
        subst IsWellFormed (sym applied) (legal_kept a.0 entry a.3 legal),
        subst IsUpToDate (sym applied) (seen_stays_up_to_date.1 a.0 entry),
        subst Q (sym applied) (leads a.0 answer resource refl a.3 a.5 enters.0),
      )
  told P Q e asked is seat h k entries (Marked progress) chosen s leads a =
      let x = s.entry a.0 a.2 in
      absurd (subst (λ q. EntersLegally a.0 q None chosen x.0) is x.1)

  -- an end that the core turns away leaves the machine
  turned_by : (P Q : Machine → Type 0) (e : Event R) (asked : Ask) → ask_of e ≡ Some asked → is_end asked ≡ true
      → (h k : Kept R) (entries : List Entry) (answer : Answer) (resource : Option R) (chosen : Chosen)
      → IsStep h e (Answered answer resource) chosen k → (by : Refusal) → answer ≡ Refused by
      → Leads P Q asked (Answered answer resource) chosen → IsAfter P h entries → IsAfter Q k entries
  turned_by P Q e asked is end h k entries answer resource chosen s by was leads a =
      let x = s.entry a.0 a.2 in
      let enters : EntersLegally a.0 (Some asked) (Some answer) chosen x.0 = subst (λ q. EntersLegally a.0 q (Some answer) chosen x.0) is
      x.1 in
      let same : apply a.0 (entry_of asked answer chosen) ≡ a.0 =
      refused_leaves a.0 asked answer chosen by was (end_chooses a.0 asked answer chosen end enters.0) a.4 in
      (a.0, a.1, subst (StandsIn k) (enters.1 ∙ same) x.2, a.3, a.4, subst Q same (leads a.0 answer resource refl a.3 a.5 enters.0))

  turned : (P Q : Machine → Type 0) (e : Event R) (asked : Ask) → ask_of e ≡ Some asked → is_end asked ≡ true
      → (h k : Kept R) (entries : List Entry) (reply : Reply R) (chosen : Chosen) → IsStep h e reply chosen k
      → (by : Refusal) → answer_in reply ≡ Some (Refused by) → Leads P Q asked reply chosen → IsAfter P h entries → IsAfter Q k entries
  turned P Q e asked is end h k entries (Answered answer resource) chosen s by was leads a =
      turned_by P Q e asked is end h k entries answer resource chosen s by (some_same answer (Refused by) was) leads a
  turned P Q e asked is end h k entries (Marked progress) chosen s by was leads a = no_some (Refused by) was

  -- ---- A cut

  -- the core before and after it
  gave_up : (P : Machine → Type 0) → StaysClosed P → (seat : ℕ) (h k : Kept R) (entries : List Entry) (open_then : Bool)
      → h.machine.cycle_open ≡ open_then → GivesUp open_then h k → IsAfter P h entries
      → IsAfter P k (entries ++ cond open_then (entry_by seat ask.Abandon (Truth true) no_choice ∷ []) [])
  gave_up P closed seat h k entries true was g a =
      let x = g.1.entry a.0 a.2 in
      let none = (abandon_answers a.0 (Truth true) g.0 (λ e. cc e) x.1.0).1 in
      let s : IsStep h (event.Ask ask.Abandon) (Answered (Truth true) None) no_choice k =
      subst (λ c. IsStep h (event.Ask ask.Abandon) (Answered (Truth true) None) c k) none g.1 in
      told P P (event.Ask ask.Abandon) ask.Abandon refl seat h k entries (Answered (Truth true) None) no_choice s
      (λ n answer resource is w p l.
      let said : Truth true ≡ answer = cc is in
      subst (λ l. P (apply n (entry_of ask.Abandon l no_choice))) said (closed n _ p)) a
  gave_up P closed seat h k entries false was g a =
      subst (λ l. IsAfter P k l) (sym (append-nil entries)) (subst (λ c. IsAfter P c entries) (sym g) a)

  cut_leaves : (P : Machine → Type 0) → StaysClosed P → (seat : ℕ) (h ready : History R) (entries : List Entry) → Cuts h ready
      → IsAfter P h.core entries
      → IsAfter P ready.core (entries ++ given_up seat h.core.machine)
  cut_leaves P closed seat h ready entries c a = gave_up P closed seat h.core ready.core entries h.core.machine.cycle_open refl c.gives_up a

  -- ---- A step of the book

  -- the entries since opening begin so
  module _ (front : List Entry) where
    -- it is the book that is told as a whole
    pub record IsWhole (P : Machine → Type 0) (h : History R) (x : WholeRun R) : Type 0 where
      pub is : x.book ≡ h
      pub numbered : length x.earlier ≡ h.base
      pub begins : Begins front (x.earlier ++ h.entries)
      pub after : IsAfter P h.core (x.earlier ++ h.entries)

    -- an event and its reply lead to Q
    abbrev pub Follows : (Machine → Type 0) → ℕ → Event R → Reply R → History R → WholeRun R → Type 0
    Follows Q seat e reply k x = (y : WholeRun R) × WholeSteps seat x e reply y × IsWhole Q k y

    -- the trace goes on
    goes_on : (Q : Machine → Type 0) (seat : ℕ) (e : Event R) (reply : Reply R) (h k : History R) (earlier more : List Entry)
        → BookSteps seat h e reply k → k.base ≡ h.base → k.entries ≡ h.entries ++ more
        → length earlier ≡ h.base → Begins front (earlier ++ h.entries) → IsAfter Q k.core ((earlier ++ h.entries) ++ more)
        → Follows Q seat e reply k (whole h earlier)
    goes_on Q seat e reply h k earlier more steps base adds numbered begins after =
        let all : earlier ++ k.entries ≡ (earlier ++ h.entries) ++ more = ap {A = List Entry} {B = List Entry} (λ l. earlier ++ l) adds
        ∙ sym (append_assoc earlier h.entries more) in
        let kept : earlier ++ cond (nat_lt h.base k.base) (h.entries ++ given_up seat h.core.machine) [] ≡ earlier =
        ap {A = List Entry} {B = List Entry} (λ l. earlier ++ l) (stayed h.base k.base _ base) ∙ append-nil earlier in (
          whole k earlier,
          record { book = steps; earlier = sym kept },
          record {
            is = refl;
            numbered = numbered ∙ sym base;
            begins = begins_more front (earlier ++ h.entries) more (earlier ++ k.entries) all begins;
            after = subst (IsAfter Q k.core) (sym all) after;
          },
        )

    -- the trace begins anew
    anew : (Q : Machine → Type 0) (seat : ℕ) (e : Event R) (reply : Reply R) (h k : History R) (earlier more : List Entry)
        → BookSteps seat h e reply k
        → k.base ≡ h.base + length h.entries + cond h.core.machine.cycle_open 1 0 → k.entries ≡ more
        → length earlier ≡ h.base → Begins front (earlier ++ h.entries)
        → IsAfter Q k.core (((earlier ++ h.entries) ++ given_up seat h.core.machine) ++ more)
        → Follows Q seat e reply k (whole h earlier)
    anew Q seat e reply h k earlier more steps base adds numbered begins after =
        let gone = h.entries ++ given_up seat h.core.machine in
        let front_is : (earlier ++ gone) ≡ ((earlier ++ h.entries) ++ given_up seat h.core.machine) =
        sym (append_assoc earlier h.entries (given_up seat h.core.machine)) in
        let all : (earlier ++ gone) ++ k.entries ≡ ((earlier ++ h.entries) ++ given_up seat h.core.machine) ++ more =
        ap {A = List Entry} {B = List Entry} (λ l. (earlier ++ gone) ++ l) adds
        ∙ ap {A = List Entry} {B = List Entry} (λ l. l ++ more) front_is in
        let parts = length-append h.entries (given_up seat h.core.machine) in
        let one = given_up_length seat h.core.machine in
        let more_earlier = length-append earlier gone in
        let is : k.base ≡ h.base + length gone = omega (arith, base, parts, one) in (
          whole k (earlier ++ gone),
          record { book = steps; earlier = ap {A = List Entry} {B = List Entry} (λ l. earlier ++ l) (sym (rose h.base k.base gone is)) },
          record {
            is = refl;
            numbered = omega (arith, more_earlier, numbered, is);
            begins = begins_more front (earlier ++ h.entries) (given_up seat h.core.machine ++ more) ((earlier ++ gone) ++ k.entries)
                (all ∙ append_assoc (earlier ++ h.entries) (given_up seat h.core.machine) more) begins;
            after = subst (IsAfter Q k.core) (sym all) after;
          },
        )

    ready_or_cut : (h ready : History R) → Readies h ready → (ready ≡ h) ⊎ Cuts h ready
    ready_or_cut h ready = elim (nat_lt (length h.entries)
        h.limits.trace) as (λ b. elim b as (λ _. Type 0) [ true ↦ ready ≡ h | false ↦ Cuts h ready ] → (ready ≡ h) ⊎ Cuts h ready) [
          | true ↦ λ same. inl same
          | false ↦ λ cut. inr cut
        ]

    module _ (P Q : Machine → Type 0) (e : Event R) (asked : Ask) (is : ask_of e ≡ Some asked) (seat : ℕ) (h k : History R)
        (earlier : List Entry) (reply : Reply R) (steps : BookSteps seat h e reply k)
        (numbered : length earlier ≡ h.base) (begins : Begins front (earlier ++ h.entries))
        (after : IsAfter P h.core (earlier ++ h.entries)) (leads : LeadsOn P Q e asked reply) where
      entered : rules.Enters seat h e reply k → Follows Q seat e reply k (whole h earlier)
      entered x =
          goes_on Q seat e reply h k earlier (option_to_list (seated seat (ask_of e) (answer_in reply) x.chosen)) steps
          (ap {A = History R} {B = ℕ} (λ b. b.base) x.adds) (ap {A = History R} {B = List Entry} (λ b. b.entries) x.adds) numbered begins
          (told P Q e asked is seat h.core k.core (earlier ++ h.entries) reply x.chosen x.step (leads h.core k.core x.chosen x.step) after)

      entered_anew : StaysClosed P → (ready : History R) → Cuts h ready → rules.Enters seat ready e reply k
          → Follows Q seat e reply k (whole h earlier)
      entered_anew closed ready c x =
          let more = option_to_list (seated seat (ask_of e) (answer_in reply) x.chosen) in
          anew Q seat e reply h k earlier more steps
          (ap {A = History R} {B = ℕ} (λ b. b.base) x.adds ∙ c.base)
          (ap {A = History R} {B = List Entry} (λ b. b.entries) x.adds ∙ ap {A = List Entry} {B = List Entry} (λ l. l ++ more) c.entries)
          numbered begins
          (told P Q e asked is seat ready.core k.core ((earlier ++ h.entries) ++ given_up seat h.core.machine) reply x.chosen x.step
          (leads ready.core k.core x.chosen x.step)
          (cut_leaves P closed seat h ready (earlier ++ h.entries) c after))

      stayed_same : (IsAfter P h.core (earlier ++ h.entries) → IsAfter Q k.core (earlier ++ h.entries)) → k.base ≡ h.base
          → k.entries ≡ h.entries → Follows Q seat e reply k (whole h earlier)
      stayed_same f base entries =
          goes_on Q seat e reply h k earlier [] steps base (entries ∙ sym (append-nil h.entries)) numbered begins
          (subst (IsAfter Q k.core) (sym (append-nil (earlier ++ h.entries))) (f after))

      refused_by_itself : Declines h e reply k → (by : Refusal) (resource : Option R) → reply ≡ Answered (Refused by) resource
          → LeadsNowhere P Q h k reply → Follows Q seat e reply k (whole h earlier)
      refused_by_itself d by resource said nowhere =
          let core : k.core ≡ h.core = ap {A = History R} {B = Kept R} (λ b. b.core) d.same in
          stayed_same (λ a. subst (λ c. IsAfter Q c (earlier ++ h.entries)) (sym core)
          (a.0, a.1, a.2, a.3, a.4, nowhere a.0 by resource d.same said a.5))
          (ap {A = History R} {B = ℕ} (λ b. b.base) d.same) (ap {A = History R} {B = List Entry} (λ b. b.entries) d.same)

      declined : Declines h e reply k → LeadsNowhere P Q h k reply → Follows Q seat e reply k (whole h earlier)
      declined d nowhere = elim (d.why) [
        | inl w ↦ refused_by_itself d NoMemory _ w.1 nowhere
        | inr w ↦ refused_by_itself d Exhausted _ w.1 nowhere
      ]

      -- an ask that is no end
      asked_there : is_end asked ≡ false → StaysClosed P → LeadsNowhere P Q h k reply → Follows Q seat e reply k (whole h earlier)
      asked_there end closed nowhere =
          let by : AsksBy seat h e reply k = subst (λ b.
          elim b as (λ _. Type 0) [ true ↦ EndsBy seat h e reply k | false ↦ AsksBy seat h e reply k ]) end
          (subst (λ o. StepsBy seat o h e reply k) is steps) in
          elim by [
            | inl x ↦ elim (ready_or_cut h x.ready x.readies) [
              | inl same ↦ entered (subst (λ r. rules.Enters seat r e reply k) same x.enters)
              | inr cut ↦ entered_anew closed x.ready cut x.enters
            ]
            | inr d ↦ declined d nowhere
          ]

      -- an end
      ended_there : is_end asked ≡ true → Follows Q seat e reply k (whole h earlier)
      ended_there end =
          let by : EndsBy seat h e reply k = subst (λ b.
          elim b as (λ _. Type 0) [ true ↦ EndsBy seat h e reply k | false ↦ AsksBy seat h e reply k ]) end
          (subst (λ o. StepsBy seat o h e reply k) is steps) in
          elim by [
            | inl x ↦ entered x.0
            | inr t ↦ stayed_same (turned P Q e asked is end h.core k.core (earlier ++ h.entries) reply t.steps.0 t.steps.1 t.by t.refused
                (leads h.core k.core t.steps.0 t.steps.1))
                (ap {A = History R} {B = ℕ} (λ b. b.base) t.stays) (ap {A = History R} {B = List Entry} (λ b. b.entries) t.stays)
          ]

    -- ---- Of any whole

    pub recorded : (P Q : Machine → Type 0) (e : Event R) (asked : Ask) → ask_of e ≡ Some asked → is_end asked ≡ false → StaysClosed P
        → (seat : ℕ) (h k : History R) (x : WholeRun R) (reply : Reply R) → BookSteps seat h e reply k
        → LeadsOn P Q e asked reply → LeadsNowhere P Q h k reply → IsWhole P h x → Follows Q seat e reply k x
    recorded P Q e asked is end closed seat h k x reply steps leads nowhere w =
        subst (λ b. Follows Q seat e reply k (whole b x.earlier)) (sym w.is)
        (asked_there P Q e asked is seat h k x.earlier reply steps w.numbered w.begins w.after leads end closed nowhere)

    pub end_recorded : (P Q : Machine → Type 0) (e : Event R) (asked : Ask) → ask_of e ≡ Some asked → is_end asked ≡ true
        → (seat : ℕ) (h k : History R) (x : WholeRun R) (reply : Reply R) → BookSteps seat h e reply k
        → LeadsOn P Q e asked reply → IsWhole P h x → Follows Q seat e reply k x
    end_recorded P Q e asked is end seat h k x reply steps leads w =
        subst (λ b. Follows Q seat e reply k (whole b x.earlier)) (sym w.is)
        (ended_there P Q e asked is seat h k x.earlier reply steps w.numbered w.begins w.after leads end)
