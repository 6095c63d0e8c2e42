-- A session over a book is a session of which the history is told: the join and the leave are answered ok.
use Rattle.std.proofs.Common.{◌≡◌, ◌⊎◌, inl, inr, ℕ, zero, suc, ◌≤◌, Bool, true, false, cond, nat_lt, List, [], ◌∷◌, ◌++◌, Option, None}
use Rattle.std.proofs.Common.{Some, replicate, length, refl, sym, ◌∙◌, ap, subst, arith, append-nil, append_assoc}
use Rattle.std.proofs.lemmas.Bool.{lt-ltb}
use Rattle.jlr_types.specs.declared.Refusal.{Refusal}
use Rattle.jlr_types.specs.declared.Refusal.TheVariants.{NoMemory}
use Rattle.jlr_types.specs.declared.limits.Limits.{Limits}
use Rattle.jlr_machine.specs.declared.machine.Machine.{Machine}
use Rattle.jlr_machine.specs.declared.machine.Session.{Session}
use Rattle.jlr_machine.specs.declared.ask.Ask.{Ask}
use Rattle.jlr_machine.specs.declared.ask.Ask.TheVariants as ask
use Rattle.jlr_machine.specs.declared.ask.Answer.{Answer}
use Rattle.jlr_machine.specs.declared.ask.Answer.TheVariants.{Done, Refused, Truth}
use Rattle.jlr_machine.specs.Chosen.{Chosen}
use Rattle.jlr_machine.specs.declared.entry.Entry.{Entry}
use Rattle.jlr_machine.specs.Refusals.{refusal}
use Rattle.jlr_machine.specs.Run.{Run, empty, no_choice}
use Rattle.jlr_machine.specs.WellFormed.{IsWellFormed}
use Rattle.jlr_laws.proofs.Empty.{empty_is_well_formed}
use Rattle.jlr_histories.proofs.Promises.{runs_keep_the_promises}
use Rattle.jlr_event.specs.declared.event.Event.{Event}
use Rattle.jlr_event.specs.declared.event.Event.TheVariants.{Ask as Asks}
use Rattle.jlr_event.specs.declared.event.Reply.{Reply}
use Rattle.jlr_event.specs.declared.event.Reply.TheVariants.{Answered}
use Rattle.jlr_event.specs.Events.{answer_in, resource_of_event, resource_of_reply, said_by}
use Rattle.jlr_book.specs.Cores.{GoesOut, Kept, IsStep}
use Rattle.jlr_book.proofs.Cores.{limits_hold, stands_at_start}
use Rattle.jlr_device.specs.Handling.{Handling}
use Rattle.jlr_session.specs.Calls.{Opening}
use Rattle.jlr_session.specs.Serving.{Follows, IsTurnedAway, Serves}
use Rattle.jlr_session.specs.declared.shell.SessionEnd.{SessionEnd}
use Rattle.jlr_book.specs.Histories.{History, IsNewBook}
use Rattle.jlr_book.specs.Rules.{BookSteps, Cuts, Readies}
use Rattle.jlr_prog.specs.Settling.{Helpers, Turns, HandsOver, Works, CleansUp, Settles}
use Rattle.jlr_prog.specs.Solos.{at_book, by_book}
use Rattle.jlr_prog.specs.Wholes.{WholeRun, WholeSteps, at_whole, by_whole, given_up, since_opening}
use Rattle.jlr_prog.specs.Histories.{FromJoinToLeave, IsWholeSession}
use Rattle.jlr_prog.proofs.Calls.{IsHere, joins, leaves}
use Rattle.jlr_prog.proofs.Recorded.{IsWhole, recorded, end_recorded, stayed}
use Rattle.jlr_prog.proofs.Recorded as rec
use Rattle.jlr_prog.proofs.Following.{lines_along}

-- ---- Replies

-- ok, and no file or socket goes out with it
abbrev answered_ok : {R : Type 0} → Reply R
answered_ok = Answered Done None

-- with ok goes nothing
only_ok : {R : Type 0} (h k : Kept R) (event : Event R) (reply : Reply R) (answer : Answer) (resource : Option R) (chosen : Chosen)
    → IsStep h event reply chosen k → reply ≡ Answered answer resource → answer ≡ Done
    → reply ≡ answered_ok
only_ok {R} h k event reply answer resource chosen s is done =
    let ok : reply ≡ Answered Done resource = is ∙ ap {A = Answer} {B = Reply R} (λ a. Answered a resource) done in
    let goes : resource ≡ None =
    subst (λ (q : Reply R). GoesOut h.table (resource_of_event event) (answer_in q) (resource_of_reply q)) ok s.goes_out in
    ok ∙ ap {A = Option R} {B = Reply R} (λ r. Answered Done r) goes

-- ---- Nothing to settle

-- where the list is empty there is no turn
no_turns : {H : Type 0} (turn : H → H → Type 0) (states : List H) (old new : H) → ((next : H) → turn old next → ⊥)
    → Turns turn states old new → new ≡ old
no_turns turn [] old new never same = same
no_turns turn (next ∷ later) old new never t = absurd (never next t.0)

module _ {H R : Type 0} (helpers : Helpers H R) (resource : Handling R) where
  nothing_cleaned : (old new : H) → helpers.line old ≡ [] → CleansUp helpers resource old new → new ≡ old
  nothing_cleaned old new line (inl u) = no_turns (Works helpers resource) u.states old new (λ next t. t.0 line) u.turns
  nothing_cleaned old new line (inr u) =
      let same = no_turns (Works helpers resource) u.states old u.before (λ next t. t.0 line) u.turns in
      absurd (u.something_left (subst (λ h. helpers.line h ≡ []) (sym same) line))

  -- nothing is pending, and the line is empty
  at_rest : (old new : H) → helpers.pending old ≡ [] → helpers.line old ≡ [] → Settles helpers resource old new → new ≡ old
  at_rest old new pending line (inl u) =
      let same : u.0 ≡ old = no_turns (HandsOver helpers) u.1.states old u.0 (λ next t. t.0 pending) u.1.turns in
      nothing_cleaned u.0 new (subst (λ h. helpers.line h ≡ []) (sym same) line) u.2 ∙ same
  at_rest old new pending line (inr u) =
      let same = no_turns (HandsOver helpers) u.states old u.before (λ next t. t.0 pending) u.turns in
      absurd (u.something_left (subst (λ h. helpers.pending h ≡ []) (sym same) pending))

  rests : (here : H) → helpers.pending here ≡ [] → helpers.line here ≡ [] → Settles helpers resource here here
  rests here pending line =
      inl (
        here,
        record { states = []; turns = refl; nothing_left = pending },
        inl (record { states = []; turns = refl; nothing_left = line }),
      )

-- ---- The join

may_join : (cells sessions resources : ℕ) → 1 ≤ sessions → refusal (empty cells sessions resources) (ask.Join 0) ≡ None
may_join cells zero resources one = absurd (omega (arith, one))
may_join cells (suc n) resources one = rw (lt-ltb 0 (suc (length (replicate {A = Option Session} n None))) (omega arith)) refl

-- either it is answered ok, or the book declines it and stays as it is
abbrev Joins : {R : Type 0} → History R → History R → Reply R → Machine → Type 0
Joins {R} h k reply n = ((reply ≡ answered_ok) × IsHere n)
    ⊎ ((k ≡ h) × (by : Refusal) × (resource : Option R) × (reply ≡ Answered (Refused by) resource))

module _ {R : Type 0} (m : Machine) where
  joined : (h k : History R) (reply : Reply R) (x : WholeRun R) → BookSteps 0 h (Asks (ask.Join 0)) reply k
      → IsWhole m [] (λ n. refusal n (ask.Join 0) ≡ None) h x → rec.Follows m [] (Joins h k reply) 0 (Asks (ask.Join 0)) reply k x
  joined h k reply x steps w =
      recorded m [] (λ n. refusal n (ask.Join 0) ≡ None) (Joins h k reply) (Asks (ask.Join 0)) (ask.Join 0) refl refl (λ n seen free. free)
      0 h k x reply steps
      (λ core core' chosen s n answer resource is well free l.
      let memory : answer ≡ Refused NoMemory → ⊥ = λ e. s.memory (ap answer_in is ∙ ap (λ a. Some a) e) in
      let j = joins n answer chosen free memory l in
      inl (only_ok core core' (Asks (ask.Join 0)) reply answer resource chosen s is j.0, j.1))
      (λ n by resource same said free. inr (same, by, resource, said)) w

  -- the leave of a mutator that is there
  left : (front : List Entry) (h k : History R) (reply : Reply R) (x : WholeRun R) → BookSteps 0 h (Asks (ask.Leave 0)) reply k
      → IsWhole m front IsHere h x → rec.Follows m front (λ n. reply ≡ answered_ok) 0 (Asks (ask.Leave 0)) reply k x
  left front h k reply x steps w =
      end_recorded m front IsHere (λ n. reply ≡ answered_ok) (Asks (ask.Leave 0)) (ask.Leave 0) refl refl 0 h k x reply steps
      (λ core core' chosen s n answer resource is well here l. only_ok core core' (Asks (ask.Leave 0)) reply answer resource chosen s is
      (leaves n answer chosen here l)) w

-- ---- The first entry, and the last

abbrev ok_entry : Ask → Chosen → Entry
ok_entry asked chosen = record { seat = 0; ask = asked; answer = Done; choice = chosen }

no_refusal : {R P : Type 0} (by : Refusal) (resource : Option R) → ◌≡◌ {A = Reply R} answered_ok (Answered (Refused by) resource) → P
no_refusal by resource e = cc e

not_ok : {P : Type 0} (by : Refusal) → ◌≡◌ {A = Option Answer} (Some Done) (Some (Refused by)) → P
not_ok by e = cc e

ready_is_empty : {R : Type 0} (h ready : History R) → h.entries ≡ [] → Readies h ready → ready.entries ≡ []
ready_is_empty {R} h ready none = elim (nat_lt (length h.entries)
    h.limits.trace) as (λ b. elim b as (λ _. Type 0) [ true ↦ ready ≡ h | false ↦ Cuts h ready ] → ready.entries ≡ []) [
      | true ↦ λ same. ap {A = History R} {B = List Entry} (λ b. b.entries) same ∙ none
      | false ↦ λ c. c.entries
    ]

nothing_let_go : {A : Type 0} (b : Bool) → cond {A = List A} b [] [] ≡ []
nothing_let_go true = refl
nothing_let_go false = refl

-- where nothing was recorded, and no cycle is open
join_is_first : {R : Type 0} (x y : WholeRun R) → x.earlier ≡ [] → x.book.entries ≡ [] → x.book.core.machine.cycle_open ≡ false
    → WholeSteps 0 x (Asks (ask.Join 0)) answered_ok y
    → (chosen : Chosen) × (since_opening y ≡ ok_entry (ask.Join 0) chosen ∷ [])
join_is_first {R} x y before trace shut steps = elim (steps.book) [
  | inl s ↦
      let chosen = s.enters.chosen in
      let added : y.book.entries ≡ ok_entry (ask.Join 0) chosen ∷ [] =
      ap {A = History R} {B = List Entry} (λ b. b.entries) s.enters.adds
      ∙ ap {A = List Entry} {B = List Entry} (λ l. l ++ ok_entry (ask.Join 0) chosen ∷ [])
      (ready_is_empty x.book s.ready trace s.readies) in
      let gone : x.book.entries ++ given_up 0 x.book.core.machine ≡ [] =
      ap {A = List Entry} {B = List Entry} (λ l. l ++ given_up 0 x.book.core.machine) trace
      ∙ ap {A = Bool} {B = List Entry}
      (λ b. cond b (record { seat = 0; ask = ask.Abandon; answer = Truth true; choice = no_choice } ∷ []) []) shut in
      let still : y.earlier ≡ [] =
      steps.earlier ∙ ap {A = List Entry} {B = List Entry}
      (λ l. l ++ cond (nat_lt x.book.base y.book.base) (x.book.entries ++ given_up 0 x.book.core.machine) []) before
      ∙ ap {A = List Entry} {B = List Entry} (λ l. cond (nat_lt x.book.base y.book.base) l []) gone
      ∙ nothing_let_go (nat_lt x.book.base y.book.base) in
      (chosen, ap {A = List Entry} {B = List Entry} (λ l. l ++ y.book.entries) still ∙ added)
  | inr d ↦ elim (d.why) [
    | inl w ↦ no_refusal _ _ w.1
    | inr w ↦ no_refusal _ _ w.1
  ]
]

leave_is_last : {R : Type 0} (x y : WholeRun R) → WholeSteps 0 x (Asks (ask.Leave 0)) answered_ok y → (chosen : Chosen)
    × (since_opening y ≡ since_opening x ++ ok_entry (ask.Leave 0) chosen ∷ [])
leave_is_last {R} x y steps = elim (steps.book) [
  | inl s ↦
      let chosen = s.0.chosen in
      let added : y.book.entries ≡ x.book.entries ++ ok_entry (ask.Leave 0) chosen ∷ [] =
      ap {A = History R} {B = List Entry} (λ b. b.entries) s.0.adds in
      let base : y.book.base ≡ x.book.base = ap {A = History R} {B = ℕ} (λ b. b.base) s.0.adds in
      let still : y.earlier ≡ x.earlier =
      steps.earlier ∙ ap {A = List Entry} {B = List Entry} (λ l. x.earlier ++ l)
      (stayed x.book.base y.book.base (x.book.entries ++ given_up 0 x.book.core.machine) base) ∙ append-nil x.earlier in (
        chosen,
        ap {A = List Entry} {B = List Entry} (λ l. l ++ y.book.entries) still
            ∙ ap {A = List Entry} {B = List Entry} (λ l. x.earlier ++ l) added
            ∙ sym (append_assoc x.earlier x.book.entries (ok_entry (ask.Leave 0) chosen ∷ [])),
      )
  | inr t ↦ not_ok t.by t.refused
]

-- ---- The whole session

none_in : (entries : List Entry) → length entries ≡ 0 → entries ≡ []
none_in [] e = refl
none_in (x ∷ entries) e = absurd (omega (arith, e))

module _ {D R : Type 0} (device : Opening D R) (resource : Handling R) (limits : Limits) (start over : History R) (at_end : Type 0)
    (end : SessionEnd) (bytes : List ℕ) (d : D) (out : List ℕ) (d' : D) (begins : IsNewBook limits start) where
  abbrev nothing_yet : Machine
  nothing_yet = empty limits.cells limits.sessions limits.resources

  abbrev whole_at_start : WholeRun R
  whole_at_start = record { book = start; earlier = [] }

  formed : IsWellFormed nothing_yet
  formed = let fit = limits_hold limits in empty_is_well_formed limits.cells limits.sessions limits.resources fit.0 fit.2

  starts : IsWhole nothing_yet [] (λ n. refusal n (ask.Join 0) ≡ None) start whole_at_start
  starts =
      let fit = limits_hold limits in
      let machine : start.core.machine ≡ nothing_yet = begins.core.machine in
      let free = may_join limits.cells limits.sessions limits.resources fit.1 in
      record {
        is = refl;
        numbered = sym begins.base;
        begins = (start.entries, refl);
        after = subst (rec.IsAfter nothing_yet (λ n. refusal n (ask.Join 0) ≡ None) start.core) (sym begins.entries)
            (nothing_yet, refl, stands_at_start start.core limits.cells limits.sessions limits.resources machine, formed, refl, free);
      }

  -- the book of a whole
  since_is : (h : History R) (x : WholeRun R) → x.book ≡ h → since_opening x ≡ x.earlier ++ h.entries
  since_is h x is = ap {A = History R} {B = List Entry} (λ b. x.earlier ++ b.entries) is

  keeps : (P : Machine → Type 0) (front : List Entry) (x : WholeRun R) (w : IsWhole nothing_yet front P over x)
      → Serves (by_whole resource) device resource at_end end bytes whole_at_start d out x d' → FromJoinToLeave (since_opening x)
      → IsWholeSession device resource limits at_end end bytes d out d' over
  keeps P front x w serves entries =
      let run = subst (λ l. Run nothing_yet l w.after.0) (sym (since_is over x w.is)) w.after.1 in
      record {
        start = whole_at_start;
        over = x;
        last = w.after.0;
        begins = begins;
        none_before = refl;
        is = w.is;
        numbered = w.numbered;
        serves = serves;
        entries = entries;
        run = run;
        stands = w.after.2;
        promises = runs_keep_the_promises nothing_yet w.after.0 (since_opening x) formed run;
      }

  -- the join was answered ok
  served : (now : History R) (y : WholeRun R) → WholeSteps 0 whole_at_start (Asks (ask.Join 0)) answered_ok y
      → IsWhole nothing_yet [] IsHere now y → Follows (by_book resource) device resource Done at_end end bytes now d out over d'
      → IsWholeSession device resource limits at_end end bytes d out d' over
  served now y steps w follows =
      let shut : start.core.machine.cycle_open ≡ false = ap {A = Machine} {B = Bool} (λ n. n.cycle_open) begins.core.machine in
      let one = join_is_first whole_at_start y refl begins.entries shut steps in
      let front = ok_entry (ask.Join 0) one.0 ∷ [] in
      let here : IsWhole nothing_yet front IsHere now y =
      record { is = w.is; numbered = w.numbered; begins = ([], sym (since_is now y w.is) ∙ one.1); after = w.after } in
      let t = lines_along nothing_yet front device resource at_end end bytes now follows.0 d d' out y follows.2 here in
      let l = left nothing_yet front follows.0 over follows.1 t.0 follows.3 t.2 in
      let end_is = leave_is_last t.0 l.0 (subst (λ q. WholeSteps 0 t.0 (Asks (ask.Leave 0)) q l.0) l.2.after.5 l.1) in
      let all : since_opening l.0 ≡ ok_entry (ask.Join 0) one.0 ∷ (t.2.begins.0 ++ ok_entry (ask.Leave 0) end_is.0 ∷ []) =
      end_is.1 ∙ ap {A = List Entry} {B = List Entry} (λ l. l ++ ok_entry (ask.Leave 0) end_is.0 ∷ [])
      (since_is follows.0 t.0 t.2.is ∙ t.2.begins.1) in
      keeps (λ n. follows.1 ≡ answered_ok) front l.0 l.2 (answered_ok, y, steps, (t.0, follows.1, t.1, l.1))
      (inl (ok_entry (ask.Join 0) one.0, t.2.begins.0, ok_entry (ask.Leave 0) end_is.0, all, (refl, refl, refl), (refl, refl, refl)))

  -- the book declined the join
  turned_away : (by : Refusal) (now : History R) (y : WholeRun R) → y.book ≡ now → now ≡ start
      → IsTurnedAway (by_book resource) by end now out over → (over ≡ now) × IsTurnedAway (by_whole resource) by end y out y
  turned_away by now y is same t =
      let at_start : y.book ≡ start = is ∙ same in
      let pending : now.core.machine.pending ≡ [] = ap {A = History R} {B = List ℕ} (λ b. b.core.machine.pending) same
      ∙ ap {A = Machine} {B = List ℕ} (λ n. n.pending) begins.core.machine in
      let line : now.core.machine.line ≡ [] = ap {A = History R} {B = List ℕ} (λ b. b.core.machine.line) same
      ∙ ap {A = Machine} {B = List ℕ} (λ n. n.line) begins.core.machine in
      let pending' : y.book.core.machine.pending ≡ [] = ap {A = History R} {B = List ℕ} (λ b. b.core.machine.pending) is ∙ pending in
      let line' : y.book.core.machine.line ≡ [] = ap {A = History R} {B = List ℕ} (λ b. b.core.machine.line) is ∙ line in
      elim t [
        | inl s ↦ (at_rest at_book resource now over pending line s.2, inl (s.0, s.1, rests at_whole resource y pending' line'))
        | inr f ↦ (f.3, inr (f.0, f.1, f.2, refl))
      ]

  declined : (by : Refusal) (back : Option R) (now : History R) (y : WholeRun R)
      → WholeSteps 0 whole_at_start (Asks (ask.Join 0)) (Answered (Refused by) back) y → y.book ≡ now → length y.earlier ≡ now.base
      → now ≡ start
      → Follows (by_book resource) device resource (Refused by) at_end end bytes now d out over d'
      → IsWholeSession device resource limits at_end end bytes d out d' over
  declined by back now y steps is numbered same follows =
      let t = turned_away by now y is same follows.0 in
      let before : y.earlier ≡ [] = none_in y.earlier (numbered ∙ ap {A = History R} {B = ℕ} (λ b. b.base) same ∙ begins.base) in
      let trace : y.book.entries ≡ [] = ap {A = History R} {B = List Entry} (λ b. b.entries) (is ∙ same) ∙ begins.entries in
      let none : since_opening y ≡ [] = ap {A = List Entry} {B = List Entry} (λ l. l ++ y.book.entries) before ∙ trace in
      let is_over : y.book ≡ over = is ∙ sym t.0 in
      let over_is : over ≡ start = t.0 ∙ same in
      let here : y.earlier ++ over.entries ≡ [] = sym (since_is over y is_over) ∙ none in
      let w : IsWhole nothing_yet [] (λ n. Unit {0}) over y =
      record {
        is = is_over;
        numbered = numbered ∙ ap {A = History R} {B = ℕ} (λ b. b.base) (sym t.0);
        begins = (y.earlier ++ over.entries, refl);
        after = subst (rec.IsAfter nothing_yet (λ n. Unit {0}) over.core) (sym here) (
          nothing_yet,
          refl,
          stands_at_start over.core limits.cells limits.sessions limits.resources
              (ap {A = History R} {B = Machine} (λ b. b.core.machine) over_is ∙ begins.core.machine),
          formed,
          refl,
          tt,
        );
      } in
      keeps (λ n. Unit {0}) [] y w (Answered (Refused by) back, y, steps, (t.1, follows.1, follows.2)) (inr none)

  tells : Serves (by_book resource) device resource at_end end bytes start d out over d'
      → IsWholeSession device resource limits at_end end bytes d out d' over
  tells serves =
      let j = joined nothing_yet start serves.1 serves.0 whole_at_start serves.2 starts in
      elim (j.2.after.5) [
        | inl ok ↦
            let a = j.2.after in
            served serves.1 j.0 (subst (λ q. WholeSteps 0 whole_at_start (Asks (ask.Join 0)) q j.0) ok.0 j.1)
            (record { is = j.2.is; numbered = j.2.numbered; begins = j.2.begins; after = (a.0, a.1, a.2, a.3, a.4, ok.1) })
            (subst (λ q. Follows (by_book resource) device resource (said_by q) at_end end bytes serves.1 d out over d') ok.0 serves.3)
        | inr x ↦
            declined x.1 x.2 serves.1 j.0 (subst (λ q. WholeSteps 0 whole_at_start (Asks (ask.Join 0)) q j.0) x.3 j.1) j.2.is j.2.numbered
            x.0
            (subst (λ q. Follows (by_book resource) device resource (said_by q) at_end end bytes serves.1 d out over d') x.3 serves.3)
      ]

  -- of the book that is given back
  pub is_session : Serves (by_book resource) device resource at_end end bytes start d out over d' → (book : History R) → book ≡ over
      → IsWholeSession device resource limits at_end end bytes d out d' book
  is_session serves book same = subst (λ b. IsWholeSession device resource limits at_end end bytes d out d' b) (sym same) (tells serves)
