-- What is kept under the lock of open resources and of an owed cycle is the history's.
use Rattle.std.proofs.Common.{◌≡◌, ◌≢◌, ◌⊎◌, ◌<◌, ◌+◌, ◌-◌, ◌&&◌, ◌||◌, ℕ, Bool, true, false, not, cond, nat_lt, List, [], ◌∷◌, ◌++◌}
use Rattle.std.proofs.Common.{length, Some, None, is_some, inl, inr, refl, sym, ◌∙◌, ap, subst, append_assoc}
use Rattle.std.specs.Prelude.{◌==◌, fold}
use Rattle.std.proofs.lemmas.Bool.{eqb-true, eqb-false}
use Rattle.std.proofs.lemmas.List.{append-nil, get_or-set_same, get_or-set_other, length-set}
use Rattle.std.proofs.lemmas.List.Elements.{All-nil, All-push, All-pop, filter-append}
use Rattle.std.proofs.lemmas.List.Sums.{fold-append}
use Rattle.jlr_types.specs.declared.Refusal.{Refusal}
use Rattle.jlr_types.specs.declared.Refusal.TheVariants.{NoMemory, Exhausted}
use Rattle.jlr_machine.specs.declared.ask.Answer.TheVariants.{Refused, Truth}
use Rattle.jlr_event.specs.declared.event.Event.{Event}
use Rattle.jlr_machine.specs.declared.ask.Ask.TheVariants.{Abandon, Begin, Clean, Close, Full, Leave, Prepare}
use Rattle.jlr_event.specs.declared.event.Event.TheVariants.{Ask as Asks, Opened}
use Rattle.jlr_event.specs.declared.event.Reply.{Reply}
use Rattle.jlr_event.specs.declared.event.Reply.TheVariants.{Answered}
use Rattle.jlr_event.specs.Events.{answer_in, resource_of_event, resource_of_reply}
use Rattle.jlr_log.specs.Views.{own}
use Rattle.jlr_hall.specs.declared.dues.Dues.{Dues}
use Rattle.jlr_hall.specs.declared.step.Step.{Step}
use Rattle.jlr_hall.specs.OneHistory.{is_refused_reply, seat_of, step}
use Rattle.jlr_hall.specs.Asking.{gave_up}
use Rattle.jlr_hall.specs.Due.{IsOwed, count_after, is_collected, is_given_up, is_resources_full, answers_handle, open_at, owes}
use Rattle.jlr_hall.specs.Due.{settles}
use Rattle.jlr_hall.specs.Locking.{Shows, dues_after, count_at, effect_of, owing_where, with_count, without}

-- ---- What a step changes of what is kept

-- the count of the seat is then this, and no other changes; a cycle may be owed by it, or settled
record Moves (seat : ℕ) (d : Dues) (n : ℕ) (owing settled : Bool) (now : Dues) : Type 0 where
  pub long : length now.opened ≡ length d.opened
  pub here : count_at seat now ≡ n
  pub others : (k : ℕ) → k ≢ seat → count_at k now ≡ count_at k d
  pub owed : now.owed ≡ (owing || (not settled && d.owed))

module _ (seat : ℕ) (d : Dues) (sits : seat < length d.opened) where
  stays : Moves seat d (count_at seat d) false false d
  stays = record { long = refl; here = refl; others = λ k ne. refl; owed = refl }

  recounts : (n : ℕ) → Moves seat d n false false (with_count seat n d)
  recounts n = record {
    long = length-set d.opened seat n;
    here = get_or-set_same d.opened seat n 0 sits;
    others = λ k ne. get_or-set_other d.opened seat k n 0 ne;
    owed = refl;
  }

  counts_where : (b : Bool) (n : ℕ) → Moves seat d (cond b n (count_at seat d)) false false (cond b (with_count seat n d) d)
  counts_where true n = recounts n
  counts_where false n = stays

  leaves_where : (b : Bool) → Moves seat d (cond b (count_at seat d) 0) (not b && nat_lt 0 (count_at seat d)) false
      (cond b d (without seat d))
  leaves_where true = stays
  leaves_where false = record {
    long = length-set d.opened seat 0;
    here = get_or-set_same d.opened seat 0 0 sits;
    others = λ k ne. get_or-set_other d.opened seat k 0 0 ne;
    owed = refl;
  }

  owes_where : (b : Bool) → Moves seat d (count_at seat d) b false (owing_where b d)
  owes_where b = record { long = refl; here = refl; others = λ k ne. refl; owed = refl }

  settles_where : (b : Bool) → Moves seat d (count_at seat d) false b (cond b (record d { owed = false }) d)
  settles_where true = record { long = refl; here = refl; others = λ k ne. refl; owed = refl }
  settles_where false = stays

  moves : {R : Type 0} (e : Event R) (reply : Reply R)
      → Moves seat d (count_after (count_at seat d) e reply) (owes (count_at seat d) e reply) (settles e reply)
      (dues_after seat (effect_of e) reply d)
  moves (Asks (Leave k)) reply = leaves_where (is_refused_reply (answer_in reply))
  moves (Opened k outcome) reply = counts_where (answers_handle (answer_in reply)) (count_at seat d + 1)
  moves (Asks (Clean k c)) reply = counts_where (is_some (resource_of_reply reply)) (count_at seat d - 1)
  moves (Asks (Close k h)) reply = counts_where (is_some (resource_of_reply reply)) (count_at seat d - 1)
  moves (Asks (Prepare k)) reply = owes_where (is_resources_full (answer_in reply))
  moves (Asks Abandon) reply = owes_where (is_given_up (answer_in reply))
  moves (Asks Begin) reply = settles_where (is_collected (answer_in reply))
  moves (Asks (Full k mode)) reply = settles_where (is_collected (answer_in reply))
  moves event reply = stays

-- what the book declines changes nothing
unchanged : {R : Type 0} (seat : ℕ) (d : Dues) (by : Refusal) → (by ≡ NoMemory) ⊎ (by ≡ Exhausted) → (e : Event R)
    → dues_after seat (effect_of e) (Answered (Refused by) (resource_of_event e)) d ≡ d
unchanged seat d by (inl is) (Asks (Prepare k)) = ap (λ (x : Refusal). owing_where (is_resources_full (Some (Refused x))) d) is
unchanged seat d by (inr is) (Asks (Prepare k)) = ap (λ (x : Refusal). owing_where (is_resources_full (Some (Refused x))) d) is
unchanged seat d by why e = refl

-- ---- What a step changes of what the history says

no_parts : {A : Type 0} (l : List A) (e : A) (m : List A) → [] ≡ l ++ e ∷ m → ⊥
no_parts [] e m is = cc
no_parts (y ∷ l) e m is = cc

-- a list whose last is x is taken apart before that, or there
last_parts : {A : Type 0} (earlier : List A) (e : A) (later log : List A) (x : A) → log ++ x ∷ [] ≡ earlier ++ e ∷ later
    → ((earlier ≡ log) × (e ≡ x) × (later ≡ [])) ⊎ ((rest : List A) × (later ≡ rest ++ x ∷ []) × (log ≡ earlier ++ e ∷ rest))
last_parts [] e later [] x is = inl (refl, cc, cc)
last_parts [] e later (y ∷ log) x is = inr (log, cc, cc)
last_parts (b ∷ earlier) e later [] x is = absurd (no_parts earlier e later cc)
last_parts (b ∷ earlier) e later (y ∷ log) x is = elim (last_parts earlier e later log x cc) [
  | inl same ↦ inl (cc, same.1, same.2)
  | inr more ↦ inr (more.0, more.1, cc)
]

module _ {R : Type 0} where
  counted_more : (k : ℕ) (log : List (Step R)) (s : Step R)
      → open_at k (log ++ s ∷ []) ≡ cond (s.seat == k) (count_after (open_at k log) s.event s.reply) (open_at k log)
  counted_more k log s =
      let f = λ (n : ℕ) (e : Step R). count_after n e.event e.reply in
      ap (λ (l : List (Step R)). fold f 0 l) (filter-append (λ (e : Step R). e.seat == k) log (s ∷ []))
      ∙ fold-append f 0 (own seat_of k log) (cond (s.seat == k) (s ∷ []) [])
      ∙ one (s.seat == k)
    where
      one : (b : Bool) → fold (λ (n : ℕ) (e : Step R). count_after n e.event e.reply) (open_at k log) (cond b (s ∷ []) []) ≡ cond b
          (count_after (open_at k log) s.event s.reply) (open_at k log)
      one true = refl
      one false = refl

  module _ (log : List (Step R)) (s : Step R) where
    abbrev Owes : Type 0
    Owes = owes (open_at s.seat log) s.event s.reply ≡ true

    abbrev Unsettled : Step R → Type 0
    Unsettled e = settles e.event e.reply ≡ false

    now_owed : Owes → IsOwed (log ++ s ∷ [])
    now_owed is = record { earlier = log; step = s; later = []; parts = refl; owing = is; unsettled = All-nil Unsettled }

    still_owed : IsOwed log → Unsettled s → IsOwed (log ++ s ∷ [])
    still_owed o is = record {
      earlier = o.earlier;
      step = o.step;
      later = o.later ++ s ∷ [];
      parts = ap (λ l. l ++ s ∷ []) o.parts ∙ append_assoc o.earlier (o.step ∷ o.later) (s ∷ []);
      owing = o.owing;
      unsettled = All-push Unsettled o.later s o.unsettled is;
    }

    was_owed : IsOwed (log ++ s ∷ []) → Owes ⊎ (IsOwed log × Unsettled s)
    was_owed o = elim (last_parts o.earlier o.step o.later log s o.parts) [
      | inl x ↦ inl (subst (λ (p : List (Step R) × Step R). owes (open_at (p.1).seat p.0) (p.1).event (p.1).reply ≡ true)
          (λ i. (x.0 i, x.1 i)) o.owing)
      | inr x ↦
          let both = All-pop Unsettled o.later x.0 (Some s) x.1 o.unsettled in
          inr (record { earlier = o.earlier; step = o.step; later = x.0; parts = x.2; owing = o.owing; unsettled = both.0 }, both.1)
    ]

-- ---- They stay the same

either : (o s w : Bool) → (o || (not s && w)) ≡ true → (o ≡ true) ⊎ ((s ≡ false) × (w ≡ true))
either true s w is = inl refl
either false true w is = cc
either false false w is = inr (refl, is)

with_left : (o b : Bool) → o ≡ true → (o || b) ≡ true
with_left o b is = ap (λ x. x || b) is

with_right : (o s w : Bool) → s ≡ false → w ≡ true → (o || (not s && w)) ≡ true
with_right true s w is was = refl
with_right false s w is was = ap (λ x. not x && w) is ∙ was

module _ {R : Type 0} where
  shown_more : (d now : Dues) (log : List (Step R)) (s : Step R) → s.seat < 256 → Shows d log
      → Moves s.seat d (count_after (count_at s.seat d) s.event s.reply) (owes (count_at s.seat d) s.event s.reply)
      (settles s.event s.reply)
      now → Shows now (log ++ s ∷ [])
  shown_more d now log s sits shows m =
      let here = shows.counts s.seat sits in
      record {
        long = m.long ∙ shows.long;
        counts = λ k lt. at k lt (s.seat == k) refl ∙ sym (counted_more k log s);
        owes = (
          λ is. elim (either (owes (count_at s.seat d) s.event s.reply) (settles s.event s.reply) d.owed (sym m.owed ∙ is)) [
            | inl o ↦ now_owed log s (subst (λ (n : ℕ). owes n s.event s.reply ≡ true) here o)
            | inr x ↦ still_owed log s (shows.owes.0 x.1) x.0
          ],
          λ o. m.owed ∙ elim (was_owed log s o) as (λ _.
              (owes (count_at s.seat d) s.event s.reply || (not (settles s.event s.reply) && d.owed)) ≡ true) [
                | inl is ↦ with_left (owes (count_at s.seat d) s.event s.reply) (not (settles s.event s.reply) && d.owed)
                    (subst (λ (n : ℕ). owes n s.event s.reply ≡ true) (sym here) is)
                | inr x ↦ with_right (owes (count_at s.seat d) s.event s.reply) (settles s.event s.reply) d.owed x.1 (shows.owes.1 x.0)
              ],
        );
      }
    where
      at : (k : ℕ) → k < 256 → (b : Bool) → (s.seat == k) ≡ b
          → count_at k now ≡ cond b (count_after (open_at k log) s.event s.reply) (open_at k log)
      at k lt true is =
          let same = eqb-true s.seat k is in
          subst (λ (j : ℕ). count_at j now ≡ count_after (open_at j log) s.event s.reply) same
          (m.here ∙ ap (λ (n : ℕ). count_after n s.event s.reply) (shows.counts s.seat sits))
      at k lt false is = m.others k (λ same. eqb-false s.seat k is (sym same)) ∙ shows.counts k lt

  pub shown_step : (d : Dues) (log : List (Step R)) (seat : ℕ) (e : Event R) (reply : Reply R) (cuts : Bool) → seat < 256 → Shows d log
      → Shows (dues_after seat (effect_of e) reply d) (log ++ step seat e reply cuts ∷ [])
  shown_step d log seat e reply cuts sits shows =
      let there : seat < length d.opened = subst (λ (n : ℕ). seat < n) (sym shows.long) sits in
      shown_more d (dues_after seat (effect_of e) reply d) log (step seat e reply cuts) sits shows (moves seat d there e reply)

  -- after a cut that gave a cycle up
  shown_cut : (d : Dues) (log : List (Step R)) (seat : ℕ) (b : Bool) → seat < 256 → Shows d log
      → Shows (owing_where b d) (log ++ gave_up seat b)
  shown_cut d log seat true sits shows = shown_step d log seat (Asks Abandon) (Answered (Truth true) None) false sits shows
  shown_cut d log seat false sits shows = subst (Shows d) (sym (append-nil log)) shows

  pub shown_now : (d : Dues) (log now : List (Step R)) (seat : ℕ) (e : Event R) (reply : Reply R) (cut b : Bool) → seat < 256
      → now ≡ gave_up seat b ++ step seat e reply cut ∷ [] → Shows d log
      → Shows (dues_after seat (effect_of e) reply (owing_where b d)) (log ++ now)
  shown_now d log now seat e reply cut b sits is shows =
      let there = shown_step (owing_where b d) (log ++ gave_up seat b) seat e reply cut sits (shown_cut d log seat b sits shows) in
      subst (λ (l : List (Step R)). Shows (dues_after seat (effect_of e) reply (owing_where b d)) l)
      (append_assoc log (gave_up seat b) (step seat e reply cut ∷ []) ∙ ap (λ l. log ++ l) (sym is)) there

  pub shown_declined : (d : Dues) (log now : List (Step R)) (seat : ℕ) (e : Event R) (reply : Reply R) (by : Refusal) → now ≡ []
      → (by ≡ NoMemory) ⊎ (by ≡ Exhausted) → reply ≡ Answered (Refused by) (resource_of_event e)
      → Shows d log → Shows (dues_after seat (effect_of e) reply d) (log ++ now)
  shown_declined d log now seat e reply by none why is shows =
      let same = ap (λ (r : Reply R). dues_after seat (effect_of e) r d) is ∙ unchanged seat d by why e in
      subst (λ (x : Dues × List (Step R)). Shows x.0 x.1) (λ i. (sym same i, sym (ap (λ l. log ++ l) none ∙ append-nil log) i)) shows

  -- nothing was asked
  pub shown_none : (d : Dues) → length d.opened ≡ 256 → ((k : ℕ) → k < 256 → count_at k d ≡ 0) → d.owed ≡ false → Shows {R = R} d []
  shown_none d long counts owed = record {
    long = long;
    counts = counts;
    owes = (λ is. absurd (cc (owed, is)), λ o. absurd (no_parts o.earlier o.step o.later o.parts));
  }
