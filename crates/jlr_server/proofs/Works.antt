-- What is done at a seat, one session more.
use Rattle.std.proofs.Common.{◌≡◌, ◌⊎◌, ◌<◌, ◌+◌, ℕ, List, [], ◌∷◌, ◌++◌, Option, Some, None, Result, Ok, Err, length}
use Rattle.std.proofs.Common.{refl, sym, ap, ◌∙◌, subst, inl, inr, arith, append_assoc}
use Rattle.std.proofs.lemmas.List.{append-nil}
use Rattle.std.specs.Option.{option_to_list}
use Rattle.std.specs.List.{sum_by}
use Rattle.std.specs.Prelude.{IfOk, IsSome}
use Rattle.std.proofs.lemmas.List.Sums.{sum_by-append, sum_by-cons}
use Rattle.std.proofs.lemmas.Bool.{true≢false}
use Rattle.jlr_types.specs.declared.limits.Limits.{Limits}
use Rattle.jlr_device.specs.Handling.{Handling}
use Rattle.jlr_event.specs.declared.event.Event.{Event}
use Rattle.jlr_event.specs.declared.event.Reply.{Reply}
use Rattle.jlr_session.specs.Calls.{Opening}
use Rattle.jlr_log.specs.Seeing.{Seen, seen}
use Rattle.jlr_hall.specs.declared.step.Step.{Step}
use Rattle.jlr_hall.specs.Loops.{AsksOnly, AsksInTurn, CleansIn, IsCleaners, IsHandlers, IsMarkers}
use Rattle.jlr_hall.proofs.Turns.{same_seat, asks_none, cleans_none}
use Rattle.jlr_listener.specs.Giving.{Giving}
use Rattle.jlr_listener.specs.declared.acceptor.AcceptId.{AcceptId}
use Rattle.jlr_server.specs.Serving.{Accepts, AllWork, IsMiss, IsSession, IsWork, ServesClients, Work, accept_at, devices_left}
use Rattle.jlr_server.specs.Serving.{served, unserved}

pub or_then : {A B C : Type 0} → A ⊎ B → (B → C) → A ⊎ C
or_then (inl a) f = inl a
or_then (inr b) f = inr (f b)

-- what is due of a result where it is one
pub ok_then : {T E : Type 0} {Q : T → Type 0} (r : Result T E) → ((x : T) → r ≡ Ok x → Q x) → IfOk r Q
ok_then (Ok x) needs = needs x refl
ok_then (Err e) needs = tt

abbrev the_or : {X : Type 0} → X → Option X → X
the_or x None = x
the_or x (Some y) = y

pub served_or_not : {X : Type 0} (xs : List (Option X)) → sum_by served xs + sum_by unserved xs ≡ length xs
served_or_not [] = refl
served_or_not (Some x ∷ xs) = omega (arith, sum_by-cons served (Some x) xs, sum_by-cons unserved (Some x) xs, served_or_not xs)
served_or_not {X = X} (None ∷ xs) =
    let nobody : Option X = None in
    omega (arith, sum_by-cons served nobody xs, sum_by-cons unserved nobody xs, served_or_not xs)

pub sum_more : {X : Type 0} (f : X → ℕ) (xs : List X) (x : X) → sum_by f (xs ++ x ∷ []) ≡ sum_by f xs + f x
sum_more f xs x = omega (arith, sum_by-append f xs (x ∷ []))

-- ---- Their devices

pub left_more : {D R : Type 0} (works : List (Work D R)) (w : Work D R)
    → devices_left (works ++ w ∷ []) ≡ devices_left works ++ option_to_list w.last
left_more [] w = append-nil (option_to_list w.last)
left_more (x ∷ works) w = ap (λ l. option_to_list x.last ++ l) (left_more works w)
    ∙ sym (append_assoc (option_to_list x.last) (devices_left works) (option_to_list w.last))

-- ---- What is done at a seat

abbrev pub work : {D R : Type 0} → Seen (Step R) → Option D → Option D → ℕ → ℕ → Work D R
work p first last sessions missed = record { seat = p; first = first; last = last; sessions = sessions; missed = missed }

module _ {R : Type 0} (limits : Limits) where
  -- asks leave a seat the one that it is
  pub chain_stays : (may : List (Step R) → Event R → Type 0) (p : Seen (Step R)) (asks : List (Event R × Reply R)) (q : Seen (Step R))
      → AsksInTurn limits may p asks q → q.seat ≡ p.seat
  chain_stays may p [] q c = ap (λ (x : Seen (Step R)). x.seat) c
  chain_stays may p (x ∷ asks) q c = chain_stays may c.0 asks q c.3 ∙ same_seat limits p c.0 x.0 x.1 c.1

  module _ {D : Type 0} (device : Opening D R) (attends : D → D → Type 0) (handling : Handling R) where
    module _ {A I O : Type 0} (giving : Giving A I O) (remaining : I → Option (List ℕ)) (contents : O → Option (List ℕ)) where
      -- a seat, and its device
      abbrev Manned : Type 0
      Manned = Seen (Step R) × D

      abbrev AcceptsHere : ℕ → Manned → List (Option Manned) → Manned → Type 0
      AcceptsHere = Accepts limits device attends handling giving remaining contents

      abbrev IsSessionHere : AcceptId → Manned → Manned → Type 0
      IsSessionHere = IsSession limits device attends handling giving remaining contents

      abbrev IsMissHere : AcceptId → Type 0
      IsMissHere = IsMiss limits device attends handling giving remaining contents

      abbrev ServesHere : Work D R → Type 0
      ServesHere = ServesClients limits device attends handling giving remaining contents

      abbrev IsWorkHere : Work D R → Type 0
      IsWorkHere = IsWork limits device attends handling giving remaining contents

      session_more : (n : ℕ) (p : Manned) (xs : List (Option Manned)) (q r : Manned) → AcceptsHere n p xs q
          → IsSessionHere (accept_at q.0 (n + length xs)) q r → AcceptsHere n p (xs ++ Some r ∷ []) r
      session_more n p [] q r s one = (
        subst (λ (x : Manned). IsSessionHere (accept_at x.0 n) x r) s
            (subst (λ (k : ℕ). IsSessionHere (accept_at q.0 k) q r) (omega arith) one),
        refl,
      )
      session_more n p (Some x ∷ xs) q r s one =
          (s.0, session_more (n + 1) x xs q r s.1 (subst (λ (k : ℕ). IsSessionHere (accept_at q.0 k) q r) (omega arith) one))
      session_more n p (None ∷ xs) q r s one =
          (s.0, session_more (n + 1) p xs q r s.1 (subst (λ (k : ℕ). IsSessionHere (accept_at q.0 k) q r) (omega arith) one))

      miss_more : (n : ℕ) (p : Manned) (xs : List (Option Manned)) (q : Manned) → AcceptsHere n p xs q
          → IsMissHere (accept_at q.0 (n + length xs)) → AcceptsHere n p (xs ++ None ∷ []) q
      miss_more n p [] q s one =
          (subst (λ (x : Manned). IsMissHere (accept_at x.0 n)) s (subst (λ (k : ℕ). IsMissHere (accept_at q.0 k)) (omega arith) one), s)
      miss_more n p (Some x ∷ xs) q s one =
          (s.0, miss_more (n + 1) x xs q s.1 (subst (λ (k : ℕ). IsMissHere (accept_at q.0 k)) (omega arith) one))
      miss_more n p (None ∷ xs) q s one =
          (s.0, miss_more (n + 1) p xs q s.1 (subst (λ (k : ℕ). IsMissHere (accept_at q.0 k)) (omega arith) one))

      -- as many accepts as served a client or gave none
      at_end : (w : Work D R) (s : ServesHere w) → w.sessions + w.missed ≡ 0 + length s.accepts
      at_end w s = omega (arith, s.sessions, s.missed, served_or_not s.accepts)

      one_more : (w : Work D R) (q : Seen (Step R)) (d d' : D) → w.last ≡ Some d → q.seat ≡ w.seat.seat → ServesHere w
          → IsSessionHere (accept_at w.seat (w.sessions + w.missed)) (w.seat, d) (q, d')
          → ServesHere (record { seat = q; first = w.first; last = Some d'; sessions = w.sessions + 1; missed = w.missed })
      one_more w q d d' ends same s one =
          let at : s.after ≡ d = ap (the_or d) (sym s.ends ∙ ends) in
          let chain = subst (λ (x : D). AcceptsHere 0 (seen w.seat.seat [], s.before) s.accepts (w.seat, x)) at s.in_order in
          let here = subst (λ (k : ℕ). IsSessionHere (accept_at w.seat k) (w.seat, d) (q, d')) (at_end w s) one in
          record {
            before = s.before;
            after = d';
            begins = s.begins;
            ends = refl;
            accepts = s.accepts ++ Some (q, d') ∷ [];
            in_order = subst (λ (n : ℕ). AcceptsHere 0 (seen n [], s.before) (s.accepts ++ Some (q, d') ∷ []) (q, d')) (sym same)
                (session_more 0 (seen w.seat.seat [], s.before) s.accepts (w.seat, d) (q, d') chain here);
            sessions = omega (arith, sum_more served s.accepts (Some (q, d')), s.sessions);
            missed = omega (arith, sum_more unserved s.accepts (Some (q, d')), s.missed);
          }

      one_less : (w : Work D R) → ServesHere w → IsMissHere (accept_at w.seat (w.sessions + w.missed))
          → ServesHere (record w { missed = w.missed + 1 })
      one_less w s one =
          let here = subst (λ (k : ℕ). IsMissHere (accept_at w.seat k)) (at_end w s) one in
          record {
            before = s.before;
            after = s.after;
            begins = s.begins;
            ends = s.ends;
            accepts = s.accepts ++ None ∷ [];
            in_order = miss_more 0 (seen w.seat.seat [], s.before) s.accepts (w.seat, s.after) s.in_order here;
            sessions = omega (arith, sum_more served s.accepts None, s.sessions);
            missed = omega (arith, sum_more unserved s.accepts None, s.missed);
          }

      pub all_more : (works : List (Work D R)) (w : Work D R) → AllWork limits device attends handling giving remaining contents works
          → IsWorkHere w → AllWork limits device attends handling giving remaining contents (works ++ w ∷ [])
      all_more [] w all is = (is, tt)
      all_more (x ∷ works) w all is = (all.0, all_more works w all.1 is)

      -- ---- One seat

      serves_none : (p : Seen (Step R)) (d : Option D) → p ≡ seen p.seat [] → IsSome d → ServesHere (work p d d 0 0)
      serves_none p None fresh some = absurd (true≢false (sym some))
      serves_none p (Some d) fresh some = record {
        before = d;
        after = d;
        begins = refl;
        ends = refl;
        accepts = [];
        in_order = ap (λ (x : Seen (Step R)). (x, d)) fresh;
        sessions = refl;
        missed = refl;
      }

      -- nothing was done there
      pub no_work : (p : Seen (Step R)) (d : Option D) → p ≡ seen p.seat [] → (p.seat < limits.sessions → IsSome d)
          → IsWorkHere (work p d d 0 0)
      no_work p d fresh some = record {
        sessions = λ is. serves_none p d fresh (some is);
        marker = λ is. subst (λ (x : Seen (Step R)). AsksOnly limits (IsMarkers limits limits.budget) x p) fresh
            (asks_none limits (IsMarkers limits limits.budget) p);
        handler = λ is. subst (λ (x : Seen (Step R)). AsksOnly limits (IsHandlers limits) x p) fresh
            (asks_none limits (IsHandlers limits) p);
        cleaner = λ is. subst (λ (x : Seen (Step R)). CleansIn handling limits x None p) fresh (cleans_none handling limits p);
        only_sessions = λ is. refl;
      }

      -- a session more, at a session's seat
      pub one_session : (w : Work D R) (q : Seen (Step R)) (d d' : D) → w.last ≡ Some d → w.seat.seat < limits.sessions
          → q.seat ≡ w.seat.seat → IsWorkHere w
          → IsSessionHere (accept_at w.seat (w.sessions + w.missed)) (w.seat, d) (q, d')
          → IsWorkHere (work q w.first (Some d') (w.sessions + 1) w.missed)
      one_session w q d d' ends at same is one = record {
        sessions = λ below. one_more w q d d' ends same (is.sessions at) one;
        marker = λ there. absurd (omega (arith, at, same, there));
        handler = λ there. absurd (omega (arith, at, same, there));
        cleaner = λ there. absurd (omega (arith, at, same, there));
        only_sessions = λ above. absurd (omega (arith, at, same, above));
      }

      -- an accept more that gave nobody, at a session's seat
      pub one_missed : (w : Work D R) → w.seat.seat < limits.sessions → IsWorkHere w
          → IsMissHere (accept_at w.seat (w.sessions + w.missed)) → IsWorkHere (record w { missed = w.missed + 1 })
      one_missed w at is one = record {
        sessions = λ below. one_less w (is.sessions at) one;
        marker = is.marker;
        handler = is.handler;
        cleaner = is.cleaner;
        only_sessions = λ above. absurd (omega (arith, at, above));
      }

      -- what the loops did
      pub marked : (p q : Seen (Step R)) (first last : Option D) → p ≡ seen limits.sessions []
          → AsksOnly limits (IsMarkers limits limits.budget) p q → IsWorkHere (work q first last 0 0)
      marked p q first last fresh did =
          let at : q.seat ≡ limits.sessions = chain_stays (IsMarkers limits limits.budget) p did.0 q did.1
          ∙ ap (λ (x : Seen (Step R)). x.seat) fresh in
          let from = subst (λ (x : Seen (Step R)). AsksOnly limits (IsMarkers limits limits.budget) x q) fresh did in
          record {
            sessions = λ is. absurd (omega (arith, at, is));
            marker = λ is. subst (λ (n : ℕ). AsksOnly limits (IsMarkers limits limits.budget) (seen n []) q) (sym at) from;
            handler = λ is. absurd (omega (arith, at, is));
            cleaner = λ is. absurd (omega (arith, at, is));
            only_sessions = λ is. refl;
          }

      pub handed_over : (p q : Seen (Step R)) (first last : Option D) → p ≡ seen (limits.sessions + 1) []
          → AsksOnly limits (IsHandlers limits) p q → IsWorkHere (work q first last 0 0)
      handed_over p q first last fresh did =
          let at : q.seat ≡ limits.sessions + 1 = chain_stays (IsHandlers limits) p did.0 q did.1
          ∙ ap (λ (x : Seen (Step R)). x.seat) fresh in
          let from = subst (λ (x : Seen (Step R)). AsksOnly limits (IsHandlers limits) x q) fresh did in
          record {
            sessions = λ is. absurd (omega (arith, at, is));
            marker = λ is. absurd (omega (arith, at, is));
            handler = λ is. subst (λ (n : ℕ). AsksOnly limits (IsHandlers limits) (seen n []) q) (sym at) from;
            cleaner = λ is. absurd (omega (arith, at, is));
            only_sessions = λ is. refl;
          }

      pub cleaned : (p q : Seen (Step R)) (first last : Option D) → p ≡ seen (limits.sessions + 2) [] → CleansIn handling limits p None q
          → IsWorkHere (work q first last 0 0)
      cleaned p q first last fresh did =
          let at : q.seat ≡ limits.sessions + 2 = chain_stays (IsCleaners limits) p did.0 q did.1
          ∙ ap (λ (x : Seen (Step R)). x.seat) fresh in
          let from = subst (λ (x : Seen (Step R)). CleansIn handling limits x None q) fresh did in
          record {
            sessions = λ is. absurd (omega (arith, at, is));
            marker = λ is. absurd (omega (arith, at, is));
            handler = λ is. absurd (omega (arith, at, is));
            cleaner = λ is. subst (λ (n : ℕ). CleansIn handling limits (seen n []) None q) (sym at) from;
            only_sessions = λ is. refl;
          }

-- the loop's seat, from its number and that nothing was asked there
pub fresh_there : {R : Type 0} (p : Seen (Step R)) (n : ℕ) → p ≡ seen p.seat [] → p.seat ≡ n → p ≡ seen n []
fresh_there p n fresh is = fresh ∙ ap (λ (k : ℕ). seen k []) is
