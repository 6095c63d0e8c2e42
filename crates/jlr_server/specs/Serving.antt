-- What a server did: sessions at the seats of one hall, and the loops beside them, in one history.
use Rattle.std.specs.Prelude.{◌≡◌, ◌<◌, ◌≤◌, ◌+◌, ◌⊎◌, ℕ, Bool, true, List, [], ◌∷◌, ◌++◌, Option, Some, None}
use Rattle.std.specs.Prelude.{length, map, slice_get}
use Rattle.std.specs.List.{All, sum_by}
use Rattle.std.specs.Option.{option_to_list}
use Rattle.std.specs.Io.KnownBytes.{Appends, Consumes}
use Rattle.jlr_types.specs.declared.Fault.{Fault}
use Rattle.jlr_types.specs.declared.limits.Limits.{Limits}
use Rattle.jlr_device.specs.Handling.{Handling}
use Rattle.jlr_session.specs.Calls.{Opening}
use Rattle.jlr_session.specs.Limits.{FindsEnd, most_bytes}
use Rattle.jlr_session.specs.Serving.{Serves}
use Rattle.jlr_session.specs.declared.shell.SessionEnd.{SessionEnd}
use Rattle.jlr_log.specs.Seeing.{Seen, seen}
use Rattle.jlr_hall.specs.declared.step.Step.{Step}
use Rattle.jlr_hall.specs.Closing.{Closes}
use Rattle.jlr_hall.specs.Loops.{AsksOnly, CleansIn, IsHandlers, IsMarkers}
use Rattle.jlr_hall.specs.Ports.{by_seat}
use Rattle.jlr_book.specs.Histories.{History}
use Rattle.jlr_listener.specs.Giving.{Giving}
use Rattle.jlr_listener.specs.declared.acceptor.AcceptId.{AcceptId}

-- What was done at a seat: the seat as it was left, the device of its sessions, if it is one of sessions, before the
-- first and behind the last of them, how many sessions were served there, and how many accepts gave none.
pub record Work (D R : Type 0) : Type 0 where
  pub seat : Seen (Step R)
  pub first : Option D
  pub last : Option D
  pub sessions : ℕ
  pub missed : ℕ

-- the accept of this number at a seat
abbrev pub accept_at : {R : Type 0} → Seen (Step R) → ℕ → AcceptId
accept_at p number = record { seat = p.seat; number = number }

-- an accept led to a session, which left the seat and its device so, or to none
abbrev pub served : {X : Type 0} → Option X → ℕ
served (Some left) = 1
served None = 0

abbrev pub unserved : {X : Type 0} → Option X → ℕ
unserved (Some left) = 0
unserved None = 1

module _ {D R : Type 0} where
  abbrev pub seat_in : Work D R → Seen (Step R)
  seat_in w = w.seat

  -- the clients that were waited for: those that were served, and those that did not come
  abbrev pub accepts_of : Work D R → ℕ
  accepts_of w = w.sessions + w.missed

  abbrev pub next_of : Work D R → AcceptId
  next_of w = accept_at w.seat (accepts_of w)

  -- nothing was asked at the seat yet
  abbrev pub IsUnasked : Work D R → Type 0
  IsUnasked w = w.seat ≡ seen w.seat.seat []

  -- it is the same seat, and began with the same device
  abbrev pub Stays : Work D R → Work D R → Type 0
  Stays old new = (new.seat.seat ≡ old.seat.seat) × (new.first ≡ old.first)

  -- each seat began with the device of its number in this list, and those behind its end with none
  abbrev pub BeginWith : List D → List (Work D R) → Type 0
  BeginWith devices works = All (λ w. w.first ≡ slice_get devices w.seat.seat) works

  -- the devices of the seats, each as the last session there left it
  abbrev pub devices_left : List (Work D R) → List D
  devices_left [] = []
  devices_left (w ∷ works) = option_to_list w.last ++ devices_left works

module _ {D R : Type 0} (limits : Limits) (device : Opening D R) (attends : D → D → Type 0)
    (handling : Handling R) where
  -- a device is told which client it attends, or that it attends none; or it is left as it was
  abbrev pub Attends : D → D → Type 0
  Attends old new = (new ≡ old) ⊎ attends old new

  module _ {A I O : Type 0} (giving : Giving A I O) (remaining : I → Option (List ℕ))
      (contents : O → Option (List ℕ)) where
    -- A session at a seat, with the client that an acceptor gave at this accept, and takes back as the session left it:
    -- what it sent is carried out by asks of the seat, each a step of the one history, with the files and sockets of
    -- the seat's device, and it gets the replies. The device may be told of the client before, and that nobody is there
    -- behind it.
    abbrev pub IsSession : AcceptId → Seen (Step R) × D → Seen (Step R) × D → Type 0
    IsSession id old new =
        (acceptor : A) × (input : I) × (output : O) × giving.gives acceptor id input output
        × (input' : I) × (output' : O) × giving.takes acceptor id input' output'
        × (bytes : List ℕ) × (out : List ℕ)
        × Consumes (remaining input) (remaining input') bytes × Appends (contents output) (contents output') out
        × (length bytes ≤ most_bytes)
        × (before : D) × (after : D) × Attends old.1 before × Attends after new.1 × (end : SessionEnd)
        × Serves (by_seat limits) device handling (FindsEnd (remaining input') bytes) end bytes old.0 before out new.0
        after

    -- nobody came at this accept
    abbrev pub IsMiss : AcceptId → Type 0
    IsMiss id = (acceptor : A) × (fault : Fault) × giving.fails acceptor id fault

    -- accepts one after the other, the first of them of this number, at a seat with its device, which nothing else uses
    abbrev pub Accepts : ℕ → Seen (Step R) × D → List (Option (Seen (Step R) × D)) → Seen (Step R) × D → Type 0
    Accepts number old [] new = new ≡ old
    Accepts number old (Some left ∷ later) new = IsSession (accept_at old.0 number) old left
        × Accepts (number + 1) left later new
    Accepts number old (None ∷ later) new = IsMiss (accept_at old.0 number) × Accepts (number + 1) old later new

    -- A seat asked nothing but what sessions ask, since the hall was opened, and its device did nothing else: so many,
    -- and so many accepts gave nobody.
    pub record ServesClients (w : Work D R) : Type 0 where
      pub before : D
      pub after : D
      pub begins : w.first ≡ Some before
      pub ends : w.last ≡ Some after
      pub accepts : List (Option (Seen (Step R) × D))
      pub in_order : Accepts 0 (seen w.seat.seat [], before) accepts (w.seat, after)
      pub sessions : w.sessions ≡ sum_by served accepts
      pub missed : w.missed ≡ sum_by unserved accepts

    -- the seats of sessions serve, the three others are the marker's, the handler's and the cleaner's
    pub record IsWork (w : Work D R) : Type 0 where
      pub sessions : w.seat.seat < limits.sessions → ServesClients w
      pub marker : w.seat.seat ≡ limits.sessions
          → AsksOnly limits (IsMarkers limits limits.budget) (seen w.seat.seat []) w.seat
      pub handler : w.seat.seat ≡ limits.sessions + 1 → AsksOnly limits (IsHandlers limits) (seen w.seat.seat []) w.seat
      pub cleaner : w.seat.seat ≡ limits.sessions + 2 → CleansIn handling limits (seen w.seat.seat []) None w.seat
      pub only_sessions : limits.sessions ≤ w.seat.seat → accepts_of w ≡ 0

    abbrev pub AllWork : List (Work D R) → Type 0
    AllWork [] = Unit {0}
    AllWork (w ∷ works) = IsWork w × AllWork works

    -- One history, a run of the machine that keeps the promises of the package, ends with this book's trace. It has of
    -- each seat just what that seat did, and each accept is a session or one that gave no client. Each session's seat
    -- uses the device of its number in a list, and uses it for its sessions alone; then it is given back. There were as
    -- many accepts as were to be, or fewer where the server was asked to end.
    pub record IsServed (devices : List D) (left : List D) (total : ℕ) (asked : Bool) (accepts : ℕ) (missed : ℕ)
        (book : History R) : Type 0 where
      pub works : List (Work D R)
      pub all : AllWork works
      pub began : BeginWith devices works
      pub given_back : left ≡ devices_left works
      pub one_each : length works ≡ limits.sessions + 3
      pub closes : Closes limits (map seat_in works) book
      pub accepted : accepts ≡ sum_by accepts_of works
      pub failed : missed ≡ sum_by (λ w. w.missed) works
      pub as_many : (accepts ≡ total) ⊎ ((asked ≡ true) × (accepts < total))
