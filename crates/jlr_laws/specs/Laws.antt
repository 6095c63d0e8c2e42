-- Statements of the laws of the machine. Each is the contract of a function of its own, with an empty body.
use Rattle.std.specs.Prelude.{◌≡◌, ◌≢◌, ℕ, ◌+◌, ◌<◌, ◌≤◌, ◌⊎◌, ◌↔◌, false, cond, not, map, is_some, IsTrue, List, Some}
use Rattle.std.specs.Prelude.{None, option_and_then, option_map, length, suc, Bool, [], ◌∷◌}
use Rattle.std.specs.List.{Contains}
use Rattle.jlr_types.specs.declared.RefKind.{RefKind}
use Rattle.jlr_types.specs.declared.RefKind.TheVariants.{Soft, Weak, Phantom}
use Rattle.jlr_machine.specs.declared.object.Object.{Object}
use Rattle.jlr_types.specs.declared.Refusal.{Refusal}
use Rattle.jlr_types.specs.declared.Refusal.TheVariants.{NoMemory, HeapFull, NoHandle, HandlesFull, WrongKind, NoField}
use Rattle.jlr_types.specs.declared.Refusal.TheVariants.{WrongType, Null, NoName, NamesFull, Busy, Closed, NoSession}
use Rattle.jlr_types.specs.declared.Refusal.TheVariants.{Exhausted, Malformed, TooLong, NotOut, WouldWait}
use Rattle.jlr_types.specs.declared.Refusal.TheVariants.{ResourcesFull}
use Rattle.jlr_types.specs.declared.Work.TheVariants.{Resource as WorkOn}
use Rattle.jlr_machine.specs.declared.object.Cleanable.{Cleanable as CleanableOf}
use Rattle.jlr_machine.specs.declared.object.CleanState.TheVariants.{Armed}
use Rattle.jlr_machine.specs.declared.machine.ResourceState.TheVariants.{Opening, Out}
use Rattle.jlr_machine.specs.declared.machine.Machine.{Machine}
use Rattle.jlr_machine.specs.declared.ask.Ask.{Ask}
use Rattle.jlr_machine.specs.declared.ask.Answer.TheVariants.{Refused}
use Rattle.jlr_machine.specs.declared.entry.Collected.{Collected}
use Rattle.jlr_machine.specs.declared.entry.Entry.{Entry}
use Rattle.jlr_machine.specs.Objects.{Heap, at, ◌∋◌, ◌∈◌, is_distinct, is_rising, any_referent}
use Rattle.jlr_machine.specs.Edges.{Chain, edges_from, referent, roots}
use Rattle.jlr_machine.specs.Reachable.{IsReached, HasStrength, Reaches, chain_below}
use Rattle.jlr_machine.specs.Collection.{is_ready, without_referent, IsCollection, places_left, made_pending}
use Rattle.jlr_machine.specs.Collection.{IsBackground, IsFull, IsFullClearing, after_collection}
use Rattle.jlr_machine.specs.ReachSet.{reach_set}
use Rattle.jlr_machine.specs.Refusals.{listed, is_end}
use Rattle.jlr_machine.specs.Run.{IsLegal, Run, apply, now_seen, empty_from}
use Rattle.jlr_machine.specs.WellFormed.{IsWellFormed, IsCleanableAt, HasResource}
use Rattle.jlr_machine.specs.Edges.Chain.{Strong, UpToSoft, UpToPhantom}

-- ---- Premises that each well-formed machine meets, and each machine of a run

-- what was seen is what it was, with what the roots now reach; nothing outside a cycle
abbrev pub IsUpToDate : Machine → Type 0
IsUpToDate m = m.seen ≡ now_seen m

-- each edge leads to a place of the heap, and the base is of such places
pub record IsWithinHeap (heap : Heap) (B : List ℕ) : Type 0 where
  pub edges : (x s : ℕ) → s ∈ edges_from UpToPhantom heap x → s < length heap
  pub base : (s : ℕ) → s ∈ B → s < length heap

-- ---- The finite set that rounds find is what paths reach

abbrev pub RoundsFindWhatPathsReach : Type 0
RoundsFindWhatPathsReach = (chain : Chain) (heap : Heap) (B : List ℕ) → IsWithinHeap heap B → (s : ℕ)
    → (s ∈ reach_set chain heap B) ↔ IsReached chain heap B s

-- ---- Each clearing of a collection is one that the package specification allows, in its words

abbrev pub RefersByKind : RefKind → Heap → ℕ → ℕ → Type 0
RefersByKind kind heap s x = option_and_then (referent kind) (at heap s) ≡ Some x

abbrev pub IsClearedAt : Heap → Heap → ℕ → Type 0
IsClearedAt old new s = at new s ≡ option_map without_referent (at old s)

-- "to it" below is x, to which some reference that lost its referent referred
pub record ClearsAsSpecified (kind : RefKind) (B : List ℕ) (old new : Heap) : Type 0 where
  -- it is softly, weakly or phantom reachable
  pub found : (s x : ℕ) → RefersByKind kind old s x → ¬ (at new s ≡ at old s) → HasStrength kind old B x
  -- all references of the kind to it are cleared
  pub all : (s x : ℕ) → RefersByKind kind old s x → ¬ (at new s ≡ at old s) → (t : ℕ) → RefersByKind kind old t x
      → IsClearedAt old new t
  -- and all to any other such object from which it is reachable through a chain of stronger edges
  pub chained : (s x : ℕ) → RefersByKind kind old s x → ¬ (at new s ≡ at old s) → (y t : ℕ) → HasStrength kind old B y
      → Reaches (chain_below kind) old y x → RefersByKind kind old t y → IsClearedAt old new t

-- at that time all references of the kind to objects that are so reachable are cleared
abbrev pub ClearsAll : RefKind → List ℕ → Heap → Heap → Type 0
ClearsAll kind B old new = (x t : ℕ) → HasStrength kind old B x → RefersByKind kind old t x → IsClearedAt old new t

pub record AsSpecified (heap : Heap) (B kept pending : List ℕ) (c : IsCollection heap B kept pending) : Type 0 where
  pub soft : ClearsAsSpecified Soft B heap c.soft_left
  pub weak : ClearsAsSpecified Weak B c.soft_left c.weak_left
  pub all_weak : ClearsAll Weak B c.soft_left c.weak_left
  pub phantom : ClearsAsSpecified Phantom B c.weak_left c.phantom_left
  pub all_phantom : ClearsAll Phantom B c.weak_left c.phantom_left

abbrev pub EachClearingIsAsSpecified : Type 0
EachClearingIsAsSpecified = (heap : Heap) (B kept pending : List ℕ) → IsWithinHeap heap B
    → (c : IsCollection heap B kept pending) → AsSpecified heap B kept pending c

-- ---- What `apply` leaves of a collection is what its steps leave

abbrev pub LeavesWhatItsStepsLeave : Type 0
LeavesWhatItsStepsLeave =
    (heap : Heap) (B kept pending : List ℕ) → IsWithinHeap heap B → (c : IsCollection heap B kept pending) → (s : ℕ)
    → at (places_left kept pending 0 heap) s ≡ cond (kept ∋ s)
    (option_map (made_pending (pending ∋ s)) (at c.phantom_left s)) None

-- ---- What a collection comes down to

-- the places, counted from n, with the kept objects alone
abbrev pub places_kept : List ℕ → ℕ → Heap → Heap
places_kept kept n [] = []
places_kept kept n (o ∷ places) = cond (kept ∋ n) o None ∷ places_kept kept (suc n) places

abbrev pub only : List ℕ → Heap → Heap
only kept heap = places_kept kept 0 heap

-- a kept object that is ready and has a referent that is not kept
abbrev pub LosesReferent : Heap → List ℕ → ℕ → Type 0
LosesReferent heap kept s =
    (s ∈ kept)
    × (p : Object × ℕ)
    × (at heap s ≡ Some p.0)
    × IsTrue (is_ready p.0)
    × (any_referent p.0 ≡ Some p.1)
    × ((kept ∋ p.1) ≡ false)

pub record IsCutOff (heap : Heap) (B kept pending : List ℕ) : Type 0 where
  pub holds_base : (s : ℕ) → s ∈ B → s ∈ kept
  pub closed : (x y : ℕ) → x ∈ kept → y ∈ edges_from Strong heap x → y ∈ kept
  -- strong and soft edges reach it through kept objects alone
  pub inside : (s : ℕ) → s ∈ kept → IsReached UpToSoft (only kept heap) B s
  pub pended : (s : ℕ) → (s ∈ pending) ↔ LosesReferent heap kept s
  pub once : IsTrue (is_distinct pending)
  pub rising : IsTrue (is_rising kept)

-- what is kept holds the base, is closed under strong edges and reached by strong and soft ones inside, and those ready
-- that refer out of it are handed over
abbrev pub ComesDownToCuttingOff : Type 0
ComesDownToCuttingOff = (heap : Heap) (B kept pending : List ℕ) → IsWithinHeap heap B → IsCollection heap B kept pending
    ↔ IsCutOff heap B kept pending

-- in a background collection all that is kept is counted as reachable
pub record IsCutOffInBackground (m : Machine) (kept pending : List ℕ) : Type 0 where
  pub seen : (s : ℕ) → s ∈ kept → s ∈ m.seen
  pub objects : (s : ℕ) → s ∈ kept → IsTrue (is_some (at m.objects s))
  pub holds_roots : (s : ℕ) → s ∈ roots m → s ∈ kept
  pub closed : (x y : ℕ) → x ∈ kept → y ∈ edges_from Strong m.objects x → y ∈ kept
  pub pended : (s : ℕ) → (s ∈ pending) ↔ LosesReferent m.objects kept s
  pub once : IsTrue (is_distinct pending)
  pub rising : IsTrue (is_rising kept)

abbrev pub IsSeenWithin : Machine → Type 0
IsSeenWithin m = (s : ℕ) → s ∈ m.seen → s < length m.objects

abbrev pub BackgroundComesDownToCuttingOff : Type 0
BackgroundComesDownToCuttingOff =
    (m : Machine) (kept pending : List ℕ) → IsWithinHeap m.objects (roots m) → IsSeenWithin m
    → IsBackground m kept pending ↔ IsCutOffInBackground m kept pending

-- ---- What a policy of soft references keeps

-- the edges of x that a marker follows: the strong ones, and where x is one of the soft references that are kept, the
-- soft one
abbrev pub followed : (ℕ → Bool) → Heap → ℕ → List ℕ
followed keeps heap x = edges_from (cond (keeps x) UpToSoft Strong) heap x

abbrev pub IsPathFollowed : (ℕ → Bool) → Heap → ℕ → List ℕ → ℕ → Type 0
IsPathFollowed keeps heap x [] y = x ≡ y
IsPathFollowed keeps heap x (z ∷ path) y = (z ∈ followed keeps heap x) × IsPathFollowed keeps heap z path y

-- the least set that holds B and with each member what its followed edges lead to
pub record IsLeastMarking (keeps : ℕ → Bool) (heap : Heap) (B kept : List ℕ) : Type 0 where
  pub holds_base : (s : ℕ) → s ∈ B → s ∈ kept
  pub closed : (x y : ℕ) → x ∈ kept → y ∈ followed keeps heap x → y ∈ kept
  pub least : (s : ℕ) → s ∈ kept → (x : ℕ) × (x ∈ B) × (path : List ℕ) × IsPathFollowed keeps heap x path s

-- and what a full collection that keeps it hands over
pub record IsFullMarking (keeps : ℕ → Bool) (heap : Heap) (B kept pending : List ℕ) : Type 0 where
  pub marked : IsLeastMarking keeps heap B kept
  pub pended : (s : ℕ) → (s ∈ pending) ↔ LosesReferent heap kept s
  pub once : IsTrue (is_distinct pending)
  pub rising : IsTrue (is_rising kept)

-- whatever the policy, that is a full collection; and one that keeps no soft reference is one that clears all
abbrev pub PolicyMakesFull : Type 0
PolicyMakesFull = (m : Machine) (keeps : ℕ → Bool) (kept pending : List ℕ) → IsWithinHeap m.objects (roots m)
    → IsFullMarking keeps m.objects (roots m) kept pending → IsFull m kept pending

abbrev pub KeepingNoneMakesClearing : Type 0
KeepingNoneMakesClearing =
    (m : Machine) (keeps : ℕ → Bool) (kept pending : List ℕ) → IsWithinHeap m.objects (roots m)
    → ((s : ℕ) → keeps s ≡ false) → IsFullMarking keeps m.objects (roots m) kept pending → IsFullClearing m kept pending

-- ---- Before a full heap is answered all soft references to softly reachable objects are cleared

abbrev pub SoftReferencesGoBeforeAFullHeap : Type 0
SoftReferencesGoBeforeAFullHeap =
    (m : Machine) (kept pending : List ℕ) → IsWithinHeap m.objects (roots m) → (c : IsFullClearing m kept pending)
    → ClearsAll Soft (roots m) m.objects c.full.soft_left

-- ---- Refusals

-- where a refusal stands in the one order of checking
abbrev pub rank : Refusal → ℕ
rank Malformed = 1
rank TooLong = 2
rank NoSession = 3
rank NoHandle = 4
rank Null = 5
rank WrongKind = 6
rank NoField = 7
rank WrongType = 8
rank NoName = 9
rank Closed = 10
rank Busy = 11
rank NotOut = 12
rank WouldWait = 13
rank HandlesFull = 14
rank NamesFull = 15
rank ResourcesFull = 16
rank Exhausted = 17
rank HeapFull = 18
rank NoMemory = 19

-- each ask lists its refusals in that order
abbrev pub ListsAreInOrder : Type 0
ListsAreInOrder = (ask : Ask) → IsTrue (is_rising (map rank (listed ask)))

-- a legal entry is refused with a number that its ask lists, or because memory ran out, which no end meets
abbrev pub RefusalsAreListed : Type 0
RefusalsAreListed = (m : Machine) (e : Entry) (by : Refusal) → IsLegal m e → e.answer ≡ Refused by
    → Contains (listed e.ask) by ⊎ ((by ≡ NoMemory) × IsTrue (not (is_end e.ask)))

-- a refused entry changes nothing, whichever the refusal, unless the heap was full
abbrev pub RefusalChangesNothing : Type 0
RefusalChangesNothing = (m : Machine) (e : Entry) (by : Refusal) → IsUpToDate m → IsLegal m e → e.answer ≡ Refused by
    → by ≢ HeapFull → apply m e ≡ m

-- then its collection stands
abbrev pub FullHeapLeavesItsCollection : Type 0
FullHeapLeavesItsCollection = (m : Machine) (e : Entry) → IsLegal m e → e.answer ≡ Refused HeapFull → (c : Collected)
    × IsFullClearing m c.kept c.pending × (apply m e ≡ after_collection m c.kept c.pending)

-- ---- What was seen is up to date in the empty machine and after every entry

abbrev pub SeenStaysUpToDate : Type 0
SeenStaysUpToDate = ((cells sessions resources action : ℕ) → IsUpToDate (empty_from cells sessions resources action))
    × ((m : Machine) (e : Entry) → IsUpToDate (apply m e))

-- ---- Legal entries keep what is well formed

abbrev pub LegalKeepsWellFormed : Type 0
LegalKeepsWellFormed = (m : Machine) (e : Entry) → IsWellFormed m → IsLegal m e → IsWellFormed (apply m e)

abbrev pub RunKeepsWellFormed : Type 0
RunKeepsWellFormed = (m n : Machine) (entries : List Entry) → IsWellFormed m → Run m entries n → IsWellFormed n

-- so each machine that a run from an empty one leads to is well formed
abbrev pub RunsAreWellFormed : Type 0
RunsAreWellFormed = (cells sessions resources next_action : ℕ) (n : Machine) (entries : List Entry) → 1 ≤ next_action
    → cells ≤ 65536 → sessions ≤ 64 → Run (empty_from cells sessions resources next_action) entries n → IsWellFormed n

-- in which what was taken up ended well, failed, or runs
abbrev pub TakenUpIsAccountedFor : Type 0
TakenUpIsAccountedFor = (cells sessions resources next_action : ℕ) (n : Machine) (entries : List Entry)
    → 1 ≤ next_action → cells ≤ 65536 → sessions ≤ 64 → Run (empty_from cells sessions resources next_action) entries n
    → n.taken ≡ n.ok + n.failed + length n.jobs

-- an Armed cleanable with this action and resource
abbrev pub HasArmed : Machine → ℕ → ℕ → Type 0
HasArmed m rid action = (s : ℕ) × (c : CleanableOf) × IsCleanableAt m s c × (c.action ≡ action) × (c.work ≡ WorkOn rid)
    × (c.state ≡ Armed)

-- and a resource in a call has an Armed cleanable
abbrev pub ResourcesInCallsAreArmed : Type 0
ResourcesInCallsAreArmed = (m : Machine) (rid action : ℕ) → IsWellFormed m → HasResource m rid action Opening
    ⊎ HasResource m rid action Out → HasArmed m rid action

-- ---- The seat of an entry says who asked, and nothing of the machine

abbrev pub LegalityLooksAtNoSeat : Type 0
LegalityLooksAtNoSeat = (m : Machine) (e : Entry) (seat : ℕ) → IsLegal m e → IsLegal m (record e { seat = seat })

abbrev pub AnySeatLeavesTheSame : Type 0
AnySeatLeavesTheSame = (m : Machine) (e : Entry) (seat : ℕ) → apply m (record e { seat = seat }) ≡ apply m e
