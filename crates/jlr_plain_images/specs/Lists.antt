-- The test of the pending list and the cleaner's line.
use Rattle.std.specs.Prelude.{Bool, true, false, not, ◌&&◌, ◌||◌, length}
use Rattle.std.specs.List.{list_all}
use Rattle.jlr_machine.specs.declared.object.Object.{Object}
use Rattle.jlr_machine.specs.declared.object.Object.TheVariants.{Reference, Cleanable}
use Rattle.jlr_machine.specs.declared.object.RefState.{RefState}
use Rattle.jlr_machine.specs.declared.object.RefState.TheVariants.{Fresh, Pending, Queued, Removed}
use Rattle.jlr_machine.specs.declared.object.CleanState.{CleanState}
use Rattle.jlr_machine.specs.declared.object.CleanState.TheVariants.{Armed, Pending as PendingClean, Lined, Spent}
use Rattle.jlr_machine.specs.declared.machine.Machine.{Machine}
use Rattle.jlr_machine.specs.Objects.{at, some_and, ◌∋◌, is_distinct, is_fresh, is_lined, is_spent}
use Rattle.jlr_plain_images.specs.Places.{each_number}

-- the states in which an object waits for the handler
abbrev pub is_pending : RefState → Bool
is_pending Pending = true
is_pending Fresh = false
is_pending Queued = false
is_pending Removed = false

abbrev pub is_pending_clean : CleanState → Bool
is_pending_clean PendingClean = true
is_pending_clean Armed = false
is_pending_clean Lined = false
is_pending_clean Spent = false

-- an object that has to be in the pending list, and one that may be
abbrev pub must_pend : Object → Bool
must_pend (Reference r) = is_pending r.state
must_pend (Cleanable c) = is_pending_clean c.state
must_pend _ = false

abbrev pub may_pend : Object → Bool
may_pend (Reference r) = not (is_fresh r.state)
may_pend (Cleanable c) = is_pending_clean c.state || is_spent c.state
may_pend _ = false

-- an object that has to be in the line, and one that may be
abbrev pub must_line_up : Object → Bool
must_line_up (Cleanable c) = is_lined c.state
must_line_up _ = false

abbrev pub may_line_up : Object → Bool
may_line_up (Cleanable c) = is_lined c.state || is_spent c.state
may_line_up _ = false

-- each object that has to be in the pending list is there
abbrev pub all_pend : Machine → Bool
all_pend m = each_number (length m.objects) (λ s. not (some_and must_pend (at m.objects s)) || (m.pending ∋ s))

-- each object that has to be in the line is there
abbrev pub all_line_up : Machine → Bool
all_line_up m = each_number (length m.objects) (λ s. not (some_and must_line_up (at m.objects s)) || (m.line ∋ s))

-- nothing else is pending
abbrev pub pending_may_pend : Machine → Bool
pending_may_pend m = list_all (λ s. some_and may_pend (at m.objects s)) m.pending

-- nothing else is in the line
abbrev pub line_may_line_up : Machine → Bool
line_may_line_up m = list_all (λ s. some_and may_line_up (at m.objects s)) m.line

-- both lists hold what they have to, once each, and only what they may
abbrev pub lists_fit : Machine → Bool
lists_fit m = is_distinct m.pending && is_distinct m.line && all_pend m && pending_may_pend m && all_line_up m
    && line_may_line_up m
