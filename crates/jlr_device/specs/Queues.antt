-- What a queue that may be missing holds.
use Rattle.std.specs.Prelude.{List, [], Option, Some, None}
use Rattle.std.specs.declared.collections.VecDeque.{VecDeque}

abbrev pub items_of : {T A : Type 0} → Option (VecDeque T A) → List T
items_of None = []
items_of (Some queue) = queue.items
