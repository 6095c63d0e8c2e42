use Rattle.std.proofs.Common.{◌≡◌, ◌-◌, length}
use Rattle.std.specs.Prelude.{map, option_map}
use Rattle.jlr_trace_fields.specs.Items.{items_at}
use Rattle.jlr_trace_fields.proofs.Loop.{with_front}
use Rattle.std.specs.List.{AllByRecursion}
use Rattle.jlr_trace_entries.specs.Images.{session_text, session_read, HasPlaces}
use Rattle.jlr_trace_entries.proofs.image.sessions_at.Given as goal

abbrev pub invariant-loop : goal.invariant-loop
invariant-loop l = record {
  read : with_front (map (option_map session_text) l.sessions.items) (items_at session_read (l.count - l.counter) l.bytes.now)
      ≡ items_at session_read l.count l.fn.bytes.now;
  sized : length l.sessions.items ≡ l.counter;
  places : AllByRecursion HasPlaces l.sessions.items;
}
