use Rattle.std.proofs.Common.{◌≡◌, ℕ, List, ◌++◌, ap, ◌∙◌}
use Rattle.std.specs.Prelude.{map, option_map}
use Rattle.std.specs.List.{flat_map}
use Rattle.jlr_machine.specs.declared.machine.Machine.{Machine}
use Rattle.jlr_trace_fields.proofs.Writing.{joined, then_written}
use Rattle.jlr_trace_entries.specs.Images.{spelled_head, head_of, spelled_waiting, waiting_of, spelled_records, records_of, spelled_counts}
use Rattle.jlr_trace_entries.specs.Images.{counts_of, session_text, spelled_session}
use Rattle.jlr_trace_entries.specs.Writing.{spelled_objects}
use Rattle.jlr_trace_entries.proofs.WritingLaws.{sessions_are}
use Rattle.jlr_trace_entries.proofs.writing.put_image.Goals as goal

pub returns : goal.returns
returns c =
    let old : List ℕ = c.args.out.now.items in
    let m : Machine = c.args.machine.now in
    let h : List ℕ = spelled_head (head_of m c.args.base) in
    let o : List ℕ = spelled_objects m.objects c.args.strays.now in
    let s : List ℕ = flat_map spelled_session (map (option_map session_text) m.mutators) in
    let w : List ℕ = spelled_waiting (waiting_of m) in
    let r : List ℕ = spelled_records (records_of m) in
    let n : List ℕ = spelled_counts (counts_of m) in
    let two : c.put_objects.new.out.items ≡ old ++ (h ++ o) =
    joined old c.put_head.new.out.items c.put_objects.new.out.items h o c.in_ok-put_head.ensures c.in_ok-put_objects.ensures in
    let behind : c.put_sessions.new.out.items ≡ c.put_objects.new.out.items ++ s =
    c.in_ok-put_sessions.ensures ∙ ap (λ (t : List ℕ). c.put_objects.new.out.items ++ t) (sessions_are m.mutators) in
    let three : c.put_sessions.new.out.items ≡ old ++ ((h ++ o) ++ s) =
    joined old c.put_objects.new.out.items c.put_sessions.new.out.items (h ++ o) s two behind in
    let four : c.put_waiting.new.out.items ≡ old ++ (((h ++ o) ++ s) ++ w) =
    joined old c.put_sessions.new.out.items c.put_waiting.new.out.items ((h ++ o) ++ s) w three c.in_ok-put_waiting.ensures in
    let five : c.put_records.new.out.items ≡ old ++ ((((h ++ o) ++ s) ++ w) ++ r) =
    joined old c.put_waiting.new.out.items c.put_records.new.out.items (((h ++ o) ++ s) ++ w) r
    four c.in_ok-put_records.ensures in
    then_written c.put_counts.result old c.put_records.new.out.items c.put_counts.new.out.items
    ((((h ++ o) ++ s) ++ w) ++ r) n five c.put_counts.ensures
