use Rattle.std.proofs.Common.{◌≡◌, ℕ, List, ◌++◌}
use Rattle.jlr_trace_fields.specs.Spelling.{spelled_64}
use Rattle.jlr_trace_fields.proofs.Writing.{joined, then_written}
use Rattle.jlr_trace_entries.proofs.writing.put_counts.Goals as goal

pub returns : goal.returns
returns c =
    let old : List ℕ = c.args.out.now.items in
    let a : List ℕ = spelled_64 c.args.machine.now.next_action in
    let b : List ℕ = spelled_64 c.args.machine.now.taken in
    let d : List ℕ = spelled_64 c.args.machine.now.ok in
    let e : List ℕ = spelled_64 c.args.machine.now.failed in
    let two : c.put_u64-2.new.out.items ≡ old ++ (a ++ b) =
    joined old c.put_u64.new.out.items c.put_u64-2.new.out.items a b c.in_ok-put_u64.ensures c.in_ok-put_u64-2.ensures in
    let three : c.put_u64-3.new.out.items ≡ old ++ ((a ++ b) ++ d) =
    joined old c.put_u64-2.new.out.items c.put_u64-3.new.out.items (a ++ b) d two c.in_ok-put_u64-3.ensures in
    then_written c.put_u64-4.result old c.put_u64-3.new.out.items c.put_u64-4.new.out.items ((a ++ b) ++ d) e three c.put_u64-4.ensures
