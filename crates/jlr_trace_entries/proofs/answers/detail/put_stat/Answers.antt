use Rattle.std.proofs.Common.{◌≡◌, ℕ, List, ◌++◌}
use Rattle.jlr_trace_fields.specs.Spelling.{spelled_64}
use Rattle.jlr_trace_fields.proofs.Writing.{joined, then_written}
use Rattle.jlr_trace_entries.proofs.answers.detail.put_stat.Goals as goal

pub returns : goal.returns
returns c =
    let old : List ℕ = c.args.out.now.items in
    let a : List ℕ = spelled_64 c.args.stat.now.objects in
    let b : List ℕ = spelled_64 c.args.stat.now.resources in
    let d : List ℕ = spelled_64 c.args.stat.now.taken in
    let e : List ℕ = spelled_64 c.args.stat.now.ok in
    let f : List ℕ = spelled_64 c.args.stat.now.failed in
    let two : c.put_u64-2.new.out.items ≡ old ++ (a ++ b) =
    joined old c.put_u64.new.out.items c.put_u64-2.new.out.items a b c.in_ok-put_u64.ensures c.in_ok-put_u64-2.ensures in
    let three : c.put_u64-3.new.out.items ≡ old ++ ((a ++ b) ++ d) =
    joined old c.put_u64-2.new.out.items c.put_u64-3.new.out.items (a ++ b) d two c.in_ok-put_u64-3.ensures in
    let four : c.put_u64-4.new.out.items ≡ old ++ (((a ++ b) ++ d) ++ e) =
    joined old c.put_u64-3.new.out.items c.put_u64-4.new.out.items ((a ++ b) ++ d) e three c.in_ok-put_u64-4.ensures in
    then_written c.put_u64-5.result old c.put_u64-4.new.out.items c.put_u64-5.new.out.items (((a ++ b) ++ d) ++ e) f four
    c.put_u64-5.ensures
