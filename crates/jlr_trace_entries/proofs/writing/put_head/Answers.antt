use Rattle.std.proofs.Common.{◌≡◌, ℕ, List, ◌++◌, length}
use Rattle.jlr_machine.specs.declared.machine.Machine.{Machine}
use Rattle.jlr_trace_fields.specs.Spelling.{spelled_8, spelled_16, spelled_32, spelled_64}
use Rattle.jlr_trace_fields.proofs.Writing.{joined, then_written}
use Rattle.jlr_trace_entries.proofs.writing.put_head.Goals as goal

pub returns : goal.returns
returns c =
    let old : List ℕ = c.args.out.now.items in
    let m : Machine = c.args.machine.now in
    let a : List ℕ = spelled_32 (length m.objects) in
    let b : List ℕ = spelled_8 (length m.mutators) in
    let d : List ℕ = spelled_16 m.resource_limit in
    let e : List ℕ = spelled_64 c.args.base in
    let one : c.put_u32.new.out.items ≡ old ++ a = rw (← c.len.ensures) c.in_ok-put_u32.ensures in
    let two : c.put_u8.new.out.items ≡ old ++ (a ++ b) =
    joined old c.put_u32.new.out.items c.put_u8.new.out.items a b one (rw (← c.len-2.ensures) c.in_ok-put_u8.ensures) in
    let three : c.put_u16.new.out.items ≡ old ++ ((a ++ b) ++ d) =
    joined old c.put_u8.new.out.items c.put_u16.new.out.items (a ++ b) d two c.in_ok-put_u16.ensures in
    then_written c.put_u64.result old c.put_u16.new.out.items c.put_u64.new.out.items ((a ++ b) ++ d) e three c.put_u64.ensures
