use Rattle.std.proofs.Common.{◌≡◌, ℕ, List, ◌++◌}
use Rattle.jlr_machine.specs.declared.machine.Machine.{Machine}
use Rattle.jlr_trace_fields.specs.Spelling.{spelled_32}
use Rattle.jlr_trace_fields.specs.Items.{spelled_list}
use Rattle.jlr_trace_fields.proofs.Writing.{joined, then_written}
use Rattle.jlr_trace_fields.specs.Records.{spelled_job, spelled_resource, spelled_failure}
use Rattle.jlr_trace_entries.proofs.writing.put_records.Goals as goal

pub returns : goal.returns
returns c =
    let old : List ℕ = c.args.out.now.items in
    let m : Machine = c.args.machine.now in
    let a : List ℕ = spelled_list spelled_job m.jobs in
    let b : List ℕ = spelled_list spelled_resource m.resources in
    let d : List ℕ = spelled_list spelled_failure m.faults in
    let e : List ℕ = spelled_list spelled_32 m.notes in
    let one : c.put_list.new.out.items ≡ old ++ a = rw (← c.as_slice.ensures) c.in_ok-put_list.ensures in
    let two : c.put_list-2.new.out.items ≡ old ++ (a ++ b) =
    joined old c.put_list.new.out.items c.put_list-2.new.out.items a b one (rw (← c.as_slice-2.ensures) c.in_ok-put_list-2.ensures) in
    let third : c.put_list-3.new.out.items ≡ c.put_list-2.new.out.items ++ d = rw (← c.as_slice-3.ensures) c.in_ok-put_list-3.ensures in
    let three : c.put_list-3.new.out.items ≡ old ++ ((a ++ b) ++ d) =
    joined old c.put_list-2.new.out.items c.put_list-3.new.out.items (a ++ b) d two third in
    then_written c.put_list-4.result old c.put_list-3.new.out.items c.put_list-4.new.out.items ((a ++ b) ++ d) e three
    (rw (← c.as_slice-4.ensures) c.put_list-4.ensures)
