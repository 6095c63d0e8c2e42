-- The answers that a history need not keep: those that take much room, and that the machine gives once more.
use Rattle.std.specs.Prelude.{ℕ, Bool, true, false, cond, Option, Some, None}
use Rattle.jlr_machine.specs.declared.machine.Machine.{Machine}
use Rattle.jlr_machine.specs.declared.ask.Ask.{Ask}
use Rattle.jlr_machine.specs.declared.ask.Answer.{Answer}
use Rattle.jlr_machine.specs.declared.ask.Answer.TheVariants.{Done, Int, Data, Names, Notes, Faults, Stat, Job, Out}
use Rattle.jlr_machine.specs.Calls.{reply}

-- a number, a list, counts, a job, a resource, or what was read
abbrev pub is_long : Answer → Bool
is_long (Int n) = true
is_long (Data bytes) = true
is_long (Names names) = true
is_long (Notes notes) = true
is_long (Faults faults) = true
is_long (Stat counts) = true
is_long (Job action work) = true
is_long (Out rid) = true
is_long answer = false

-- the answer, where there is one and it is long; else `Done`
abbrev pub where_long : Option Answer → Answer
where_long None = Done
where_long (Some answer) = cond (is_long answer) answer Done

abbrev pub long_reply : Machine → Ask → Answer
long_reply m ask = where_long (reply m ask)

-- the same counts, but for the number of objects
abbrev pub counts_with : ℕ → Answer → Answer
counts_with n (Stat s) = Stat (record {
  objects = n;
  resources = s.resources;
  taken = s.taken;
  ok = s.ok;
  failed = s.failed;
})
counts_with n answer = answer
