-- Answers.
use Rattle.std.specs.List.{AllByRecursion}
use Rattle.std.specs.Int.{w32, w64}
use Rattle.jlr_machine.specs.declared.ask.Answer.TheVariants.{Done, Handle, Truth, Int, Data, Wrote, Faulted, Names, Notes, Faults, Stat}
use Rattle.jlr_machine.specs.declared.ask.Answer.TheVariants.{Job, AlreadyDone, Prepared, Out, Handed, Refused}
use Rattle.jlr_machine.specs.Names.{is_name_byte}
use Rattle.jlr_trace_fields.specs.Tables.{faults}
use Rattle.jlr_trace_entries.specs.Answers.{refusals, handings, stat_read, answer_tags, answer_body, answer_read}
use Rattle.jlr_trace.specs.Steady.{IsSteady}
use Rattle.jlr_trace.proofs.Steps.{◌▸◌, made, one, two, five}
use Rattle.jlr_trace.proofs.Fields.{byte, number, signed, byte_within, flag, picked, picked_then, text, data_text}
use Rattle.jlr_trace.proofs.Items.{list}
use Rattle.jlr_trace.proofs.Parts.{work, failure}

stat : IsSteady stat_read
unfolding stat_read
stat = five (number w64) (number w64) (number w64) (number w64) (number w64)
    (λ objects resources taken good failed. record { objects = objects; resources = resources; taken = taken; ok = good; failed = failed })

-- what stands behind each number of an answer, in the order of the table
bodies : AllByRecursion (λ tag. IsSteady (answer_body tag)) answer_tags
bodies =
    record { still = (made Done).still }
    ▸ record { still = (one byte Handle).still }
    ▸ record { still = (one flag Truth).still }
    ▸ record { still = (one signed Int).still }
    ▸ record { still = (one (data_text 0 200) Data).still }
    ▸ record { still = (one (byte_within 0 200) Wrote).still }
    ▸ record { still = (one (picked 1 faults) Faulted).still }
    ▸ record { still = (one (list 2 (text 1 32 is_name_byte)) Names).still }
    ▸ record { still = (one (list 4 (number w32)) Notes).still }
    ▸ record { still = (one (list 9 failure) Faults).still }
    ▸ record { still = (one stat Stat).still }
    ▸ record { still = (two (number w64) work Job).still }
    ▸ record { still = (made AlreadyDone).still }
    ▸ record { still = (one (number w32) Prepared).still }
    ▸ record { still = (one (number w32) Out).still }
    ▸ record { still = (one (picked 0 handings) Handed).still }
    ▸ record { still = (one (picked 1 refusals) Refused).still }
    ▸ tt

pub answer : IsSteady answer_read
unfolding answer_read
answer = picked_then 0 answer_tags answer_body bodies
