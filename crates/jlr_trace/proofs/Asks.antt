-- Asks.
use Rattle.std.proofs.Common.{ℕ, zero, suc, cond, Ok, Err}
use Rattle.std.specs.Prelude.{nat_eq}
use Rattle.std.specs.List.{AllByRecursion}
use Rattle.std.specs.Int.{w16, w32, w64}
use Rattle.jlr_types.specs.declared.FieldKind.TheVariants.{Int as IntField, Ref as RefField}
use Rattle.jlr_machine.specs.declared.ask.CallOutcome.TheVariants.{Data as GotData, Wrote as GotWrote, Failed as GotFailed}
use Rattle.jlr_machine.specs.declared.ask.Ask.TheVariants.{Join, Leave, New, Put, Get, SetInt, Int, Dup, Drop, Same, MakeRef, Deref, Refers}
use Rattle.jlr_machine.specs.declared.ask.Ask.TheVariants.{Clear, Enqueue, Enqueued, MakeQueue, Poll, Remove, MakeCleaner, Register, Clean}
use Rattle.jlr_machine.specs.declared.ask.Ask.TheVariants.{Prepare, Opened, CheckOut, CheckIn, Close, Finish, Bind, Find, Unbind, Names}
use Rattle.jlr_machine.specs.declared.ask.Ask.TheVariants.{Full, Stat, Notes, Faults, HandOver, TakeUp, Begin, Collect, Abandon, Array}
use Rattle.jlr_trace_fields.specs.declared.fault.Fault.TheVariants.{Range}
use Rattle.jlr_trace_fields.specs.declared.version.Version.{Version}
use Rattle.jlr_trace_fields.specs.declared.version.Version.TheVariants.{One, Two}
use Rattle.jlr_machine.specs.Names.{is_name_byte}
use Rattle.jlr_machine.specs.Refusals.{ask_kinds}
use Rattle.jlr_trace_fields.specs.Items.{items_at}
use Rattle.jlr_trace_fields.specs.Tables.{ref_kinds, faults}
use Rattle.jlr_trace_entries.specs.Asks.{outcomes_by_number, modes, kind_read, layout_read, call_outcome_behind, call_outcome_read}
use Rattle.jlr_trace_entries.specs.Asks.{field_read}
use Rattle.jlr_trace_entries.specs.Asks.{array_read, ask_body, ask_read}
use Rattle.jlr_trace.specs.Steady.{IsSteady}
use Rattle.jlr_trace.proofs.Steps.{◌▸◌, made, never, then_read, either, one, two, three, four}
use Rattle.jlr_trace.proofs.Fields.{byte, number, number_within, signed, byte_within, picked, picked_then, text, data_text}
use Rattle.jlr_trace.proofs.Items.{items}

kind : IsSteady kind_read
unfolding kind_read
kind =
    then_read byte (λ b bytes. cond (nat_eq b 114) (Ok (RefField, bytes)) (cond (nat_eq b 105) (Ok (IntField, bytes)) (Err Range)))
    (λ b. either (nat_eq b 114) (made RefField) (either (nat_eq b 105) (made IntField) never))

layout : IsSteady layout_read
unfolding layout_read
layout = then_read (byte_within 0 8) (items_at kind_read) (items kind)

call_outcome_after : (kind : ℕ) → IsSteady (call_outcome_behind kind)
call_outcome_after zero = record { still = (one (data_text 0 200) GotData).still }
call_outcome_after (suc zero) = record { still = (one (byte_within 0 200) GotWrote).still }
call_outcome_after (suc (suc zero)) = record { still = (one (picked 1 faults) GotFailed).still }
call_outcome_after (suc (suc (suc n))) = record { still = never.still }

call_outcome : IsSteady call_outcome_read
unfolding call_outcome_read
call_outcome = then_read byte call_outcome_behind call_outcome_after

field : (version : Version) → IsSteady (field_read version)
field One = record { still = byte.still }
field Two = record { still = (number_within w16 0 4095).still }

array : (version : Version) → IsSteady (array_read version)
array One = record { still = never.still }
array Two = record { still = (two byte (number_within w16 1 4096) Array).still }

-- what stands behind each number of an ask, in the order of the table
bodies : (version : Version) → AllByRecursion (λ tag. IsSteady (ask_body version tag)) ask_kinds
bodies version =
    record { still = (one byte Join).still }
    ▸ record { still = (one byte Leave).still }
    ▸ record { still = (two byte layout New).still }
    ▸ record { still = (four byte byte (field version) byte Put).still }
    ▸ record { still = (three byte byte (field version) Get).still }
    ▸ record { still = (four byte byte (field version) signed SetInt).still }
    ▸ record { still = (three byte byte (field version) Int).still }
    ▸ record { still = (two byte byte Dup).still }
    ▸ record { still = (two byte byte Drop).still }
    ▸ record { still = (three byte byte byte Same).still }
    ▸ record { still = (four byte (picked 0 ref_kinds) byte byte MakeRef).still }
    ▸ record { still = (two byte byte Deref).still }
    ▸ record { still = (three byte byte byte Refers).still }
    ▸ record { still = (two byte byte Clear).still }
    ▸ record { still = (two byte byte Enqueue).still }
    ▸ record { still = (two byte byte Enqueued).still }
    ▸ record { still = (one byte MakeQueue).still }
    ▸ record { still = (two byte byte Poll).still }
    ▸ record { still = (two byte byte Remove).still }
    ▸ record { still = (one byte MakeCleaner).still }
    ▸ record { still = (four byte byte byte (number w32) Register).still }
    ▸ record { still = (two byte byte Clean).still }
    ▸ record { still = (one byte Prepare).still }
    ▸ record { still = (two byte (picked 0 outcomes_by_number) Opened).still }
    ▸ record { still = (two byte byte CheckOut).still }
    ▸ record { still = (two byte call_outcome CheckIn).still }
    ▸ record { still = (two byte byte Close).still }
    ▸ record { still = (three byte (number w64) (picked 0 outcomes_by_number) Finish).still }
    ▸ record { still = (three byte (text 1 32 is_name_byte) byte Bind).still }
    ▸ record { still = (two byte (text 1 32 is_name_byte) Find).still }
    ▸ record { still = (two byte (text 1 32 is_name_byte) Unbind).still }
    ▸ record { still = (one byte Names).still }
    ▸ record { still = (two byte (picked 0 modes) Full).still }
    ▸ record { still = (one byte Stat).still }
    ▸ record { still = (one byte Notes).still }
    ▸ record { still = (one byte Faults).still }
    ▸ record { still = (made HandOver).still }
    ▸ record { still = (made TakeUp).still }
    ▸ record { still = (made Begin).still }
    ▸ record { still = (made Collect).still }
    ▸ record { still = (made Abandon).still }
    ▸ record { still = (array version).still }
    ▸ tt

pub ask : (version : Version) → IsSteady (ask_read version)
unfolding ask_read
ask version = picked_then 0 ask_kinds (ask_body version) (bodies version)
