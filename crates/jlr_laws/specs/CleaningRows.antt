-- Worked runs on the cleaner, files and sockets. Each is a list of entries as a core writes them, with the handler's
-- and the cleaner's steps.
use Rattle.std.specs.Prelude.{List, [], ◌∷◌}
use Rattle.jlr_types.specs.declared.Work.TheVariants.{Note, Resource as WorkOn}
use Rattle.jlr_types.specs.declared.Fault.TheVariants.{NotFound, Other}
use Rattle.jlr_types.specs.declared.Refusal.TheVariants.{Closed, ResourcesFull}
use Rattle.jlr_machine.specs.declared.ask.Ask.TheVariants.{Join, Leave, New, Drop, MakeCleaner, Register, Clean}
use Rattle.jlr_machine.specs.declared.ask.Ask.TheVariants.{Prepare, Opened, CheckOut, CheckIn, Close, Finish, Full}
use Rattle.jlr_machine.specs.declared.ask.Ask.TheVariants.{Stat, Notes, Faults, HandOver, TakeUp}
use Rattle.jlr_machine.specs.declared.ask.FullMode.TheVariants.{Policy}
use Rattle.jlr_machine.specs.declared.ask.Handed.TheVariants.{Lined as HandedLined}
use Rattle.jlr_machine.specs.declared.ask.Outcome.TheVariants.{Ok as OutcomeOk, Failed}
use Rattle.jlr_machine.specs.declared.ask.CallOutcome.TheVariants.{Data as GotData, Wrote as GotWrote}
use Rattle.jlr_machine.specs.declared.ask.Answer.TheVariants.{Done, Handle, Data, Wrote, Faulted, Notes as NotesAnswer}
use Rattle.jlr_machine.specs.declared.ask.Answer.TheVariants.{Faults as FaultsAnswer, Stat as StatAnswer, Job}
use Rattle.jlr_machine.specs.declared.ask.Answer.TheVariants.{AlreadyDone, Prepared, Out, Handed as HandedAnswer}
use Rattle.jlr_machine.specs.declared.ask.Answer.TheVariants.{Refused}
use Rattle.jlr_machine.specs.declared.entry.Entry.{Entry}
use Rattle.jlr_laws.specs.Rows.{entry, making, preparing, collecting_entry, stat}

-- `cleaner; new -; register 1 2 7; drop 2; gc; notes; clean 3; notes`
abbrev pub cleaner_row : List Entry
cleaner_row =
    entry (Join 0) Done
    ∷ making (MakeCleaner 0) (Handle 1) 0
    ∷ making (New 0 []) (Handle 2) 1
    ∷ making (Register 0 1 2 7) (Handle 3) 2
    ∷ entry (Drop 0 2) Done
    ∷ collecting_entry (Full 0 Policy) Done (0 ∷ 2 ∷ []) (2 ∷ [])
    ∷ entry HandOver (HandedAnswer HandedLined)
    ∷ entry TakeUp (Job 1 (Note 7))
    ∷ entry (Finish 255 1 OutcomeOk) Done
    ∷ entry (Notes 0) (NotesAnswer (7 ∷ []))
    ∷ entry (Clean 0 3) AlreadyDone
    ∷ entry (Notes 0) (NotesAnswer (7 ∷ []))
    ∷ entry (Leave 0) Done
    ∷ []

-- `open r /nowhere/x; stat; open w f; write 1 00ff; drop 1; gc; open r f; read 1 200; read 1 200; stat`
abbrev pub file_row : List Entry
file_row =
    entry (Join 0) Done
    ∷ preparing (Prepare 0) (Prepared 0) 0 1
    ∷ entry (Opened 0 (Failed NotFound)) (Faulted NotFound)
    ∷ entry (Stat 0) (StatAnswer (stat 2 0 0 0 0))
    ∷ preparing (Prepare 0) (Prepared 0) 2 3
    ∷ entry (Opened 0 OutcomeOk) (Handle 1)
    ∷ entry (CheckOut 0 1) (Out 0)
    ∷ entry (CheckIn 0 (GotWrote 2)) (Wrote 2)
    ∷ entry (Drop 0 1) Done
    ∷ collecting_entry (Full 0 Policy) Done (3 ∷ []) (3 ∷ [])
    ∷ entry HandOver (HandedAnswer HandedLined)
    ∷ entry TakeUp (Job 2 (WorkOn 0))
    ∷ entry (Finish 255 2 OutcomeOk) Done
    ∷ preparing (Prepare 0) (Prepared 0) 0 1
    ∷ entry (Opened 0 OutcomeOk) (Handle 1)
    ∷ entry (CheckOut 0 1) (Out 0)
    ∷ entry (CheckIn 0 (GotData (0 ∷ 255 ∷ []))) (Data (0 ∷ 255 ∷ []))
    ∷ entry (CheckOut 0 1) (Out 0)
    ∷ entry (CheckIn 0 (GotData ([]))) (Data ([]))
    ∷ entry (Stat 0) (StatAnswer (stat 3 1 1 1 0))
    ∷ entry (Leave 0) Done
    ∷ []

-- `open w a; cleaner; new -; register 2 3 9; drop 1; gc; faults; drop 3; gc; notes; stat`, where the finish of the file
-- fails
abbrev pub failed_cleaning_row : List Entry
failed_cleaning_row =
    entry (Join 0) Done
    ∷ preparing (Prepare 0) (Prepared 0) 0 1
    ∷ entry (Opened 0 OutcomeOk) (Handle 1)
    ∷ making (MakeCleaner 0) (Handle 2) 2
    ∷ making (New 0 []) (Handle 3) 3
    ∷ making (Register 0 2 3 9) (Handle 4) 4
    ∷ entry (Drop 0 1) Done
    ∷ collecting_entry (Full 0 Policy) Done (1 ∷ 2 ∷ 3 ∷ 4 ∷ []) (1 ∷ [])
    ∷ entry HandOver (HandedAnswer HandedLined)
    ∷ entry TakeUp (Job 1 (WorkOn 0))
    ∷ entry (Finish 255 1 (Failed Other)) (Faulted Other)
    ∷ entry (Faults 0) (FaultsAnswer (record { action = 1; fault = Other } ∷ []))
    ∷ entry (Drop 0 3) Done
    ∷ collecting_entry (Full 0 Policy) Done (2 ∷ 4 ∷ []) (4 ∷ [])
    ∷ entry HandOver (HandedAnswer HandedLined)
    ∷ entry TakeUp (Job 2 (Note 9))
    ∷ entry (Finish 255 2 OutcomeOk) Done
    ∷ entry (Notes 0) (NotesAnswer (9 ∷ []))
    ∷ entry (Stat 0) (StatAnswer (stat 2 0 2 1 1))
    ∷ entry (Leave 0) Done
    ∷ []

-- `open w f; close 1; read 1 5; close 1; stat`
abbrev pub closed_row : List Entry
closed_row =
    entry (Join 0) Done
    ∷ preparing (Prepare 0) (Prepared 0) 0 1
    ∷ entry (Opened 0 OutcomeOk) (Handle 1)
    ∷ entry (Close 0 1) (Job 1 (WorkOn 0))
    ∷ entry (Finish 0 1 OutcomeOk) Done
    ∷ entry (CheckOut 0 1) (Refused Closed)
    ∷ entry (Close 0 1) AlreadyDone
    ∷ entry (Stat 0) (StatAnswer (stat 2 0 1 1 0))
    ∷ entry (Leave 0) Done
    ∷ []

-- `open w f; close 1; open w g; read 1 5`, where the second file has the Rid of the first
abbrev pub rid_again_row : List Entry
rid_again_row =
    entry (Join 0) Done
    ∷ preparing (Prepare 0) (Prepared 0) 0 1
    ∷ entry (Opened 0 OutcomeOk) (Handle 1)
    ∷ entry (Close 0 1) (Job 1 (WorkOn 0))
    ∷ entry (Finish 0 1 OutcomeOk) Done
    ∷ preparing (Prepare 0) (Prepared 0) 2 3
    ∷ entry (Opened 0 OutcomeOk) (Handle 2)
    ∷ entry (CheckOut 0 1) (Refused Closed)
    ∷ entry (Leave 0) Done
    ∷ []

-- with one resource: `open w f; open w g`
abbrev pub one_resource_row : List Entry
one_resource_row =
    entry (Join 0) Done
    ∷ preparing (Prepare 0) (Prepared 0) 0 1
    ∷ entry (Opened 0 OutcomeOk) (Handle 1)
    ∷ entry (Prepare 0) (Refused ResourcesFull)
    ∷ entry (Leave 0) Done
    ∷ []

-- `Join 0, Join 1, Prepare 0, Full 1, Opened 0 ok, Stat 1`
abbrev pub two_sessions_row : List Entry
two_sessions_row =
    entry (Join 0) Done
    ∷ entry (Join 1) Done
    ∷ preparing (Prepare 0) (Prepared 0) 0 1
    ∷ collecting_entry (Full 1 Policy) Done (0 ∷ 1 ∷ []) []
    ∷ entry (Opened 0 OutcomeOk) (Handle 1)
    ∷ entry (Stat 1) (StatAnswer (stat 2 1 0 0 0))
    ∷ []
