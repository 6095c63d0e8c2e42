-- What a reference or a cleanable is after a change.
use Rattle.jlr_machine.specs.declared.object.Reference.{Reference as ReferenceOf}
use Rattle.jlr_machine.specs.declared.object.Cleanable.{Cleanable as CleanableOf}
use Rattle.jlr_machine.specs.Calls.{spent, unreferred}
use Rattle.jlr_cells.specs.Contents.{cleanable_without_referent, in_clean_state, in_state, unregistered, watching}
use Rattle.jlr_cells.specs.declared.change.RefChange.{RefChange}
use Rattle.jlr_cells.specs.declared.change.RefChange.TheVariants.{State, NoQueue, NoReferent}
use Rattle.jlr_cells.specs.declared.change.CleanChange.{CleanChange}
use Rattle.jlr_cells.specs.declared.change.CleanChange.TheVariants.{State as CleanlyIn, Referent, Spent}
use Rattle.jlr_cells.specs.declared.change.CleanChange.TheVariants.{NoReferent as NotWaiting}

abbrev pub altered_reference : RefChange → ReferenceOf → ReferenceOf
altered_reference (State state) = in_state state
altered_reference NoQueue = unregistered
altered_reference NoReferent = unreferred

abbrev pub altered_cleanable : CleanChange → CleanableOf → CleanableOf
altered_cleanable (CleanlyIn state) = in_clean_state state
altered_cleanable NotWaiting = cleanable_without_referent
altered_cleanable (Referent slot) = watching slot
altered_cleanable Spent = spent
