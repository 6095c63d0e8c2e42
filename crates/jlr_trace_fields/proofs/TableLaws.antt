-- Values of tables: what is read is what was written, and what was written is read again.
use Rattle.std.proofs.Common.{◌≡◌, ℕ, List, ◌∷◌, Ok, refl}
use Rattle.jlr_types.specs.declared.Fault.{Fault as DeviceFault}
use Rattle.jlr_types.specs.declared.Fault.TheVariants.{NotFound, Denied, Other}
use Rattle.jlr_types.specs.declared.RefKind.{RefKind}
use Rattle.jlr_types.specs.declared.RefKind.TheVariants.{Soft, Weak, Phantom}
use Rattle.jlr_machine.specs.declared.object.RefState.{RefState}
use Rattle.jlr_machine.specs.declared.object.RefState.TheVariants.{Fresh, Pending, Queued, Removed}
use Rattle.jlr_machine.specs.declared.object.CleanState.{CleanState}
use Rattle.jlr_machine.specs.declared.object.CleanState.TheVariants.{Armed, Pending as PendingClean, Lined, Spent}
use Rattle.jlr_machine.specs.declared.machine.ResourceState.{ResourceState}
use Rattle.jlr_machine.specs.declared.machine.ResourceState.TheVariants.{Opening, Idle, Out, Closing}
use Rattle.jlr_trace_fields.specs.Reading.{picked_at}
use Rattle.jlr_trace_fields.specs.Spelling.{spelled_8}
use Rattle.jlr_trace_fields.specs.Laws.{IsField}
use Rattle.jlr_trace_fields.proofs.Basics.{picked}
use Rattle.jlr_trace_fields.specs.Tables.{ref_kinds, ref_kind_number, ref_states, ref_state_number, clean_states, clean_state_number}
use Rattle.jlr_trace_fields.specs.Tables.{resource_states, resource_state_number, faults, fault_number}

ref_kind_again : (x : RefKind) (rest : List ℕ) → picked_at 0 ref_kinds (ref_kind_number x ∷ rest) ≡ Ok (x, rest)
unfolding picked_at
ref_kind_again Soft rest = refl
ref_kind_again Weak rest = refl
ref_kind_again Phantom rest = refl

pub ref_kind : IsField (picked_at 0 ref_kinds) (λ x. spelled_8 (ref_kind_number x)) (λ _. Unit {0})
ref_kind = picked 0 ref_kinds ref_kind_number refl ref_kind_again

ref_state_again : (x : RefState) (rest : List ℕ) → picked_at 0 ref_states (ref_state_number x ∷ rest) ≡ Ok (x, rest)
unfolding picked_at
ref_state_again Fresh rest = refl
ref_state_again Pending rest = refl
ref_state_again Queued rest = refl
ref_state_again Removed rest = refl

pub ref_state : IsField (picked_at 0 ref_states) (λ x. spelled_8 (ref_state_number x)) (λ _. Unit {0})
ref_state = picked 0 ref_states ref_state_number refl ref_state_again

clean_state_again : (x : CleanState) (rest : List ℕ) → picked_at 0 clean_states (clean_state_number x ∷ rest) ≡ Ok (x, rest)
unfolding picked_at
clean_state_again Armed rest = refl
clean_state_again PendingClean rest = refl
clean_state_again Lined rest = refl
clean_state_again Spent rest = refl

pub clean_state : IsField (picked_at 0 clean_states) (λ x. spelled_8 (clean_state_number x)) (λ _. Unit {0})
clean_state = picked 0 clean_states clean_state_number refl clean_state_again

resource_state_again : (x : ResourceState) (rest : List ℕ) → picked_at 0 resource_states (resource_state_number x ∷ rest) ≡ Ok (x, rest)
unfolding picked_at
resource_state_again Opening rest = refl
resource_state_again Idle rest = refl
resource_state_again Out rest = refl
resource_state_again Closing rest = refl

pub resource_state : IsField (picked_at 0 resource_states) (λ x. spelled_8 (resource_state_number x)) (λ _. Unit {0})
resource_state = picked 0 resource_states resource_state_number refl resource_state_again

fault_again : (x : DeviceFault) (rest : List ℕ) → picked_at 1 faults (fault_number x ∷ rest) ≡ Ok (x, rest)
unfolding picked_at
fault_again NotFound rest = refl
fault_again Denied rest = refl
fault_again Other rest = refl

pub fault : IsField (picked_at 1 faults) (λ x. spelled_8 (fault_number x)) (λ _. Unit {0})
fault = picked 1 faults fault_number refl fault_again
