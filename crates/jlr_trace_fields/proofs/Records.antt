-- The records of an image: what is read is what was written, and what was written is read again.
use Rattle.std.proofs.Common.{◌≡◌, ℕ, zero, suc, ◌^◌, ◌<◌, ◌≤◌, Bool, true, false, cond, IsTrue, List, [], ◌∷◌, ◌++◌, length, Option, Ok}
use Rattle.std.proofs.Common.{Err, refl, sym, ap, subst, ◌∙◌, append_assoc, arith}
use Rattle.std.proofs.lemmas.List.{length-append}
use Rattle.jlr_types.specs.declared.Fault.{Fault as DeviceFault}
use Rattle.jlr_types.specs.declared.Work.{Work}
use Rattle.jlr_types.specs.declared.Work.TheVariants.{Note, Resource as WorkOn}
use Rattle.jlr_machine.specs.declared.object.Object.{Object}
use Rattle.jlr_machine.specs.declared.object.Object.TheVariants.{Plain, Reference, Queue, Cleaner, Cleanable, Guard}
use Rattle.jlr_machine.specs.declared.object.Contents.TheVariants.{Typed, Elements}
use Rattle.jlr_machine.specs.declared.machine.Binding.{Binding}
use Rattle.jlr_machine.specs.declared.machine.Failure.{Failure}
use Rattle.jlr_machine.specs.declared.machine.Job.{Job}
use Rattle.jlr_machine.specs.declared.machine.Resource.{Resource}
use Rattle.jlr_machine.specs.declared.machine.ResourceState.{ResourceState}
use Rattle.jlr_machine.specs.declared.machine.Call.TheVariants.{Free, Opening as CallOpening, Out as CallOut, Job as CallJob}
use Rattle.jlr_trace_fields.specs.declared.fault.Fault.TheVariants.{Range}
use Rattle.jlr_trace_fields.specs.declared.version.Version.{Version}
use Rattle.jlr_trace_fields.specs.Reading.{Reader, ◌>>=◌, text_at}
use Rattle.jlr_machine.specs.Names.{is_name_byte}
use Rattle.jlr_trace_fields.specs.Spelling.{spelled_8, spelled_32, spelled_64, spelled_text}
use Rattle.jlr_trace_fields.specs.Items.{may_follow}
use Rattle.jlr_trace_fields.specs.Laws.{TakesBehind, TakesSpelled, ReadsAgain, IsField, IsShortest, FollowsWith, IsRisingField}
use Rattle.jlr_trace_fields.proofs.Numbers.{four_bytes, eight_bytes}
use Rattle.jlr_trace_fields.proofs.Basics.{byte, text}
use Rattle.jlr_trace_fields.proofs.Products.{then_takes, made_takes, one_takes, two_takes, then_again, one_again, two_again}
use Rattle.jlr_trace_fields.specs.declared.parts.record.Placed.{Placed}
use Rattle.jlr_trace_fields.specs.declared.parts.record.Held.{Held}
use Rattle.jlr_trace_fields.specs.Tables.{resource_state_number}
use Rattle.jlr_trace_fields.specs.Objects.{spelled_object, spelled_work}
use Rattle.jlr_trace_fields.specs.Records.{NameFits, spelled_binding, BindingFits, binding_read, spelled_failure, FailureFits, failure_read}
use Rattle.jlr_trace_fields.specs.Records.{spelled_call, CallFits, call_behind, call_read, slot_after, spelled_job, JobFits, job_behind}
use Rattle.jlr_trace_fields.specs.Records.{job_after}
use Rattle.jlr_trace_fields.specs.Records.{spelled_resource, ResourceFits, resource_behind, resource_after, spelled_placed, PlacedFits}
use Rattle.jlr_trace_fields.specs.Records.{placed_behind, placed_after, spelled_held, HeldFits, held_behind, held_after}
use Rattle.jlr_trace_fields.proofs.TableLaws.{resource_state, fault}
use Rattle.jlr_trace_fields.proofs.Objects.{work, object}

pub name : IsField (text_at 1 32 is_name_byte) spelled_text NameFits
name = text 1 32 is_name_byte

pub name_least : IsShortest 2 spelled_text NameFits
name_least n fits = omega (arith, fits.0.0)

-- ---- Bindings and failures

abbrev made_binding : List ℕ → ℕ → Binding
made_binding name slot = record { name = name; slot = slot }

binding_takes : TakesSpelled binding_read spelled_binding BindingFits
unfolding binding_read
binding_takes =
    two_takes name four_bytes [] made_binding spelled_binding BindingFits (λ n s. refl) (λ n s f g. record { name = f; slot = g })

binding_again : ReadsAgain binding_read spelled_binding BindingFits
unfolding binding_read
binding_again b rest fits = two_again name four_bytes made_binding b.name b.slot fits.name fits.slot rest

pub binding : IsField binding_read spelled_binding BindingFits
binding = record { takes = binding_takes; again = binding_again }

pub binding_least : IsShortest 6 spelled_binding BindingFits
binding_least b fits = omega (arith, length-append (spelled_text b.name) (spelled_32 b.slot), fits.name.0.0)

abbrev made_failure : ℕ → DeviceFault → Failure
made_failure action fault = record { action = action; fault = fault }

failure_takes : TakesSpelled failure_read spelled_failure FailureFits
unfolding failure_read
failure_takes = two_takes eight_bytes fault [] made_failure spelled_failure FailureFits (λ a f. refl) (λ a f p q. p)

failure_again : ReadsAgain failure_read spelled_failure FailureFits
unfolding failure_read
failure_again f rest fits = two_again eight_bytes fault made_failure f.action f.fault fits tt rest

pub failure : IsField failure_read spelled_failure FailureFits
failure = record { takes = failure_takes; again = failure_again }

pub failure_least : IsShortest 9 spelled_failure FailureFits
failure_least f fits = omega arith

-- ---- Calls

call_behind_takes : (kind : ℕ) → TakesBehind (kind ∷ []) (call_behind kind) spelled_call CallFits
call_behind_takes zero = made_takes (0 ∷ []) Free spelled_call CallFits refl tt
call_behind_takes (suc zero) = one_takes four_bytes (1 ∷ []) CallOpening spelled_call CallFits (λ r. refl) (λ r f. f)
call_behind_takes (suc (suc zero)) = one_takes four_bytes (2 ∷ []) CallOut spelled_call CallFits (λ r. refl) (λ r f. f)
call_behind_takes (suc (suc (suc zero))) = one_takes eight_bytes (3 ∷ []) CallJob spelled_call CallFits (λ a. refl) (λ a f. f)
call_behind_takes (suc (suc (suc (suc n)))) = λ bytes x rest fits e. absurd cc

call_takes : TakesSpelled call_read spelled_call CallFits
unfolding call_read
call_takes = then_takes byte [] call_behind spelled_call CallFits (λ kind f. call_behind_takes kind)

call_again : ReadsAgain call_read spelled_call CallFits
unfolding call_read
call_again Free rest fits = refl
call_again (CallOpening rid) rest fits = one_again four_bytes CallOpening rid fits rest
call_again (CallOut rid) rest fits = one_again four_bytes CallOut rid fits rest
call_again (CallJob action) rest fits = one_again eight_bytes CallJob action fits rest

pub call : IsField call_read spelled_call CallFits
call = record { takes = call_takes; again = call_again }

-- ---- Records with rising keys

-- a key that is read, and tested before what stands behind it
abbrev keyed : {X : Type 0} → Reader ℕ → (ℕ → Reader X) → Option ℕ → Reader X
keyed key behind before bytes = key bytes >>= λ k. cond (may_follow before k.0) (behind k.0 k.1) (Err Range)

-- a record that fits, with this key
abbrev HasKey : {X : Type 0} → (X → Type 0) → (X → ℕ) → ℕ → X → Type 0
HasKey Fits key_of k x = Fits x × (key_of x ≡ k)

tested_takes : {X : Type 0} (front : List ℕ) (behind : Reader X) (spelled : X → List ℕ) (Fits : X → Type 0) (key_of : X → ℕ)
    (before : Option ℕ) (k : ℕ) (b : Bool) → may_follow before k ≡ b
    → TakesBehind front behind spelled (HasKey Fits key_of k)
    → TakesBehind front (λ bytes. cond b (behind bytes) (Err Range)) spelled (FollowsWith Fits key_of before)
tested_takes front behind spelled Fits key_of before k true is law = λ bytes x rest fits e.
    let r = law bytes x rest fits e in
    (r.0, (r.1.0, subst (λ n. IsTrue (may_follow before n)) (sym r.1.1) is))
tested_takes front behind spelled Fits key_of before k false is law = λ bytes x rest fits e. absurd cc

keyed_takes : {X : Type 0} {key : Reader ℕ} {sk : ℕ → List ℕ} {Fk : ℕ → Type 0} → IsField key sk Fk
    → (behind : ℕ → Reader X) (spelled : X → List ℕ) (Fits : X → Type 0) (key_of : X → ℕ) (before : Option ℕ)
    → ((k : ℕ) → Fk k → TakesBehind (sk k) (behind k) spelled (HasKey Fits key_of k))
    → TakesSpelled (keyed key behind before) spelled (FollowsWith Fits key_of before)
keyed_takes {X} {key} {sk} {Fk} field behind spelled Fits key_of before law =
    then_takes field [] (λ k bytes. cond (may_follow before k) (behind k bytes) (Err Range)) spelled (FollowsWith Fits key_of before)
    (λ k f. tested_takes (sk k) (behind k) spelled Fits key_of before k (may_follow before k) refl (law k f))

keyed_again : {X : Type 0} {key : Reader ℕ} {sk : ℕ → List ℕ} {Fk : ℕ → Type 0} → IsField key sk Fk
    → (behind : ℕ → Reader X) (before : Option ℕ) (k : ℕ) → Fk k → IsTrue (may_follow before k)
    → (bytes text : List ℕ) (x : X) (rest : List ℕ) → bytes ≡ sk k ++ text → behind k text ≡ Ok (x, rest)
    → keyed key behind before bytes ≡ Ok (x, rest)
keyed_again {X} {key} {sk} {Fk} field behind before k fits follows bytes text x rest split reads =
    then_again field k fits (λ k bytes. cond (may_follow before k) (behind k bytes) (Err Range)) bytes text x rest split (rw follows reads)

-- slots
slot_takes : (before : Option ℕ) → TakesSpelled (slot_after before) spelled_32 (FollowsWith (λ s. s < 2 ^ 32) (λ s. s) before)
unfolding slot_after
slot_takes before = keyed_takes four_bytes (λ s bytes. Ok (s, bytes)) spelled_32 (λ s. s < 2 ^ 32) (λ s. s) before
    (λ s f. made_takes (spelled_32 s) s spelled_32 (HasKey (λ n. n < 2 ^ 32) (λ n. n) s) refl (f, refl))

slot_again : (before : Option ℕ) → ReadsAgain (slot_after before) spelled_32 (FollowsWith (λ s. s < 2 ^ 32) (λ s. s) before)
unfolding slot_after
slot_again before s rest fits =
    keyed_again four_bytes (λ s bytes. Ok (s, bytes)) before s fits.0 fits.1 (spelled_32 s ++ rest) rest s rest refl refl

pub rising_slot : IsRisingField slot_after spelled_32 (λ s. s < 2 ^ 32) (λ s. s)
rising_slot = record { field = λ before. record { takes = slot_takes before; again = slot_again before } }

-- jobs
abbrev made_job : ℕ → Work → ℕ → Job
made_job action work by = record { action = action; work = work; by = by }

job_takes : (before : Option ℕ) → TakesSpelled (job_after before) spelled_job (FollowsWith JobFits (λ job. job.action) before)
unfolding job_after
job_takes before = keyed_takes eight_bytes job_behind spelled_job JobFits (λ job. job.action) before
    (λ a f. two_takes work byte (spelled_64 a) (made_job a) spelled_job (HasKey JobFits (λ job. job.action) a) (λ w b. refl)
    (λ w b g h. (record { action = f; work = g; by = h }, refl)))

job_again : (before : Option ℕ) → ReadsAgain (job_after before) spelled_job (FollowsWith JobFits (λ job. job.action) before)
unfolding job_after
job_again before job rest fits = keyed_again eight_bytes job_behind before job.action fits.0.action fits.1 (spelled_job job ++ rest)
    ((spelled_work job.work ++ spelled_8 job.by) ++ rest) job rest
    (ap (λ (t : List ℕ). t ++ rest) (append_assoc (spelled_64 job.action) (spelled_work job.work) (spelled_8 job.by))
    ∙ append_assoc (spelled_64 job.action) (spelled_work job.work ++ spelled_8 job.by) rest)
    (two_again work byte (made_job job.action) job.work job.by fits.0.work fits.0.by rest)

pub rising_job : IsRisingField job_after spelled_job JobFits (λ job. job.action)
rising_job = record { field = λ before. record { takes = job_takes before; again = job_again before } }

work_length : (w : Work) → length (spelled_work w) ≡ 5
work_length (Note n) = refl
work_length (WorkOn rid) = refl

pub job_least : IsShortest 14 spelled_job JobFits
job_least job fits = omega (
  arith,
  length-append (spelled_64 job.action ++ spelled_work job.work) (spelled_8 job.by),
  length-append (spelled_64 job.action) (spelled_work job.work),
  work_length job.work,
)

-- resources
abbrev made_resource : ℕ → ℕ → ResourceState → Resource
made_resource rid action state = record { rid = rid; action = action; state = state }

resource_takes : (before : Option ℕ) → TakesSpelled (resource_after before) spelled_resource (FollowsWith ResourceFits (λ r. r.rid) before)
unfolding resource_after
resource_takes before = keyed_takes four_bytes resource_behind spelled_resource ResourceFits (λ r. r.rid) before
    (λ rid f. two_takes eight_bytes resource_state (spelled_32 rid) (made_resource rid) spelled_resource
    (HasKey ResourceFits (λ r. r.rid) rid) (λ a s. refl) (λ a s g h. (record { rid = f; action = g }, refl)))

resource_again : (before : Option ℕ) → ReadsAgain (resource_after before) spelled_resource (FollowsWith ResourceFits (λ r. r.rid) before)
unfolding resource_after
resource_again before r rest fits = keyed_again four_bytes resource_behind before r.rid fits.0.rid fits.1 (spelled_resource r ++ rest)
    ((spelled_64 r.action ++ spelled_8 (resource_state_number r.state)) ++ rest) r rest refl
    (two_again eight_bytes resource_state (made_resource r.rid) r.action r.state fits.0.action tt rest)

pub rising_resource : IsRisingField resource_after spelled_resource ResourceFits (λ r. r.rid)
rising_resource = record { field = λ before. record { takes = resource_takes before; again = resource_again before } }

pub resource_least : IsShortest 13 spelled_resource ResourceFits
resource_least r fits = omega arith

-- objects and their slots
abbrev made_placed : ℕ → Object → Placed
made_placed slot object = record { slot = slot; object = object }

placed_takes : (version : Version) (before : Option ℕ)
    → TakesSpelled (placed_after version before) spelled_placed (FollowsWith (PlacedFits version) (λ p. p.slot) before)
unfolding placed_after
placed_takes version before = keyed_takes four_bytes (placed_behind version) spelled_placed (PlacedFits version) (λ p. p.slot) before
    (λ slot f. one_takes (object version) (spelled_32 slot) (made_placed slot) spelled_placed
    (HasKey (PlacedFits version) (λ p. p.slot) slot) (λ o. refl) (λ o g. (record { slot = f; object = g }, refl)))

placed_again : (version : Version) (before : Option ℕ)
    → ReadsAgain (placed_after version before) spelled_placed (FollowsWith (PlacedFits version) (λ p. p.slot) before)
unfolding placed_after
placed_again version before p rest fits = keyed_again four_bytes (placed_behind version) before p.slot fits.0.slot fits.1
    (spelled_placed p ++ rest) (spelled_object p.object ++ rest) p rest
    (append_assoc (spelled_32 p.slot) (spelled_object p.object) rest)
    (one_again (object version) (made_placed p.slot) p.object fits.0.object rest)

pub rising_placed : (version : Version) → IsRisingField (placed_after version) spelled_placed (PlacedFits version) (λ p. p.slot)
rising_placed version = record { field = λ before. record { takes = placed_takes version before; again = placed_again version before } }

object_least : (o : Object) → 1 ≤ length (spelled_object o)
object_least (Plain (Typed xs)) = omega arith
object_least (Plain (Elements xs)) = omega arith
object_least (Reference r) = omega arith
object_least (Queue xs) = omega arith
object_least Cleaner = omega arith
object_least (Cleanable c) = omega arith
object_least (Guard g) = omega arith

pub placed_least : (version : Version) → IsShortest 5 spelled_placed (PlacedFits version)
placed_least version p fits = omega (arith, length-append (spelled_32 p.slot) (spelled_object p.object), object_least p.object)

-- handles and the slots that they name
abbrev made_held : ℕ → ℕ → Held
made_held handle slot = record { handle = handle; slot = slot }

held_takes : (before : Option ℕ) → TakesSpelled (held_after before) spelled_held (FollowsWith HeldFits (λ h. h.handle) before)
unfolding held_after
held_takes before = keyed_takes byte held_behind spelled_held HeldFits (λ h. h.handle) before
    (λ handle f. one_takes four_bytes (spelled_8 handle) (made_held handle) spelled_held (HasKey HeldFits (λ h. h.handle) handle)
    (λ s. refl) (λ s g. (record { handle = f; slot = g }, refl)))

held_again : (before : Option ℕ) → ReadsAgain (held_after before) spelled_held (FollowsWith HeldFits (λ h. h.handle) before)
unfolding held_after
held_again before h rest fits = keyed_again byte held_behind before h.handle fits.0.handle fits.1 (spelled_held h ++ rest)
    (spelled_32 h.slot ++ rest) h rest refl (one_again four_bytes (made_held h.handle) h.slot fits.0.slot rest)

pub rising_held : IsRisingField held_after spelled_held HeldFits (λ h. h.handle)
rising_held = record { field = λ before. record { takes = held_takes before; again = held_again before } }

pub held_least : IsShortest 5 spelled_held HeldFits
held_least h fits = omega arith
