-- Calls of resources that were made, or were not.
use Rattle.std.proofs.Common.{◌≡◌, ℕ, ◌≤◌, ◌⊎◌, inl, inr, List, length, min, replicate, subst, arith}
use Rattle.std.specs.Prelude.{Result, Ok, Err, IfOk}
use Rattle.std.proofs.lemmas.List.{length-take}
use Rattle.jlr_types.specs.declared.Fault.{Fault}
use Rattle.jlr_types.specs.declared.Fault.TheVariants.{Other}
use Rattle.jlr_machine.specs.declared.ask.CallOutcome.{CallOutcome}
use Rattle.jlr_device.specs.Failures.{Counts, CountsOneMore, IsHighest}
use Rattle.jlr_device.specs.Handling.{Handling}
use Rattle.jlr_session.specs.Calls.{Calls, ReadsUpTo, read_outcome, room_for}

pub called : {T : Type 0} (before after : ℕ) (outcome : Result T Fault) (made unmade : Type 0)
    → CountsOneMore before ⊎ IsHighest before → (CountsOneMore before → Counts before outcome after) → (CountsOneMore before → made)
    → (IsHighest before → (outcome ≡ Err Other) × unmade)
    → Calls before outcome after made unmade
called before after outcome made unmade (inl fits) counted told uncalled = inl (fits, counted fits, told fits)
called before after outcome made unmade (inr full) counted told uncalled = (let u = uncalled full in inr (full, u.0, u.1))

few_read : (count n : ℕ) → n ≤ length (room_for count) → n ≤ count
few_read count n le =
    let zeros : List ℕ = replicate 200 0 in
    omega (arith, le, length-take (min 200 count) zeros)

read_bound : (count : ℕ) (result : Result ℕ Fault) → IfOk result (λ n. n ≤ length (room_for count)) → IfOk result (λ n. n ≤ count)
read_bound count (Ok n) le = few_read count n le
read_bound count (Err fault) le = le

pub reads : {R : Type 0} (resource : Handling R) (count : ℕ) (old new : R) (result : Result ℕ Fault) (room buffer : List ℕ)
    (outcome : CallOutcome)
    → room ≡ room_for count → CountsOneMore (resource.count old) ⊎ IsHighest (resource.count old)
    → (CountsOneMore (resource.count old) → Counts (resource.count old) result (resource.count new))
    → (CountsOneMore (resource.count old) → resource.reads old room result buffer new)
    → (IsHighest (resource.count old) → (result ≡ Err Other) × (buffer ≡ room) × (new ≡ old))
    → IfOk result (λ n. n ≤ length room) → outcome ≡ read_outcome result buffer → ReadsUpTo resource count old outcome new
reads {R} resource count old new result room buffer outcome e either counted told uncalled bound is =
    let P : List ℕ → Type 0 = λ r. resource.reads old r result buffer new in
    let Q : List ℕ → Type 0 = λ r. IfOk result (λ n. n ≤ length r) in (
      result,
      buffer,
      called (resource.count old) (resource.count new) result (resource.reads old (room_for count) result buffer new) (new ≡ old) either
          counted
          (λ fits. subst P e (told fits)) (λ full. (let u = uncalled full in (u.0, u.2))),
      read_bound count result (subst Q e bound),
      is,
    )
