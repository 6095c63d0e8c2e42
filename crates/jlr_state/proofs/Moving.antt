-- What lies at each Rid after a table was changed.
use Rattle.std.proofs.Common.{◌≡◌, ◌≢◌, ◌≤◌, ◌<◌, ◌==◌, ℕ, true, false, cond, not, List, [], ◌∷◌, ◌++◌, inl, inr, Option, Some, None}
use Rattle.std.proofs.Common.{length, find, refl, sym, ◌∙◌, ap, subst, arith, IfNone, IfSome, ◌-◌, ◌^◌, option_and_then, option_map}
use Rattle.std.specs.Option.{option_to_list}
use Rattle.std.proofs.lemmas.Bool.{both_ways, eq-eqb, eqb-true, ne_eqb}
use Rattle.jlr_types.specs.declared.Work.{Work}
use Rattle.jlr_types.specs.declared.Work.TheVariants.{Note, Resource as WorkOn}
use Rattle.jlr_machine.specs.declared.ask.Outcome.{Outcome}
use Rattle.jlr_machine.specs.declared.ask.Outcome.TheVariants.{Ok as OutcomeOk, Failed}
use Rattle.jlr_machine.specs.declared.machine.Job.{Job}
use Rattle.jlr_machine.specs.declared.machine.ResourceState.{ResourceState}
use Rattle.jlr_machine.specs.declared.machine.ResourceState.TheVariants as state
use Rattle.jlr_laws.proofs.Allowed.{some_and_gives}
use Rattle.jlr_resource.specs.declared.place.Kept.{Kept}
use Rattle.jlr_resource.specs.declared.place.Kept.TheVariants as kept
use Rattle.jlr_resource.specs.Resources.{HeldResource, Resources, kept_at, kept_in, removed, resource_state_at, state_of, value_of, values}
use Rattle.jlr_resource.specs.Resources.{values_in}
use Rattle.jlr_resource.specs.Resources.{with_kept, without_held}
use Rattle.jlr_resource.proofs.Listed.{state_found, values-cons}
use Rattle.jlr_cleaner.specs.Cleanings.{Cleanings, HandsOut, after_finish, after_register, table_closed, table_closing}
use Rattle.jlr_cleaner.specs.Jobs.{is_job_of, job_in}
use Rattle.jlr_state.specs.Flows.{LieAsBefore, Moves, lies_at}

module _ {R : Type 0} where
  -- ---- A table that is the same

  -- nothing came in or went out
  pub none_moved : (old new : Resources R) → LieAsBefore old new → Moves None old None new
  none_moved old new same = inl (refl, same)

  -- ---- What lies at a Rid, by its state

  found_not_idle : (k : Option (Kept R)) (s : ResourceState) → option_map state_of k ≡ Some s → s ≢ state.Idle
      → option_and_then value_of k ≡ None
  found_not_idle None s e other = refl
  found_not_idle (Some kept.Opening) s e other = refl
  found_not_idle (Some (kept.Idle value)) s e other = absurd (other (cc e))
  found_not_idle (Some kept.Out) s e other = refl
  found_not_idle (Some kept.Closing) s e other = refl

  -- a value lies only where the resource is Idle
  pub none_lies : (t : Resources R) (rid : ℕ) (s : ResourceState) → resource_state_at t rid ≡ Some s → s ≢ state.Idle → lies_at t rid ≡ None
  none_lies t rid s e other = found_not_idle (kept_at t rid) s (sym (state_found t.held rid) ∙ e) other

  found_none : (k : Option (Kept R)) → option_map state_of k ≡ None → option_and_then value_of k ≡ None
  found_none None e = refl
  found_none (Some k) e = absurd (cc e)

  -- and none where there is no resource
  pub none_there : (t : Resources R) (rid : ℕ) → resource_state_at t rid ≡ None → lies_at t rid ≡ None
  none_there t rid e = found_none (kept_at t rid) (sym (state_found t.held rid) ∙ e)

  -- ---- Calls that say where the others are

  abbrev pub KeepsOthers : Resources R → Resources R → ℕ → Type 0
  KeepsOthers old new rid = (other : ℕ) → other ≢ rid → kept_at new other ≡ kept_at old other

  others_lie : (old new : Resources R) (rid : ℕ) → KeepsOthers old new rid → (other : ℕ) → other ≢ rid
      → lies_at new other ≡ lies_at old other
  others_lie old new rid others other apart = ap (option_and_then value_of) (others other apart)

  pub put_in : (old new : Resources R) (rid : ℕ) (s : ResourceState) (value : R) → resource_state_at old rid ≡ Some s → s ≢ state.Idle
      → kept_at new rid ≡ Some (kept.Idle value) → KeepsOthers old new rid → Moves (Some value) old None new
  put_in old new rid s value was away here others =
      inr (
        rid,
        record {
          lay =
              none_lies old rid s was away;
          lies = ap (option_and_then value_of) here;
          others = others_lie old new rid others;
        },
      )

  pub taken_out : (old new : Resources R) (rid : ℕ) (s : ResourceState) (value : R) → kept_at old rid ≡ Some (kept.Idle value)
      → resource_state_at new rid ≡ Some s → s ≢ state.Idle → KeepsOthers old new rid → Moves None old (Some value) new
  taken_out old new rid s value was now away others =
      inr (
        rid,
        record {
          lay =
              ap (option_and_then value_of) was;
          lies = none_lies new rid s now away;
          others = others_lie old new rid others;
        },
      )

  at_every : (old new : Resources R) (rid : ℕ) → lies_at new rid ≡ lies_at old rid
      → ((other : ℕ) → other ≢ rid → lies_at new other ≡ lies_at old other) → LieAsBefore old new
  at_every old new rid here others other =
      elim (other == rid) as (λ b. (other == rid) ≡ b → lies_at new other ≡ lies_at old other) [
        | true ↦ λ e. subst (λ (x : ℕ). lies_at new x ≡ lies_at old x) (sym (eqb-true other rid e)) here
        | false ↦ λ e. others other (λ same. both_ways (other == rid) e (eq-eqb other rid same))
      ] refl

  -- a resource that comes, or goes without a value, moves none
  pub without_value : (old new : Resources R) (rid : ℕ) → lies_at old rid ≡ None → lies_at new rid ≡ None → KeepsOthers old new rid
      → LieAsBefore old new
  without_value old new rid was now others = at_every old new rid (now ∙ sym was) (others_lie old new rid others)

  -- ---- Tables that are said exactly

  changed_elsewhere : (held : List (HeldResource R)) (rid other : ℕ) (k : Kept R) → other ≢ rid
      → kept_in (with_kept held rid k) other ≡ kept_in held other
  changed_elsewhere [] rid other k apart = refl
  changed_elsewhere (h ∷ held) rid other k apart =
      elim (h.rid == rid) as (λ b. (h.rid == rid) ≡ b
      → kept_in (cond b (record h { kept = k }) h ∷ with_kept held rid k) other ≡ kept_in (h ∷ held) other) [
        | true ↦ λ e.
            let off : (h.rid == other) ≡ false = ne_eqb h.rid other (λ same. apart (sym same ∙ eqb-true h.rid rid e)) in
            rw off (changed_elsewhere held rid other k apart)
        | false ↦ λ e.
            elim (h.rid == other) as (λ b. option_map (λ x. x.kept) (cond b (Some h) (find (λ x. x.rid == other) (with_kept held rid k)))
            ≡ option_map (λ x. x.kept) (cond b (Some h) (find (λ x. x.rid == other) held))) [
              | true ↦ refl
              | false ↦ changed_elsewhere held rid other k apart
            ]
      ] refl

  changed_there : (held : List (HeldResource R)) (rid : ℕ) (k : Kept R)
      → kept_in (with_kept held rid k) rid ≡ option_map (λ _. k) (kept_in held rid)
  changed_there [] rid k = refl
  changed_there (h ∷ held) rid k =
      elim (h.rid == rid) as (λ b. (h.rid == rid) ≡ b
      → kept_in (cond b (record h { kept = k }) h ∷ with_kept held rid k) rid
      ≡ option_map (λ _. k) (option_map (λ x. x.kept) (cond b (Some h) (find (λ x. x.rid == rid) held)))) [
        | true ↦ λ e. rw e refl
        | false ↦ λ e. rw e (changed_there held rid k)
      ] refl

  of_found : (k : Kept R) (o : Option (Kept R)) → value_of k ≡ None → option_and_then value_of (option_map (λ _. k) o) ≡ None
  of_found k None none = refl
  of_found k (Some x) none = none

  -- a resource goes out with the job that finishes it
  pub job_moved : (t : Resources R) (work : Work) (handed : Option R) → HandsOut t work handed → Moves None t handed (table_closing t work)
  job_moved t (Note n) handed out = inl (out, λ rid. refl)
  job_moved t (WorkOn rid) None out = absurd out
  job_moved t (WorkOn rid) (Some value) out =
      inr (
        rid,
        record {
          lay = ap (option_and_then value_of) out;
          lies = ap (option_and_then value_of) (changed_there t.held rid kept.Closing) ∙ of_found kept.Closing (kept_at t rid) refl;
          others = λ other apart. ap (option_and_then value_of) (changed_elsewhere t.held rid other kept.Closing apart);
        },
      )

  removed_elsewhere : (held : List (HeldResource R)) (rid other : ℕ) → other ≢ rid → kept_in (without_held held rid) other
      ≡ kept_in held other
  removed_elsewhere [] rid other apart = refl
  removed_elsewhere (h ∷ held) rid other apart =
      elim (h.rid == rid) as (λ b. (h.rid == rid) ≡ b
      → kept_in (cond (not b) (h ∷ without_held held rid) (without_held held rid)) other ≡ kept_in (h ∷ held) other) [
        | true ↦ λ e.
            let off : (h.rid == other) ≡ false = ne_eqb h.rid other (λ same. apart (sym same ∙ eqb-true h.rid rid e)) in
            rw off (removed_elsewhere held rid other apart)
        | false ↦ λ e.
            elim (h.rid == other) as (λ b. option_map (λ x. x.kept) (cond b (Some h) (find (λ x. x.rid == other) (without_held held rid)))
            ≡ option_map (λ x. x.kept) (cond b (Some h) (find (λ x. x.rid == other) held))) [
              | true ↦ refl
              | false ↦ removed_elsewhere held rid other apart
            ]
      ] refl

  removed_there : (held : List (HeldResource R)) (rid : ℕ) → kept_in (without_held held rid) rid ≡ None
  removed_there [] rid = refl
  removed_there (h ∷ held) rid =
      elim (h.rid == rid) as (λ b. (h.rid == rid) ≡ b
      → kept_in (cond (not b) (h ∷ without_held held rid) (without_held held rid)) rid ≡ None) [
        | true ↦ λ e. removed_there held rid
        | false ↦ λ e. rw e (removed_there held rid)
      ] refl

  -- ---- A resource that ends takes no value along

  fewer : (held : List (HeldResource R)) (rid : ℕ) → length (values_in (without_held held rid)) ≤ length (values_in held)
  fewer [] rid = omega arith
  fewer (h ∷ held) rid =
      elim (h.rid == rid) as (λ b. length (values_in (cond (not b) (h ∷ without_held held rid) (without_held held rid))) ≤ length
      (values_in (h ∷ held))) [
        | true ↦
            elim (value_of h.kept) as (λ o. values_in (h ∷ held) ≡ option_to_list o ++ values_in held
            → length (values_in (without_held held rid)) ≤ length (values_in (h ∷ held))) [
              | None ↦ λ e. omega (arith, fewer held rid, ap {A = List R} {B = ℕ} length e)
              | Some v ↦ λ e. omega (arith, fewer held rid, ap {A = List R} {B = ℕ} length e)
            ] (values-cons h held)
        | false ↦
            elim (value_of h.kept) as (λ o. values_in (h ∷ held) ≡ option_to_list o ++ values_in held
            → values_in (h ∷ without_held held rid) ≡ option_to_list o ++ values_in (without_held held rid)
            → length (values_in (h ∷ without_held held rid)) ≤ length (values_in (h ∷ held))) [
              | None ↦ λ e f. omega (arith, fewer held rid, ap {A = List R} {B = ℕ} length e, ap {A = List R} {B = ℕ} length f)
              | Some v ↦ λ e f. omega (arith, fewer held rid, ap {A = List R} {B = ℕ} length e, ap {A = List R} {B = ℕ} length f)
            ] (values-cons h held) (values-cons h (without_held held rid))
      ]

  one_fewer : (held : List (HeldResource R)) (rid : ℕ) (value : R) → option_and_then value_of (kept_in held rid) ≡ Some value
      → length (values_in (without_held held rid)) < length (values_in held)
  one_fewer [] rid value lies = absurd (cc lies)
  one_fewer (h ∷ held) rid value lies =
      elim (h.rid == rid) as (λ b. option_and_then value_of (option_map (λ x. x.kept) (cond b (Some h) (find (λ x. x.rid == rid) held)))
      ≡ Some value → length (values_in (cond (not b) (h ∷ without_held held rid) (without_held held rid))) < length
      (values_in (h ∷ held))) [
        | true ↦ λ here. omega (
          arith,
          fewer held rid,
          ap {A = List R} {B = ℕ} length (values-cons h held),
          ap {A = Option R} {B = ℕ} (λ o. length (option_to_list o ++ values_in held)) here,
        )
        | false ↦ λ later.
            elim (value_of h.kept) as (λ o. values_in (h ∷ held) ≡ option_to_list o ++ values_in held
            → values_in (h ∷ without_held held rid) ≡ option_to_list o ++ values_in (without_held held rid)
            → length (values_in (h ∷ without_held held rid)) < length (values_in (h ∷ held))) [
              | None ↦ λ e f. omega (
                arith,
                one_fewer held rid value later,
                ap {A = List R} {B = ℕ} length e,
                ap {A = List R} {B = ℕ} length f,
              )
              | Some v ↦ λ e f. omega (
                arith,
                one_fewer held rid value later,
                ap {A = List R} {B = ℕ} length e,
                ap {A = List R} {B = ℕ} length f,
              )
            ] (values-cons h held) (values-cons h (without_held held rid))
      ] lies

  none_went : (held : List (HeldResource R)) (rid : ℕ) → values_in (without_held held rid) ≡ values_in held
      → option_and_then value_of (kept_in held rid) ≡ None
  none_went held rid same =
      elim (option_and_then value_of (kept_in held rid)) as (λ o. option_and_then value_of (kept_in held rid) ≡ o → o ≡ None) [
        | None ↦ λ e. refl
        | Some v ↦ λ e. absurd (omega (arith, one_fewer held rid v e, ap {A = List R} {B = ℕ} length same))
      ] refl

  pub closed_lie : (t : Resources R) (work : Work) → values (table_closed t work) ≡ values t → LieAsBefore t (table_closed t work)
  closed_lie t (Note n) same = λ rid. refl
  closed_lie t (WorkOn rid) same =
      at_every t (removed t rid) rid (ap (option_and_then value_of) (removed_there t.held rid) ∙ sym (none_went t.held rid same))
      (λ other apart. ap (option_and_then value_of) (removed_elsewhere t.held rid other apart))

  finished_table : (c : Cleanings R) (job : Job) (outcome : Outcome) → (after_finish c job outcome).table ≡ table_closed c.table job.work
  finished_table c job OutcomeOk = refl
  finished_table c job (Failed fault) = refl

  pub finished_lie : (old new : Cleanings R) (by action : ℕ) (outcome : Outcome) → is_job_of old.jobs by action ≡ true
      → ((job : Job) → job_in old.jobs action ≡ Some job → job.by ≡ by → new ≡ after_finish old job outcome)
      → values new.table ≡ values old.table → LieAsBefore old.table new.table
  finished_lie old new by action outcome runs finished same =
      let job = some_and_gives (λ job. job.by == by) (job_in old.jobs action) runs in
      let left : new.table ≡ table_closed old.table job.0.work =
      ap {A = Cleanings R} {B = Resources R} (λ c. c.table) (finished job.0 job.1 (eqb-true job.0.by by job.2))
      ∙ finished_table old job.0 outcome in
      subst (λ (t : Resources R). LieAsBefore old.table t) (sym left)
      (closed_lie old.table job.0.work (sym (ap {A = Resources R} {B = List R} (λ t. values t) left) ∙ same))

  closed_room : (t : Resources R) (work : Work) → (table_closed t work).room ≡ t.room
  closed_room t (Note n) = refl
  closed_room t (WorkOn rid) = refl

  pub finished_room : (old new : Cleanings R) (by action : ℕ) (outcome : Outcome) → is_job_of old.jobs by action ≡ true
      → ((job : Job) → job_in old.jobs action ≡ Some job → job.by ≡ by → new ≡ after_finish old job outcome)
      → new.table.room ≡ old.table.room
  finished_room old new by action outcome runs finished =
      let job = some_and_gives (λ job. job.by == by) (job_in old.jobs action) runs in
      let left : new.table ≡ table_closed old.table job.0.work =
      ap {A = Cleanings R} {B = Resources R} (λ c. c.table) (finished job.0 job.1 (eqb-true job.0.by by job.2))
      ∙ finished_table old job.0 outcome in
      ap {A = Resources R} {B = ℕ} (λ t. t.room) left ∙ closed_room old.table job.0.work

  -- a number that is taken leaves the table
  pub numbered_table : (o : Option ℕ) (place : ℕ) (old new : Cleanings R) → IfSome o (λ _. new ≡ after_register old place)
      → IfNone o ((old.next_action ≡ 2 ^ 64 - 1) × (new ≡ old)) → old.table ≡ new.table
  numbered_table None place old new given none = ap {A = Cleanings R} {B = Resources R} (λ c. c.table) (sym none.1)
  numbered_table (Some action) place old new given none = ap {A = Cleanings R} {B = Resources R} (λ c. c.table) (sym given)
