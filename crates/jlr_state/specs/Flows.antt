-- The files and sockets that events hand in and replies hand out.
use Rattle.std.specs.Prelude.{◌≡◌, ◌≢◌, ◌⊎◌, ◌++◌, ℕ, Option, Some, None, option_and_then}
use Rattle.std.specs.Option.{option_to_list}
use Rattle.std.specs.List.Sorted.{IsPermutation}
use Rattle.jlr_types.specs.declared.Work.TheVariants.{Resource as WorkOn}
use Rattle.jlr_machine.specs.declared.ask.Answer.{Answer}
use Rattle.jlr_machine.specs.declared.ask.Answer.TheVariants.{Job, Out, Refused}
use Rattle.jlr_resource.specs.Resources.{Resources, kept_at, value_of, values}
use Rattle.jlr_cleaner.specs.Cleanings.{HandsOut}

module _ {R : Type 0} where
  -- none is made or lost: what came in and what lay in the table is what goes out and what lies there now, each as
  -- often
  abbrev pub Conserves : Option R → Resources R → Option R → Resources R → Type 0
  Conserves came old out new = IsPermutation (option_to_list came ++ values old) (option_to_list out ++ values new)

  -- what goes out with an answer: with a refusal what came in, with a job or a call the value that was put in last for
  -- its Rid, else nothing
  abbrev pub GoesOut : Resources R → Option R → Option Answer → Option R → Type 0
  GoesOut t came (Some (Refused by)) out = out ≡ came
  GoesOut t came (Some (Job action work)) out = HandsOut t work out
  GoesOut t came (Some (Out rid)) out = HandsOut t (WorkOn rid) out
  GoesOut t came answer out = out ≡ None

  -- ---- What lies at each Rid

  -- the value that lies in the table at a Rid, if one does
  abbrev pub lies_at : Resources R → ℕ → Option R
  lies_at t rid = option_and_then value_of (kept_at t rid)

  -- at every Rid lies what lay there
  abbrev pub LieAsBefore : Resources R → Resources R → Type 0
  LieAsBefore old new = (rid : ℕ) → lies_at new rid ≡ lies_at old rid

  -- what lay at this Rid went out, what came in lies there now, and at every other lies what lay there
  pub record MovesAt (rid : ℕ) (came : Option R) (old : Resources R) (out : Option R) (new : Resources R) : Type 0 where
    pub lay : lies_at old rid ≡ out
    pub lies : lies_at new rid ≡ came
    pub others : (other : ℕ) → other ≢ rid → lies_at new other ≡ lies_at old other

  -- a table changes at one Rid at most. Where it changes at none, what came in goes back
  abbrev pub Moves : Option R → Resources R → Option R → Resources R → Type 0
  Moves came old out new = ((out ≡ came) × LieAsBefore old new) ⊎ ((rid : ℕ) × MovesAt rid came old out new)
