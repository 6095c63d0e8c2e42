-- Runs found legal by a test that computes, and the worked rows by it.
use Rattle.std.proofs.Common.{◌≡◌, ℕ, ◌≤◌, Bool, true, false, ◌&&◌, List, [], ◌∷◌, length, refl, arith}
use Rattle.std.proofs.lemmas.Bool.{both_ways, and_parts}
use Rattle.jlr_machine.specs.declared.machine.Machine.{Machine}
use Rattle.jlr_machine.specs.declared.entry.Entry.{Entry}
use Rattle.jlr_machine.specs.Edges.{roots}
use Rattle.jlr_machine.specs.Run.{IsLegal, Run, apply, empty}
use Rattle.jlr_machine.specs.Edges.Chain.{UpToPhantom}
use Rattle.jlr_laws.specs.Rows.{after_all}
use Rattle.jlr_laws.specs.Deciding.{is_legal}
use Rattle.jlr_laws.proofs.Checks.{edges_within, all_below, within, below}
use Rattle.jlr_laws.proofs.Legality.{any_case, legality_is_decided}
use Rattle.jlr_laws.proofs.RunLaws.{runs_are_well_formed}

-- edges, roots and what was seen lie within the heap
abbrev lies_within : Machine → Bool
lies_within m = edges_within UpToPhantom m.objects && all_below (length m.objects) (roots m) && all_below (length m.objects) m.seen

abbrev is_run : Machine → List Entry → Bool
is_run m [] = true
is_run m (e ∷ entries) = lies_within m && is_legal m e && is_run (apply m e) entries

pub run_by_test : (m : Machine) (entries : List Entry) → is_run m entries ≡ true → Run m entries (after_all m entries)
run_by_test m [] h = refl
run_by_test m (e ∷ entries) h =
    let p = and_parts (lies_within m && is_legal m e) (is_run (apply m e) entries) h in
    let q = and_parts (lies_within m) (is_legal m e) p.0 in
    let r = and_parts (edges_within UpToPhantom m.objects && all_below (length m.objects) (roots m)) (all_below (length m.objects) m.seen)
    q.0 in
    let t = and_parts (edges_within UpToPhantom m.objects) (all_below (length m.objects) (roots m)) r.0 in (
      any_case m (record { edges = within UpToPhantom m.objects t.0; base = below (length m.objects) (roots m) t.1 })
          (below (length m.objects) m.seen r.1) e q.1,
      run_by_test (apply m e) entries p.1,
    )

-- an entry that the test refuses is not legal after a run from the empty machine
pub never_legal : (cells sessions resources : ℕ) (entries : List Entry) (e : Entry) → cells ≤ 65536 → sessions ≤ 64
    → is_run (empty cells sessions resources) entries ≡ true
    → is_legal (after_all (empty cells sessions resources) entries) e ≡ false
    → ¬ (IsLegal (after_all (empty cells sessions resources) entries) e)
never_legal cells sessions resources entries e small few h wrong legal =
    let m = after_all (empty cells sessions resources) entries in
    let w = runs_are_well_formed cells sessions resources 1 m entries (omega arith) small few
    (run_by_test (empty cells sessions resources) entries h) in
    both_ways (is_legal m e) wrong ((legality_is_decided m e w).1 legal)
