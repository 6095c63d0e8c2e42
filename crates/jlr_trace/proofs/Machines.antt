-- The image of a history has a spelling.
use Rattle.std.proofs.Common.{◌≡◌, ◌<◌, ◌≤◌, ◌^◌, ◌++◌, ℕ, suc, ◌+◌, false, List, [], ◌∷◌, length, map, option_map, refl, sym, ◌∙◌, ap}
use Rattle.std.proofs.Common.{subst, arith, Option, Some, None}
use Rattle.std.specs.Prelude.{nat_lt, if◌then◌else◌}
use Rattle.std.specs.List.{AllByRecursion, list_any}
use Rattle.std.proofs.lemmas.Bool.{le-ltb}
use Rattle.std.proofs.lemmas.List.{length-map, append-nil}
use Rattle.jlr_machine.specs.declared.object.Guard.{Guard as GuardOf}
use Rattle.jlr_machine.specs.declared.object.Object.TheVariants.{Guard}
use Rattle.jlr_machine.specs.declared.machine.Machine.{Machine}
use Rattle.jlr_machine.specs.declared.machine.Session.{Session}
use Rattle.jlr_machine.specs.declared.machine.Call.{Call}
use Rattle.jlr_machine.specs.declared.machine.Call.TheVariants.{Free, Opening as CallOpening, Out as CallOut, Job as CallJob}
use Rattle.jlr_machine.specs.Objects.{at, ◌∈◌}
use Rattle.jlr_machine.specs.Edges.{roots, active_cleanables}
use Rattle.jlr_machine.specs.WellFormed.{IsWellFormed, IsSessionAt, FitsItsCall}
use Rattle.jlr_laws.proofs.Clearing.{in_left, in_right}
use Rattle.jlr_laws.proofs.Frames.{place_within}
use Rattle.jlr_trace_fields.specs.declared.version.Version.TheVariants.{Two}
use Rattle.jlr_trace_fields.specs.Items.{IsRising}
use Rattle.jlr_trace_fields.specs.declared.parts.record.Held.{Held}
use Rattle.jlr_trace_fields.specs.declared.parts.record.Placed.{Placed}
use Rattle.jlr_trace_fields.specs.Records.{PlacedFits}
use Rattle.jlr_trace.specs.declared.file.TraceFile.{TraceFile}
use Rattle.jlr_trace.specs.Files.{image_of}
use Rattle.jlr_machine.specs.declared.entry.Entry.{Entry}
use Rattle.jlr_trace_entries.specs.Images.{listed_from, placed, handle_held, session_text, SessionFits, ImageFits, HasShape, HasPlaces}
use Rattle.jlr_trace_entries.specs.Images.{image_text}
use Rattle.jlr_trace.specs.Ranges.{SeatRange, SessionRange, MachineRange, LimitsInRange}
use Rattle.jlr_trace.proofs.ListLengths.{short, rises}
use Rattle.jlr_trace.proofs.Workers.{few_jobs, few_resources}
use Rattle.jlr_trace.proofs.Tables.{table_fits, handles_fit}
use Rattle.jlr_trace.proofs.Objects.{slot_fits, object_within, all_objects_fit, one_on, none_on, from_none}

no_some : (s : ℕ) (o : Option ℕ) → o ≡ None → o ≡ Some s → s < 65536
no_some s o e h = absurd cc

module _ (m : Machine) (w : IsWellFormed m) where
  -- ---- Mutators

  moved : (n k : ℕ) (s : Session) → IsSessionAt m (n + suc k) s → IsSessionAt m (suc n + k) s
  moved n k s h = subst (λ (j : ℕ). IsSessionAt m j s) (one_on n k) h

  at_first : (n : ℕ) (s : Session) → IsSessionAt m (n + 0) s → IsSessionAt m n s
  at_first n s h = subst (λ (j : ℕ). IsSessionAt m j s) (none_on n) h

  counted_from_none : (k : ℕ) (s : Session) → IsSessionAt m k s → IsSessionAt m (0 + k) s
  counted_from_none k s h = subst (λ (j : ℕ). IsSessionAt m j s) (from_none k) h

  guard_within : (t s : ℕ) (g : GuardOf) (o : Option ℕ) → o ≡ Some t → at m.objects t ≡ Some (Guard g) → o ≡ Some s → s < 65536
  guard_within t s g o e there h =
      let lt = place_within m.objects t (Guard g) there in
      let same : t ≡ s = cc (e, h) in
      omega (arith, lt, same, w.limits.cells)

  fence_within : (k s : ℕ) (session : Session) (call : Call) → FitsItsCall m k session call → session.fence ≡ Some s → s < 65536
  fence_within k s session Free fits h = no_some s session.fence fits h
  fence_within k s session (CallOpening rid) fits h = guard_within fits.0 s fits.1 session.fence fits.3 fits.4 h
  fence_within k s session (CallOut rid) fits h = guard_within fits.0 s fits.1 session.fence fits.3 fits.4 h
  fence_within k s session (CallJob action) fits h = no_some s session.fence fits.0 h

  session_fits : (k : ℕ) (session : Session) → IsSessionAt m k session → SessionRange session → SessionFits (Some (session_text session))
  session_fits k session here range =
      let places = (w.sessions.places k session here).0 in
      record {
        handles = handles_fit session.handles (omega (arith, places)) range.handles;
        fence = slot_fits session.fence (λ s h. fence_within k s session session.call (w.calls.calls k session here) h);
        call = range.call;
      }

  sessions_fit : (n : ℕ) (xs : List (Option Session)) → ((k : ℕ) (s : Session) → at xs k ≡ Some s → IsSessionAt m (n + k) s)
      → AllByRecursion SeatRange xs → AllByRecursion SessionFits (map (option_map session_text) xs)
  sessions_fit n [] here range = tt
  sessions_fit n (None ∷ xs) here range = (tt, sessions_fit (suc n) xs (λ k s e. moved n k s (here (suc k) s e)) range.1)
  sessions_fit n (Some s ∷ xs) here range =
      (session_fits n s (at_first n s (here 0 s refl)) range.0, sessions_fit (suc n) xs (λ k t e. moved n k t (here (suc k) t e)) range.1)

  -- ---- Handles are at most 250, so there are 251 places for them

  none_above : (n : ℕ) (xs : List (Option ℕ)) → n + length xs ≤ 251
      → list_any (λ (h : Held). nat_lt 250 h.handle) (listed_from handle_held n xs) ≡ false
  none_above n [] le = refl
  none_above n (None ∷ xs) le = none_above (suc n) xs (omega (arith, le))
  none_above n (Some s ∷ xs) le =
      let here : nat_lt 250 n ≡ false = le-ltb 250 n (omega (arith, le)) in
      rw here (none_above (suc n) xs (omega (arith, le)))

  has_places : (k : ℕ) (session : Session) → IsSessionAt m k session → HasPlaces (Some session)
  has_places k session here =
      let places = (w.sessions.places k session here).0 in
      places ∙ sym (ap (λ b. if b then 256 else 251) (none_above 0 session.handles (omega (arith, places))))

  all_have_places : (n : ℕ) (xs : List (Option Session)) → ((k : ℕ) (s : Session) → at xs k ≡ Some s → IsSessionAt m (n + k) s)
      → AllByRecursion HasPlaces xs
  all_have_places n [] here = tt
  all_have_places n (None ∷ xs) here = (tt, all_have_places (suc n) xs (λ k s e. moved n k s (here (suc k) s e)))
  all_have_places n (Some s ∷ xs) here =
      (has_places n s (at_first n s (here 0 s refl)), all_have_places (suc n) xs (λ k t e. moved n k t (here (suc k) t e)))

  -- ---- What waits

  root_within : (s : ℕ) → s ∈ roots m → s < 65536
  root_within s h = let lt = object_within m s (w.slots.roots s h) in omega (arith, lt, w.limits.cells)

  line_within : (s : ℕ) → s ∈ m.line → s < 65536
  line_within s h = root_within s (in_left s _ (active_cleanables 0 m.objects) (in_right s _ m.line h))

  pending_within : (s : ℕ) → s ∈ m.pending → s < 65536
  pending_within s h = root_within s (in_left s _ (active_cleanables 0 m.objects) (in_left s _ m.line (in_right s _ m.pending h)))

  few_pending : length m.pending ≤ 65536
  few_pending = short m.pending 65536 w.lists.pending_once pending_within

  few_lined : length m.line ≤ 65536
  few_lined = short m.line 65536 w.lists.line_once line_within

  -- ---- The image

  module _ (base : ℕ) (entries : List Entry) (bound : base < 2 ^ 64) (limits : LimitsInRange m) (range : MachineRange m) where
    abbrev the_file : TraceFile
    the_file = record { version = Two; base = base; image = m; strays = []; entries = entries }

    objects_fit : IsRising (PlacedFits Two) (λ p. p.slot) (listed_from placed 0 m.objects ++ [])
    objects_fit = subst (λ (l : List Placed). IsRising (PlacedFits Two) (λ p. p.slot) l) (sym (append-nil (listed_from placed 0 m.objects)))
        (table_fits m.objects w.limits.cells (all_objects_fit m w range.objects))

    pub image_fits : ImageFits Two (image_text (image_of the_file))
    image_fits =
        let jobs = few_jobs m w range.jobs in
        let resources = few_resources m w range.jobs in
        let pending = few_pending in
        let lined = few_lined in
        let names = w.sessions.names_limit in
        record {
          head = record {
            cells = (limits.cells, w.limits.cells);
            sessions =
                (limits.sessions, w.limits.sessions);
            resources = (limits.some_resources, limits.few_resources);
            base = bound;
          };
          objects = objects_fit;
          mutators = sessions_fit 0 m.mutators counted_from_none range.mutators;
          sessions = length-map m.mutators (option_map session_text);
          waiting = record {
            names = record { count = omega (arith, names); each = range.names };
            pending = record { count = omega (arith, pending); each = range.pending };
            line = record { count = omega (arith, lined); each = range.line };
          };
          records = record {
            jobs = record {
              listed =
                  record { count = omega (arith, jobs); each = range.jobs };
              rises = rises (λ job. job.action) m.jobs w.actions.jobs;
            };
            resources = record {
              listed = record { count = omega (arith, resources); each = range.resources };
              rises =
                  rises (λ r. r.rid) m.resources w.resources.rising;
            };
            faults = record { count = let le = w.faults in omega (arith, le); each = range.faults };
            notes = record { count = let le = w.notes in omega (arith, le); each = range.notes };
          };
          counts = range.counts;
        }

    pub image_shape : m.cycle_open ≡ false → HasShape (image_of the_file)
    image_shape shut =
        record { closed = shut; nothing_seen = w.seen_in_cycle shut; apart = tt; places = all_have_places 0 m.mutators counted_from_none }
