-- The verdict on what comes of a stream is that on the history that its bytes spell.
use Rattle.std.proofs.Common.{◌≡◌, ℕ, List, length, Option, Some, None, Result, Ok, Err, subst, sym, ◌∙◌}
use Rattle.std.specs.Prelude.{IfOk, OnOk}
use Rattle.jlr_machine.specs.declared.machine.Machine.{Machine}
use Rattle.jlr_machine.specs.declared.entry.Entry.{Entry}
use Rattle.jlr_trace_fields.specs.declared.version.Version.{Version}
use Rattle.jlr_trace_fields.specs.declared.parts.record.Placed.{Placed}
use Rattle.jlr_trace.specs.declared.file.TraceFault.{TraceFault}
use Rattle.jlr_trace.specs.declared.window.StreamFault.{StreamFault}
use Rattle.jlr_trace.specs.Streams.{history, SpellsWhatComes, AreBytes, AllAreBytes, AreSoMany}
use Rattle.jlr_audit.specs.Streams.{IsStreamVerdict}
use Rattle.jlr_commands.specs.declared.audit.Judged.{Judged}
use Rattle.jlr_commands.specs.Audits.{IsStreamJudged}

module _ (version : Version) (base : ℕ) (image : Machine) (strays : List Placed) (count : ℕ) where
  -- what a judgement of them says
  abbrev Says : Option (Result (List Entry) TraceFault) → Judged → Type 0
  Says coming j = IsStreamVerdict strays image coming j.verdict × (j.entries ≡ count) × (j.base ≡ base) × (j.version ≡ version)

  is_judged : (all rest : Option (List ℕ)) (coming : Option (Result (List Entry) TraceFault)) (j : Judged)
      → SpellsWhatComes (history version base image strays) all coming → AreBytes all rest → AreSoMany count coming
      → Says coming j → AllAreBytes rest → IsStreamJudged all j
  is_judged None rest coming j spells bytes many says all = tt
  is_judged (Some text) rest None j spells bytes many says all = absurd spells
  is_judged (Some text) None (Some read) j spells bytes many says all = absurd bytes
  is_judged (Some text) (Some left) (Some read) j spells bytes many says all =
      let v = says.0 in
      let spelled = spells v.entries (bytes all) v.come in
      let counted : length v.entries ≡ count = subst (λ (r : Result (List Entry) TraceFault). AreSoMany count (Some r)) v.come many in
      record {
        file = history version base image strays v.entries;
        spelling = spelled.0;
        spelled = spelled.1;
        verdict = v.verdict;
        entries = says.1 ∙ sym counted;
        base = says.2;
        version = says.3;
      }

  pub judged : (all rest : Option (List ℕ)) (coming : Option (Result (List Entry) TraceFault)) (result : Result Judged StreamFault)
      → SpellsWhatComes (history version base image strays) all coming → AreBytes all rest → AreSoMany count coming
      → IfOk result (λ j. Says coming j) → OnOk result (AllAreBytes rest) → IfOk result (λ j. IsStreamJudged all j)
  judged all rest coming (Ok j) spells bytes many says fits = is_judged all rest coming j spells bytes many says fits
  judged all rest coming (Err f) spells bytes many says fits = tt
