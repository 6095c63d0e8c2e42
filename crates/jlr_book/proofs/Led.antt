-- Laws of where the records of entries lead.
use Rattle.std.proofs.Common.{◌≡◌, ℕ, ◌+◌, ◌<◌, List, [], ◌∷◌, length, drop, slice_index_or, sym, ◌∙◌, ap, subst}
use Rattle.std.proofs.lemmas.List.{drop_more}
use Rattle.jlr_machine.specs.declared.machine.Machine.{Machine}
use Rattle.jlr_machine.specs.declared.entry.Entry.{Entry}
use Rattle.jlr_machine.specs.Run.{IsLegal, Run, apply}
use Rattle.jlr_laws.proofs.Law.{legal_kept}
use Rattle.jlr_histories.proofs.Left.{leaves_the_same}
use Rattle.jlr_plain.specs.declared.record.Record.{Record}
use Rattle.jlr_plain.specs.Records.{entry_in, replayed}
use Rattle.jlr_plain.specs.Unseen.{unseen, IsLegalBefore}
use Rattle.jlr_plain.proofs.Records.{entry_unseen}
use Rattle.jlr_book.specs.Led.{led, LeadsOn}

-- what was seen matters to nothing else
pub same_after : (m : Machine) (e : Entry) → unseen (apply (unseen m) e) ≡ unseen (apply m e)
same_after m e = leaves_the_same m [] e

same_behind : (m : Machine) (r : Record) → unseen (apply (unseen m) (entry_in (unseen m) r)) ≡ unseen (apply m (entry_in m r))
same_behind m r =
    ap {A = Entry} {B = Machine} (λ e. unseen (apply (unseen m) e)) (entry_unseen m r) ∙ same_after m (entry_in m r)

-- where a run leads
pub led_by_run : (m n : Machine) (records : List Record) → Run m (replayed m records) n → led (unseen m) records ≡ unseen n
led_by_run m n [] r = ap {A = Machine} {B = Machine} unseen (sym r)
led_by_run m n (x ∷ records) r = ap {A = Machine} {B = Machine} (λ k. led k records) (same_behind m x)
    ∙ led_by_run (apply m (entry_in m x)) n records r.1

pub leads_further : (n : Machine) (r : Record) (records : List Record) → LeadsOn n (r ∷ records)
    → LeadsOn (unseen (apply n (entry_in n r))) records
leads_further n r records h = record {
  machine = apply h.machine (entry_in h.machine r);
  same = ap {A = Machine} {B = Machine} (λ x. unseen (apply x (entry_in x r))) h.same ∙ same_behind h.machine r;
  formed = legal_kept h.machine (entry_in h.machine r) h.formed h.run.0;
  last = h.last;
  run = h.run.1;
}

-- the entry of the first of them is legal
pub legal_next : (n : Machine) (r : Record) (records : List Record) → LeadsOn n (r ∷ records) → IsLegalBefore n (entry_in n r)
legal_next n r records h =
    let same : entry_in n r ≡ entry_in h.machine r = ap {A = Machine} {B = Entry} (λ x. entry_in x r) h.same ∙ entry_unseen h.machine r in
    record { machine = h.machine; same = h.same; formed = h.formed; legal = subst (IsLegal h.machine) (sym same) h.run.0 }

-- ---- The record at a place

pub rest_is : (records : List Record) (i : ℕ) (r : Record) → i < length records → r ≡ slice_index_or records i r
    → drop i records ≡ r ∷ drop (i + 1) records
rest_is records i r h is = drop_more records i r h ∙ ap {A = Record} {B = List Record} (λ x. x ∷ drop (i + 1) records) (sym is)

pub leads_past : (n n' : Machine) (records : List Record) (i : ℕ) (r : Record) → i < length records → r ≡ slice_index_or records i r
    → LeadsOn n (drop i records) → n' ≡ unseen (apply n (entry_in n r)) → LeadsOn n' (drop (i + 1) records)
leads_past n n' records i r h is l to =
    subst (λ (x : Machine). LeadsOn x (drop (i + 1) records)) (sym to)
    (leads_further n r (drop (i + 1) records) (subst (LeadsOn n) (rest_is records i r h is) l))
