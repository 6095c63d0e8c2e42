-- Lemmas on what legal entries count up, and on the machine that they leave.
use Rattle.std.proofs.Common.{◌≡◌, ℕ, ◌<◌, ◌≤◌, ◌^◌, false, List, length, refl, sym, ◌∙◌, ap, subst, arith, Option, Some, None}
use Rattle.std.proofs.lemmas.Bool.{both_ways, leb-false}
use Rattle.jlr_types.specs.declared.Refusal.TheVariants.{Exhausted}
use Rattle.jlr_machine.specs.declared.machine.Machine.{Machine}
use Rattle.jlr_machine.specs.declared.entry.Entry.{Entry}
use Rattle.jlr_machine.specs.declared.entry.Collected.{Collected}
use Rattle.jlr_machine.specs.declared.ask.Ask.{Ask}
use Rattle.jlr_machine.specs.declared.ask.Ask.TheVariants.{Register, Prepare}
use Rattle.jlr_machine.specs.Refusals.{refusal}
use Rattle.jlr_machine.specs.Run.{with_collection, carried, done, apply, now_seen, IsLegal}
use Rattle.jlr_machine.specs.Run.IsLegal.{carried_out, refused, heap_full, out_of_memory}
use Rattle.jlr_machine.specs.Edges.{roots}
use Rattle.jlr_machine.specs.WellFormed.{IsWellFormed}
use Rattle.jlr_laws.specs.Laws.{IsWithinHeap}
use Rattle.jlr_laws.proofs.Empty.{well_formed_within}
use Rattle.jlr_laws.proofs.Law.{legal_kept}
use Rattle.jlr_laws.proofs.Allowed.{allowed}
use Rattle.jlr_plain.specs.Deciding.{carried_in, completed}
use Rattle.jlr_plain_asks.specs.Counts.{HaveRoom, HasNextAction}
use Rattle.jlr_machine.specs.Refusals.{is_refusal}

-- ---- Counts

pub well_formed_room : (m : Machine) → IsWellFormed m → m.next_action < 2 ^ 64 → HaveRoom m
well_formed_room m w h =
    let t = w.actions.taken in
    let r = w.actions.room in
    record { taken = omega (arith, r, h); ok = omega (arith, t, r, h); failed = omega (arith, t, r, h) }

pub room_kept : (m : Machine) (c : Option Collected) → HaveRoom m → HaveRoom (with_collection m c)
room_kept m None h = h
room_kept m (Some c) h = record { taken = h.taken; ok = h.ok; failed = h.failed }

next_kept : (m : Machine) (c : Option Collected) → m.next_action ≡ (with_collection m c).next_action
next_kept m None = refl
next_kept m (Some c) = refl

next_allowed : (m : Machine) (ask : Ask) → refusal m ask ≡ None → HasNextAction m.next_action ask
next_allowed m (Register k d h note) r = let f = leb-false _ _ (allowed m (Register k d h note) r Exhausted refl) in omega (arith, f)
next_allowed m (Prepare k) r = let f = leb-false _ _ (allowed m (Prepare k) r Exhausted refl) in omega (arith, f)
next_allowed m _ r = tt

pub next_legal : (m : Machine) (e : Entry) → IsLegal m e → is_refusal e.answer ≡ false → HasNextAction m.next_action e.ask
next_legal m e (carried_out c) n = next_allowed m e.ask c.allowed
next_legal m e (refused r) n = absurd (both_ways (is_refusal e.answer) n (ap is_refusal r.answers))
next_legal m e (heap_full r) n = absurd (both_ways (is_refusal e.answer) n (ap is_refusal r.answers))
next_legal m e (out_of_memory r) n = absurd (both_ways (is_refusal e.answer) n (ap is_refusal r.answers))

pub next_in_collected : (m : Machine) (e : Entry) → IsLegal m e → is_refusal e.answer ≡ false
    → HasNextAction (with_collection m e.choice.collected).next_action e.ask
next_in_collected m e l n = subst (λ k. HasNextAction k e.ask) (next_kept m e.choice.collected) (next_legal m e l n)

-- ---- The machine before it is said what was seen

pub carried_is : (m n : Machine) (e : Entry) (fresh : List ℕ) → n ≡ carried m e.ask e.answer fresh → fresh ≡ e.choice.fresh
    → n ≡ carried_in m e
carried_is m n e fresh a f = a ∙ ap {A = List ℕ} {B = Machine} (λ l. carried m e.ask e.answer l) f

pub collected_done : (m collected : Machine) (e : Entry) → collected ≡ with_collection m e.choice.collected
    → carried_in collected e ≡ done m e
collected_done m collected e c = ap {A = Machine} {B = Machine} (λ x. carried_in x e) c

pub done_small : (m n : Machine) (e : Entry) → n ≡ done m e → IsWellFormed m → IsLegal m e → length n.objects ≤ 2 ^ 32
done_small m n e d w l = let P : Machine → Type 0 = λ x. length x.objects ≤ 2 ^ 32 in
    subst P (sym d) (let h = (legal_kept m e w l).limits.cells in omega (arith, h))

pub done_within : (m n : Machine) (e : Entry) → n ≡ done m e → IsWellFormed m → IsLegal m e → IsWithinHeap n.objects (roots n)
done_within m n e d w l = let P : Machine → Type 0 = λ x. IsWithinHeap x.objects (roots x) in
    subst P (sym d) (well_formed_within (apply m e) (legal_kept m e w l))

pub seen_said : (m n : Machine) (e : Entry) (seen : List ℕ) → n ≡ carried_in m e → seen ≡ now_seen n
    → record n { seen = seen } ≡ completed m e
seen_said m n e seen d s = ap {A = List ℕ} {B = Machine} (λ l. record n { seen = l }) s
    ∙ ap {A = Machine} {B = Machine} (λ x. record x { seen = now_seen x }) d

-- where it is what it was already
pub seen_kept : (m n : Machine) (e : Entry) → n ≡ carried_in m e → now_seen (carried_in m e) ≡ (carried_in m e).seen → n ≡ completed m e
seen_kept m n e d s = d ∙ ap {A = List ℕ} {B = Machine} (λ l. record (carried_in m e) { seen = l }) (sym s)
