-- An image of the right shape is told by its text.
use Rattle.std.proofs.Common.{◌≡◌, ℕ, suc, ◌+◌, ◌≤◌, Bool, List, [], ◌∷◌, ◌++◌, length, Option, Some, None, refl, sym, ap, ◌∙◌, subst}
use Rattle.std.proofs.Common.{arith}
use Rattle.std.specs.Prelude.{map, option_map}
use Rattle.std.specs.List.{AllByRecursion}
use Rattle.std.proofs.lemmas.List.{append-nil}
use Rattle.jlr_machine.specs.declared.object.Object.{Object}
use Rattle.jlr_machine.specs.declared.machine.Call.{Call}
use Rattle.jlr_machine.specs.declared.machine.Session.{Session}
use Rattle.jlr_machine.specs.Objects.{Table}
use Rattle.jlr_trace_fields.specs.declared.parts.record.Placed.{Placed}
use Rattle.jlr_trace_fields.specs.declared.parts.record.Held.{Held}
use Rattle.jlr_trace_entries.specs.declared.image.Image.{Image}
use Rattle.jlr_trace_entries.specs.Images.{SessionText, listed_from, placed, handle_held, session_text, ImageText, image_text, places_of}
use Rattle.jlr_trace_entries.specs.Images.{HasPlaces}
use Rattle.jlr_trace_entries.specs.Images.{HasShape}

-- ---- A list and the length of its table tell the table, and what stands behind with keys of no place

module _
    {A B : Type 0} (make : ℕ → A → B) (key : B → ℕ) (thing : B → A) (keyed : (n : ℕ) (x : A) → key (make n x) ≡ n)
    (things : (n : ℕ) (x : A) → thing (make n x) ≡ x) where
  first_key :
      (n end : ℕ) (xs : List (Option A)) (behind : List B) (z : B) (zs : List B) → n + length xs ≡ end
      → AllByRecursion (λ b. end ≤ key b) behind → listed_from make n xs ++ behind ≡ z ∷ zs → n ≤ key z
  first_key n end [] [] z zs size far e = absurd cc
  first_key n end [] (b ∷ behind) z zs size far e =
      let same : b ≡ z = cc in
      subst (λ y. n ≤ key y) same (omega (arith, size, far.0))
  first_key n end (None ∷ xs) behind z zs size far e =
      let above = first_key (suc n) end xs behind z zs (omega (arith, size)) far e in
      omega (arith, above)
  first_key n end (Some x ∷ xs) behind z zs size far e =
      let same : make n x ≡ z = cc in
      subst (λ y. n ≤ key y) same (omega (arith, keyed n x))

  -- where a table begins with nothing, and a list with the thing of the first place
  no_such :
      (n end : ℕ) (xs : List (Option A)) (behind : List B) (y : A) (zs : List B) → suc n + length xs ≡ end
      → AllByRecursion (λ b. end ≤ key b) behind → listed_from make (suc n) xs ++ behind ≡ make n y ∷ zs → ⊥
  no_such n end xs behind y zs size far e =
      let above = first_key (suc n) end xs behind (make n y) zs size far e in
      absurd (omega (arith, above, keyed n y))

  pub told_apart :
      (n end : ℕ) (xs ys : List (Option A)) (s t : List B) → n + length xs ≡ end → n + length ys ≡ end
      → AllByRecursion (λ b. end ≤ key b) s → AllByRecursion (λ b. end ≤ key b) t
      → listed_from make n xs ++ s ≡ listed_from make n ys ++ t → (xs ≡ ys) × (s ≡ t)
  told_apart n end [] [] s t p q far_s far_t e = (refl, e)
  told_apart n end [] (y ∷ ys) s t p q far_s far_t e = absurd (omega (arith, p, q))
  told_apart n end (x ∷ xs) [] s t p q far_s far_t e = absurd (omega (arith, p, q))
  told_apart n end (None ∷ xs) (None ∷ ys) s t p q far_s far_t e =
      let rest = told_apart (suc n) end xs ys s t (omega (arith, p)) (omega (arith, q)) far_s far_t e in
      (ap (λ (l : List (Option A)). None ∷ l) rest.0, rest.1)
  told_apart n end (None ∷ xs) (Some y ∷ ys) s t p q far_s far_t e =
      absurd (no_such n end xs s y (listed_from make (suc n) ys ++ t) (omega (arith, p)) far_s e)
  told_apart n end (Some x ∷ xs) (None ∷ ys) s t p q far_s far_t e =
      absurd (no_such n end ys t x (listed_from make (suc n) xs ++ s) (omega (arith, q)) far_t (sym e))
  told_apart n end (Some x ∷ xs) (Some y ∷ ys) s t p q far_s far_t e =
      let first : make n x ≡ make n y = cc in
      let behind : listed_from make (suc n) xs ++ s ≡ listed_from make (suc n) ys ++ t = cc in
      let same : x ≡ y = sym (things n x) ∙ ap thing first ∙ things n y in
      let rest = told_apart (suc n) end xs ys s t (omega (arith, p)) (omega (arith, q)) far_s far_t behind in
      (ap (λ o. Some o ∷ xs) same ∙ ap (λ (l : List (Option A)). Some y ∷ l) rest.0, rest.1)

one_table :
    (xs ys : Table Object) (s t : List Placed) → length xs ≡ length ys
    → AllByRecursion (λ p. length xs ≤ p.slot) s → AllByRecursion (λ p. length ys ≤ p.slot) t
    → listed_from placed 0 xs ++ s ≡ listed_from placed 0 ys ++ t → (xs ≡ ys) × (s ≡ t)
one_table xs ys s t size far_s far_t e =
    told_apart placed (λ p. p.slot) (λ p. p.object) (λ n x. refl) (λ n x. refl) 0 (length xs) xs ys s t
    (omega arith) (omega (arith, size)) far_s (subst (λ n. AllByRecursion (λ (p : Placed). n ≤ p.slot) t) (sym size) far_t) e

one_held : (xs ys : Table ℕ) → length xs ≡ length ys → listed_from handle_held 0 xs ≡ listed_from handle_held 0 ys → xs ≡ ys
one_held xs ys size e =
    let none : List Held = [] in
    let both =
    told_apart handle_held (λ h. h.handle) (λ h. h.slot) (λ n x. refl) (λ n x. refl) 0 (length xs) xs ys none none
    (omega arith) (omega (arith, size)) tt tt (append-nil (listed_from handle_held 0 xs) ∙ e
    ∙ sym (append-nil (listed_from handle_held 0 ys))) in
    both.0

-- ---- Sessions

abbrev made_session : List (Option ℕ) → Option ℕ → Call → Session
made_session handles fence call = record { handles = handles; fence = fence; call = call }

one_session : (s t : Session) → HasPlaces (Some s) → HasPlaces (Some t) → session_text s ≡ session_text t → s ≡ t
one_session s t p q e =
    let listed : listed_from handle_held 0 s.handles ≡ listed_from handle_held 0 t.handles = ap (λ (x : SessionText). x.handles) e in
    let handles : s.handles ≡ t.handles = one_held s.handles t.handles (p ∙ ap places_of listed ∙ sym q) listed in
    ap (λ (h : List (Option ℕ)). made_session h s.fence s.call) handles
    ∙ ap (λ (f : Option ℕ). made_session t.handles f s.call) (ap (λ (x : SessionText). x.fence) e)
    ∙ ap (λ (k : Call). made_session t.handles t.fence k) (ap (λ (x : SessionText). x.call) e)

one_place : (o u : Option Session) → HasPlaces o → HasPlaces u → option_map session_text o ≡ option_map session_text u → o ≡ u
one_place None None p q e = refl
one_place None (Some t) p q e = absurd cc
one_place (Some s) None p q e = absurd cc
one_place (Some s) (Some t) p q e =
    let same : session_text s ≡ session_text t = cc in
    ap (λ (x : Session). Some x) (one_session s t p q same)

one_list :
    (xs ys : Table Session) → AllByRecursion HasPlaces xs → AllByRecursion HasPlaces ys
    → map (option_map session_text) xs ≡ map (option_map session_text) ys → xs ≡ ys
one_list [] [] p q e = refl
one_list [] (y ∷ ys) p q e = absurd cc
one_list (x ∷ xs) [] p q e = absurd cc
one_list (x ∷ xs) (y ∷ ys) p q e =
    let first : option_map session_text x ≡ option_map session_text y = cc in
    let rest : map (option_map session_text) xs ≡ map (option_map session_text) ys = cc in
    ap (λ (o : Option Session). o ∷ xs) (one_place x y p.0 q.0 first) ∙ ap (λ (l : Table Session). y ∷ l) (one_list xs ys p.1 q.1 rest)

-- ---- Images

-- an image out of its text, its tables and what its text does not say
abbrev built : ImageText → Table Object → List Placed → Table Session → Bool → List ℕ → Image
built t objects strays mutators is_open seen = record {
  base = t.head.base;
  machine = record {
    objects = objects;
    mutators = mutators;
    names = t.waiting.names;
    pending = t.waiting.pending;
    line = t.waiting.line;
    jobs = t.records.jobs;
    resources = t.records.resources;
    resource_limit = t.head.resources;
    faults = t.records.faults;
    notes = t.records.notes;
    next_action = t.counts.next_action;
    taken = t.counts.taken;
    ok = t.counts.ok;
    failed = t.counts.failed;
    cycle_open = is_open;
    seen = seen;
  };
  strays = strays;
}

pub one_image : (i j : Image) → HasShape i → HasShape j → image_text i ≡ image_text j → i ≡ j
one_image i j p q e =
    let m = i.machine in
    let n = j.machine in
    let size : length m.objects ≡ length n.objects = ap (λ (t : ImageText). t.head.cells) e in
    let listed : listed_from placed 0 m.objects ++ i.strays ≡ listed_from placed 0 n.objects ++ j.strays =
    ap (λ (t : ImageText). t.objects) e in
    let objects = one_table m.objects n.objects i.strays j.strays size p.apart q.apart listed in
    let mutators = one_list m.mutators n.mutators p.places q.places (ap (λ (t : ImageText). t.mutators) e) in
    ap (λ (t : ImageText). built t m.objects i.strays m.mutators m.cycle_open m.seen) e
    ∙ ap (λ (o : Table Object). built (image_text j) o i.strays m.mutators m.cycle_open m.seen) objects.0
    ∙ ap (λ (s : List Placed). built (image_text j) n.objects s m.mutators m.cycle_open m.seen) objects.1
    ∙ ap (λ (l : Table Session). built (image_text j) n.objects j.strays l m.cycle_open m.seen) mutators
    ∙ ap (λ (b : Bool). built (image_text j) n.objects j.strays n.mutators b m.seen) (p.closed ∙ sym q.closed)
    ∙ ap (λ (l : List ℕ). built (image_text j) n.objects j.strays n.mutators n.cycle_open l) (p.nothing_seen ∙ sym q.nothing_seen)
