-- A place of the front is written, and the front grows by a blank.
use Rattle.std.proofs.Common.{◌≡◌, ℕ, suc, ◌<◌, ◌≤◌, ◌-◌, ◌+◌, ◌++◌, ◌∷◌, ◌∙◌, [], List, length, replicate, sym, ap, arith}
use Rattle.std.proofs.Common.{slice_set, slice_index_or}
use Rattle.std.proofs.lemmas.List.{set-append_left, length-set, append_assoc, length-append, length-replicate, get_or_append_left}
use Rattle.jlr_links.specs.Columns.{whole, IsLonger}

module _ {T : Type 0} where
  pub whole_set :
      (front : List T) (n i : ℕ) (blank x : T) → i < length front
      → whole (slice_set front i x) n blank ≡ slice_set (whole front n blank) i x
  whole_set front n i blank x l =
      ap (λ m. slice_set front i x ++ replicate (n - m) blank) (length-set front i x)
      ∙ sym (set-append_left front (replicate (n - length front) blank) i x l)

  -- one blank less behind is one more in front
  blank_in_front : (front : List T) (k : ℕ) (blank : T) → (front ++ blank ∷ []) ++ replicate k blank ≡ front ++ replicate (suc k) blank
  blank_in_front front k blank = append_assoc front (blank ∷ []) (replicate k blank)

  pub longer :
      (old front : List T) (n : ℕ) (blank : T) → length front < n
      → IsLonger n blank old front → IsLonger n blank old (front ++ blank ∷ [])
  longer old front n blank l h =
      let long = length-append front (blank ∷ []) in
      let behind : suc (n - (length front + 1)) ≡ n - length front = omega (arith, l) in
      record {
        within = omega (arith, l, long);
        same = ap (λ m. (front ++ blank ∷ []) ++ replicate (n - m) blank) long ∙ blank_in_front front (n - (length front + 1)) blank
            ∙ ap (λ k. front ++ replicate k blank) behind ∙ h.same;
      }

  pub long : (front : List T) (n : ℕ) (blank : T) → length front ≤ n → length (whole front n blank) ≡ n
  long front n blank l =
      let both = length-append front (replicate (n - length front) blank) in
      let behind = length-replicate (n - length front) blank in
      omega (arith, l, both, behind)

  -- the column after a write of a place that its front was written up to, and what stood there
  module _
      (old new held : List T) (n i : ℕ) (blank nothing : T)
      (same : blank ≡ nothing) (view : whole old n blank ≡ held)
      (reached : i < length new) (longer : IsLonger n nothing old new) where
    kept : whole new n blank ≡ held
    kept = ap (whole new n) same ∙ longer.same ∙ ap (whole old n) (sym same) ∙ view

    pub written : (x : T) → whole (slice_set new i x) n blank ≡ slice_set held i x
    written x = whole_set new n i blank x reached ∙ ap (λ l. slice_set l i x) kept

    pub stood : (x : T) → x ≡ slice_index_or new i x → x ≡ slice_index_or held i x
    stood x read =
        read ∙ sym (get_or_append_left new (replicate (n - length new) blank) x i reached)
        ∙ ap (λ l. slice_index_or l i x) kept
