-- Links in two columns.
use Rattle.std.proofs.Common.{◌≡◌, ℕ, zero, suc, ◌-◌, ◌<◌, ◌≤◌, Bool, false, List, [], ◌∷◌, ◌++◌, Option, length, set, get_or}
use Rattle.std.proofs.Common.{replicate, refl, sym, ap, ◌∙◌, arith}
use Rattle.std.proofs.lemmas.List.{get_or-replicate, length-replicate, set-append_left, set-append_right}
use Rattle.jlr_sets.specs.SlotSets.{is_in}
use Rattle.jlr_cells.specs.Links.{AreColumns, four_nulls, no_links, rows}

pub length-rows : (near far : List (List (Option ℕ))) → length far ≡ length near → length (rows near far) ≡ length near
length-rows [] far e = refl
length-rows (n ∷ near) [] e = absurd (omega (arith, e))
length-rows (n ∷ near) (f ∷ far) e = ap suc (length-rows near far (omega (arith, e)))

pub at-rows : (near far : List (List (Option ℕ))) (s : ℕ) → length far ≡ length near → s < length near
    → get_or (rows near far) s [] ≡ get_or near s [] ++ get_or far s []
at-rows [] far s e h = absurd (omega (arith, h))
at-rows (n ∷ near) [] s e h = absurd (omega (arith, e))
at-rows (n ∷ near) (f ∷ far) zero e h = refl
at-rows (n ∷ near) (f ∷ far) (suc s) e h = at-rows near far s (omega (arith, e)) (omega (arith, h))

pub rows-set : (near far : List (List (Option ℕ))) (s : ℕ) (x y : List (Option ℕ))
    → rows (set near s x) (set far s y) ≡ set (rows near far) s (x ++ y)
rows-set [] far s x y = refl
rows-set (n ∷ near) [] zero x y = refl
rows-set (n ∷ near) [] (suc s) x y = refl
rows-set (n ∷ near) (f ∷ far) zero x y = refl
rows-set (n ∷ near) (f ∷ far) (suc s) x y = ap (λ l. (n ++ f) ∷ l) (rows-set near far s x y)

set_itself : (l : List (List (Option ℕ))) (s : ℕ) → set l s (get_or l s []) ≡ l
set_itself [] s = refl
set_itself (x ∷ l) zero = refl
set_itself (x ∷ l) (suc s) = ap (λ r. x ∷ r) (set_itself l s)

pub rows-set_near : (near far : List (List (Option ℕ))) (s : ℕ) (x : List (Option ℕ))
    → rows (set near s x) far ≡ set (rows near far) s (x ++ get_or far s [])
rows-set_near near far s x = ap (λ f. rows (set near s x) f) (sym (set_itself far s)) ∙ rows-set near far s x (get_or far s [])

pub rows-set_far : (near far : List (List (Option ℕ))) (s : ℕ) (y : List (Option ℕ))
    → rows near (set far s y) ≡ set (rows near far) s (get_or near s [] ++ y)
rows-set_far near far s y = ap (λ n. rows n (set far s y)) (sym (set_itself near s)) ∙ rows-set near far s (get_or near s []) y

pub new_rows : (n : ℕ) → rows (replicate n four_nulls) (replicate n four_nulls) ≡ replicate n no_links
new_rows zero = refl
new_rows (suc n) = ap (λ l. no_links ∷ l) (new_rows n)

pub new_columns : (n : ℕ) (near far : List (List (Option ℕ))) (wide : List Bool) → near ≡ replicate n four_nulls
    → far ≡ replicate n four_nulls → wide ≡ replicate n false → AreColumns near far wide
new_columns n near far wide e e' f =
    rw (e, e', f) (record {
      as_many = refl;
      places = length-replicate {A = Bool} n false ∙ sym (length-replicate {A = List (Option ℕ)} n four_nulls);
      four = λ s h. ap (λ l. length l) (get_or-replicate n s four_nulls []
          (omega (arith, h, length-replicate {A = List (Option ℕ)} n four_nulls)));
      nulls = λ s h off. get_or-replicate n s four_nulls [] (omega (arith, h, length-replicate {A = List (Option ℕ)} n four_nulls));
    })

module _ (near far : List (List (Option ℕ))) (wide : List Bool) (are : AreColumns near far wide) (v : List (List (Option ℕ)))
    (view : rows near far ≡ v) where
  pub long : length v ≡ length near
  long = ap length (sym view) ∙ length-rows near far are.as_many

  pub row_at : (s : ℕ) → s < length near → get_or v s [] ≡ get_or near s [] ++ get_or far s []
  row_at s h = ap (λ l. get_or l s []) (sym view) ∙ at-rows near far s are.as_many h

  -- a link of the first column
  pub near_set : (s field : ℕ) (o : Option ℕ) (row : List (Option ℕ)) → s < length near → field < 4 → row ≡ set (get_or near s []) field o
      → rows (set near s row) far ≡ set v s (set (get_or v s []) field o)
  near_set s field o row h low e =
      rows-set_near near far s row
      ∙ ap (λ r. set (rows near far) s (r ++ get_or far s [])) e
      ∙ ap (set (rows near far) s) (sym (set-append_left (get_or near s []) (get_or far s []) field o (omega (arith, low, are.four s h))))
      ∙ ap (λ r. set (rows near far) s (set r field o)) (sym (row_at s h))
      ∙ ap (λ l. set l s (set (get_or v s []) field o)) view

  -- a link of the second column
  pub far_set : (s field : ℕ) (o : Option ℕ) (row : List (Option ℕ)) → s < length near → 4 ≤ field
      → row ≡ set (get_or far s []) (field - 4) o
      → rows near (set far s row) ≡ set v s (set (get_or v s []) field o)
  far_set s field o row h high e =
      rows-set_far near far s row
      ∙ ap (λ r. set (rows near far) s (get_or near s [] ++ r)) e
      ∙ ap (set (rows near far) s) (sym (set-append_right (get_or near s []) (get_or far s []) 4 field o (are.four s h) high))
      ∙ ap (λ r. set (rows near far) s (set r field o)) (sym (row_at s h))
      ∙ ap (λ l. set l s (set (get_or v s []) field o)) view

  -- all links are null
  pub cleared_near : (s : ℕ) → s < length near → is_in wide s ≡ false → rows (set near s four_nulls) far ≡ set v s no_links
  cleared_near s h off =
      rows-set_near near far s four_nulls
      ∙ ap (λ r. set (rows near far) s (four_nulls ++ r)) (are.nulls s h off)
      ∙ ap (λ l. set l s no_links) view

  pub cleared_both : (s : ℕ) → rows (set near s four_nulls) (set far s four_nulls) ≡ set v s no_links
  cleared_both s = rows-set near far s four_nulls four_nulls ∙ ap (λ l. set l s no_links) view
