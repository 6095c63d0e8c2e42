-- The image of the objects that are shown.
use Rattle.std.proofs.Common.{◌≡◌, ℕ, ◌+◌, ◌<◌, Bool, cond, List, [], ◌∷◌, ◌++◌, Option, None, length, get_or, sym, ap, ◌∙◌, add-one, arith}
use Rattle.std.proofs.Common.{take}
use Rattle.std.proofs.Math.Seq.{take-suc}
use Rattle.std.proofs.lemmas.List.{length-map}
use Rattle.jlr_machine.specs.declared.object.Object.{Object}
use Rattle.jlr_machine.specs.Objects.{at}
use Rattle.jlr_sets.specs.SlotSets.{is_in}
use Rattle.jlr_links.specs.Lists.{list_at}
use Rattle.jlr_cells.specs.declared.cell.Cell.{Cell}
use Rattle.jlr_cells.specs.Contents.{object_in, objects_in, with_list, with_lists}
use Rattle.jlr_cells.specs.Showing.{shown}
use Rattle.jlr_cells.proofs.Queues.{at-with_lists, long-with_lists}
use Rattle.jlr_cells.proofs.Showing.{at-shown, length-shown}
use Rattle.jlr_cells.proofs.Slots.{at-read}

-- the image of one more object
pub one_image : (cells : List Cell) (lists : List (List ℕ)) (kept : List Bool) (s : ℕ) (c : Cell) (objects objects' : List (Option Object))
    (o : Option Object) → s < length cells → c ≡ get_or cells s c
    → objects ≡ take s (shown kept (with_lists (objects_in cells) lists)) → objects' ≡ objects ++ o ∷ []
    → o ≡ cond (is_in kept s) (with_list (list_at lists s) (object_in c)) None
    → objects' ≡ take (s + 1) (shown kept (with_lists (objects_in cells) lists))
one_image cells lists kept s c objects objects' o below read so_far pushed is =
    let lying = with_lists (objects_in cells) lists in
    let all = shown kept (with_lists (objects_in cells) lists) in
    let inside : s < length all =
    omega (arith, below, length-shown kept lying, long-with_lists (objects_in cells) lists, length-map cells object_in) in
    let cell : at lying s ≡ with_list (list_at lists s) (object_in c) = at-with_lists (objects_in cells) lists s
    ∙ ap (with_list (list_at lists s)) (at-read cells s c below read) in
    let there : at all s ≡ o = at-shown kept lying s ∙ ap (λ x. cond (is_in kept s) x None) cell ∙ sym is in
    pushed ∙ ap (λ l. l ++ o ∷ []) so_far ∙ ap (λ x. take s all ++ x ∷ []) (sym there)
    ∙ sym (ap (λ n. take n all) (add-one s) ∙ take-suc all s None inside)
