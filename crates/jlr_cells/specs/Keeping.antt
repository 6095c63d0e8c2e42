-- What is kept of the cells beside them: kinds, links, and the lists of queues.
use Rattle.std.specs.Prelude.{◌≡◌, ◌⊎◌, ℕ, ◌<◌, ◌^◌, List, [], Option, Some, None, slice_index_or, length}
use Rattle.jlr_cells.specs.declared.cell.Cell.{Cell}
use Rattle.jlr_cells.specs.Contents.{kinds_in}
use Rattle.jlr_cells.specs.Links.{links_in}
use Rattle.jlr_cells.specs.declared.shape.Kind.{Kind}
use Rattle.jlr_cells.specs.declared.shape.Kind.TheVariants.{Queue}
use Rattle.jlr_links.specs.Lists.{list_at}

-- The kinds and the links that stand by themselves are those of the objects
pub record AreKept (cells : List Cell) (kinds : List (Option Kind)) (links : List (List (Option ℕ))) : Type 0 where
  pub by_kind : kinds ≡ kinds_in cells
  pub by_links : links ≡ links_in cells
  pub small : length cells < 2 ^ 32

-- Each slot has a list, and only that of a queue has slots in it
pub record AreOfQueues (kinds : List (Option Kind)) (lists : List (List ℕ)) (slots : ℕ) : Type 0 where
  pub list_count : length lists ≡ length kinds
  pub slot_count : slots ≡ length kinds
  pub only : (s : ℕ) → (list_at lists s ≡ []) ⊎ (slice_index_or kinds s None ≡ Some Queue)

-- All that is kept of the objects fits together
pub record AreWhole (cells : List Cell) (lists : List (List ℕ)) (slots : ℕ) (kinds : List (Option Kind))
    (links : List (List (Option ℕ))) : Type 0 where
  pub kept : AreKept cells kinds links
  pub members : AreOfQueues kinds lists slots
