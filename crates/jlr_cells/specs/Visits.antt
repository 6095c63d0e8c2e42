-- What a visit of an object that is no plain one with fields tells.
use Rattle.std.specs.Prelude.{ℕ, ◌++◌, List, Option, Some, None, option_to_list}
use Rattle.jlr_machine.specs.declared.object.Contents.TheVariants.{Elements}
use Rattle.jlr_machine.specs.declared.object.Object.{Object}
use Rattle.jlr_machine.specs.declared.object.Object.TheVariants.{Plain}
use Rattle.jlr_cells.specs.declared.links.Visited.{Visited}
use Rattle.jlr_cells.specs.declared.links.Visited.TheVariants.{Array, Other}
use Rattle.jlr_cells.specs.Links.{linked}

-- what a visit tells of strong edges, with the members that the object has if it is a queue
abbrev pub edges_told : Visited → List ℕ → List ℕ
edges_told (Array elements) members = linked elements.now
edges_told (Other next) members = option_to_list next ++ members

-- the elements that a visit lends, and those of an object, if it is an array
abbrev pub elements_lent : Visited → Option (List (Option ℕ))
elements_lent (Array elements) = Some elements.now
elements_lent (Other next) = None

abbrev pub elements_of : Object → Option (List (Option ℕ))
elements_of (Plain (Elements elements)) = Some elements
elements_of _ = None
