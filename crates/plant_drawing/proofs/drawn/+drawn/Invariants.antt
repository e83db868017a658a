-- No leaf of the children before this one is of an atom of the set: it is asked of the children from this one on.
use Rattle.std.proofs.Common.{◌≡◌, drop}
use Rattle.std.specs.List.{list_any}
use Rattle.connector_tree.specs.Tree.{tree_in, leaves}
use Rattle.plant_drawing.specs.Drawn.{is_of_drawn}
use Rattle.plant_drawing.proofs.drawn.+drawn.Given as goal

abbrev pub invariant-has_drawn-loop-child : goal.invariant-has_drawn-loop-child
invariant-has_drawn-loop-child l =
    list_any (is_of_drawn l.drawn) (leaves (tree_in (drop l.child-index l.children))) ≡ list_any (is_of_drawn l.drawn) (leaves (tree_in l.children))
