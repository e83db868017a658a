use Rattle.std.specs.Prelude.{Bool, ◌&&◌, nat_eq, ◌==◌}
use Rattle.std.specs.Cmp.Lexicographic.{pointwise}
use Rattle.petri_atom.specs.Expression.{tree_of, is_same_tree}
use Rattle.petri_atom.specs.Same.{is_same_update}
use Rattle.petri_atom.specs.declared.transition.Transition.{Transition}

-- two transitions are the same, part by part
abbrev pub is_same_transition : Transition → Transition → Bool
is_same_transition a b =
    a.port == b.port && pointwise nat_eq a.sources.items b.sources.items &&
    pointwise nat_eq a.targets.items b.targets.items && is_same_tree (tree_of a.guard) (tree_of b.guard) &&
    pointwise is_same_update a.updates.items b.updates.items
