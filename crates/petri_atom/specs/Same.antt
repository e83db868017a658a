use Rattle.std.specs.Prelude.{Bool, true, false, not, ◌&&◌, nat_eq, ◌==◌}
use Rattle.std.specs.Ordering.{int_eq}
use Rattle.std.specs.Cmp.Lexicographic.{pointwise}
use Rattle.petri_atom.specs.Expression.{tree_of, is_same_tree}
use Rattle.petri_atom.specs.Name.{is_same_text}
use Rattle.petri_atom.specs.declared.parts.Place.{Place}
use Rattle.petri_atom.specs.declared.parts.Variable.{Variable}
use Rattle.petri_atom.specs.declared.parts.Port.{Port}
use Rattle.petri_atom.specs.declared.transition.Update.{Update}

-- two truth values are the same
abbrev pub is_same_truth : Bool → Bool → Bool
is_same_truth true b = b
is_same_truth false b = not b

-- two places are the same, part by part
abbrev pub is_same_place : Place → Place → Bool
is_same_place a b = is_same_text a.name b.name && is_same_truth a.marked b.marked

-- two variables are
abbrev pub is_same_variable : Variable → Variable → Bool
is_same_variable a b = is_same_text a.name b.name && int_eq a.first b.first

-- two ports are
abbrev pub is_same_port : Port → Port → Bool
is_same_port a b = is_same_text a.name b.name && pointwise nat_eq a.exports.items b.exports.items

-- two updates are
abbrev pub is_same_update : Update → Update → Bool
is_same_update a b = a.variable == b.variable && is_same_tree (tree_of a.value) (tree_of b.value)
