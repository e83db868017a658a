use Rattle.petri_atom.specs.Expression.{tree_of}
use Rattle.petri_atom.specs.Definition.{UpdateDefinition}
use Rattle.petri_atom.specs.declared.transition.Update.{Update}

-- an update as it was written
abbrev pub update_of : Update → UpdateDefinition
update_of u = record { variable = u.variable; value = tree_of u.value }
