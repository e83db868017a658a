-- The values of atoms' variables in a global state.
use Rattle.std.specs.Prelude.{ℤ, pos, List, slice_get}
use Rattle.std.specs.Option.{option_map_or}
use Rattle.petri_atom.specs.Local.{Local, value_in}
use Rattle.plant_model.specs.declared.bound_expressions.AtomVariable.{AtomVariable}

-- the value of an atom's variable in a global state; 0 where there is no such atom or variable
abbrev pub value_there : List Local → AtomVariable → ℤ
value_there states v = option_map_or (λ s. value_in s.values v.variable) (slice_get states v.atom) (pos 0)
