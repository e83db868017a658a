-- Exported variables as a connector names them.
use Rattle.std.specs.Prelude.{ℕ, List, [], ◌++◌, codes, slice_get}
use Rattle.std.specs.Option.{option_map_or}
use Rattle.petri_atom.specs.Definition.{AtomDefinition, exports_of, variable_name}
use Rattle.connector_tree.specs.declared.tree.Port.{Port}
use Rattle.plant_model.specs.declared.wire.Export.{Export}

-- the name of a variable that a port of an atom exports, by its place among those; empty if it exports no such one
abbrev pub exported_name : AtomDefinition → ℕ → ℕ → List ℕ
exported_name a port export = option_map_or (variable_name a) (slice_get (exports_of a port) export) []

-- the same after the name of the atom; empty if the atom is not there
abbrev pub variable_of_port : List AtomDefinition → Port → ℕ → List ℕ
variable_of_port atoms p export =
    option_map_or (λ a. a.name ++ codes "." ++ exported_name a p.port export) (slice_get atoms p.atom) []

-- an exported variable of a leaf among these leaves; empty if the leaf is not there
abbrev pub export_name : List AtomDefinition → List Port → Export → List ℕ
export_name atoms ports e = option_map_or (λ p. variable_of_port atoms p e.export) (slice_get ports e.leaf) []
