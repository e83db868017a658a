-- Which exported variable a word of a connector's line names.
use Rattle.std.specs.Prelude.{ℕ, ◌==◌, List, slice_get, position, Option, option_map}
use Rattle.std.specs.Option.{option_and_then}
use Rattle.plant_words.specs.Splits.{export_parts}
use Rattle.connector_tree.specs.declared.tree.Port.{Port}
use Rattle.plant_model.specs.declared.wire.Export.{Export}

-- the number of the first of these leaves that is of the atom
abbrev pub leaf_of : List Port → ℕ → Option ℕ
leaf_of ports atom = position (λ port. port.atom == atom) ports

-- the variable with the name, of those that the port of the leaf exports
abbrev pub export_at : (Port → List ℕ → Option ℕ) → List Port → List ℕ → ℕ → Option Export
export_at export_named ports variable leaf =
    option_and_then (λ port. option_map (λ export. record { leaf = leaf; export = export }) (export_named port variable)) (slice_get ports leaf)

-- the variable with the second name, of the leaf of the atom with the first name
abbrev pub export_of : (List ℕ → Option ℕ) → (Port → List ℕ → Option ℕ) → List Port → List ℕ × List ℕ → Option Export
export_of atom_named export_named ports names =
    option_and_then (export_at export_named ports names.1) (option_and_then (leaf_of ports) (atom_named names.0))

-- The exported variable that a word `ATOM.VAR` names, among these leaves: the atom has a leaf, and the leaf's port
-- exports the variable.
abbrev pub variable_in : (List ℕ → Option ℕ) → (Port → List ℕ → Option ℕ) → List Port → List ℕ → Option Export
variable_in atom_named export_named ports word = option_and_then (export_of atom_named export_named ports) (export_parts word)
