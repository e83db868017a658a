-- The exported variables of a connector's leaves.
use Rattle.std.specs.Prelude.{ℕ, ℤ, pos, Bool, List, slice_get, ◌||◌, not}
use Rattle.std.specs.List.{list_all}
use Rattle.std.specs.Option.{option_map_or}
use Rattle.petri_atom.specs.Expression.{Tree, all_variables, is_true, value_of}
use Rattle.petri_atom.specs.Local.{Local}
use Rattle.petri_atom.specs.Definition.{AtomDefinition, exported_value}
use Rattle.connector_tree.specs.Masks.{is_set}
use Rattle.connector_tree.specs.declared.tree.Port.{Port}
use Rattle.plant_model.specs.Plant.{of_atom}
use Rattle.plant_model.specs.declared.wire.Export.{Export}

-- the value of a variable that a port exports in a global state; 0 where there is none
abbrev pub exported_at : List AtomDefinition → List Local → Port → ℕ → ℤ
exported_at atoms states p export = of_atom atoms states p.atom (λ a s. exported_value a s p.port export) (pos 0)

-- the value of an exported variable of a leaf in a global state, among these leaves; 0 where there is none
abbrev pub value_at : List AtomDefinition → List Local → List Port → Export → ℤ
value_at atoms states ports e =
    option_map_or (λ p. exported_at atoms states p e.export) (slice_get ports e.leaf) (pos 0)

-- the leaf of an exported variable takes part
abbrev pub takes_part : ℕ → Export → Bool
takes_part mask e = is_set mask e.leaf

-- a guard clause applies where each leaf that it names takes part; one that names none always applies
abbrev pub clause_applies : ℕ → Tree Export → Bool
clause_applies mask clause = all_variables (takes_part mask) clause

-- the guard clauses that apply are not 0 in a global state
abbrev pub guards_hold : List AtomDefinition → List Local → List Port → ℕ → List (Tree Export) → Bool
guards_hold atoms states ports mask clauses =
    list_all (λ clause. not (clause_applies mask clause) || is_true (value_of (value_at atoms states ports) clause)) clauses
