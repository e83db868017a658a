-- Which variables nothing reads.
use Rattle.std.specs.Prelude.{ℕ, Bool, not, ◌&&◌, ◌||◌, ◌==◌}
use Rattle.std.specs.List.{list_any, enumerate_from}
use Rattle.petri_atom.specs.Expression.{Tree, all_variables}
use Rattle.petri_atom.specs.Definition.{AtomDefinition, TransitionDefinition, exports_of}
use Rattle.connector_tree.specs.Tree.{leaves}
use Rattle.plant_model.specs.Plant.{PlantDefinition, WireDefinition}
use Rattle.plant_model.specs.declared.wire.Export.{Export}

-- a variable stands in an expression: not each variable of it is another
abbrev pub has_variable : ℕ → Tree ℕ → Bool
has_variable variable e = not (all_variables (λ v. not (v == variable)) e)

-- the guard or an update of a transition reads a variable
abbrev pub reads_variable : ℕ → TransitionDefinition → Bool
reads_variable variable t = has_variable variable t.guard || list_any (λ u. has_variable variable u.value) t.updates

-- a transition of the atom reads its variable
abbrev pub is_read_inside : AtomDefinition → ℕ → Bool
is_read_inside a variable = list_any (reads_variable variable) a.transitions

-- an exported variable of a leaf stands in an expression
abbrev pub has_export : ℕ → ℕ → Tree Export → Bool
has_export leaf export e = not (all_variables (λ v. not (v.leaf == leaf && v.export == export)) e)

-- a guard clause of the connector, or the value of a transfer, reads an exported variable of a leaf
abbrev pub reads_export : WireDefinition → ℕ → ℕ → Bool
reads_export w leaf export =
    list_any (has_export leaf export) w.guards || list_any (λ t. has_export leaf export t.value) w.transfers

-- the connector reads a variable by a leaf that is a port of the atom: the port exports it, and it is read by its place among the exports
abbrev pub is_read_by_leaf : AtomDefinition → ℕ → WireDefinition → ℕ → ℕ → Bool
is_read_by_leaf a variable w leaf port =
    list_any (λ export. export.1 == variable && reads_export w leaf export.0) (enumerate_from 0 (exports_of a port))

-- the connector reads a variable of the atom with a number by one of its leaves
abbrev pub is_read_in : ℕ → AtomDefinition → ℕ → WireDefinition → Bool
is_read_in number a variable w =
    list_any (λ leaf. leaf.1.atom == number && is_read_by_leaf a variable w leaf.0 leaf.1.port) (enumerate_from 0 (leaves w.connector))

-- nothing reads a variable of the atom with a number: no transition of the atom, and no connector of the plant
abbrev pub is_never_read : PlantDefinition → ℕ → AtomDefinition → ℕ → Bool
is_never_read plant number a variable =
    not (is_read_inside a variable) && not (list_any (is_read_in number a variable) plant.wires)
