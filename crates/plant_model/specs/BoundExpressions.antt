-- Guard clauses and transfers with their variables found: each by its atom and its number there, and the leaves that it names as a set.
use Rattle.std.specs.Prelude.{◌≡◌, ℕ, suc, ℤ, pos, ◌^◌, ◌<◌, Bool, true, false, not, ◌&&◌, ◌||◌, ◌==◌, nat_lt, bit_and, bit_or, if◌then◌else◌, List, [], ◌∷◌, ◌++◌, filter, map, flat_map, find, slice_get, Option, None, Some, is_some, option_map}
use Rattle.std.specs.List.{list_all, range_with_len}
use Rattle.std.specs.Option.{option_map_or}
use Rattle.petri_atom.specs.Expression.{Tree, tree_of, number, variable, negation, operation, is_true, value_of}
use Rattle.petri_atom.specs.Local.{Local, Row, given}
use Rattle.petri_atom.specs.Definition.{AtomDefinition, exports_of}
use Rattle.petri_atom.specs.declared.state.TheConstants.{MAX_EXPORTS}
use Rattle.connector_tree.specs.Tree.{leaves}
use Rattle.connector_tree.specs.declared.tree.Port.{Port}
use Rattle.plant_model.specs.Plant.{TransferDefinition, WireDefinition}
use Rattle.plant_model.specs.Exports.{guards_hold}
use Rattle.plant_model.specs.Step.{delivered_by, nothing_delivered, transfers_with}
use Rattle.plant_model.specs.Values.{value_there}
use Rattle.plant_model.specs.declared.bound_expressions.AtomVariable.{AtomVariable}
use Rattle.plant_model.specs.declared.bound_expressions.Clause.{Clause}
use Rattle.plant_model.specs.declared.bound_expressions.BoundExpressions.{BoundExpressions}
use Rattle.plant_model.specs.declared.bound_input.BoundInput.{BoundInput}
use Rattle.plant_model.specs.declared.copy_row.CopyRow.{CopyRow}
use Rattle.plant_model.specs.declared.delivery.Deliveries.{Deliveries}
use Rattle.plant_model.specs.declared.delivery.Deliveries.TheVariants.{Copies, Values}
use Rattle.plant_model.specs.declared.delivery.Delivery.{Delivery}
use Rattle.plant_model.specs.declared.variable_cell.VariableCell.{VariableCell}
use Rattle.plant_model.specs.declared.wire.Export.{Export}
use Rattle.plant_model.specs.declared.wire.Input.{Input}

-- the variable that a port exports, if there is one
abbrev pub variable_of_port : List AtomDefinition → Port → ℕ → Option AtomVariable
variable_of_port atoms p export =
    option_map_or (λ a. option_map (λ v. record { atom = p.atom; variable = v }) (slice_get (exports_of a p.port) export)) (slice_get atoms p.atom) None

-- the variable that a leaf exports, if there is one
abbrev pub variable_of : List AtomDefinition → List Port → Export → Option AtomVariable
variable_of atoms ports e = option_map_or (λ p. variable_of_port atoms p e.export) (slice_get ports e.leaf) None

-- an expression over exported variables as one over the variables themselves; one that is not there is 0
abbrev pub found : List AtomDefinition → List Port → Tree Export → Tree AtomVariable
found atoms ports (number n) = number n
found atoms ports (variable e) = option_map_or variable (variable_of atoms ports e) (number (pos 0))
found atoms ports (negation e) = negation (found atoms ports e)
found atoms ports (operation op e f) = operation op (found atoms ports e) (found atoms ports f)

-- a leaf as a set; one that no mask has room for as bit 16
abbrev pub leaf_bit : ℕ → ℕ
leaf_bit leaf = if nat_lt leaf 16 then 2 ^ leaf else 2 ^ 16

-- the leaves that an expression names, as a set
abbrev pub leaves_in : Tree Export → ℕ
leaves_in (number n) = 0
leaves_in (variable e) = leaf_bit e.leaf
leaves_in (negation e) = leaves_in e
leaves_in (operation op e f) = bit_or (leaves_in e) (leaves_in f)

-- each of the leaves takes part
abbrev pub has_all : ℕ → ℕ → Bool
has_all mask leaves = bit_and mask leaves == leaves

-- a guard clause: the leaves that it names, and what it says
pub record ClauseDefinition : Type 0 where
  pub leaves : ℕ
  pub value : Tree AtomVariable

-- a transfer: the leaves that it names, its target's among them, the atom of the target's leaf, the target's place among what that exports, and the value
pub record DeliveryDefinition : Type 0 where
  pub leaves : ℕ
  pub atom : Option ℕ
  pub export : ℕ
  pub value : Tree AtomVariable

-- an input: the leaf of its target as a set, that leaf's atom, and the target's place among what that exports
pub record InputDefinition : Type 0 where
  pub leaves : ℕ
  pub atom : ℕ
  pub export : ℕ

-- what is found of a wire; of an input without a target nothing
pub record ResolvedDefinition : Type 0 where
  pub clauses : List ClauseDefinition
  pub deliveries : List DeliveryDefinition
  pub inputs : List (Option InputDefinition)

-- a clause as it is kept
abbrev pub clause_of : Clause → ClauseDefinition
clause_of c = record { leaves = c.leaves; value = tree_of c.value.tree }

-- a transfer as it is kept
abbrev pub delivery_of : Delivery → DeliveryDefinition
delivery_of d = record { leaves = d.leaves; atom = Some d.atom; export = d.export; value = tree_of d.value.tree }

-- a transfer that copies a cell to an exported variable of an atom
abbrev pub copy_by : ℕ → ℕ → ℕ → VariableCell → DeliveryDefinition
copy_by leaves atom export cell = record { leaves = leaves; atom = Some atom; export = export; value = variable cell.variable }

-- those that copy cells, of which the first is of the exported variable with a number
abbrev pub copies_from : ℕ → ℕ → ℕ → List (Option VariableCell) → List DeliveryDefinition
copies_from leaves atom export [] = []
copies_from leaves atom export (None ∷ cells) = copies_from leaves atom (suc export) cells
copies_from leaves atom export (Some cell ∷ cells) = copy_by leaves atom export cell ∷ copies_from leaves atom (suc export) cells

-- those of a row, and of rows
abbrev pub copies_in : CopyRow → List DeliveryDefinition
copies_in row = copies_from row.leaves row.atom 0 row.cells

abbrev pub copied_by : List CopyRow → List DeliveryDefinition
copied_by rows = flat_map copies_in rows

-- the transfers of a wire as they are kept
abbrev pub deliveries_in : Deliveries → List DeliveryDefinition
deliveries_in (Copies rows) = copied_by rows.items
deliveries_in (Values values) = map delivery_of values.all.items

-- an input as it is kept, and those of a wire
abbrev pub input_of : BoundInput → InputDefinition
input_of i = record { leaves = i.leaves; atom = i.atom; export = i.export }

abbrev pub inputs_of : List (Option BoundInput) → List (Option InputDefinition)
inputs_of inputs = map (option_map input_of) inputs

-- all of a wire as it is kept
abbrev pub bound_of : BoundExpressions → ResolvedDefinition
bound_of r = record { clauses = map clause_of r.clauses.items; deliveries = deliveries_in r.deliveries; inputs = inputs_of r.inputs.items }

-- an input with the value that comes in, as a transfer; and inputs with theirs
abbrev pub delivery_with : InputDefinition → ℤ → DeliveryDefinition
delivery_with i value = record { leaves = i.leaves; atom = Some i.atom; export = i.export; value = number value }

abbrev pub deliveries_with : List (Option InputDefinition) → List ℤ → List DeliveryDefinition
deliveries_with [] values = []
deliveries_with (i ∷ is) [] = []
deliveries_with (None ∷ is) (v ∷ vs) = deliveries_with is vs
deliveries_with (Some i ∷ is) (v ∷ vs) = delivery_with i v ∷ deliveries_with is vs

-- what is found of a clause
abbrev pub clause_by : List AtomDefinition → List Port → Tree Export → ClauseDefinition
clause_by atoms ports clause = record { leaves = leaves_in clause; value = found atoms ports clause }

-- what is found of a transfer
abbrev pub delivery_by : List AtomDefinition → List Port → TransferDefinition → DeliveryDefinition
delivery_by atoms ports t = record {
  leaves = bit_or (leaf_bit t.target.leaf) (leaves_in t.value);
  atom = option_map (λ p. p.atom) (slice_get ports t.target.leaf);
  export = t.target.export;
  value = found atoms ports t.value;
}

-- what is found of an input: nothing where it has no target
abbrev pub input_by : List Port → Input → Option InputDefinition
input_by ports i =
    if nat_lt i.target.export MAX_EXPORTS
    then option_map (λ p. record { leaves = leaf_bit i.target.leaf; atom = p.atom; export = i.target.export }) (slice_get ports i.target.leaf)
    else None

-- a transfer has a target: an exported variable of an atom
abbrev pub has_target : DeliveryDefinition → Bool
has_target d = nat_lt d.export MAX_EXPORTS && is_some d.atom

-- a leaf that masks have room for is there, and its atom stands before an atom
abbrev pub is_lower : List Port → ℕ → ℕ → Bool
is_lower ports atom leaf = nat_lt leaf 16 && option_map_or (λ p. nat_lt p.atom atom) (slice_get ports leaf) false

-- what is found of a wire among these atoms
abbrev pub bound_by : List AtomDefinition → WireDefinition → ResolvedDefinition
bound_by atoms w = record {
  clauses = map (clause_by atoms (leaves w.connector)) w.guards;
  deliveries = filter has_target (map (delivery_by atoms (leaves w.connector)) w.transfers);
  inputs = map (input_by (leaves w.connector)) w.inputs;
}

-- a clause does not apply, or is not 0 in a global state
abbrev pub clause_holds : List Local → ℕ → ClauseDefinition → Bool
clause_holds states mask c = not (has_all mask c.leaves) || is_true (value_of (value_there states) c.value)

-- the delivery is to this exported variable of this atom
abbrev pub is_for : ℕ → ℕ → DeliveryDefinition → Bool
is_for atom export d = d.export == export && option_map_or (λ a. a == atom) d.atom false

-- the value that an exported variable of an atom gets, if one of the deliveries that apply is to it
abbrev pub value_for : List Local → List DeliveryDefinition → ℕ → ℕ → ℕ → Option ℤ
value_for states deliveries mask atom export =
    option_map (λ d. value_of (value_there states) d.value) (find (λ d. has_all mask d.leaves && is_for atom export d) deliveries)

-- what the deliveries that apply give to an atom
abbrev pub given_for : List Local → List DeliveryDefinition → ℕ → ℕ → Row
given_for states deliveries mask atom = map (value_for states deliveries mask atom) (range_with_len 0 MAX_EXPORTS)

-- a row of values in which exported variables, from that with a number on, have the values of their cells, unless they had one before
abbrev pub given_copies : List Local → ℕ → List (Option VariableCell) → Row → Row
given_copies states export [] row = row
given_copies states export (None ∷ cells) row = given_copies states (suc export) cells row
given_copies states export (Some cell ∷ cells) row = given_copies states (suc export) cells (given export (value_there states cell.variable) row)

-- what is found of wires says of guards, in each global state and of each mask, what the wires say
abbrev pub AreGuarding : List AtomDefinition → List WireDefinition → List BoundExpressions → Type 0
AreGuarding atoms wires all =
    (states : List Local) (mask n : ℕ) → mask < 2 ^ 16 →
    option_map_or (λ r. list_all (clause_holds states mask) (map clause_of r.clauses.items)) (slice_get all n) true ≡
    option_map_or (λ w. guards_hold atoms states (leaves w.connector) mask w.guards) (slice_get wires n) true

-- and so of what is delivered to each atom, whatever values come in
abbrev pub AreDelivering : List AtomDefinition → List WireDefinition → List BoundExpressions → Type 0
AreDelivering atoms wires all =
    (states : List Local) (values : List ℤ) (mask n atom : ℕ) → mask < 2 ^ 16 →
    option_map_or (λ r. given_for states (deliveries_in r.deliveries ++ deliveries_with (inputs_of r.inputs.items) values) mask atom) (slice_get all n) nothing_delivered ≡
    option_map_or (λ w. delivered_by atoms states (leaves w.connector) (transfers_with w values) mask atom) (slice_get wires n) nothing_delivered
