-- What a choice leaves of a state.
use Rattle.std.specs.Prelude.{ℕ, suc, ℤ, Bool, false, ◌&&◌, ◌==◌, List, [], ◌∷◌, ◌++◌, map, replicate, find, slice_get, Option, None, option_map}
use Rattle.std.specs.List.{range_with_len}
use Rattle.std.specs.Option.{option_map_or}
use Rattle.petri_atom.specs.Expression.{all_variables, value_of}
use Rattle.petri_atom.specs.Local.{Local, Row}
use Rattle.petri_atom.specs.Definition.{AtomDefinition, fired, initial}
use Rattle.petri_atom.specs.declared.state.TheConstants.{MAX_EXPORTS}
use Rattle.connector_tree.specs.Tree.{leaves}
use Rattle.connector_tree.specs.declared.tree.Port.{Port}
use Rattle.plant_model.specs.Plant.{TransferDefinition, WireDefinition, PlantDefinition}
use Rattle.plant_model.specs.Exports.{value_at, takes_part}
use Rattle.plant_model.specs.Firing.{FiringDefinition, handed}
use Rattle.plant_model.specs.declared.choice.Move.{Move}
use Rattle.plant_model.specs.declared.wire.Export.{Export}

-- the first state of a plant: each atom's first one
abbrev pub initial_states : PlantDefinition → List Local
initial_states plant = map initial plant.atoms

-- a transfer applies where each leaf that it names takes part, its target's among them
abbrev pub applies : ℕ → TransferDefinition → Bool
applies mask t = takes_part mask t.target && all_variables (takes_part mask) t.value

-- the leaf is a port of this atom
abbrev pub is_leaf_of : List Port → ℕ → ℕ → Bool
is_leaf_of ports leaf atom = option_map_or (λ p. p.atom == atom) (slice_get ports leaf) false

-- the target is this exported variable of this atom
abbrev pub is_to : List Port → ℕ → ℕ → Export → Bool
is_to ports atom export target = target.export == export && is_leaf_of ports target.leaf atom

-- the transfer to an exported variable of an atom, if one applies
abbrev pub transfer_to : List Port → List TransferDefinition → ℕ → ℕ → ℕ → Option TransferDefinition
transfer_to ports transfers mask atom export = find (λ t. applies mask t && is_to ports atom export t.target) transfers

-- the value that an exported variable of an atom gets, if one does: that of its transfer on the state from before the firing
abbrev pub value_to : List AtomDefinition → List Local → List Port → List TransferDefinition → ℕ → ℕ → ℕ → Option ℤ
value_to atoms states ports transfers mask atom export =
    option_map (λ t. value_of (value_at atoms states ports) t.value) (transfer_to ports transfers mask atom export)

-- what a firing delivers to an atom: to each exported variable its value, or none
abbrev pub delivered_by : List AtomDefinition → List Local → List Port → List TransferDefinition → ℕ → ℕ → Row
delivered_by atoms states ports transfers mask atom =
    map (value_to atoms states ports transfers mask atom) (range_with_len 0 MAX_EXPORTS)

-- nothing delivered
abbrev pub nothing_delivered : Row
nothing_delivered = replicate MAX_EXPORTS None

-- what a wire transfers where these values come in: what its transfers say, and then the values
abbrev pub transfers_with : WireDefinition → List ℤ → List TransferDefinition
transfers_with w values = w.transfers ++ handed w.inputs values

-- what a firing delivers to an atom
abbrev pub transfer : PlantDefinition → List Local → FiringDefinition → ℕ → Row
transfer plant states f atom =
    option_map_or (λ w. delivered_by plant.atoms states (leaves w.connector) (transfers_with w f.inputs) f.mask atom) (slice_get plant.wires f.connector) nothing_delivered

-- what the moves of a choice leave of the state of the atom with a number: the first of them that is the atom's fires, with what is delivered to it
abbrev pub moved_by : AtomDefinition → List Move → Row → ℕ → Local → Local
moved_by a moves d n state = option_map_or (λ m. fired a m.transition d state) (find (λ m. m.atom == n) moves) state

-- the same of the atom with a number in a plant; `delivered` tells what each atom gets
abbrev pub stepped : List AtomDefinition → List Move → (ℕ → Row) → ℕ → Local → Local
stepped atoms moves delivered n state =
    option_map_or (λ a. moved_by a moves (delivered n) n state) (slice_get atoms n) state

-- the same of the states of all atoms from the number n on
abbrev pub stepped_from : List AtomDefinition → List Move → (ℕ → Row) → ℕ → List Local → List Local
stepped_from atoms moves delivered n [] = []
stepped_from atoms moves delivered n (state ∷ states) =
    stepped atoms moves delivered n state ∷ stepped_from atoms moves delivered (suc n) states

-- the state after a firing: each participant fires its transition with what is delivered to it from the state before, and every other atom stays
abbrev pub next : PlantDefinition → List Local → FiringDefinition → List Local
next plant states f = stepped_from plant.atoms f.moves (transfer plant states f) 0 states
