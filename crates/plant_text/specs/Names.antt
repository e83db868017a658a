-- What names mean in a plant text.
use Rattle.std.specs.Prelude.{ℕ, List, slice_get, position, Option, option_map}
use Rattle.std.specs.Option.{option_and_then}
use Rattle.petri_atom.specs.Name.{is_same_text}
use Rattle.petri_atom.specs.Definition.{AtomDefinition}
use Rattle.connector_tree.specs.declared.tree.Port.{Port}
use Rattle.atom_lines.specs.Lookup.{place_number, port_number, export_number}
use Rattle.plant_text.specs.Text.{WireText}

-- the number of the first atom with the name
abbrev pub atom_number : List AtomDefinition → List ℕ → Option ℕ
atom_number atoms name = position (λ a. is_same_text a.name name) atoms

-- the number of the first connector with the name
abbrev pub wire_number : List WireText → List ℕ → Option ℕ
wire_number wires name = position (λ w. is_same_text w.name name) wires

-- the port with the name of the atom with the number
abbrev pub port_at : List AtomDefinition → List ℕ → ℕ → Option Port
port_at atoms name number =
    option_and_then (λ a. option_map (λ port. record { atom = number; port = port }) (port_number a name)) (slice_get atoms number)

-- the port with the second name, of the first atom with the first name
abbrev pub port_named : List AtomDefinition → List ℕ → List ℕ → Option Port
port_named atoms atom port = option_and_then (port_at atoms port) (atom_number atoms atom)

-- the place with the name, of the atom with the number
abbrev pub place_named : List AtomDefinition → ℕ → List ℕ → Option ℕ
place_named atoms number name = option_and_then (λ a. place_number a name) (slice_get atoms number)

-- the place of the variable with the name, among those that the port exports
abbrev pub export_named : List AtomDefinition → Port → List ℕ → Option ℕ
export_named atoms port name = option_and_then (λ a. export_number a port.port name) (slice_get atoms port.atom)
