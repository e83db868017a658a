-- Where places, variables and ports stand by their names.
use Rattle.std.proofs.Common.{◌≡◌, ◌∙◌, ℕ, List, position}
use Rattle.petri_atom.specs.Definition.{PortDefinition}
use Rattle.petri_atom.specs.Name.{is_same_text}
use Rattle.petri_atom.specs.Parts.{port_of}
use Rattle.petri_atom.specs.declared.parts.Place.{Place}
use Rattle.petri_atom.specs.declared.parts.Port.{Port}
use Rattle.petri_atom.specs.declared.parts.Variable.{Variable}
use Rattle.plant_words.proofs.Indexed.{place_by_name}
use Rattle.plant_words.proofs.Positions.{position_of_mapped}
use Rattle.atom_lines.specs.Draft.{drafted}
use Rattle.atom_lines.specs.Lookup.{place_number, variable_number, port_number}
use Rattle.atom_lines.specs.declared.draft.AtomDraft.{AtomDraft}

-- a place
pub number_of_place : (d : AtomDraft) (name : List ℕ) → position (λ known. is_same_text known name) d.place_names ≡ place_number (drafted d) name
number_of_place d name = place_by_name (λ (p : Place). p.name) d.places.items d.place_names name d.places_named

-- a variable
pub number_of_variable : (d : AtomDraft) (name : List ℕ) → position (λ known. is_same_text known name) d.variable_names ≡ variable_number (drafted d) name
number_of_variable d name = place_by_name (λ (v : Variable). v.name) d.variables.items d.variable_names name d.variables_named

-- a port, which the atom has with its exports as a list
pub number_of_port : (d : AtomDraft) (name : List ℕ) → position (λ known. is_same_text known name) d.port_names ≡ port_number (drafted d) name
number_of_port d name =
    place_by_name (λ (p : Port). p.name) d.ports.items d.port_names name d.ports_named
    ∙ position_of_mapped port_of (λ (p : PortDefinition). is_same_text p.name name) d.ports.items
