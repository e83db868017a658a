-- The drawing of a plant in a state.
use Rattle.std.specs.Prelude.{ℕ, if◌then◌else◌, List, [], ◌++◌, codes, flat_map, slice_get}
use Rattle.std.specs.Option.{option_map_or}
use Rattle.petri_atom.specs.Local.{Local, has}
use Rattle.petri_atom.specs.Definition.{AtomDefinition}
use Rattle.plant_model.specs.Plant.{PlantDefinition}
use Rattle.text_io.specs.Numbered.{numbered}
use Rattle.plant_drawing.specs.declared.filling.Filling.{Filling}
use Rattle.plant_drawing.specs.declared.interior.Interior.{Interior}
use Rattle.plant_drawing.specs.declared.interior.Interior.TheVariants.{Parts, Machine}
use Rattle.plant_drawing.specs.Drawn.{is_coloured}
use Rattle.plant_drawing.specs.Atom.{atom_lines}
use Rattle.plant_drawing.specs.Connector.{drawn_connector}
use Rattle.plant_drawing.specs.Rule.{drawn_rule}
use Rattle.plant_drawing.specs.declared.rule.RuleLabel.TheVariants.{Written}

-- the atom with a number in its state; nothing of one that is not drawn
abbrev pub drawn_atom : Interior → ℕ → List Local → ℕ → AtomDefinition → List ℕ
drawn_atom interior drawn states number a =
    if has drawn number then option_map_or (atom_lines interior number a) (slice_get states number) [] else []

-- the atoms that are drawn, in written order
abbrev pub drawn_atoms : Interior → PlantDefinition → List Local → ℕ → List ℕ
drawn_atoms interior plant states drawn = numbered (drawn_atom interior drawn states) 0 plant.atoms

-- the atoms, the connectors and the priority rules that are drawn, each in written order
abbrev pub parts_of : PlantDefinition → List Local → ℕ → Filling → List ℕ
parts_of plant states drawn filling =
    drawn_atoms Parts plant states drawn ++
    numbered (drawn_connector plant.atoms drawn (is_coloured filling plant states)) 0 plant.wires ++
    flat_map (drawn_rule Written drawn plant) plant.rules

-- how the graph is laid out: in one font, with some room between the nodes, and the label of an atom below its parts
abbrev pub style : List ℕ
style =
    codes "  fontname=\"Helvetica\";\n  labelloc=b;\n  nodesep=0.4;\n  ranksep=0.6;\n  node [fontname=\"Helvetica\"];\n  edge [fontname=\"Helvetica\", fontsize=11];\n"

-- a directed graph of them: of the plant in a state, the atoms of a set and what stands on them, and the connectors filled alike or
-- by their choices
abbrev pub drawing_of : PlantDefinition → List Local → ℕ → Filling → List ℕ
drawing_of plant states drawn filling =
    codes "digraph plant {\n" ++ style ++ parts_of plant states drawn filling ++ codes "}\n"

-- a directed graph of the atoms of a set alone, as state machines in a state
abbrev pub machines_of : PlantDefinition → List Local → ℕ → List ℕ
machines_of plant states drawn = codes "digraph plant {\n" ++ style ++ drawn_atoms Machine plant states drawn ++ codes "}\n"
