-- The outline of a plant: a node for each atom and for each connector that is drawn, and no parts of atoms.
use Rattle.std.specs.Prelude.{ℕ, Bool, if◌then◌else◌, List, [], ◌++◌, codes, flat_map}
use Rattle.petri_atom.specs.Local.{has}
use Rattle.petri_atom.specs.Definition.{AtomDefinition}
use Rattle.connector_tree.specs.Tokens.{tokens_of}
use Rattle.connector_tree.specs.declared.tree.Port.{Port}
use Rattle.plant_model.specs.Plant.{PlantDefinition, WireDefinition}
use Rattle.text_io.specs.Numbered.{numbered}
use Rattle.plant_drawing.specs.Drawn.{is_drawn}
use Rattle.plant_drawing.specs.Node.{atom_node, connector_node}
use Rattle.plant_drawing.specs.Atom.{named}
use Rattle.plant_drawing.specs.Edges.{end_of_edge, from_connector, token_edge}
use Rattle.plant_drawing.specs.Rule.{drawn_rule}
use Rattle.plant_drawing.specs.Drawing.{style}
use Rattle.plant_drawing.specs.declared.rule.RuleLabel.TheVariants.{Absent}

-- an atom is a box with its name
abbrev pub atom_box : ℕ → AtomDefinition → List ℕ
atom_box number a = codes "  " ++ atom_node number ++ codes " [shape=box, " ++ named a.name

-- the same if the atom is drawn; nothing of another
abbrev pub drawn_box : ℕ → ℕ → AtomDefinition → List ℕ
drawn_box drawn number a = if has drawn number then atom_box number a else []

-- a connector is a small node with its name
abbrev pub connector_oval : ℕ → WireDefinition → List ℕ
connector_oval number wire =
    codes "  " ++ connector_node number ++
    codes " [shape=ellipse, style=filled, fillcolor=lightyellow, fontsize=10, margin=0.02, height=0.25, " ++ named wire.name

-- the begin of the edge of a connector to an atom
abbrev pub arrow_to_atom : ℕ → ℕ → List ℕ
arrow_to_atom number atom = from_connector number ++ atom_node atom

-- the edge of a connector to the atom of one of its leaves
abbrev pub atom_edge : ℕ → Port → Bool → List ℕ
atom_edge number port trigger = arrow_to_atom number port.atom ++ end_of_edge trigger

-- the connector with a number, and its edges to the atoms that are drawn
abbrev pub connector_outline : ℕ → ℕ → WireDefinition → List ℕ
connector_outline drawn number wire =
    connector_oval number wire ++ flat_map (token_edge drawn (atom_edge number)) (tokens_of wire.connector)

-- the same if the connector is drawn; nothing of another
abbrev pub drawn_outline : ℕ → ℕ → WireDefinition → List ℕ
drawn_outline drawn number wire = if is_drawn drawn wire then connector_outline drawn number wire else []

-- the atoms, the connectors and the priority rules that are drawn, each in written order
abbrev pub outline_parts : PlantDefinition → ℕ → List ℕ
outline_parts plant drawn =
    numbered (drawn_box drawn) 0 plant.atoms ++ numbered (drawn_outline drawn) 0 plant.wires ++
    flat_map (drawn_rule Absent drawn plant) plant.rules

-- how the graph is laid out: as a drawing is, with straight lines and a short search for places, since an outline is asked for if a plant is large
abbrev pub outline_style : List ℕ
outline_style = style ++ codes "  splines=line;\n  mclimit=0.1;\n  nslimit=1;\n  nslimit1=1;\n"

-- a directed graph of them: of the atoms of a set and what stands on them
abbrev pub outline_of : PlantDefinition → ℕ → List ℕ
outline_of plant drawn = codes "digraph plant {\n" ++ outline_style ++ outline_parts plant drawn ++ codes "}\n"
