-- A connector as a node, and an edge to each of its ports that is drawn.
use Rattle.std.specs.Prelude.{ℕ, Bool, if◌then◌else◌, List, [], ◌++◌, codes, flat_map, map}
use Rattle.petri_atom.specs.Definition.{AtomDefinition}
use Rattle.petri_atom.specs.Expression.{Tree}
use Rattle.connector_tree.specs.Tree.{leaves}
use Rattle.connector_tree.specs.declared.tree.Port.{Port}
use Rattle.connector_tree.specs.Tokens.{tokens_of}
use Rattle.plant_model.specs.Plant.{TransferDefinition, WireDefinition}
use Rattle.plant_model.specs.declared.wire.Export.{Export}
use Rattle.plant_drawing.specs.Drawn.{is_drawn}
use Rattle.plant_drawing.specs.Edges.{end_of_edge, from_connector, token_edge}
use Rattle.plant_drawing.specs.Node.{part_node, connector_node}
use Rattle.part_text.specs.Export.{export_name}
use Rattle.part_text.specs.Words.{token_word}
use Rattle.plant_drawing.specs.Wrapped.{assigned_words, columns_past, expression_words, wrapped}
use Rattle.plant_drawing.specs.declared.wrapping.TheConstants.{COLUMNS}

-- the begin of the edge of a connector to a port of an atom
abbrev pub arrow_to : ℕ → ℕ → ℕ → List ℕ
arrow_to number atom port = from_connector number ++ part_node (codes "port") atom port

-- the edge of a connector to a port
abbrev pub port_edge : ℕ → Port → Bool → List ℕ
port_edge number port trigger = arrow_to number port.atom port.port ++ end_of_edge trigger

-- a guard clause, on a line of its own
abbrev pub guard_line : List AtomDefinition → List Port → Tree Export → List ℕ
guard_line atoms ports guard =
    codes "\\nguard" ++ wrapped (columns_past (codes "guard")) (expression_words (export_name atoms ports) guard)

-- a transfer, on a line of its own: what it sets, and to what
abbrev pub transfer_line : List AtomDefinition → List Port → TransferDefinition → List ℕ
transfer_line atoms ports t =
    codes "\\n" ++ export_name atoms ports t.target ++
    wrapped (columns_past (export_name atoms ports t.target)) (assigned_words (export_name atoms ports) t.value)

-- the tree of a connector: its words, with a space before each, and one after the last
abbrev pub tree_text : List AtomDefinition → WireDefinition → List ℕ
tree_text atoms wire = wrapped COLUMNS (map (token_word atoms) (tokens_of wire.connector)) ++ codes " "

-- the name of a connector, and on lines of their own its tree, its guard clauses and its transfers
abbrev pub connector_label : List AtomDefinition → WireDefinition → List ℕ
connector_label atoms wire =
    wire.name ++ codes "\\n" ++ tree_text atoms wire ++
    flat_map (guard_line atoms (leaves wire.connector)) wire.guards ++
    flat_map (transfer_line atoms (leaves wire.connector)) wire.transfers

-- the colour of a connector that is filled as one that has a choice, and of another
abbrev pub colour_of : Bool → List ℕ
colour_of coloured = if coloured then codes "palegreen" else codes "lightyellow"

-- the shape of a connector's node and its colour, and the begin of its label
abbrev pub connector_shape : Bool → List ℕ
connector_shape coloured =
    codes " [shape=box, style=\"rounded,filled\", fillcolor=" ++ colour_of coloured ++ codes ", label=\""

-- the node of the connector with a number
abbrev pub connector_line : List AtomDefinition → Bool → ℕ → WireDefinition → List ℕ
connector_line atoms coloured number wire =
    codes "  " ++ connector_node number ++ connector_shape coloured ++ connector_label atoms wire ++ codes "\"];\n"

-- the connector with a number, and its edges
abbrev pub connector_lines : List AtomDefinition → ℕ → Bool → ℕ → WireDefinition → List ℕ
connector_lines atoms drawn coloured number wire =
    connector_line atoms coloured number wire ++ flat_map (token_edge drawn (port_edge number)) (tokens_of wire.connector)

-- the same if the connector is drawn, filled as is said of its number; nothing of another
abbrev pub drawn_connector : List AtomDefinition → ℕ → (ℕ → Bool) → ℕ → WireDefinition → List ℕ
drawn_connector atoms drawn coloured number wire =
    if is_drawn drawn wire then connector_lines atoms drawn (coloured number) number wire else []
