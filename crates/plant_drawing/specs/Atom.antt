-- An atom in a state as a cluster: its variables in the label, and a node for each place, port and transition.
use Rattle.std.specs.Prelude.{ℕ, ℤ, Bool, true, false, if◌then◌else◌, ◌&&◌, ◌==◌, nat_lt, List, [], ◌++◌, codes, decimal, flat_map, length, slice_get, Option, None, Some}
use Rattle.std.specs.List.{position}
use Rattle.std.specs.Option.{option_map_or}
use Rattle.std.specs.Fmt.{signed_decimal}
use Rattle.petri_atom.specs.Expression.{Tree}
use Rattle.petri_atom.specs.Local.{Local, has, value_in}
use Rattle.petri_atom.specs.Definition.{AtomDefinition, PortDefinition, TransitionDefinition, UpdateDefinition, port_name, variable_name}
use Rattle.petri_atom.specs.declared.parts.Place.{Place}
use Rattle.petri_atom.specs.declared.parts.Variable.{Variable}
use Rattle.text_io.specs.Numbered.{numbered}
use Rattle.plant_drawing.specs.declared.interior.Interior.{Interior}
use Rattle.plant_drawing.specs.declared.interior.Interior.TheVariants.{Parts, Machine}
use Rattle.plant_drawing.specs.Node.{part_node}
use Rattle.part_text.specs.Expression.{is_one}
use Rattle.plant_drawing.specs.Wrapped.{assigned_words, columns_past, expression_words, wrapped}

-- the variable with number k and its value, on a line of its own
abbrev pub variable_text : List ℤ → ℕ → Variable → List ℕ
variable_text values k v = codes "\\n" ++ v.name ++ codes " = " ++ signed_decimal (value_in values k)

-- how a place is filled that is marked, or is not
abbrev pub fill_of : Bool → List ℕ
fill_of marked = if marked then codes "style=filled, " else []

-- the end of a node whose label is a name
abbrev pub named : List ℕ → List ℕ
named name = codes "label=\"" ++ name ++ codes "\"];\n"

-- the place with number k is a circle, and a filled one if it is marked
abbrev pub place_line : ℕ → ℕ → ℕ → Place → List ℕ
place_line marking atom k place =
    codes "    " ++ part_node (codes "place") atom k ++ codes " [shape=circle, margin=0.03, " ++
    fill_of (has marking k) ++ named place.name

-- a port with the variables that it exports
abbrev pub port_line : ℕ → AtomDefinition → ℕ → PortDefinition → List ℕ
port_line atom a k port =
    codes "    " ++ part_node (codes "port") atom k ++ codes " [shape=ellipse, label=\"" ++ port.name ++
    flat_map (λ v. codes " " ++ variable_name a v) port.exports ++ codes "\"];\n"

-- a guard, on a line of its own; nothing of one that is 1
abbrev pub guard_text : AtomDefinition → Tree ℕ → List ℕ
guard_text a guard =
    if is_one guard then [] else codes "\\nwhen" ++ wrapped (columns_past (codes "when")) (expression_words (variable_name a) guard)

-- an update, on a line of its own
abbrev pub update_text : AtomDefinition → UpdateDefinition → List ℕ
update_text a u =
    codes "\\n" ++ variable_name a u.variable ++ wrapped (columns_past (variable_name a u.variable)) (assigned_words (variable_name a) u.value)

-- the name of a transition's port and its own number, its guard and its updates
abbrev pub transition_label : AtomDefinition → ℕ → TransitionDefinition → List ℕ
transition_label a k t =
    port_name a t.port ++ codes "/" ++ decimal k ++ guard_text a t.guard ++ flat_map (update_text a) t.updates

-- the transition with number k is a box with its label
abbrev pub transition_line : ℕ → AtomDefinition → ℕ → TransitionDefinition → List ℕ
transition_line atom a k t =
    codes "    " ++ part_node (codes "transition") atom k ++ codes " [shape=box, label=\"" ++ transition_label a k t ++ codes "\"];\n"

-- an edge between two parts of an atom, each by what it is and its number
abbrev pub edge : ℕ → List ℕ → ℕ → List ℕ → ℕ → List ℕ → List ℕ
edge atom from number to other style =
    codes "    " ++ part_node from atom number ++ codes " -> " ++ part_node to atom other ++ style

-- the line from a port to one of its transitions
abbrev pub firing_edge : ℕ → ℕ → ℕ → List ℕ
firing_edge atom port k = edge atom (codes "port") port (codes "transition") k (codes " [style=dotted, arrowhead=none];\n")

-- the arrow from a source to its transition, or from a transition to its target
abbrev pub place_edge : Bool → ℕ → ℕ → ℕ → List ℕ
place_edge is_source atom k place =
    if is_source then edge atom (codes "place") place (codes "transition") k (codes ";\n")
    else edge atom (codes "transition") k (codes "place") place (codes ";\n")

-- the arrows from the sources of a transition and to its targets
abbrev pub place_edges : ℕ → ℕ → TransitionDefinition → List ℕ
place_edges atom k t = flat_map (place_edge true atom k) t.sources ++ flat_map (place_edge false atom k) t.targets

-- the edges of a transition
abbrev pub transition_edges : ℕ → ℕ → TransitionDefinition → List ℕ
transition_edges atom k t = firing_edge atom t.port k ++ place_edges atom k t

-- a transition, and its edges
abbrev pub transition_lines : ℕ → AtomDefinition → ℕ → TransitionDefinition → List ℕ
transition_lines atom a k t = transition_line atom a k t ++ transition_edges atom k t

-- the place of a list that has no other
abbrev pub one_place : List ℕ → Option ℕ
one_place places = if length places == 1 then slice_get places 0 else None

-- the begin of an arrow between two places, up to its label
abbrev pub arrow_head : ℕ → ℕ → ℕ → List ℕ
arrow_head atom source target = edge atom (codes "place") source (codes "place") target (codes " [label=\"")

-- a transition of a machine as an arrow between two places, with its label
abbrev pub machine_arrow : ℕ → AtomDefinition → ℕ → TransitionDefinition → ℕ → ℕ → List ℕ
machine_arrow atom a k t source target = arrow_head atom source target ++ transition_label a k t ++ codes "\"];\n"

-- a list has the place, and no other
abbrev pub is_place_alone : ℕ → List ℕ → Bool
is_place_alone place places = option_map_or (λ one. one == place) (one_place places) false

-- a transition is a loop of a place: it leads from there to it alone, and from no other
abbrev pub is_loop : ℕ → TransitionDefinition → Bool
is_loop place t = is_place_alone place t.sources && is_place_alone place t.targets

-- the number of the first transition that is a loop of a place
abbrev pub first_loop : AtomDefinition → ℕ → Option ℕ
first_loop a place = position (is_loop place) a.transitions

-- the transition with number k is the first that is a loop of a place
abbrev pub is_first_loop : AtomDefinition → ℕ → ℕ → Bool
is_first_loop a place k = option_map_or (λ first. first == k) (first_loop a place) false

-- the label of the transition with number k on further lines, if it is a loop of a place after the first one
abbrev pub further_label : AtomDefinition → ℕ → ℕ → ℕ → TransitionDefinition → List ℕ
further_label a place first k t = if nat_lt first k && is_loop place t then codes "\\n" ++ transition_label a k t else []

-- the arrow of all loops of a place, with their labels one below the other: the first has number k
abbrev pub loop_arrow : ℕ → AtomDefinition → ℕ → TransitionDefinition → ℕ → List ℕ
loop_arrow atom a k t place =
    arrow_head atom place place ++ transition_label a k t ++ numbered (further_label a place k) 0 a.transitions ++ codes "\"];\n"

-- a loop of a place in a machine: the first of them has the arrow of all, and the others have none
abbrev pub loop_lines : ℕ → AtomDefinition → ℕ → TransitionDefinition → ℕ → List ℕ
loop_lines atom a k t place = if is_first_loop a place k then loop_arrow atom a k t place else []

-- a transition of a machine from one place to one place
abbrev pub arrow_lines : ℕ → AtomDefinition → ℕ → TransitionDefinition → ℕ → ℕ → List ℕ
arrow_lines atom a k t source target = if source == target then loop_lines atom a k t source else machine_arrow atom a k t source target

-- a transition of a machine as a box with its arrows
abbrev pub machine_node : ℕ → AtomDefinition → ℕ → TransitionDefinition → List ℕ
machine_node atom a k t = transition_line atom a k t ++ place_edges atom k t

-- a transition of a machine, by its one source and its one target: an arrow between them, and a box where it has several of either
abbrev pub lines_between : ℕ → AtomDefinition → ℕ → TransitionDefinition → Option ℕ → Option ℕ → List ℕ
lines_between atom a k t (Some source) (Some target) = arrow_lines atom a k t source target
lines_between atom a k t (Some source) None = machine_node atom a k t
lines_between atom a k t None target = machine_node atom a k t

-- the transition with number k of a machine
abbrev pub machine_lines : ℕ → AtomDefinition → ℕ → TransitionDefinition → List ℕ
machine_lines atom a k t = lines_between atom a k t (one_place t.sources) (one_place t.targets)

-- the name of an atom, and its variables with their values
abbrev pub atom_label : AtomDefinition → Local → List ℕ
atom_label a state = a.name ++ numbered (variable_text state.values) 0 a.variables

-- the begin of the cluster of the atom with a number
abbrev pub cluster_head : ℕ → AtomDefinition → Local → List ℕ
cluster_head atom a state =
    codes "  subgraph cluster_" ++ decimal atom ++ codes " {\n    label=\"" ++ atom_label a state ++ codes "\";\n"

-- its ports, in order; a machine has none
abbrev pub port_lines : Interior → ℕ → AtomDefinition → List ℕ
port_lines Parts atom a = numbered (port_line atom a) 0 a.ports
port_lines Machine atom a = []

-- the transition with number k as a node, or as that of a machine
abbrev pub moving_lines : Interior → ℕ → AtomDefinition → ℕ → TransitionDefinition → List ℕ
moving_lines Parts atom a k t = transition_lines atom a k t
moving_lines Machine atom a k t = machine_lines atom a k t

-- its places, ports and transitions, in order
abbrev pub cluster_parts : Interior → ℕ → AtomDefinition → Local → List ℕ
cluster_parts interior atom a state =
    numbered (place_line state.marking atom) 0 a.places ++ port_lines interior atom a ++
    numbered (moving_lines interior atom a) 0 a.transitions

-- the cluster of the atom with a number, in a state
abbrev pub atom_lines : Interior → ℕ → AtomDefinition → Local → List ℕ
atom_lines interior atom a state = cluster_head atom a state ++ cluster_parts interior atom a state ++ codes "  }\n"
