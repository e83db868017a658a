-- The edges of a connector: by the leaves of its tree, and how they begin and end.
use Rattle.std.specs.Prelude.{Bool, ℕ, List, [], ◌++◌, codes, if◌then◌else◌}
use Rattle.petri_atom.specs.Local.{has}
use Rattle.connector_tree.specs.declared.tree.Port.{Port}
use Rattle.connector_tree.specs.declared.token.Token.{Token}
use Rattle.connector_tree.specs.declared.token.Token.TheVariants.{Leaf, Open, Close}
use Rattle.plant_drawing.specs.Node.{connector_node}

-- the begin of an edge from a connector
abbrev pub from_connector : ℕ → List ℕ
from_connector number = codes "  " ++ connector_node number ++ codes " -> "

-- the end of an edge, at a trigger and at a synchron
abbrev pub end_of_edge : Bool → List ℕ
end_of_edge trigger = if trigger then codes " [arrowhead=normal];\n" else codes " [arrowhead=dot];\n"

-- the edge of a leaf if its atom is one of the set; nothing of another
abbrev pub leaf_edge : ℕ → (Port → Bool → List ℕ) → Port → Bool → List ℕ
leaf_edge drawn edge port trigger = if has drawn port.atom then edge port trigger else []

-- the edge for a word of the tree: brackets have none
abbrev pub token_edge : ℕ → (Port → Bool → List ℕ) → Token → List ℕ
token_edge drawn edge (Leaf port trigger) = leaf_edge drawn edge port trigger
token_edge drawn edge Open = []
token_edge drawn edge (Close trigger) = []
