-- Sets of a connector's ports as masks: bit j for leaf j.
use Rattle.std.specs.Prelude.{ℕ, ◌+◌, ◌<◌, ◌^◌, ◌==◌, Bool, IsTrue, if◌then◌else◌, List, [], ◌∷◌, filter, length}
use Rattle.std.specs.List.{range_with_len}
use Rattle.std.specs.Int.{bit_at}
use Rattle.connector_tree.specs.declared.tree.Port.{Port}
use Rattle.connector_tree.specs.Tree.{Tree, leaves}
use Rattle.connector_tree.specs.PortSets.{Sets, is_among, port_sets, is_port_set}

-- whether bit j of the mask is set
abbrev pub is_set : ℕ → ℕ → Bool
is_set mask j = bit_at mask j == 1

-- the leaves from number j on whose bit in the mask is set
abbrev pub chosen : ℕ → ℕ → List Port → List Port
chosen mask j [] = []
chosen mask j (p ∷ ps) = if is_set mask j then p ∷ chosen mask (j + 1) ps else chosen mask (j + 1) ps

-- the set of ports that a mask stands for: bit j for leaf j
abbrev pub ports_of : Tree → ℕ → List Port
ports_of tree mask = chosen mask 0 (leaves tree)

-- the masks over these leaves, in rising order, whose ports are one of the sets
abbrev pub masks_of : List Port → Sets → List ℕ
masks_of ports sets = filter (λ mask. is_among sets (chosen mask 0 ports)) (range_with_len 0 (2 ^ length ports))

-- the interactions of a connector: the masks over its leaves, in rising order, whose ports are a port set
abbrev pub interactions_of : Tree → List ℕ
interactions_of tree = masks_of (leaves tree) (port_sets tree)

-- the mask is over the connector's leaves, and its ports are a port set
abbrev pub IsInteraction : Tree → ℕ → Type 0
IsInteraction tree mask =
    (mask < 2 ^ length (leaves tree)) × IsTrue (is_port_set tree (ports_of tree mask))
