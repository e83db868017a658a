-- Synchrons and ports, of which the laws speak.
use Rattle.std.specs.Prelude.{Bool, true, false, ◌&&◌, not}
use Rattle.connector_tree.specs.Tree.{Tree, no_child, child, Branch, leaf, bracket}

-- the children of the one, and after them those of the other
abbrev pub beside : Tree → Tree → Tree
beside no_child other = other
beside (child trigger branch rest) other = child trigger branch (beside rest other)

-- no child is a trigger
abbrev pub are_synchrons : Tree → Bool
are_synchrons no_child = true
are_synchrons (child trigger branch rest) = not trigger && are_synchrons rest

-- the branch is a port
abbrev pub is_port : Branch → Bool
is_port (leaf atom port) = true
is_port (bracket tree) = false

-- each child is a port
abbrev pub are_ports : Tree → Bool
are_ports no_child = true
are_ports (child trigger branch rest) = is_port branch && are_ports rest
