-- A leaf of a connector that is sought by its number.
use Rattle.std.specs.Prelude.{ℕ, zero, suc, List, [], ◌∷◌, Option, Some, None}
use Rattle.connector_tree.specs.declared.tree.Port.{Port}
use Rattle.part_text.specs.declared.leaf.Sought.{Sought}
use Rattle.part_text.specs.declared.leaf.Sought.TheVariants.{Found, After}

-- the leaf with a number among these, or by what number it is sought after them
abbrev pub sought : ℕ → List Port → Sought
sought number [] = After number
sought zero (port ∷ ports) = Found port
sought (suc number) (port ∷ ports) = sought number ports

-- the leaf that was found; nothing of one that is sought further
abbrev pub found : Sought → Option Port
found (Found port) = Some port
found (After number) = None
