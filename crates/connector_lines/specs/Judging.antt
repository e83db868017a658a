-- The faults of a tree, by the shape of its first tokens and those that are left.
use Rattle.std.specs.Prelude.{ℕ, ◌+◌, nat_lt, Bool, ◌&&◌, ◌||◌, if◌then◌else◌, List, ◌++◌, length, Option, Some, None}
use Rattle.connector_tree.specs.declared.tree.TheConstants.{MAX_LEAVES, MAX_DEPTH}
use Rattle.connector_tree.specs.declared.faults.TreeFault.{TreeFault}
use Rattle.connector_tree.specs.declared.faults.TreeFault.TheVariants.{TooManyLeaves, TooDeep, SameAtom, Empty}
use Rattle.connector_tree.specs.Faults.{has_repeat, atoms}
use Rattle.connector_tree.specs.declared.token.Token.{Token}
use Rattle.connector_tree.specs.Tokens.{ports_in}
use Rattle.connector_tree.specs.TokenFaults.{deepest, begins_with_close, has_empty_bracket}
use Rattle.connector_lines.specs.declared.shape.Shape.{Shape}

-- with ports of these atoms, there are too many
abbrev pub is_too_wide_after : Shape → List ℕ → Bool
is_too_wide_after shape more = shape.is_too_wide || nat_lt MAX_LEAVES (length (shape.atoms.items ++ more))

-- with these tokens after so many open brackets, a token stands too deep
abbrev pub is_too_deep_after : Shape → ℕ → List Token → Bool
is_too_deep_after shape level tokens = shape.is_too_deep || nat_lt MAX_DEPTH (deepest (level + 1) tokens)

-- with these tokens, a bracket is empty
abbrev pub has_empty_after : Shape → List Token → Bool
has_empty_after shape tokens = (shape.has_empty_bracket || (shape.is_behind_open && begins_with_close tokens)) || has_empty_bracket tokens

-- the first fault, where these tokens are left after so many open brackets
abbrev pub fault_after : Shape → ℕ → List Token → Option TreeFault
fault_after shape level tokens =
    if is_too_wide_after shape (atoms (ports_in tokens)) then Some TooManyLeaves
    else (if is_too_deep_after shape level tokens then Some TooDeep
    else (if has_repeat (shape.atoms.items ++ atoms (ports_in tokens)) then Some SameAtom
    else (if has_empty_after shape tokens then Some Empty
    else None)))
