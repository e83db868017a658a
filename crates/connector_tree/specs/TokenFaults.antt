-- The faults of a tree, on its tokens.
use Rattle.std.specs.Prelude.{ℕ, ◌+◌, ◌-◌, max, nat_lt, Bool, true, false, ◌||◌, if◌then◌else◌, List, [], ◌∷◌, length, Option, Some, None}
use Rattle.connector_tree.specs.declared.tree.TheConstants.{MAX_LEAVES, MAX_DEPTH}
use Rattle.connector_tree.specs.declared.faults.TreeFault.{TreeFault}
use Rattle.connector_tree.specs.declared.faults.TreeFault.TheVariants.{TooManyLeaves, TooDeep, SameAtom, Empty}
use Rattle.connector_tree.specs.Faults.{has_repeat, atoms}
use Rattle.connector_tree.specs.Tokens.{ports_in}
use Rattle.connector_tree.specs.declared.token.Token.{Token}
use Rattle.connector_tree.specs.declared.token.Token.TheVariants.{Leaf, Open, Close}

abbrev pub is_empty : List Token → Bool
is_empty [] = true
is_empty (token ∷ tokens) = false

abbrev pub is_open : Token → Bool
is_open (Leaf port trigger) = false
is_open Open = true
is_open (Close trigger) = false

abbrev pub is_close : Token → Bool
is_close (Leaf port trigger) = false
is_close Open = false
is_close (Close trigger) = true

-- the deepest level of the tokens, where this is the level before them: a bracket is one deeper than what it stands in
abbrev pub deepest : ℕ → List Token → ℕ
deepest level [] = level
deepest level (Leaf port trigger ∷ tokens) = deepest level tokens
deepest level (Open ∷ tokens) = deepest (level + 1) tokens
deepest level (Close trigger ∷ tokens) = max level (deepest (level - 1) tokens)

-- the first token is the end of a bracket
abbrev pub begins_with_close : List Token → Bool
begins_with_close [] = false
begins_with_close (token ∷ tokens) = is_close token

-- some bracket ends directly after its begin
abbrev pub has_empty_bracket : List Token → Bool
has_empty_bracket [] = false
has_empty_bracket (Leaf port trigger ∷ tokens) = has_empty_bracket tokens
has_empty_bracket (Open ∷ tokens) = begins_with_close tokens || has_empty_bracket tokens
has_empty_bracket (Close trigger ∷ tokens) = has_empty_bracket tokens

-- the first fault of the tree with these tokens, in the order of a connector's faults; the root is level 1
abbrev pub fault_in : List Token → Option TreeFault
fault_in tokens =
    if nat_lt MAX_LEAVES (length (ports_in tokens)) then Some TooManyLeaves
    else (if nat_lt MAX_DEPTH (deepest 1 tokens) then Some TooDeep
    else (if has_repeat (atoms (ports_in tokens)) then Some SameAtom
    else (if is_empty tokens || has_empty_bracket tokens then Some Empty
    else None)))
