-- A connector as its tokens: a flat list of ports, and of begins and ends of brackets.
use Rattle.std.specs.Prelude.{ℕ, ◌+◌, ◌-◌, ◌==◌, Bool, false, if◌then◌else◌, List, [], ◌∷◌, ◌++◌, Option, Some, None}
use Rattle.std.specs.Option.{option_map_or}
use Rattle.connector_tree.specs.declared.tree.Child.{Child}
use Rattle.connector_tree.specs.declared.tree.Node.{Node}
use Rattle.connector_tree.specs.declared.tree.Port.{Port}
use Rattle.connector_tree.specs.declared.token.Token.{Token}
use Rattle.connector_tree.specs.declared.token.Token.TheVariants.{Leaf, Open, Close}
use Rattle.connector_tree.specs.Tree.{Tree, no_child, child, Branch, leaf, bracket, branch_of, tree_in}

-- The tokens of a connector: those of the root's children, from left to right. A branch that is a trigger or is none has as its
-- tokens: a port itself; a bracket its begin, its children and its end, which has the mark.
abbrev mutual
  pub tokens_of : Tree → List Token
  tokens_of no_child = []
  tokens_of (child trigger branch rest) = branch_tokens branch trigger ++ tokens_of rest

  pub branch_tokens : Branch → Bool → List Token
  branch_tokens (leaf atom port) trigger = Leaf (record { atom = atom; port = port }) trigger ∷ []
  branch_tokens (bracket tree) trigger = Open ∷ (tokens_of tree ++ Close trigger ∷ [])

-- the tokens of a node in memory, which is a trigger or is none
abbrev pub node_tokens : Node → Bool → List Token
node_tokens node trigger = branch_tokens (branch_of node) trigger

-- the tokens of several children in memory
abbrev pub children_tokens : List Child → List Token
children_tokens children = tokens_of (tree_in children)

-- the ports, from left to right
abbrev pub ports_in : List Token → List Port
ports_in [] = []
ports_in (Leaf port trigger ∷ tokens) = port ∷ ports_in tokens
ports_in (Open ∷ tokens) = ports_in tokens
ports_in (Close trigger ∷ tokens) = ports_in tokens

-- how many brackets are open after a token, if so many are open before it; none where it closes one and none is open
abbrev pub level_after : Token → ℕ → Option ℕ
level_after (Leaf port trigger) level = Some level
level_after Open level = Some (level + 1)
level_after (Close trigger) level = if level == 0 then None else Some (level - 1)

-- each bracket that ends is open, and all are closed at the end, if so many are open before these tokens
abbrev pub is_balanced : ℕ → List Token → Bool
is_balanced level [] = level == 0
is_balanced level (token ∷ tokens) = option_map_or (λ next. is_balanced next tokens) (level_after token level) false
