-- A connector as a tree of ports, without the addresses of its memory, and what the tree has: its leaves in order, its
-- depth, and whether a bracket is empty.
use Rattle.std.specs.Prelude.{ℕ, ◌+◌, max, Bool, true, false, ◌||◌, List, [], ◌∷◌, ◌++◌, map}
use Rattle.connector_tree.specs.declared.tree.Connector.{Connector}
use Rattle.connector_tree.specs.declared.tree.Port.{Port}
use Rattle.connector_tree.specs.declared.tree.Child.{Child}
use Rattle.connector_tree.specs.declared.tree.Node.{Node, Node-F, fold-Node}
use Rattle.connector_tree.specs.declared.tree.Node.TheOpen.{Leaf, Fusion}

-- A tree is the children of the root or of a bracket, from left to right, each with whether it is a trigger. A branch is
-- a port, by the numbers of its atom and of the port, or a bracket.
mutual
  pub data Tree : Type 0 where
    no_child : Tree
    child : Bool → Branch → Tree → Tree

  pub data Branch : Type 0 where
    leaf : ℕ → ℕ → Branch
    bracket : Tree → Branch

-- the children in a list
abbrev pub Row : Type 0
Row = List (Bool × Branch)

abbrev pub tree_with : Row → Tree
tree_with [] = no_child
tree_with (c ∷ cs) = child c.0 c.1 (tree_with cs)

abbrev pub branch_step : Node-F Branch (Bool × Branch) → Branch
branch_step (Leaf atom port) = leaf atom port
branch_step (Fusion children) = bracket (tree_with children.items)

-- a node in memory as a branch
abbrev pub branch_of : Node → Branch
branch_of = fold-Node Branch (Bool × Branch) branch_step (λ child. (child.trigger, child.node))

-- children in memory as a tree
abbrev pub tree_in : List Child → Tree
tree_in children = tree_with (map (λ child. (child.trigger, branch_of child.node)) children)

-- what a connector in memory is
abbrev pub tree_of : Connector → Tree
tree_of connector = tree_in connector.root.items

-- the leaves from left to right: leaf j is the entry at j
abbrev mutual
  pub leaves : Tree → List Port
  leaves no_child = []
  leaves (child trigger branch rest) = branch_leaves branch ++ leaves rest

  pub branch_leaves : Branch → List Port
  branch_leaves (leaf atom port) = record { atom = atom; port = port } ∷ []
  branch_leaves (bracket tree) = leaves tree

-- the most levels of brackets in one of the children: none in a port, and in a bracket one more than in its children
abbrev mutual
  pub deepest : Tree → ℕ
  deepest no_child = 0
  deepest (child trigger branch rest) = max (branch_depth branch) (deepest rest)

  pub branch_depth : Branch → ℕ
  branch_depth (leaf atom port) = 0
  branch_depth (bracket tree) = 1 + deepest tree

-- the root is depth 1, and each bracket adds 1
abbrev pub depth : Tree → ℕ
depth tree = 1 + deepest tree

-- whether there are no children
abbrev pub is_empty : Tree → Bool
is_empty no_child = true
is_empty (child trigger branch rest) = false

-- whether one of the children is, or has inside it, a bracket without children
abbrev mutual
  pub has_empty_bracket : Tree → Bool
  has_empty_bracket no_child = false
  has_empty_bracket (child trigger branch rest) = is_empty_inside branch || has_empty_bracket rest

  pub is_empty_inside : Branch → Bool
  is_empty_inside (leaf atom port) = false
  is_empty_inside (bracket tree) = is_empty tree || has_empty_bracket tree

-- whether the root or a bracket has no children
abbrev pub has_empty : Tree → Bool
has_empty tree = is_empty tree || has_empty_bracket tree
