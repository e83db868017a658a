-- What a node in memory is as a branch, and trees that stand beside each other.
use Rattle.std.proofs.Common.{◌≡◌, ℕ, Bool, ◌∷◌, [], ◌++◌, map, ap, sym, ◌∙◌, refl}
use Rattle.std.specs.declared.vec.Vec.{Vec}
use Rattle.std.specs.declared.alloc.Global.{Global}
use Rattle.connector_tree.specs.declared.tree.Child.{Child, fold_out-Child}
use Rattle.connector_tree.specs.declared.tree.Node.{Node, fold-roll-Node}
use Rattle.connector_tree.specs.declared.tree.Node.TheOpen as open_node
use Rattle.connector_tree.specs.declared.tree.Node.TheVariants.{Leaf, Fusion, rolls-Leaf, rolls-Fusion}
use Rattle.connector_tree.specs.Tree.{Tree, no_child, child, Branch, leaf, bracket, tree_with, branch_step, branch_of, tree_in, leaves, branch_leaves}
use Rattle.connector_tree.specs.PortSets.{parts, branch_sets}
use Rattle.connector_tree.specs.Walk.{seen, seen_children}
use Rattle.connector_tree.specs.Ports.{beside}

pub branch-leaf : (atom port : ℕ) → branch_of (Leaf atom port) ≡ leaf atom port
branch-leaf atom port =
    ap branch_of (sym (rolls-Leaf atom port))
    ∙ fold-roll-Node Branch (Bool × Branch) branch_step (λ child. (child.trigger, child.node)) (open_node.Leaf atom port)

pub branch-fusion : (children : Vec Child Global) → branch_of (Fusion children) ≡ bracket (tree_in children.items)
branch-fusion children =
    ap branch_of (sym (rolls-Fusion children))
    ∙ fold-roll-Node Branch (Bool × Branch) branch_step (λ child. (child.trigger, child.node)) (open_node.Fusion children)
    ∙ (λ i. bracket (tree_with (map (λ child. fold_out-Child Branch (Bool × Branch) branch_step (λ child. (child.trigger, child.node)) child i) children.items)))

-- the leaves of a port in memory, and of a bracket
pub leaves-leaf : (node : Node) (atom port : ℕ) → node ≡ Leaf atom port → branch_leaves (branch_of node) ≡ record { atom = atom; port = port } ∷ []
leaves-leaf node atom port is = ap (λ n. branch_leaves (branch_of n)) is ∙ ap branch_leaves (branch-leaf atom port)

pub leaves-fusion : (node : Node) (children : Vec Child Global) → node ≡ Fusion children → branch_leaves (branch_of node) ≡ leaves (tree_in children.items)
leaves-fusion node children is = ap (λ n. branch_leaves (branch_of n)) is ∙ ap branch_leaves (branch-fusion children)

pub beside_assoc : (one other : Tree) (trigger : Bool) (branch : Branch) → beside (beside one (child trigger branch no_child)) other ≡ beside one (child trigger branch other)
beside_assoc no_child other trigger branch = refl
beside_assoc (child t b rest) other trigger branch = ap (child t b) (beside_assoc rest other trigger branch)

pub parts-beside : (one other : Tree) → parts (beside one other) ≡ parts one ++ parts other
parts-beside no_child other = refl
parts-beside (child trigger branch rest) other = ap (λ ps. record { trigger = trigger; sets = branch_sets branch } ∷ ps) (parts-beside rest other)

pub seen-beside : (one other : Tree) → seen_children (beside one other) ≡ seen_children one ++ seen_children other
seen-beside no_child other = refl
seen-beside (child trigger branch rest) other = ap (λ ss. record { trigger = trigger; seen = seen branch } ∷ ss) (seen-beside rest other)

-- the fact holds of the branch of each child
abbrev pub Each : (Branch → Type 0) → Tree → Type 0
Each P no_child = Unit {0}
Each P (child trigger branch rest) = P branch × Each P rest
