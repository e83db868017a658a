-- The fault of the tokens of a connector is the connector's.
use Rattle.std.proofs.Common.{◌≡◌, ℕ, Bool, nat_lt, ◌||◌, if◌then◌else◌, List, length, Option, Some, None, ap, ◌∙◌}
use Rattle.connector_tree.specs.declared.tree.Port.{Port}
use Rattle.connector_tree.specs.declared.tree.TheConstants.{MAX_LEAVES, MAX_DEPTH}
use Rattle.connector_tree.specs.declared.faults.TreeFault.{TreeFault}
use Rattle.connector_tree.specs.declared.faults.TreeFault.TheVariants.{TooManyLeaves, TooDeep, SameAtom, Empty}
use Rattle.connector_tree.specs.Tree.{Tree, leaves, depth}
use Rattle.connector_tree.specs.Faults.{has_repeat, atoms, fault_of}
use Rattle.connector_tree.specs.Tokens.{tokens_of}
use Rattle.connector_tree.specs.TokenFaults.{deepest, is_empty, has_empty_bracket, fault_in}
use Rattle.connector_tree.proofs.TokenLeaves.{ports-tree}
use Rattle.connector_tree.proofs.TokenDepth.{deepest-tree}
use Rattle.connector_tree.proofs.TokenEmpties.{empty-tree}

-- the fault of a tree with these ports, this depth, and an empty bracket or none
fault_at : List Port → ℕ → Bool → Option TreeFault
fault_at ports levels empty =
    if nat_lt MAX_LEAVES (length ports) then Some TooManyLeaves
    else (if nat_lt MAX_DEPTH levels then Some TooDeep
    else (if has_repeat (atoms ports) then Some SameAtom
    else (if empty then Some Empty
    else None)))

pub fault-tree : (tree : Tree) → fault_in (tokens_of tree) ≡ fault_of tree
unfolding fault_at
fault-tree tree =
    ap (λ ports. fault_at ports (deepest 1 (tokens_of tree)) (is_empty (tokens_of tree) || has_empty_bracket (tokens_of tree))) (ports-tree tree)
    ∙ ap (λ levels. fault_at (leaves tree) levels (is_empty (tokens_of tree) || has_empty_bracket (tokens_of tree))) (deepest-tree tree)
    ∙ ap (λ empty. fault_at (leaves tree) (depth tree) empty) (empty-tree tree)
