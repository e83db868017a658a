-- The ports among the tokens of a connector are its leaves.
use Rattle.std.proofs.Common.{◌≡◌, Bool, List, [], ◌∷◌, ◌++◌, refl, ap, sym, ◌∙◌, append_assoc, append-nil}
use Rattle.connector_tree.specs.Tree.{Tree, no_child, child, Branch, leaf, bracket, leaves, branch_leaves}
use Rattle.connector_tree.specs.declared.token.Token.{Token}
use Rattle.connector_tree.specs.declared.token.Token.TheVariants.{Close}
use Rattle.connector_tree.specs.Tokens.{tokens_of, branch_tokens, ports_in}
use Rattle.connector_tree.proofs.Written.{bracket_before, child_before}

-- the ports of children, and of a branch, stand before those of what follows
mutual
  ports_before : (tree : Tree) (rest : List Token) → ports_in (tokens_of tree ++ rest) ≡ leaves tree ++ ports_in rest
  ports_before no_child rest = refl
  ports_before (child trigger branch tree) rest =
      ap ports_in (child_before trigger branch tree rest)
      ∙ branch_ports branch trigger (tokens_of tree ++ rest)
      ∙ ap (λ ports. branch_leaves branch ++ ports) (ports_before tree rest)
      ∙ sym (append_assoc (branch_leaves branch) (leaves tree) (ports_in rest))

  branch_ports : (branch : Branch) (trigger : Bool) (rest : List Token) → ports_in (branch_tokens branch trigger ++ rest) ≡ branch_leaves branch ++ ports_in rest
  branch_ports (leaf atom port) trigger rest = refl
  branch_ports (bracket tree) trigger rest = ap ports_in (bracket_before tree trigger rest) ∙ ports_before tree (Close trigger ∷ rest)

pub ports-tree : (tree : Tree) → ports_in (tokens_of tree) ≡ leaves tree
ports-tree tree =
    ap ports_in (sym (append-nil (tokens_of tree)))
    ∙ ports_before tree []
    ∙ append-nil (leaves tree)
