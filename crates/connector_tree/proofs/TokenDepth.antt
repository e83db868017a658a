-- The deepest level of the tokens of a connector is its depth.
use Rattle.std.proofs.Common.{◌≡◌, ℕ, ◌+◌, ◌-◌, ◌≤◌, max, Bool, List, [], ◌∷◌, ◌++◌, ap, sym, ◌∙◌, append-nil, arith}
use Rattle.connector_tree.specs.Tree as connectors
use Rattle.connector_tree.specs.Tree.{Tree, no_child, child, Branch, leaf, bracket, branch_depth, depth}
use Rattle.connector_tree.specs.declared.token.Token.{Token}
use Rattle.connector_tree.specs.declared.token.Token.TheVariants.{Leaf, Open, Close}
use Rattle.connector_tree.specs.Tokens.{tokens_of, branch_tokens}
use Rattle.connector_tree.specs.TokenFaults.{deepest}
use Rattle.connector_tree.proofs.Written.{bracket_before, child_before}

-- no token is above the level before it
pub level_least : (level : ℕ) (tokens : List Token) → level ≤ deepest level tokens
level_least level [] = omega arith
level_least level (Leaf port trigger ∷ tokens) = level_least level tokens
level_least level (Open ∷ tokens) = omega (arith, level_least (level + 1) tokens)
level_least level (Close trigger ∷ tokens) = omega arith

none_deeper : (level below : ℕ) → level ≤ below → below ≡ max (level + 0) below
none_deeper level below least = omega arith

next_deeper : (level first others below : ℕ) → max (level + first) (max (level + others) below) ≡ max (level + max first others) below
next_deeper level first others below = omega arith

bracket_deeper : (level inner below : ℕ) → max (level + 1 + inner) (max (level + 1) below) ≡ max (level + (1 + inner)) below
bracket_deeper level inner below = omega arith

back : (level : ℕ) → level + 1 - 1 ≡ level
back level = omega arith

-- the levels of children, and of a branch, stand on those before them
mutual
  deepest_before : (tree : Tree) (level : ℕ) (rest : List Token) → deepest level (tokens_of tree ++ rest) ≡ max (level + connectors.deepest tree) (deepest level rest)
  deepest_before no_child level rest = none_deeper level (deepest level rest) (level_least level rest)
  deepest_before (child trigger branch tree) level rest =
      ap (deepest level) (child_before trigger branch tree rest)
      ∙ branch_deepest branch trigger level (tokens_of tree ++ rest)
      ∙ ap (λ below. max (level + branch_depth branch) below) (deepest_before tree level rest)
      ∙ next_deeper level (branch_depth branch) (connectors.deepest tree) (deepest level rest)

  branch_deepest : (branch : Branch) (trigger : Bool) (level : ℕ) (rest : List Token) → deepest level (branch_tokens branch trigger ++ rest) ≡ max (level + branch_depth branch) (deepest level rest)
  branch_deepest (leaf atom port) trigger level rest = none_deeper level (deepest level rest) (level_least level rest)
  branch_deepest (bracket tree) trigger level rest =
      ap (deepest level) (bracket_before tree trigger rest)
      ∙ deepest_before tree (level + 1) (Close trigger ∷ rest)
      ∙ ap (λ l. max (level + 1 + connectors.deepest tree) (max (level + 1) (deepest l rest))) (back level)
      ∙ bracket_deeper level (connectors.deepest tree) (deepest level rest)

at_root : (inner : ℕ) → max (1 + inner) 1 ≡ 1 + inner
at_root inner = omega arith

pub deepest-tree : (tree : Tree) → deepest 1 (tokens_of tree) ≡ depth tree
deepest-tree tree =
    ap (deepest 1) (sym (append-nil (tokens_of tree)))
    ∙ deepest_before tree 1 []
    ∙ at_root (connectors.deepest tree)
