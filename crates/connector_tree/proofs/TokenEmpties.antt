-- A bracket among the tokens of a connector is empty if one of the connector is.
use Rattle.std.proofs.Common.{◌≡◌, Bool, true, false, ◌||◌, List, [], ◌∷◌, ◌++◌, refl, ap, sym, ◌∙◌, append-nil}
use Rattle.connector_tree.specs.Tree as connectors
use Rattle.connector_tree.specs.Tree.{Tree, no_child, child, Branch, leaf, bracket, is_empty_inside, has_empty}
use Rattle.connector_tree.specs.declared.token.Token.{Token}
use Rattle.connector_tree.specs.declared.token.Token.TheVariants.{Close}
use Rattle.connector_tree.specs.Tokens.{tokens_of, branch_tokens}
use Rattle.connector_tree.specs.TokenFaults.{is_empty, begins_with_close, has_empty_bracket}
use Rattle.connector_tree.proofs.Written.{bracket_before, child_before}

-- no branch begins with the end of a bracket, and each has a token
begins : (branch : Branch) (trigger : Bool) (rest : List Token) → (begins_with_close (branch_tokens branch trigger ++ rest) ≡ false) × (is_empty (branch_tokens branch trigger ++ rest) ≡ false)
begins (leaf atom port) trigger rest = (refl, refl)
begins (bracket tree) trigger rest = (refl, refl)

-- a bracket ends directly after its begin if it has no children
close_after : (tree : Tree) (trigger : Bool) (rest : List Token) → begins_with_close (tokens_of tree ++ Close trigger ∷ rest) ≡ connectors.is_empty tree
close_after no_child trigger rest = refl
close_after (child t branch tree) trigger rest =
    ap begins_with_close (child_before t branch tree (Close trigger ∷ rest))
    ∙ (begins branch t (tokens_of tree ++ Close trigger ∷ rest)).0

-- a tree has no tokens if it has no children
is_empty-tokens : (tree : Tree) → is_empty (tokens_of tree) ≡ connectors.is_empty tree
is_empty-tokens no_child = refl
is_empty-tokens (child trigger branch tree) = (begins branch trigger (tokens_of tree)).1

regroup : (a b c : Bool) → (a || (b || c)) ≡ ((a || b) || c)
regroup true b c = refl
regroup false b c = refl

-- the empty brackets of children, and of a branch, and those of what follows
mutual
  empties_before : (tree : Tree) (rest : List Token) → has_empty_bracket (tokens_of tree ++ rest) ≡ (connectors.has_empty_bracket tree || has_empty_bracket rest)
  empties_before no_child rest = refl
  empties_before (child trigger branch tree) rest =
      ap has_empty_bracket (child_before trigger branch tree rest)
      ∙ branch_empties branch trigger (tokens_of tree ++ rest)
      ∙ ap (λ b. is_empty_inside branch || b) (empties_before tree rest)
      ∙ regroup (is_empty_inside branch) (connectors.has_empty_bracket tree) (has_empty_bracket rest)

  branch_empties : (branch : Branch) (trigger : Bool) (rest : List Token) → has_empty_bracket (branch_tokens branch trigger ++ rest) ≡ (is_empty_inside branch || has_empty_bracket rest)
  branch_empties (leaf atom port) trigger rest = refl
  branch_empties (bracket tree) trigger rest =
      ap has_empty_bracket (bracket_before tree trigger rest)
      ∙ ap (λ b. b || has_empty_bracket (tokens_of tree ++ Close trigger ∷ rest)) (close_after tree trigger rest)
      ∙ ap (λ b. connectors.is_empty tree || b) (empties_before tree (Close trigger ∷ rest))
      ∙ regroup (connectors.is_empty tree) (connectors.has_empty_bracket tree) (has_empty_bracket rest)

or_false : (b : Bool) → (b || false) ≡ b
or_false true = refl
or_false false = refl

pub empty-tree : (tree : Tree) → (is_empty (tokens_of tree) || has_empty_bracket (tokens_of tree)) ≡ has_empty tree
empty-tree tree =
    ap (λ b. b || has_empty_bracket (tokens_of tree)) (is_empty-tokens tree)
    ∙ ap (λ tokens. connectors.is_empty tree || has_empty_bracket tokens) (sym (append-nil (tokens_of tree)))
    ∙ ap (λ b. connectors.is_empty tree || b) (empties_before tree [] ∙ or_false (connectors.has_empty_bracket tree))
