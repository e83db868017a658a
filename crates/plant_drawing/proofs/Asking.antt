-- Asking whether a leaf of some children passes a test.
use Rattle.std.proofs.Common.{◌≡◌, ℕ, ◌+◌, ◌<◌, ◌∙◌, ap, sym, List, ◌++◌, length, drop, get_or, Bool, ◌||◌}
use Rattle.std.specs.List.{list_any}
use Rattle.std.proofs.lemmas.List.{drop_more}
use Rattle.std.proofs.lemmas.List.Folds.{list_any-append}
use Rattle.connector_tree.specs.Tree.{tree_in, branch_of, leaves, branch_leaves}
use Rattle.connector_tree.specs.declared.tree.Child.{Child}
use Rattle.connector_tree.specs.declared.tree.Port.{Port}

-- a leaf of the children from one on is one of its own, or one of those after it
pub any-child : (test : Port → Bool) (children : List Child) (i : ℕ) (child : Child) → i < length children → child ≡ get_or children i child
    → list_any test (leaves (tree_in (drop i children))) ≡ (list_any test (branch_leaves (branch_of child.node)) || list_any test (leaves (tree_in (drop (i + 1) children))))
any-child test children i child within here =
    ap (λ cs. list_any test (leaves (tree_in cs))) (drop_more children i child within)
    ∙ ap (λ c. list_any test (branch_leaves (branch_of c.node) ++ leaves (tree_in (drop (i + 1) children)))) (sym here)
    ∙ list_any-append test (branch_leaves (branch_of child.node)) (leaves (tree_in (drop (i + 1) children)))
