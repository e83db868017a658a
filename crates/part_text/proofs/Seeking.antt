-- Seeking a leaf by its number.
use Rattle.std.proofs.Common.{◌≡◌, ℕ, zero, suc, ◌+◌, ◌<◌, ◌∙◌, refl, ap, sym, List, [], ◌∷◌, ◌++◌, length, drop, get_or}
use Rattle.std.specs.Prelude.{slice_get}
use Rattle.std.proofs.lemmas.List.{drop_more}
use Rattle.connector_tree.specs.Tree.{tree_in, branch_of, leaves, branch_leaves}
use Rattle.connector_tree.specs.declared.tree.Child.{Child}
use Rattle.connector_tree.specs.declared.tree.Port.{Port}
use Rattle.part_text.specs.Sought.{sought, found}
use Rattle.part_text.specs.declared.leaf.Sought.{Sought}
use Rattle.part_text.specs.declared.leaf.Sought.TheVariants.{Found, After}

-- what is sought further is sought among these
abbrev pub further : Sought → List Port → Sought
further (Found port) ports = Found port
further (After number) ports = sought number ports

-- among two lists a leaf is sought in the first and then in the second
pub sought-further : (number : ℕ) (xs ys : List Port) → sought number (xs ++ ys) ≡ further (sought number xs) ys
sought-further number [] ys = refl
sought-further zero (x ∷ xs) ys = refl
sought-further (suc number) (x ∷ xs) ys = sought-further number xs ys

-- a child's leaves are sought before those of its siblings
pub sought-child : (children : List Child) (i : ℕ) (child : Child) (number : ℕ) → i < length children → child ≡ get_or children i child
    → sought number (leaves (tree_in (drop i children))) ≡ further (sought number (branch_leaves (branch_of child.node))) (leaves (tree_in (drop (i + 1) children)))
sought-child children i child number within here =
    ap (λ cs. sought number (leaves (tree_in cs))) (drop_more children i child within)
    ∙ ap (λ c. sought number (branch_leaves (branch_of c.node) ++ leaves (tree_in (drop (i + 1) children)))) (sym here)
    ∙ sought-further number (branch_leaves (branch_of child.node)) (leaves (tree_in (drop (i + 1) children)))

-- the leaf that is found is the entry with the number
pub found-entry : (number : ℕ) (ports : List Port) → found (sought number ports) ≡ slice_get ports number
found-entry number [] = refl
found-entry zero (port ∷ ports) = refl
found-entry (suc number) (port ∷ ports) = found-entry number ports
