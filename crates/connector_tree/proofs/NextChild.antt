-- The children in memory as a walk sees them: those before the next one, and those from it on.
use Rattle.std.proofs.Common.{◌≡◌, ◌∙◌, sym, ap, ℕ, ◌+◌, ◌<◌, ◌≤◌, ◌||◌, List, [], ◌∷◌, ◌++◌, length, get_or, take, drop, refl}
use Rattle.std.specs.List.{list_any}
use Rattle.std.proofs.lemmas.List.{take_more, take_all, at_drop_more}
use Rattle.connector_tree.specs.declared.tree.Child.{Child}
use Rattle.connector_tree.specs.Tree.{branch_of, tree_in}
use Rattle.connector_tree.specs.Walk.{SeenChild, seen, seen_children}

-- a child in memory as a walk sees it
abbrev pub seen_child : Child → SeenChild
seen_child c = record { trigger = c.trigger; seen = seen (branch_of c.node) }

-- the next child, and those after it
pub next_child : (children : List Child) (i : ℕ) (c : Child) → i < length children → c ≡ get_or children i c →
    seen_children (tree_in (drop i children)) ≡ seen_child c ∷ seen_children (tree_in (drop (i + 1) children))
next_child children i c within is =
    at_drop_more (λ cs. seen_children (tree_in cs)) children i c within
    ∙ ap (λ d. seen_child d ∷ seen_children (tree_in (drop (i + 1) children))) (sym is)

-- children side by side, as a walk sees them
children_before : (xs ys : List Child) → seen_children (tree_in (xs ++ ys)) ≡ seen_children (tree_in xs) ++ seen_children (tree_in ys)
children_before [] ys = refl
children_before (c ∷ xs) ys = ap (λ cs. seen_child c ∷ cs) (children_before xs ys)

-- those before the next child, and the next child
pub child_taken : (children : List Child) (i : ℕ) (c : Child) → i < length children → c ≡ get_or children i c →
    seen_children (tree_in (take (i + 1) children)) ≡ seen_children (tree_in (take i children)) ++ (seen_child c ∷ [])
child_taken children i c within is =
    ap (λ cs. seen_children (tree_in cs)) (take_more children i c within)
    ∙ children_before (take i children) (get_or children i c ∷ [])
    ∙ ap (λ d. seen_children (tree_in (take i children)) ++ (seen_child d ∷ [])) (sym is)

-- after the last child all are taken
pub all_taken : (children : List Child) (i : ℕ) → length children ≤ i → seen_children (tree_in (take i children)) ≡ seen_children (tree_in children)
all_taken children i past = ap (λ cs. seen_children (tree_in cs)) (take_all i children past)

-- the marks of children in memory are those that a walk sees
pub same_marks : (children : List Child) → list_any (λ c. c.trigger) children ≡ list_any (λ c. c.trigger) (seen_children (tree_in children))
same_marks [] = refl
same_marks (c ∷ children) = ap (λ b. c.trigger || b) (same_marks children)
