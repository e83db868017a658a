-- The tokens of a branch and of children, in front of other tokens and in memory.
use Rattle.std.proofs.Common.{◌≡◌, ℕ, Bool, List, [], ◌∷◌, ◌++◌, ap, sym, ◌∙◌, append_assoc, append-nil}
use Rattle.std.specs.declared.vec.Vec.{Vec}
use Rattle.std.specs.declared.alloc.Global.{Global}
use Rattle.connector_tree.specs.declared.tree.Child.{Child}
use Rattle.connector_tree.specs.declared.tree.Node.TheVariants as node
use Rattle.connector_tree.specs.Tree.{Tree, Branch, bracket, branch_of}
use Rattle.connector_tree.proofs.Trees.{branch-leaf, branch-fusion}
use Rattle.connector_tree.specs.declared.token.Token.{Token}
use Rattle.connector_tree.specs.declared.token.Token.TheVariants.{Leaf, Open, Close}
use Rattle.connector_tree.specs.Tokens.{tokens_of, branch_tokens, children_tokens}

-- a bracket in front of other tokens
pub bracket_before : (tree : Tree) (trigger : Bool) (rest : List Token) → branch_tokens (bracket tree) trigger ++ rest ≡ Open ∷ (tokens_of tree ++ Close trigger ∷ rest)
bracket_before tree trigger rest = ap (λ tokens. Open ∷ tokens) (append_assoc (tokens_of tree) (Close trigger ∷ []) rest)

-- a child and its siblings in front of other tokens
pub child_before : (trigger : Bool) (branch : Branch) (tree : Tree) (rest : List Token) → (branch_tokens branch trigger ++ tokens_of tree) ++ rest ≡ branch_tokens branch trigger ++ (tokens_of tree ++ rest)
child_before trigger branch tree rest = append_assoc (branch_tokens branch trigger) (tokens_of tree) rest

-- a port in memory is one token
pub tokens-leaf : (atom port : ℕ) (trigger : Bool) → branch_tokens (branch_of (node.Leaf atom port)) trigger ≡ Leaf (record { atom = atom; port = port }) trigger ∷ []
tokens-leaf atom port trigger = ap (λ branch. branch_tokens branch trigger) (branch-leaf atom port)

-- a bracket in memory is its begin, its children and its end
pub tokens-fusion : (children : Vec Child Global) (trigger : Bool) → branch_tokens (branch_of (node.Fusion children)) trigger ≡ Open ∷ (children_tokens children.items ++ Close trigger ∷ [])
tokens-fusion children trigger = ap (λ branch. branch_tokens branch trigger) (branch-fusion children)

-- one child more
pub children-push : (children : List Child) (last : Child) → children_tokens (children ++ last ∷ []) ≡ children_tokens children ++ branch_tokens (branch_of last.node) last.trigger
children-push [] last = append-nil (branch_tokens (branch_of last.node) last.trigger)
children-push (child ∷ children) last =
    ap (λ tokens. branch_tokens (branch_of child.node) child.trigger ++ tokens) (children-push children last)
    ∙ sym (append_assoc (branch_tokens (branch_of child.node) child.trigger) (children_tokens children) (branch_tokens (branch_of last.node) last.trigger))
