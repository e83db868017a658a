-- What is made so far of a connector.
use Rattle.std.specs.Prelude.{ℕ, List, [], ◌∷◌, ◌++◌, length}
use Rattle.std.specs.List.{flat_map}
use Rattle.std.specs.declared.vec.Vec.{Vec}
use Rattle.std.specs.declared.alloc.Global.{Global}
use Rattle.connector_tree.specs.declared.tree.Child.{Child}
use Rattle.connector_tree.specs.declared.token.Token.{Token}
use Rattle.connector_tree.specs.declared.token.Token.TheVariants.{Open}
use Rattle.connector_tree.specs.declared.tree_draft.Draft.{Draft}
use Rattle.connector_tree.specs.Tokens.{children_tokens}

-- the children so far of a bracket or the root, and the begin of a bracket after them
abbrev pub tokens_before : Vec Child Global → List Token
tokens_before children = children_tokens children.items ++ Open ∷ []

-- the tokens that are made
abbrev pub tokens_made : Draft → List Token
tokens_made draft = flat_map tokens_before draft.outer.items ++ children_tokens draft.children.items

-- how many brackets are open
abbrev pub level_of : Draft → ℕ
level_of draft = length draft.outer.items
