-- The tree that the words of a line are.
use Rattle.std.specs.Prelude.{◌≡◌, ℕ, List, [], ◌∷◌, Option, Some, None, Result, Ok, Err, IfOk}
use Rattle.std.specs.declared.alloc.AllocError.{AllocError}
use Rattle.std.specs.declared.alloc.Global.{Global}
use Rattle.std.specs.declared.vec.Vec.{Vec}
use Rattle.connector_tree.specs.declared.faults.TreeFault.{TreeFault}
use Rattle.connector_tree.specs.declared.token.Token.{Token}
use Rattle.connector_tree.specs.TokenFaults.{fault_in}
use Rattle.connector_lines.specs.declared.tree_words_fault.TreeWordsFault.TheVariants.{Shape, Tree}
use Rattle.connector_lines.specs.Tokens.{Names, Reading, tokens_in}

-- the tokens, or the fault of their tree
abbrev pub unless : List Token → Option TreeFault → Reading
unless tokens None = Ok tokens
unless tokens (Some fault) = Err (Tree fault)

-- what was read, where its tree has no fault
abbrev pub judged : Reading → Reading
judged (Ok tokens) = unless tokens (fault_in tokens)
judged (Err fault) = Err fault

-- The tree that the words are, as its tokens, or why they are none. There is one word at least. The faults of the tree are found
-- only if no word has a fault.
abbrev pub tree_in : Names → List (List ℕ) → Reading
tree_in named [] = Err Shape
tree_in named (word ∷ words) = judged (tokens_in named 0 (word ∷ words))

-- the words are the tree with these tokens; if there was memory for them, they were made
pub record AreRead (named : Names) (words : List (List ℕ)) (made : Result (Vec Token Global) AllocError) : Type 0 where
  pub tokens : List Token
  pub says : tree_in named words ≡ Ok tokens
  pub are_made : IfOk made (λ vector. vector.items ≡ tokens)
