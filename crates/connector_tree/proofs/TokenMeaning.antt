-- What the tokens of a connector mean is what the connector does.
use Rattle.std.proofs.Common.{◌≡◌, Bool, List, [], ◌∷◌, ◌++◌, refl, ap, sym, ◌∙◌, append_assoc, append-nil}
use Rattle.connector_tree.specs.Tree.{Tree, no_child, child, Branch, leaf, bracket, leaves}
use Rattle.connector_tree.specs.PortSets.{Part, fused, parts, branch_sets, port_sets}
use Rattle.connector_tree.specs.Masks.{masks_of, interactions_of}
use Rattle.connector_tree.specs.declared.token.Token.{Token}
use Rattle.connector_tree.specs.declared.token.Token.TheVariants.{Close}
use Rattle.connector_tree.specs.Tokens.{tokens_of, branch_tokens}
use Rattle.connector_tree.specs.TokenMeaning.{parts_in, port_sets_in, interactions_in}
use Rattle.connector_tree.proofs.Written.{bracket_before, child_before}
use Rattle.connector_tree.proofs.TokenLeaves.{ports-tree}

abbrev part : Bool → Branch → Part
part trigger branch = record { trigger = trigger; sets = branch_sets branch }

-- the tokens of each child write one part
mutual
  parts_before : (tree : Tree) (outer : List (List Part)) (before : List Part) (rest : List Token) → parts_in outer before (tokens_of tree ++ rest) ≡ parts_in outer (before ++ parts tree) rest
  parts_before no_child outer before rest = ap (λ ps. parts_in outer ps rest) (sym (append-nil before))
  parts_before (child trigger branch tree) outer before rest =
      ap (parts_in outer before) (child_before trigger branch tree rest)
      ∙ branch_parts branch trigger outer before (tokens_of tree ++ rest)
      ∙ parts_before tree outer (before ++ part trigger branch ∷ []) rest
      ∙ ap (λ ps. parts_in outer ps rest) (append_assoc before (part trigger branch ∷ []) (parts tree))

  branch_parts : (branch : Branch) (trigger : Bool) (outer : List (List Part)) (before : List Part) (rest : List Token) → parts_in outer before (branch_tokens branch trigger ++ rest) ≡ parts_in outer (before ++ part trigger branch ∷ []) rest
  branch_parts (leaf atom port) trigger outer before rest = refl
  branch_parts (bracket tree) trigger outer before rest =
      ap (parts_in outer before) (bracket_before tree trigger rest)
      ∙ parts_before tree (before ∷ outer) [] (Close trigger ∷ rest)

-- the tokens of a connector say its port sets
pub port_sets_written : (tree : Tree) → port_sets_in (tokens_of tree) ≡ port_sets tree
port_sets_written tree =
    ap port_sets_in (sym (append-nil (tokens_of tree)))
    ∙ ap fused (parts_before tree [] [] [])

-- and its interactions
pub interactions_written : (tree : Tree) → interactions_in (tokens_of tree) ≡ interactions_of tree
interactions_written tree =
    ap (λ ports. masks_of ports (port_sets_in (tokens_of tree))) (ports-tree tree)
    ∙ ap (masks_of (leaves tree)) (port_sets_written tree)
