-- What tokens mean: the port sets and the interactions of the connector that they write.
use Rattle.std.specs.Prelude.{ℕ, List, [], ◌∷◌, ◌++◌}
use Rattle.connector_tree.specs.PortSets.{Part, Sets, fused}
use Rattle.connector_tree.specs.Masks.{masks_of}
use Rattle.connector_tree.specs.declared.token.Token.{Token}
use Rattle.connector_tree.specs.declared.token.Token.TheVariants.{Leaf, Open, Close}
use Rattle.connector_tree.specs.Tokens.{ports_in}

-- the parts of the root that tokens write: those so far of the brackets around, the innermost first, and of this bracket
abbrev pub parts_in : List (List Part) → List Part → List Token → List Part
parts_in outer parts [] = parts
parts_in outer parts (Leaf port trigger ∷ tokens) = parts_in outer (parts ++ record { trigger = trigger; sets = (port ∷ []) ∷ [] } ∷ []) tokens
parts_in outer parts (Open ∷ tokens) = parts_in (parts ∷ outer) [] tokens
parts_in [] parts (Close trigger ∷ tokens) = parts_in [] parts tokens
parts_in (around ∷ outer) parts (Close trigger ∷ tokens) = parts_in outer (around ++ record { trigger = trigger; sets = fused parts } ∷ []) tokens

-- the port sets: the root is a fusion of its parts
abbrev pub port_sets_in : List Token → Sets
port_sets_in tokens = fused (parts_in [] [] tokens)

-- the interactions, rising, as masks over the ports from left to right
abbrev pub interactions_in : List Token → List ℕ
interactions_in tokens = masks_of (ports_in tokens) (port_sets_in tokens)
