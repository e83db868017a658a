-- The interactions of the connectors of a text.
use Rattle.std.specs.Prelude.{ℕ, suc, ◌==◌, Bool, false, List, [], ◌∷◌, ◌++◌, map, slice_get}
use Rattle.std.specs.List.{list_any}
use Rattle.std.specs.Option.{option_map_or}
use Rattle.connector_tree.specs.declared.token.Token.{Token}
use Rattle.connector_tree.specs.TokenMeaning.{interactions_in}
use Rattle.plant_text.specs.Text.{WireText}

-- the interactions of a tree, each with the number of its connector
abbrev pub interactions_at : ℕ → List Token → List (ℕ × ℕ)
interactions_at k tree = map (λ mask. (k, mask)) (interactions_in tree)

-- the interactions of trees that are numbered from k on
abbrev pub interactions_from : ℕ → List (List Token) → List (ℕ × ℕ)
interactions_from k [] = []
interactions_from k (tree ∷ trees) = interactions_at k tree ++ interactions_from (suc k) trees

-- the trees of connectors
abbrev pub trees_of : List WireText → List (List Token)
trees_of wires = map (λ w. w.tree) wires

-- the interactions of connectors, each by its connector's number and its mask, ordered by connector and then by mask
abbrev pub interactions_of : List WireText → List (ℕ × ℕ)
interactions_of wires = interactions_from 0 (trees_of wires)

-- the mask is an interaction of the connector with the number
abbrev pub has_interaction : List WireText → ℕ → ℕ → Bool
has_interaction wires connector mask = option_map_or (λ w. list_any (λ m. m == mask) (interactions_in w.tree)) (slice_get wires connector) false
