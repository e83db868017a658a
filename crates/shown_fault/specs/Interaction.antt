-- The interaction of a text with a number.
use Rattle.std.specs.Prelude.{ℕ, ◌-◌, if◌then◌else◌, List, [], ◌∷◌, length, drop, slice_get, nat_lt, Option, Some, None, Ok, Err, codes}
use Rattle.std.specs.List.{position_from}
use Rattle.std.specs.Option.{option_and_then, option_map_or}
use Rattle.petri_atom.specs.Name.{is_same_text}
use Rattle.connector_tree.specs.declared.tree.Port.{Port}
use Rattle.connector_tree.specs.TokenMeaning.{interactions_in}
use Rattle.connector_lines.specs.Tokens.{Reading}
use Rattle.connector_lines.specs.Trees.{tree_in}
use Rattle.plant_words.specs.Words.{words_of}
use Rattle.shown_fault.specs.Names.{second_word}
use Rattle.shown_fault.specs.declared.interaction.Interaction.{Interaction}
use Rattle.shown_fault.specs.declared.interaction.TheConstants.{ATOM_NUMBERS}

-- the port of the atom with this number
abbrev pub port_of : ℕ → Option Port
port_of number = if nat_lt number ATOM_NUMBERS then Some (record { atom = number; port = 0 }) else None

-- the number of the first of the names that is this one
abbrev pub number_of : List (List ℕ) → List ℕ → Option ℕ
number_of names atom = position_from (λ name. is_same_text name atom) 0 names

-- a port of the atom with the name
abbrev pub atom_port : List (List ℕ) → List ℕ → Option Port
atom_port atoms atom = option_and_then port_of (number_of atoms atom)

-- the interactions of a tree, if it is one
abbrev pub masks_read : Reading → List ℕ
masks_read (Ok tokens) = interactions_in tokens
masks_read (Err fault) = []

-- the interactions of the connector of a line, over atoms with these names
abbrev pub masks_in : List (List ℕ) → List ℕ → List ℕ
masks_in atoms line = masks_read (tree_in (λ atom port. atom_port atoms atom) (drop 2 (words_of line)))

-- an interaction, by the name of its connector and its mask
abbrev pub interaction_shown : Interaction → List ℕ × ℕ
interaction_shown interaction = (interaction.connector.now, interaction.mask)

-- the interaction of a connector with this number, or else what is found after it
abbrev pub mask_or : List ℕ → Option ℕ → Option (List ℕ × ℕ) → Option (List ℕ × ℕ)
mask_or connector (Some mask) after = Some (connector, mask)
mask_or connector None after = after

-- The interaction with this number, of the connectors of these lines over atoms with these names: they are numbered from 0 by
-- connector and then by mask.
abbrev pub interaction_in : List (List ℕ) → ℕ → List (List ℕ) → Option (List ℕ × ℕ)
interaction_in atoms number [] = None
interaction_in atoms number (line ∷ lines) =
    option_map_or (λ connector. mask_or connector (slice_get (masks_in atoms line) number) (interaction_in atoms (number - length (masks_in atoms line)) lines))
    (second_word (codes "connector") line) (interaction_in atoms number lines)
