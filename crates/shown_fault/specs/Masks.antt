-- The masks of a connector.
use Rattle.std.specs.Prelude.{ℕ, zero, suc, ◌-◌, nat_le, if◌then◌else◌, List, [], ◌∷◌, ◌++◌, length, codes}
use Rattle.std.specs.Fmt.{decimal}
use Rattle.shown_fault.specs.Interaction.{masks_in}
use Rattle.shown_fault.specs.Names.{names_in, says}
use Rattle.shown_fault.specs.Shown.{joined, advice_line}
use Rattle.shown_fault.specs.declared.masks.TheConstants.{MAX_MASKS}

-- the last of the lines that begins with these two words, or else this
abbrev pub said_line : List ℕ → List ℕ → List ℕ → List (List ℕ) → List ℕ
said_line latest first second [] = latest
said_line latest first second (line ∷ lines) = said_line (if says first second line then line else latest) first second lines

-- masks after others, of which so many are listed
abbrev pub more_masks : ℕ → List ℕ → List ℕ
more_masks room [] = []
more_masks zero (mask ∷ masks) = codes ", .."
more_masks (suc room) (mask ∷ masks) = codes ", " ++ decimal mask ++ more_masks room masks

-- masks in a row, the first ones if there are many
abbrev pub masks_listed : List ℕ → List ℕ
masks_listed [] = codes " none"
masks_listed (mask ∷ masks) = joined (codes " " ∷ decimal mask ∷ more_masks (MAX_MASKS - 1) masks ∷ [])

-- how many masks there are, if not all are listed
abbrev pub total_text : List ℕ → List ℕ
total_text masks = if nat_le (length masks) MAX_MASKS then [] else joined (codes " (" ∷ decimal (length masks) ∷ codes " in all)" ∷ [])

-- the masks of the connector with the name, and what they are
unfoldable pub masks_lines : List ℕ → List ℕ → List ℕ
masks_lines name masks =
    joined (advice_line (codes "the masks of connector " ∷ name ∷ codes ":" ∷ masks_listed masks ∷ total_text masks ∷ []) ∷
    advice_line (codes "a mask is the sum of the ports that take part: 1 for the first of the connector, 2 for the second, 4 for the third, .." ∷ []) ∷ [])

-- the masks of the connector of these lines with the name
unfoldable pub masks_advice : List (List ℕ) → List ℕ → List ℕ
masks_advice lines name = masks_lines name (masks_in (names_in (codes "atom") lines) (said_line [] (codes "connector") name lines))
