-- A name that a line below declares.
use Rattle.std.specs.Prelude.{ℕ, Bool, true, false, ◌&&◌, if◌then◌else◌, List, [], ◌∷◌, Option, Some, None, is_some, codes}
use Rattle.std.specs.Option.{option_map_or}
use Rattle.plant_words.specs.Splits.{PortParts, port_parts}
use Rattle.shown_fault.specs.Spelling.{either_text}
use Rattle.shown_fault.specs.Circle.{connector_of}
use Rattle.shown_fault.specs.Names.{says, second_word}
use Rattle.shown_fault.specs.Shown.{shown, cut_to, advice_line}
use Rattle.shown_fault.specs.declared.wanted.Wanted.{Wanted}
use Rattle.shown_fault.specs.declared.wanted.Wanted.TheVariants.{Export, Port, Place, Source, Target, Guard, Variable, Value, Tree, Leaf, Side, ConditionAtom, Whole}
use Rattle.shown_fault.specs.declared.window.TheConstants.{MAX_SHOWN}

-- the first of the lines that begins with these two words; that of a part of an atom is one of the atom in which they begin
abbrev pub declaring : Bool → List ℕ → List ℕ → List (List ℕ) → Option (List ℕ)
declaring is_part first second [] = None
declaring is_part first second (line ∷ lines) =
    if is_part && is_some (second_word (codes "atom") line) then None
    else if says first second line then Some line else declaring is_part first second lines

-- which of the lines below declares the name; nothing if none does
abbrev pub below_line : List (List ℕ) → Bool → List ℕ → List ℕ → List ℕ
below_line lines is_part first name =
    option_map_or (λ line. advice_line (codes "the line '" ∷ cut_to MAX_SHOWN (shown line) ∷ codes "' below has to come above this one" ∷ []))
    (declaring is_part first name lines) []

-- which of the lines below declares the atom of these parts of a word, or else the port
abbrev pub parts_below : List (List ℕ) → PortParts → List ℕ
parts_below lines parts = either_text (below_line lines false (codes "atom") parts.atom) (below_line lines true (codes "port") parts.port)

-- the same of a word of a tree; nothing if none does
unfoldable pub leaf_below : List (List ℕ) → List ℕ → List ℕ
leaf_below lines word = option_map_or (parts_below lines) (port_parts word) []

-- which of the lines below declares what a word names where this has to stand; nothing if none does
unfoldable pub below_advice : List (List ℕ) → Wanted → List ℕ → List ℕ
below_advice lines Place word = below_line lines true (codes "place") word
below_advice lines Source word = below_line lines true (codes "place") word
below_advice lines Target word = below_line lines true (codes "place") word
below_advice lines Export word = below_line lines true (codes "var") word
below_advice lines Guard word = below_line lines true (codes "var") word
below_advice lines Variable word = below_line lines true (codes "var") word
below_advice lines Value word = below_line lines true (codes "var") word
below_advice lines Port word = below_line lines true (codes "port") word
below_advice lines Tree word = leaf_below lines word
below_advice lines Leaf word = leaf_below lines word
below_advice lines Side word = below_line lines false (codes "connector") (connector_of word)
below_advice lines Whole word = below_line lines false (codes "connector") (connector_of word)
below_advice lines ConditionAtom word = below_line lines false (codes "atom") word
below_advice lines wanted word = []
