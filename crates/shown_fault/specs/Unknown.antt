-- A name that no earlier line declares, and those that are declared there.
use Rattle.std.specs.Prelude.{ℕ, if◌then◌else◌, List, [], ◌∷◌, codes}
use Rattle.std.specs.Option.{option_map_or}
use Rattle.plant_words.specs.Words.{begins_with, is_filled}
use Rattle.plant_words.specs.Splits.{PortParts, port_parts, export_parts, named_mask_in}
use Rattle.shown_fault.specs.Below.{below_advice}
use Rattle.shown_fault.specs.Condition.{condition_atom_advice, condition_place_advice}
use Rattle.shown_fault.specs.Exports.{export_line}
use Rattle.shown_fault.specs.Masks.{masks_advice}
use Rattle.shown_fault.specs.MisplacedWord.{text_at}
use Rattle.shown_fault.specs.Missing.{missing}
use Rattle.shown_fault.specs.Names.{names_in, latest_in, part_names_in, is_among}
use Rattle.shown_fault.specs.Order.{order_text}
use Rattle.shown_fault.specs.Parts.{atom_advice, atom_or, latest_part_advice, part_advice}
use Rattle.shown_fault.specs.Places.{atom_reading_advice, reading_advice}
use Rattle.shown_fault.specs.Quotes.{quote_advice}
use Rattle.shown_fault.specs.Shown.{joined, quoted, advice_line}
use Rattle.shown_fault.specs.Spelling.{either_text}
use Rattle.shown_fault.specs.Wanted.{wanted_in}
use Rattle.shown_fault.specs.declared.wanted.Wanted.{Wanted}
use Rattle.shown_fault.specs.declared.wanted.Wanted.TheVariants.{Export, Port, Place, Source, Target, Guard, Variable, Value, Tree, Leaf, Transfer, Clause, Side, ConditionAtom, ConditionPlace, Whole}

-- what is wrong with a word that stands after these, where this has to stand; empty if that is not known
unfoldable pub unknown_text : List (List ℕ) → Wanted → List ℕ → List ℕ
unknown_text words wanted word = either_text (order_text words word) (text_at wanted word)

-- the ports of the atom that a word of a tree names, or the atoms
abbrev pub port_of : List (List ℕ) → PortParts → List ℕ
port_of lines parts = atom_or (atom_advice lines parts.atom) (part_advice lines parts.atom (codes "port") (codes "port") parts.port)

-- the same of the word
unfoldable pub port_advice : List (List ℕ) → List ℕ → List ℕ
port_advice lines word = option_map_or (port_of lines) (port_parts word) []

-- where a quote (39) stands, if a word of a tree begins with one; or else the ports, or the atoms
unfoldable pub leaf_advice : List (List ℕ) → List (List ℕ) → List ℕ → List ℕ
leaf_advice lines words word = if begins_with 39 word then quote_advice words word else port_advice lines word

-- that no port of the latest connector exports the variable, and how to have one do so
unfoldable pub unexported_advice : List (List ℕ) → List ℕ → List ℕ → List ℕ → List ℕ
unexported_advice lines atom variable word =
    joined (advice_line (codes "no port of connector " ∷ latest_in (codes "connector") lines ∷ codes " exports " ∷ quoted word ∷ []) ∷
    export_line lines atom variable ∷ [])

-- the variables of the atom, or that no port of the latest connector exports the one with the name
unfoldable pub variable_advice : List (List ℕ) → List ℕ → List ℕ → List ℕ → List ℕ
variable_advice lines atom variable word =
    if is_among (part_names_in atom (codes "var") lines) variable then unexported_advice lines atom variable word
    else atom_reading_advice lines atom variable

-- the atoms, or the variables of the atom that the parts of a word of a connector's line name
abbrev pub export_of : List (List ℕ) → List ℕ → List ℕ × List ℕ → List ℕ
export_of lines word parts = atom_or (atom_advice lines parts.0) (variable_advice lines parts.0 parts.1 word)

-- the same of the word
unfoldable pub export_advice : List (List ℕ) → List ℕ → List ℕ
export_advice lines word =
    option_map_or (export_of lines word) (export_parts word) (advice_line (codes "a variable is written as ATOM.VAR here" ∷ []))

-- the connectors
unfoldable pub connector_advice : List (List ℕ) → List ℕ → List ℕ
connector_advice lines word = missing (codes "there is no connector") (codes "there are") word (names_in (codes "connector") lines)

-- that the mask is no interaction of the connector, and which are
unfoldable pub mask_lines : List (List ℕ) → List ℕ → List ℕ → List ℕ
mask_lines lines name mask =
    joined (advice_line (codes "mask " ∷ quoted mask ∷ codes " is no interaction of connector " ∷ name ∷ []) ∷ masks_advice lines name ∷ [])

-- that `maximal` takes the name of a connector, where this one stands with a mask
abbrev pub name_line : List ℕ → List ℕ
name_line name = advice_line (codes "'maximal' takes the name of a connector: write 'maximal " ∷ name ∷ codes "'" ∷ [])

-- the connectors, if the name is none of them, or else this
unfoldable pub connector_or : List (List ℕ) → List ℕ → List ℕ → List ℕ
connector_or lines name other = if is_among (names_in (codes "connector") lines) name then other else connector_advice lines name

-- the connectors, or that the mask of a side of a rule is no interaction of the connector
unfoldable pub side_advice : List (List ℕ) → List ℕ → List ℕ
side_advice lines word =
    option_map_or (λ parts. connector_or lines parts.0 (mask_lines lines parts.0 parts.1)) (named_mask_in word) (connector_advice lines word)

-- the masks of the connector whose side has a word that is no mask; nothing if the word has no connector
unfoldable pub bad_mask_advice : List (List ℕ) → List ℕ → List ℕ
bad_mask_advice lines word = option_map_or (λ parts. connector_or lines parts.0 (masks_advice lines parts.0)) (named_mask_in word) []

-- the connectors, or that `maximal` takes one of them without a mask
unfoldable pub maximal_advice : List (List ℕ) → List ℕ → List ℕ
maximal_advice lines word =
    option_map_or (λ parts. connector_or lines parts.0 (name_line parts.0)) (named_mask_in word) (connector_advice lines word)

-- the names that may stand where this has to, after these words of a line
unfoldable pub unknown_in : List (List ℕ) → List (List ℕ) → List (List ℕ) → Wanted → List ℕ → List ℕ
unknown_in lines line words Place word = latest_part_advice lines (codes "place") (codes "place") word
unknown_in lines line words Source word = latest_part_advice lines (codes "place") (codes "place") word
unknown_in lines line words Target word = latest_part_advice lines (codes "place") (codes "place") word
unknown_in lines line words Export word = latest_part_advice lines (codes "var") (codes "variable") word
unknown_in lines line words Variable word = latest_part_advice lines (codes "var") (codes "variable") word
unknown_in lines line words Guard word = reading_advice lines word
unknown_in lines line words Value word = reading_advice lines word
unknown_in lines line words Port word = latest_part_advice lines (codes "port") (codes "port") word
unknown_in lines line words Tree word = leaf_advice lines words word
unknown_in lines line words Leaf word = leaf_advice lines words word
unknown_in lines line words Clause word = export_advice lines word
unknown_in lines line words Transfer word = export_advice lines word
unknown_in lines line words Side word = side_advice lines word
unknown_in lines line words Whole word = maximal_advice lines word
unknown_in lines line words ConditionAtom word = condition_atom_advice lines line word
unknown_in lines line words ConditionPlace word = condition_place_advice lines words word
unknown_in lines line words wanted word = []

-- the names that may stand where this has to, and the line below that declares the word
abbrev pub unknown_names : List (List ℕ) → List (List ℕ) → List (List ℕ) → List (List ℕ) → Wanted → List ℕ → List ℕ
unknown_names lines below line words wanted word = joined (unknown_in lines line words wanted word ∷ below_advice below wanted word ∷ [])

-- what is wrong with an unknown word, or the names that may stand where this has to
abbrev pub unknown_at : List (List ℕ) → List (List ℕ) → List (List ℕ) → List (List ℕ) → Wanted → List ℕ → List ℕ
unknown_at lines below line words wanted word =
    if is_filled (unknown_text words wanted word) then advice_line (unknown_text words wanted word ∷ [])
    else unknown_names lines below line words wanted word

-- where a word of a line that stands after these names nothing: what is wrong with it, or the names that may stand there, where these
-- lines are before that line and these below it
abbrev pub unknown_advice : List (List ℕ) → List (List ℕ) → List (List ℕ) → List (List ℕ) → List ℕ → List ℕ
unknown_advice lines below line words word = unknown_at lines below line words (wanted_in words) word
