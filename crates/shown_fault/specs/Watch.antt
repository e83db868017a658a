-- Words that a run can't be watched for.
use Rattle.std.specs.Prelude.{ℕ, zero, suc, ◌||◌, nat_lt, if◌then◌else◌, List, [], ◌∷◌, length, drop, Option, Some, None, codes}
use Rattle.std.specs.Option.{option_map_or}
use Rattle.petri_atom.specs.Name.{is_name, is_same_text}
use Rattle.plant_words.specs.Numbers.{is_numeric}
use Rattle.plant_words.specs.Splits.{export_parts}
use Rattle.plant_words.specs.Words.{is_filled, words_of}
use Rattle.shown_fault.specs.Spelling.{either_text}
use Rattle.shown_fault.specs.Condition.{atom_name_advice}
use Rattle.shown_fault.specs.Here.{righted}
use Rattle.shown_fault.specs.Lent.{text_in}
use Rattle.shown_fault.specs.Operands.{expression_text, lacking_in, operand_advice as lacking_line, operands_of}
use Rattle.shown_fault.specs.Parts.{atom_advice, atom_or, part_advice}
use Rattle.shown_fault.specs.Places.{has_part_named}
use Rattle.shown_fault.specs.Shown.{shown, cut_to, quoted, advice_line}
use Rattle.shown_fault.specs.declared.window.TheConstants.{MAX_SHOWN}

-- the places of the atom, if this is none of them
unfoldable pub asked_place_advice : List (List ℕ) → List ℕ → List ℕ → List ℕ
asked_place_advice lines atom place =
    if has_part_named lines atom (codes "place") place then [] else part_advice lines atom (codes "place") (codes "place") place

-- the variables of an atom that is there, if this is none of them, or how its place is asked for; nothing if it is one
abbrev pub owned_name_advice : List (List ℕ) → List ℕ → List ℕ → List ℕ
owned_name_advice lines atom name =
    if has_part_named lines atom (codes "var") name then []
    else if has_part_named lines atom (codes "place") name
    then advice_line (codes "a place is asked for by 'at': write 'at " ∷ atom ∷ codes " " ∷ name ∷ codes "'" ∷ [])
    else part_advice lines atom (codes "var") (codes "variable") name

-- the same of any atom
unfoldable pub dotted_name_advice : List (List ℕ) → List ℕ → List ℕ → List ℕ
dotted_name_advice lines atom name = atom_or (atom_advice lines atom) (owned_name_advice lines atom name)

-- how a variable is written, or that the word is no part of an expression
abbrev pub plain_name_advice : List ℕ → List ℕ
plain_name_advice word =
    if is_name word then advice_line (codes "a variable is written as ATOM.VAR here, and a place as at ATOM PLACE" ∷ [])
    else advice_line (quoted word ∷ codes " is no number, no operator and no name" ∷ [])

-- what is wrong with a word that has to be a variable; nothing if it is one
unfoldable pub name_advice : List (List ℕ) → List ℕ → List ℕ
name_advice lines word =
    if is_filled (expression_text word) then advice_line (expression_text word ∷ [])
    else option_map_or (λ parts. dotted_name_advice lines parts.0 parts.1) (export_parts word) (plain_name_advice word)

-- what is wrong with a word of an expression; nothing if it is an operator, a number or a variable
abbrev pub operand_advice : List (List ℕ) → List ℕ → List ℕ
operand_advice lines word = if nat_lt 0 (operands_of word) || is_numeric word then [] else name_advice lines word

-- what is wrong with a word, if so many words belong to an `at` before it, and this word stands before it
abbrev pub word_advice : List (List ℕ) → ℕ → List ℕ → List ℕ → List ℕ
word_advice lines zero before word = if is_same_text word (codes "at") then [] else operand_advice lines word
word_advice lines (suc zero) before word = asked_place_advice lines before word
word_advice lines (suc (suc owned)) before word = atom_name_advice lines word

-- how many words after this one belong to an `at`, if so many did before it
abbrev pub owned_after : ℕ → List ℕ → ℕ
owned_after zero word = if is_same_text word (codes "at") then 2 else 0
owned_after (suc owned) word = owned

-- what is wrong with words, if so many belong to an `at`
abbrev pub unended_advice : ℕ → List ℕ
unended_advice zero = []
unended_advice (suc owned) = advice_line (codes "'at' takes an atom and a place: at ATOM PLACE" ∷ [])

-- what is wrong with the first of the words that is no operator, number, variable or place; nothing if each is one
abbrev pub names_advice : List (List ℕ) → ℕ → List ℕ → List (List ℕ) → List ℕ
names_advice lines owned before [] = unended_advice owned
names_advice lines owned before (word ∷ words) = either_text (word_advice lines owned before word) (names_advice lines (owned_after owned word) word words)

-- which operator lacks an operand, or that there is no word of so many; nothing if neither is so
abbrev pub lacking_or : ℕ → Option (List ℕ) → List ℕ
lacking_or zero None = lacking_line None
lacking_or (suc count) None = []
lacking_or count (Some word) = lacking_line (Some word)

abbrev pub lacking_advice : List (List ℕ) → ℕ → List ℕ
lacking_advice words count = lacking_or count (lacking_in words)

-- how the words are written that were put into the form of plant texts
unfoldable pub written_line : List ℕ → List ℕ
written_line text =
    advice_line (codes "an operator stands before its operands, with no brackets: write '" ∷ cut_to MAX_SHOWN (shown (drop 1 text)) ∷ codes "'" ∷ [])

-- what is wrong with the words that were put into the form of plant texts, or how they are written
abbrev pub written_advice : List (List ℕ) → List ℕ → List ℕ
written_advice lines text = either_text (names_advice lines 0 [] (words_of text)) (written_line text)

-- what is wrong with words that have the form of plant texts, or no form that is known
abbrev pub other_advice : List (List ℕ) → List (List ℕ) → List (List ℕ) → List ℕ
other_advice lines text words = either_text (names_advice lines 0 [] words) (lacking_advice text (length words))

-- what can be done about the words of a watch that can't be read, of a plant of these lines
unfoldable pub watch_advice : List (List ℕ) → List (List ℕ) → List ℕ
watch_advice lines words =
    if is_same_text (text_in words 0) (codes "stuck") then advice_line (codes "'stuck' stands alone" ∷ [])
    else option_map_or (written_advice lines) (righted words) (other_advice lines words words)
