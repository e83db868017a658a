-- What is wrong with a word by itself.
use Rattle.std.specs.Prelude.{ℕ, Bool, not, ◌&&◌, ◌||◌, if◌then◌else◌, List, length, map, take, drop, nat_lt, codes}
use Rattle.petri_atom.specs.Name.{is_name, is_reserved}
use Rattle.petri_atom.specs.declared.name.TheConstants.{MAX_NAME}
use Rattle.plant_words.specs.Numbers.{is_numeric}
use Rattle.plant_words.specs.Words.{begins_with, is_filled}
use Rattle.shown_fault.specs.declared.spelling.TheConstants.{SIGNS, SLIPS, STUCK, STUCK_OPERATORS, TRUTHS}
use Rattle.shown_fault.specs.Names.{is_among}
use Rattle.shown_fault.specs.Table.{has_part, text_of, text_of_part}

-- an operator, or another sign of the plant text
abbrev pub is_sign : List ℕ → Bool
is_sign word = is_among (map (λ sign. sign.now) SIGNS) word

-- a text, or another one if it is empty
abbrev pub either_text : List ℕ → List ℕ → List ℕ
either_text text other = if is_filled text then text else other

-- which sign of lines a part of the word is stuck to
unfoldable pub stuck_text : List ℕ → List ℕ
stuck_text word = text_of_part (map (λ row. (row.0.now, row.1.now)) STUCK) word

-- which sign of expressions a part of the word is stuck to; empty if it is a sign itself
unfoldable pub stuck_operator_text : List ℕ → List ℕ
stuck_operator_text word = if is_sign word then codes "" else text_of_part (map (λ row. (row.0.now, row.1.now)) STUCK_OPERATORS) word

-- what to write in the place of a truth value; empty if the word is none
unfoldable pub truth_text : List ℕ → List ℕ
truth_text word = text_of (map (λ row. (row.0.now, row.1.now)) TRUTHS) word

-- what is wrong with a word wherever it stands: that it begins a comment, or that a sign is stuck to it
unfoldable pub word_text : List ℕ → List ℕ
word_text word =
    if begins_with 35 word then codes "nothing more may follow; a comment needs a line of its own"
    else if is_sign word then codes "" else stuck_text word

-- a bracket that no plant text has stands in the word
abbrev pub is_round : List ℕ → Bool
is_round word = has_part word (codes "(") || has_part word (codes ")")

-- the first byte alone is a name: a letter
abbrev pub begins_as_name : List ℕ → Bool
begins_as_name word = is_name (take 1 word)

-- the first byte alone is a number: a digit
abbrev pub begins_as_number : List ℕ → Bool
begins_as_number word = is_numeric (take 1 word)

-- a minus (45) stuck to what begins as a name
abbrev pub is_minus : List ℕ → Bool
is_minus word = begins_with 45 word && begins_as_name (drop 1 word)

-- the word begins as a number, and has a dot
abbrev pub is_fraction : List ℕ → Bool
is_fraction word = begins_as_number (if begins_with 45 word then drop 1 word else word) && has_part word (codes ".")

-- what is wrong with a word that has to be a number, beside that it is none
unfoldable pub value_text : List ℕ → List ℕ
value_text word = either_text (truth_text word) (if is_fraction word then codes "a number is whole" else word_text word)

-- what is wrong with the form of a word of an expression; empty if that is not known
unfoldable pub form_text : List ℕ → List ℕ
form_text word =
    if is_round word then codes "an expression has no brackets: an operator stands before its operands"
    else if is_minus word then codes "there is no unary minus: write '- 0 a'"
    else either_text (value_text word) (stuck_operator_text word)

-- what is wrong with a word of a tree by itself; empty if that is not known
unfoldable pub tree_text : List ℕ → List ℕ
tree_text word = if is_round word then codes "the brackets of a tree are '[' and ']', each a word of its own" else word_text word

-- what to write in the place of an operator of other languages
unfoldable pub slip_text : List ℕ → List ℕ
slip_text word = text_of (map (λ row. (row.0.now, row.1.now)) SLIPS) word

-- why a word is no name
unfoldable pub name_text : List ℕ → List ℕ
name_text word =
    if is_reserved word then codes "the word is reserved, one of: from, to, when, do, init, at, min, max"
    else if nat_lt MAX_NAME (length word) then codes "a name has at most 32 bytes"
    else if not (begins_as_name word) then codes "a name begins with a letter"
    else codes "a name has letters, digits and '_' alone"
