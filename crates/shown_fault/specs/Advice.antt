-- What can be done about a fault.
use Rattle.std.specs.Prelude.{ℕ, if◌then◌else◌, List, [], ◌∷◌, Option, None, slice_get, unwrap_or, codes}
use Rattle.std.specs.Option.{option_and_then, option_map_or}
use Rattle.std.specs.Fmt.{decimal}
use Rattle.plant_words.specs.Words.{begins_with, words_of}
use Rattle.plant_text.specs.declared.fault.Fault.{Fault}
use Rattle.plant_text.specs.declared.fault.Fault.TheVariants.{NotAscii, UnknownWord, Misplaced, BadName, Twice, UnknownName, BadExpression, BadNumber, Shape, Limit}
use Rattle.shown_fault.specs.Here.{here_advice}
use Rattle.shown_fault.specs.Shown.{joined, quoted, advice_line, filled_line}
use Rattle.shown_fault.specs.Spelling.{name_text, value_text}
use Rattle.shown_fault.specs.Names.{last_line}
use Rattle.shown_fault.specs.Kinds.{kind_advice, misplaced_advice}
use Rattle.shown_fault.specs.Unknown.{bad_mask_advice, unknown_advice}
use Rattle.shown_fault.specs.Operands.{expression_advice}
use Rattle.shown_fault.specs.MisplacedWord.{shape_advice}
use Rattle.shown_fault.specs.Limits.{limit_advice}
use Rattle.shown_fault.specs.Wanted.{wanted_in}
use Rattle.shown_fault.specs.declared.wanted.Wanted.{Wanted}
use Rattle.shown_fault.specs.declared.wanted.Wanted.TheVariants.{NewName, Side, Transfer}

-- what is wrong with a word that is no name
abbrev pub name_advice : List ℕ → List ℕ
name_advice word = advice_line (name_text word ∷ [])

-- what is wrong with a word that is no number where this has to stand, beside what the message says; of a side of a rule the masks
-- of its connector
abbrev pub number_advice_at : Wanted → List (List ℕ) → List ℕ → List ℕ
number_advice_at Side lines word = bad_mask_advice lines word
number_advice_at wanted lines word = filled_line (value_text word)

-- the same of a word that stands after these
abbrev pub number_advice : List (List ℕ) → List (List ℕ) → List ℕ → List ℕ
number_advice lines words word = number_advice_at (wanted_in words) lines word

-- why a comment has no other bytes; nothing of a line whose first word begins no comment (35)
abbrev pub byte_advice : List ℕ → List ℕ
byte_advice line =
    if begins_with 35 (unwrap_or (slice_get (words_of line) 0) []) then advice_line (codes "a comment is plain ASCII too: the digest of a plant is of all its bytes" ∷ [])
    else []

-- what is said, and what would be right in the place of the part at fault of the line
abbrev pub with_here : List ℕ → List (List ℕ) → List (List ℕ) → List ℕ → List ℕ
with_here text line words word = joined (text ∷ here_advice line words word ∷ [])

-- the line that has the first of these words and this one, where it declares the one or sets it
abbrev pub standing_at : Wanted → List (List ℕ) → List (List ℕ) → List ℕ → Option ℕ
standing_at NewName lines words word = option_and_then (λ first. last_line first word lines) (slice_get words 0)
standing_at Transfer lines words word = option_and_then (λ first. last_line first word lines) (slice_get words 0)
standing_at wanted lines words word = None

-- the number of the line that declares a name already, or sets a variable already; none if the word stands in a list
abbrev pub standing_line : List (List ℕ) → List (List ℕ) → List ℕ → Option ℕ
standing_line lines words word = standing_at (wanted_in words) lines words word

-- where a name stands already: the line that declares it, or the same line
abbrev pub twice_advice : List (List ℕ) → List (List ℕ) → List ℕ → List ℕ
twice_advice lines words word =
    option_map_or (λ number. advice_line (quoted word ∷ codes " stands on line " ∷ decimal number ∷ codes " already" ∷ []))
    (standing_line lines words word) (advice_line (quoted word ∷ codes " stands in this list already" ∷ []))

-- What can be done about the fault of a line, after these lines and these words of it, and before the lines below it; the word at
-- fault is empty if one is missing.
abbrev pub advice : Fault → List (List ℕ) → List (List ℕ) → List ℕ → List (List ℕ) → List ℕ → List ℕ
advice UnknownWord lines below line words word = kind_advice word
advice Misplaced lines below line words word = misplaced_advice word
advice BadName lines below line words word = name_advice word
advice Twice lines below line words word = twice_advice lines words word
advice UnknownName lines below line words word = unknown_advice lines below (words_of line) words word
advice BadExpression lines below line words word = with_here (expression_advice words word) (words_of line) words word
advice BadNumber lines below line words word = number_advice lines words word
advice Shape lines below line words word = with_here (shape_advice (words_of line) words word) (words_of line) words word
advice NotAscii lines below line words word = byte_advice line
advice Limit lines below line words word = limit_advice words word
advice fault lines below line words word = []
