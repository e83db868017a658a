-- An expression that is no expression: which operator lacks an operand, and what to write in the place of a word.
use Rattle.std.specs.Prelude.{ℕ, zero, suc, ◌+◌, ◌==◌, Bool, true, false, if◌then◌else◌, List, [], ◌∷◌, map, is_some, Option, Some, None, codes}
use Rattle.petri_atom.specs.Name.{is_same_text}
use Rattle.plant_words.specs.Words.{is_filled}
use Rattle.plant_words.specs.ExpressionWords.{operator_in}
use Rattle.shown_fault.specs.declared.operands.TheConstants.{ENDS}
use Rattle.shown_fault.specs.Names.{is_among}
use Rattle.shown_fault.specs.Order.{order_text}
use Rattle.shown_fault.specs.Shown.{quoted, advice_line}
use Rattle.shown_fault.specs.Spelling.{slip_text, form_text, either_text}

-- how many operands a word takes, if it is an operator; and else none
unfoldable pub operands_of : List ℕ → ℕ
operands_of word = if is_some (operator_in word) then 2 else if is_same_text word (codes "!") then 1 else 0

-- words are too few for so many operands: each of them is one, and takes as many more as it has itself
abbrev pub lacks : ℕ → List (List ℕ) → Bool
lacks zero words = false
lacks (suc wanted) [] = true
lacks (suc wanted) (word ∷ words) = lacks (wanted + operands_of word) words

-- the last of the words that is an operator after which an operand is missing, or else this
abbrev pub lacking_after : Option (List ℕ) → List (List ℕ) → Option (List ℕ)
lacking_after found [] = found
lacking_after found (word ∷ words) = lacking_after (if lacks (operands_of word) words then Some word else found) words

-- the last of the words that is an operator after which an operand is missing
abbrev pub lacking_in : List (List ℕ) → Option (List ℕ)
lacking_in words = lacking_after None words

-- no expression goes on with the word: it is missing, or stands after an expression
abbrev pub ends_expression : List ℕ → Bool
ends_expression word = is_among (map (λ end. end.now) ENDS) word

-- what to write in the place of a word of an expression; empty if that is not known
abbrev pub expression_text : List ℕ → List ℕ
expression_text word = either_text (slip_text word) (form_text word)

-- which operator lacks an operand; or that there is no expression
abbrev pub operand_advice : Option (List ℕ) → List ℕ
operand_advice None = advice_line (codes "expected an expression" ∷ [])
operand_advice (Some word) =
    if operands_of word == 1 then advice_line (codes "'" ∷ word ∷ codes "' takes one operand, which follows it" ∷ [])
    else advice_line (codes "'" ∷ word ∷ codes "' takes two operands, which follow it" ∷ [])

-- which operator lacks an operand, or that the word is no part of an expression
abbrev pub malformed_advice : List (List ℕ) → List ℕ → List ℕ
malformed_advice words word =
    if ends_expression word then operand_advice (lacking_in words)
    else advice_line (quoted word ∷ codes " is no number, no operator and no name" ∷ [])

-- what is wrong with a word of an expression that stands after these; empty if that is not known
unfoldable pub operand_text : List (List ℕ) → List ℕ → List ℕ
operand_text words word = either_text (order_text words word) (expression_text word)

-- if a line has no expression, after these words of it: what is wrong with the word, or which operator lacks an operand
abbrev pub expression_advice : List (List ℕ) → List ℕ → List ℕ
expression_advice words word =
    if is_filled (operand_text words word) then advice_line (operand_text words word ∷ []) else malformed_advice words word
