-- A word that stands where another must, is missing, or is left over.
use Rattle.std.specs.Prelude.{ℕ, Bool, ◌||◌, ◌&&◌, ◌==◌, if◌then◌else◌, List, [], ◌∷◌, nat_lt, codes}
use Rattle.petri_atom.specs.Name.{is_same_text}
use Rattle.plant_words.specs.Words.{begins_with, is_filled}
use Rattle.shown_fault.specs.Shown.{joined, quoted, advice_line}
use Rattle.shown_fault.specs.Spelling.{word_text, tree_text, either_text}
use Rattle.shown_fault.specs.Operands.{operands_of, expression_text}
use Rattle.shown_fault.specs.Order.{order_text}
use Rattle.shown_fault.specs.Condition.{at_advice}
use Rattle.shown_fault.specs.Quotes.{quote_advice}
use Rattle.shown_fault.specs.RuleSign.{sign_advice}
use Rattle.shown_fault.specs.Wanted.{wanted_in, is_of_expression, is_of_tree, expected_text}
use Rattle.shown_fault.specs.declared.wanted.Wanted.{Wanted}
use Rattle.shown_fault.specs.declared.wanted.Wanted.TheVariants.{Guard, Value, Clause, Tree, Leaf, Below, ConditionAt}

-- the word ends a bracket
unfoldable pub is_close : List ℕ → Bool
is_close word = is_same_text word (codes "]") || is_same_text word (codes "]'")

-- what is wrong with a bracket of a tree, or with the end of its line
abbrev pub bracket_text : List ℕ → List ℕ
bracket_text word =
    if is_close word then codes "no '[' is open before this ']'"
    else if is_filled word then codes "" else codes "expected ']', and the line ends"

-- what is wrong with the form of a word where this has to stand; empty if that is not known
unfoldable pub text_at : Wanted → List ℕ → List ℕ
text_at Guard word = expression_text word
text_at Value word = expression_text word
text_at Clause word = expression_text word
text_at Tree word = tree_text word
text_at Leaf word = tree_text word
text_at wanted word = word_text word

-- what is wrong with a bracket where this has to stand; empty if the word is something else
abbrev pub end_text : Wanted → List ℕ → List ℕ
end_text Leaf word = bracket_text word
end_text wanted word = codes ""

-- what is wrong with a word that stands after these, where this has to stand; empty if that is not known
unfoldable pub misplaced_text : List (List ℕ) → Wanted → List ℕ → List ℕ
misplaced_text words wanted word = either_text (order_text words word) (either_text (text_at wanted word) (end_text wanted word))

-- what is expected in the place of a word, or of the end of the line
abbrev pub instead_advice : List ℕ → List ℕ → List ℕ
instead_advice expected word =
    if is_filled word then advice_line (codes "expected " ∷ expected ∷ codes ", found " ∷ quoted word ∷ [])
    else advice_line (codes "expected " ∷ expected ∷ codes ", and the line ends" ∷ [])

-- which word has to stand there, or that none may
abbrev pub expected_advice : Wanted → List ℕ → List ℕ
expected_advice wanted word =
    if is_filled (expected_text wanted) then instead_advice (expected_text wanted) word
    else advice_line (codes "nothing more may follow" ∷ [])

-- that an operator which is left over has to stand before its operands
abbrev pub operator_advice : List ℕ → List ℕ
operator_advice word =
    if operands_of word == 1 then advice_line (codes "an operator stands before its operands: write '" ∷ word ∷ codes " a'" ∷ [])
    else advice_line (codes "an operator stands before its operands: write '" ∷ word ∷ codes " a b'" ∷ [])

-- what more can be done about a word that stands where this has to, in a line with these words
abbrev pub more_advice : Wanted → List (List ℕ) → List ℕ → List ℕ
more_advice Below line word = sign_advice line word
more_advice ConditionAt line word = at_advice line word
more_advice wanted line word = []

-- which word has to stand there, or that none may, and what more can be done
abbrev pub other_advice : List (List ℕ) → Wanted → List ℕ → List ℕ
other_advice line wanted word = joined (expected_advice wanted word ∷ more_advice wanted line word ∷ [])

-- that an operator has to stand before its operands, where a quote (39) stands, or which word has to stand there
abbrev pub order_advice : List (List ℕ) → List (List ℕ) → Wanted → List ℕ → List ℕ
order_advice line words wanted word =
    if is_of_expression wanted && nat_lt 0 (operands_of word) then operator_advice word
    else if is_of_tree wanted && begins_with 39 word then quote_advice words word
    else other_advice line wanted word

-- what is wrong with a word that stands after these, where this has to stand: it is left over, it is no sign by itself, or another
-- must stand there
abbrev pub shape_advice_at : List (List ℕ) → List (List ℕ) → Wanted → List ℕ → List ℕ
shape_advice_at line words wanted word =
    if is_filled (misplaced_text words wanted word) then advice_line (misplaced_text words wanted word ∷ []) else order_advice line words wanted word

-- the same of a word of a line that stands after these
abbrev pub shape_advice : List (List ℕ) → List (List ℕ) → List ℕ → List ℕ
shape_advice line words word = shape_advice_at line words (wanted_in words) word
