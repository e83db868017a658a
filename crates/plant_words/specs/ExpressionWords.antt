-- What one word of an expression says.
use Rattle.std.specs.Prelude.{ℕ, Bool, ℤ, ◌&&◌, if◌then◌else◌, List, codes, Option, Some, None, Result, Ok, Err}
use Rattle.std.specs.Option.{option_map_or}
use Rattle.petri_atom.specs.Name.{is_name, is_same_text}
use Rattle.petri_atom.specs.declared.expression.Operator.{Operator}
use Rattle.petri_atom.specs.declared.expression.Operator.TheVariants.{Add, Subtract, Multiply, Min, Max, Less, LessOrEqual, Equal, NotEqual, And, Or}
use Rattle.plant_words.specs.Lines.{is_legal_line}
use Rattle.plant_words.specs.Numbers.{is_numeric, int_in}
use Rattle.plant_words.specs.Splits.{export_parts}
use Rattle.plant_words.specs.declared.expression_fault.ExpressionFault.{ExpressionFault}
use Rattle.plant_words.specs.declared.expression_fault.ExpressionFault.TheVariants.{NotAscii, UnknownName, BadExpression, BadNumber}
use Rattle.plant_words.specs.declared.expression_word.Word.{Word}
use Rattle.plant_words.specs.declared.expression_word.Word.TheVariants.{Number, Variable, Negation, Operation}

-- the operator with two operands that the word is
abbrev pub operator_in : List ℕ → Option Operator
operator_in word =
    if is_same_text word (codes "+") then Some Add
    else if is_same_text word (codes "-") then Some Subtract
    else if is_same_text word (codes "*") then Some Multiply
    else if is_same_text word (codes "min") then Some Min
    else if is_same_text word (codes "max") then Some Max
    else if is_same_text word (codes "<") then Some Less
    else if is_same_text word (codes "<=") then Some LessOrEqual
    else if is_same_text word (codes "==") then Some Equal
    else if is_same_text word (codes "!=") then Some NotEqual
    else if is_same_text word (codes "&&") then Some And
    else if is_same_text word (codes "||") then Some Or
    else None

-- both parts are names
abbrev pub are_names : List ℕ × List ℕ → Bool
are_names parts = is_name parts.0 && is_name parts.1

-- a word that is written as a variable's name is, alone or after its atom's: `NAME` or `NAME.NAME`
abbrev pub could_be_variable : List ℕ → Bool
could_be_variable word = option_map_or are_names (export_parts word) (is_name word)

-- what a word of digits says
abbrev pub number_in : {V : Type 0} → Option ℤ → Result (Word V) ExpressionFault
number_in None = Err BadNumber
number_in (Some number) = Ok (Number number)

-- what a word says that is no operator and no number
abbrev pub variable_found : {V : Type 0} → Bool → Option V → Result (Word V) ExpressionFault
variable_found could_be None = Err (if could_be then UnknownName else BadExpression)
variable_found could_be (Some variable) = Ok (Variable variable)

-- what a word of legal bytes says: an operator, a number, a variable that is named, or else a fault
abbrev pub legal_word_in : {V : Type 0} → (List ℕ → Option V) → List ℕ → Result (Word V) ExpressionFault
legal_word_in named word =
    if is_same_text word (codes "!") then Ok Negation
    else option_map_or (λ operator. Ok (Operation operator)) (operator_in word)
    (if is_numeric word then number_in (int_in word) else variable_found (could_be_variable word) (named word))

-- what a word says where an expression may stand; a word with an illegal byte is that fault
abbrev pub word_in : {V : Type 0} → (List ℕ → Option V) → List ℕ → Result (Word V) ExpressionFault
word_in named word = if is_legal_line word then legal_word_in named word else Err NotAscii
