-- Expressions as the plant text writes them.
use Rattle.std.specs.Prelude.{ℕ, pos, Bool, false, List, ◌++◌, codes}
use Rattle.std.specs.Fmt.{signed_decimal}
use Rattle.std.specs.Ordering.{int_eq}
use Rattle.petri_atom.specs.Expression.{Tree, number, variable, negation, operation}
use Rattle.petri_atom.specs.declared.expression.Operator.{Operator}
use Rattle.petri_atom.specs.declared.expression.Operator.TheVariants.{Add, Subtract, Multiply, Min, Max, Less, LessOrEqual, Equal, NotEqual, And, Or}

-- the word of an operator
abbrev pub operator_word : Operator → List ℕ
operator_word Add = codes "+"
operator_word Subtract = codes "-"
operator_word Multiply = codes "*"
operator_word Min = codes "min"
operator_word Max = codes "max"
operator_word Less = codes "<"
operator_word LessOrEqual = codes "<="
operator_word Equal = codes "=="
operator_word NotEqual = codes "!="
operator_word And = codes "&&"
operator_word Or = codes "||"

-- an expression in prefix form, one space between two words, whose variables have the names that `name` tells
abbrev pub expression_text : {V : Type 0} → (V → List ℕ) → Tree V → List ℕ
expression_text name (number n) = signed_decimal n
expression_text name (variable v) = name v
expression_text name (negation e) = codes "! " ++ expression_text name e
expression_text name (operation op e f) =
    operator_word op ++ codes " " ++ expression_text name e ++ codes " " ++ expression_text name f

-- the number 1, which is the guard where none is written
abbrev pub is_one : {V : Type 0} → Tree V → Bool
is_one (number n) = int_eq n (pos 1)
is_one (variable v) = false
is_one (negation e) = false
is_one (operation op e f) = false
