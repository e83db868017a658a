use Rattle.std.specs.Prelude.{ℕ, ℤ, pos, ◌+ℤ◌, ◌-ℤ◌, ◌*ℤ◌, Bool, true, false, cond, nat_lt, ◌==◌, not, ◌&&◌, ◌||◌, int_lt, int_le, ◌+◌}
use Rattle.std.specs.Int.{w64, int_wrap, int_min, int_max}
use Rattle.std.specs.Ordering.{int_eq}
use Rattle.petri_atom.specs.declared.expression.Operator.{Operator}
use Rattle.petri_atom.specs.declared.expression.Operator.TheVariants.{Add, Subtract, Multiply, Min, Max, Less, LessOrEqual, Equal, NotEqual, And, Or}
use Rattle.petri_atom.specs.declared.expression.Expression.{Expression}
use Rattle.petri_atom.specs.declared.expression.Expression.TheVariants.{Number, Variable, Not', Apply'}

-- an expression as a tree of numbers, variables and operators, wherever its parts lie in memory
pub data Tree (V : Type 0) : Type 0 where
  number : ℤ → Tree V
  variable : V → Tree V
  negation : Tree V → Tree V
  operation : Operator → Tree V → Tree V → Tree V

-- the tree that a value of the program holds
abbrev pub tree_of : {V : Type 0} → Expression V → Tree V
tree_of (Number n) = number n
tree_of (Variable v) = variable v
tree_of (Not' p e) = negation (tree_of e)
tree_of (Apply' op p e q f) = operation op (tree_of e) (tree_of f)

-- a truth value as a number
abbrev pub truth : Bool → ℤ
truth b = cond b (pos 1) (pos 0)

-- any value but 0 counts as true
abbrev pub is_true : ℤ → Bool
is_true z = not (int_eq z (pos 0))

-- what an operator makes of the values of its two operands: `+ - *` wrap modulo 2^64, comparisons and logic give 0 or 1
abbrev pub operated : Operator → ℤ → ℤ → ℤ
operated Add x y = int_wrap w64 (x +ℤ y)
operated Subtract x y = int_wrap w64 (x -ℤ y)
operated Multiply x y = int_wrap w64 (x *ℤ y)
operated Min x y = int_min x y
operated Max x y = int_max x y
operated Less x y = truth (int_lt x y)
operated LessOrEqual x y = truth (int_le x y)
operated Equal x y = truth (int_eq x y)
operated NotEqual x y = truth (not (int_eq x y))
operated And x y = truth (is_true x && is_true y)
operated Or x y = truth (is_true x || is_true y)

-- the value of an expression whose variables have the values that `at` gives
abbrev pub value_of : {V : Type 0} → (V → ℤ) → Tree V → ℤ
value_of at (number n) = n
value_of at (variable v) = at v
value_of at (negation e) = truth (not (is_true (value_of at e)))
value_of at (operation op e f) = operated op (value_of at e) (value_of at f)

-- an expression is a number other than 0
abbrev pub is_true_number : {V : Type 0} → Tree V → Bool
is_true_number (number n) = is_true n
is_true_number (variable v) = false
is_true_number (negation e) = false
is_true_number (operation op e f) = false

-- an expression without the `!` that stand before it
abbrev pub bare : {V : Type 0} → Tree V → Tree V
bare (number n) = number n
bare (variable v) = variable v
bare (negation e) = bare e
bare (operation op e f) = operation op e f

-- an odd number of them stands before it: it is true where it is false without them
abbrev pub is_turned : {V : Type 0} → Tree V → Bool
is_turned (number n) = false
is_turned (variable v) = false
is_turned (negation e) = not (is_turned e)
is_turned (operation op e f) = false

-- how many words an expression is written with
abbrev pub word_count : {V : Type 0} → Tree V → ℕ
word_count (number n) = 1
word_count (variable v) = 1
word_count (negation e) = 1 + word_count e
word_count (operation op e f) = 1 + word_count e + word_count f

-- each variable of the expression passes a test
abbrev pub all_variables : {V : Type 0} → (V → Bool) → Tree V → Bool
all_variables test (number n) = true
all_variables test (variable v) = test v
all_variables test (negation e) = all_variables test e
all_variables test (operation op e f) = all_variables test e && all_variables test f

-- each variable of the expression has a number below a bound
abbrev pub has_variables_below : ℕ → Tree ℕ → Bool
has_variables_below bound (number n) = true
has_variables_below bound (variable v) = nat_lt v bound
has_variables_below bound (negation e) = has_variables_below bound e
has_variables_below bound (operation op e f) = has_variables_below bound e && has_variables_below bound f

-- a number for each operator, by which two of them are compared
abbrev pub operator_code : Operator → ℕ
operator_code Add = 0
operator_code Subtract = 1
operator_code Multiply = 2
operator_code Min = 3
operator_code Max = 4
operator_code Less = 5
operator_code LessOrEqual = 6
operator_code Equal = 7
operator_code NotEqual = 8
operator_code And = 9
operator_code Or = 10

-- two expressions are the same tree
abbrev pub is_same_tree : Tree ℕ → Tree ℕ → Bool
is_same_tree (number m) (number n) = int_eq m n
is_same_tree (variable v) (variable w) = v == w
is_same_tree (negation e) (negation f) = is_same_tree e f
is_same_tree (operation o a b) (operation p c d) = operator_code o == operator_code p && is_same_tree a c && is_same_tree b d
is_same_tree e f = false
