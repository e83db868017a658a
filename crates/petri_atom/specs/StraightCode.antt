use Rattle.std.specs.Prelude.{◌≡◌, ℕ, suc, ◌+◌, ◌<◌, ◌≤◌, ℤ, Bool, ◌&&◌, List, [], ◌∷◌, length, max, if◌then◌else◌, ◌==◌, nat_le, nat_lt, slice_get, slice_set, Some, IsTrue}
use Rattle.std.specs.List.{list_all}
use Rattle.petri_atom.specs.Expression.{Tree, number, variable, negation, operation, bare, operated, value_of, word_count, has_variables_below}
use Rattle.petri_atom.specs.Definition.{TransitionDefinition, UpdateDefinition}
use Rattle.petri_atom.specs.Groups.{alike_set}
use Rattle.petri_atom.specs.Local.{value_in}
use Rattle.petri_atom.specs.declared.code.Code.{Code}
use Rattle.petri_atom.specs.declared.code.Operand.{Operand}
use Rattle.petri_atom.specs.declared.code.Step.{Step}
use Rattle.petri_atom.specs.declared.code.Operand.TheVariants.{Cell, Number}
use Rattle.petri_atom.specs.declared.code.TheConstants.{ROW, SMALL_ROW, SMALL_TEMPORARY, TEMPORARY}
use Rattle.petri_atom.specs.declared.expression.Operator.TheVariants.{Add, Subtract, Multiply, Min, Max, Less, LessOrEqual, Equal, NotEqual, And, Or}
use Rattle.petri_atom.specs.declared.operation.Operation.{Operation}
use Rattle.petri_atom.specs.declared.operation.Operation.TheVariants.{Constant, AddCells, SubtractCells, MultiplyCells, MinCells, MaxCells, LessCells, LessOrEqualCells, EqualCells, NotEqualCells, AndCells, OrCells, AddNumber, SubtractNumber, MultiplyNumber, MinNumber, MaxNumber, LessNumber, LessOrEqualNumber, EqualNumber, NotEqualNumber, AndNumber, OrNumber, NumberMinus, NumberLess, NumberLessOrEqual}
use Rattle.petri_atom.specs.declared.parts.TheConstants.{MAX_WORDS}
use Rattle.petri_atom.specs.declared.state.TheConstants.{MAX_VARIABLES}
use Rattle.petri_atom.specs.declared.transition_code.Change.{Change}
use Rattle.petri_atom.specs.declared.transition_code.TransitionCode.{TransitionCode}

-- ---- steps

-- what an operation makes of what two cells hold and of a number
abbrev pub made : Operation → ℤ → ℤ → ℤ → ℤ
made Constant l r n = n
made AddCells l r n = operated Add l r
made SubtractCells l r n = operated Subtract l r
made MultiplyCells l r n = operated Multiply l r
made MinCells l r n = operated Min l r
made MaxCells l r n = operated Max l r
made LessCells l r n = operated Less l r
made LessOrEqualCells l r n = operated LessOrEqual l r
made EqualCells l r n = operated Equal l r
made NotEqualCells l r n = operated NotEqual l r
made AndCells l r n = operated And l r
made OrCells l r n = operated Or l r
made AddNumber l r n = operated Add l n
made SubtractNumber l r n = operated Subtract l n
made MultiplyNumber l r n = operated Multiply l n
made MinNumber l r n = operated Min l n
made MaxNumber l r n = operated Max l n
made LessNumber l r n = operated Less l n
made LessOrEqualNumber l r n = operated LessOrEqual l n
made EqualNumber l r n = operated Equal l n
made NotEqualNumber l r n = operated NotEqual l n
made AndNumber l r n = operated And l n
made OrNumber l r n = operated Or l n
made NumberMinus l r n = operated Subtract n l
made NumberLess l r n = operated Less n l
made NumberLessOrEqual l r n = operated LessOrEqual n l

-- what a step makes of a row of cells
abbrev pub made_in : List ℤ → Step → ℤ
made_in row s = made s.operation (value_in row s.left) (value_in row s.right) s.number

-- an operand in a row: what its cell holds, or its number
abbrev pub operand_in : List ℤ → Operand → ℤ
operand_in row (Cell cell) = value_in row cell
operand_in row (Number n) = n

-- the cell of an operand, if it is one, stands before a number
abbrev pub IsBelow : ℕ → Operand → Type 0
IsBelow bound (Cell cell) = cell < bound
IsBelow bound (Number n) = Unit {0}

-- a row after steps, each of which puts what it makes into its cell
abbrev pub run_in : List Step → List ℤ → List ℤ
run_in [] row = row
run_in (s ∷ ss) row = run_in ss (slice_set row s.to (made_in row s))

-- all cells of a step stand before a number
abbrev pub is_within : ℕ → Step → Bool
is_within bound s = nat_lt s.left bound && nat_lt s.right bound && nat_lt s.to bound

-- so do those of each of some steps
abbrev pub are_within : ℕ → List Step → Bool
are_within bound steps = list_all (is_within bound) steps

-- ---- straight code

-- how many temporary cells two operands take that take so many. The one that takes more is judged first, so that one cell more is taken only if
-- both take as many
abbrev pub temporaries_of_two : ℕ → ℕ → ℕ
temporaries_of_two m n = if m == n then suc m else max m n

-- how many temporary cells the value of an expression takes, its own with them; a number or a variable takes none
abbrev pub temporaries : {V : Type 0} → Tree V → ℕ
temporaries (number n) = 0
temporaries (variable v) = 0
temporaries (negation e) = max (temporaries e) 1
temporaries (operation op e f) = temporaries_of_two (temporaries e) (temporaries f)

-- behind the steps that were there, those that were added and one step more make the value of an expression, and change no cell before a number.
-- Their own cells stand before each number that leaves room for the temporary cells of the value
pub record IsMadeAfter (before after : List Step) (last : Step) (tree : Tree ℕ) (free : ℕ) : Type 0 where
  pub value : (row : List ℤ) → free + temporaries tree < length row → made_in (run_in after row) last ≡ value_of (value_in (run_in before row)) tree
  pub others : (row : List ℤ) (k : ℕ) → k < free → value_in (run_in after row) k ≡ value_in (run_in before row) k
  pub within : (bound : ℕ) → free + temporaries tree < bound → IsTrue (are_within bound before) → IsTrue (are_within bound after)
  pub left : (bound : ℕ) → free + temporaries tree < bound → last.left < bound
  pub right : (bound : ℕ) → free + temporaries tree < bound → last.right < bound

-- the same of an operand in place of the one step more; it stands in no cell past the number
pub record IsOperandAfter (before after : List Step) (operand : Operand) (tree : Tree ℕ) (free : ℕ) : Type 0 where
  pub value : (row : List ℤ) → free + temporaries tree < length row → operand_in (run_in after row) operand ≡ value_of (value_in (run_in before row)) tree
  pub others : (row : List ℤ) (k : ℕ) → k < free → value_in (run_in after row) k ≡ value_in (run_in before row) k
  pub within : (bound : ℕ) → free + temporaries tree < bound → IsTrue (are_within bound before) → IsTrue (are_within bound after)
  pub cell : IsBelow (free + 1) operand

-- the same of two operands at once
pub record AreOperandsAfter (before after : List Step) (left right : Operand) (e f : Tree ℕ) (free : ℕ) : Type 0 where
  pub left_value : (row : List ℤ) → free + temporaries_of_two (temporaries e) (temporaries f) < length row → operand_in (run_in after row) left ≡ value_of (value_in (run_in before row)) e
  pub right_value : (row : List ℤ) → free + temporaries_of_two (temporaries e) (temporaries f) < length row → operand_in (run_in after row) right ≡ value_of (value_in (run_in before row)) f
  pub others : (row : List ℤ) (k : ℕ) → k < free → value_in (run_in after row) k ≡ value_in (run_in before row) k
  pub within : (bound : ℕ) → free + temporaries_of_two (temporaries e) (temporaries f) < bound → IsTrue (are_within bound before) → IsTrue (are_within bound after)
  pub left_cell : (bound : ℕ) → free + temporaries_of_two (temporaries e) (temporaries f) < bound → IsBelow bound left
  pub right_cell : (bound : ℕ) → free + temporaries_of_two (temporaries e) (temporaries f) < bound → IsBelow bound right

-- ---- the two kinds of row

-- the code of an expression fits a small row
abbrev pub is_small : Tree ℕ → Bool
is_small e = has_variables_below SMALL_TEMPORARY e && nat_lt (SMALL_TEMPORARY + temporaries e) SMALL_ROW

-- the first temporary cell of a small row, or of a whole one
abbrev pub first_temporary : Bool → ℕ
first_temporary small = if small then SMALL_TEMPORARY else TEMPORARY

-- how many cells it has
abbrev pub row_length : Bool → ℕ
row_length small = if small then SMALL_ROW else ROW

-- ---- code

-- an expression that code is made of: it is within the limit of words, over variables that an atom may have
abbrev pub is_codable : Tree ℕ → Bool
is_codable e = nat_le (word_count e) MAX_WORDS && has_variables_below MAX_VARIABLES e

-- what code makes of a row: what its one step makes, or what all its steps leave in the first temporary cell
abbrev pub coded_in : Code → List ℤ → ℤ
coded_in code row =
    if length code.steps.items == 0 then made_in row code.last else value_in (run_in code.steps.items row) (first_temporary code.is_small)

-- code gives the value of an expression, in each row that has the variables' values in their cells and room for all cells of the code; no
-- variable has a temporary cell
pub record IsCodeOf (code : Code) (tree : Tree ℕ) : Type 0 where
  pub variables : IsTrue (has_variables_below (first_temporary code.is_small) tree)
  pub value : (row : List ℤ) → row_length code.is_small ≤ length row → coded_in code row ≡ value_of (value_in row) tree

-- ---- transitions

-- the expressions of an update and of a transition are so
abbrev pub is_codable_update : UpdateDefinition → Bool
is_codable_update u = is_codable u.value

abbrev pub is_codable_transition : TransitionDefinition → Bool
is_codable_transition t = is_codable t.guard && list_all is_codable_update t.updates

-- what stands at the same number in two lists of one length is related
abbrev pub EachOf : {X Y : Type 0} → (X → Y → Type 0) → List X → List Y → Type 0
EachOf {X} {Y} related xs ys =
    (length xs ≡ length ys) ×
    ((n : ℕ) (x : X) (y : Y) → slice_get xs n ≡ Some x → slice_get ys n ≡ Some y → related x y)

-- a change is an update: it has the same variable, and the code of its expression
abbrev pub IsChangeOf : Change → UpdateDefinition → Type 0
IsChangeOf change u = (change.variable ≡ u.variable) × IsCodeOf change.value u.value

-- changes are updates, one by one
abbrev pub AreChangesOf : List Change → List UpdateDefinition → Type 0
AreChangesOf changes us = EachOf IsChangeOf changes us

-- the code of one of some transitions is that of its guard, without the `!` before it, and of its updates; it has the set of all transitions
-- whose guard is the same but for these
abbrev pub IsTransitionCode : List TransitionDefinition → TransitionCode → TransitionDefinition → Type 0
IsTransitionCode ts code t =
    IsCodeOf code.guard (bare t.guard) × AreChangesOf code.changes.items t.updates × (code.alike ≡ alike_set t.guard ts)

-- codes are those of transitions, one by one
abbrev pub AreCodesOf : List TransitionCode → List TransitionDefinition → Type 0
AreCodesOf codes ts = EachOf (IsTransitionCode ts) codes ts
