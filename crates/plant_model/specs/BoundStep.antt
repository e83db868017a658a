-- One operator over variables of atoms and numbers.
use Rattle.std.specs.Prelude.{Bool, true, false, ◌&&◌, nat_lt}
use Rattle.petri_atom.specs.Expression.{Tree, number, variable, negation, operation}
use Rattle.petri_atom.specs.declared.state.TheConstants.{MAX_VARIABLES}
use Rattle.plant_model.specs.declared.bound_expressions.AtomVariable.{AtomVariable}
use Rattle.plant_model.specs.declared.bound_step.BoundOperand.{BoundOperand}
use Rattle.plant_model.specs.declared.bound_step.BoundOperand.TheVariants.{Cell, Number}
use Rattle.plant_model.specs.declared.bound_step.BoundStep.{BoundStep}

-- an operand as an expression
abbrev pub operand_tree : BoundOperand → Tree AtomVariable
operand_tree (Cell cell) = variable cell.variable
operand_tree (Number n) = number n

-- an operator with its operands as one
abbrev pub step_tree : BoundStep → Tree AtomVariable
step_tree step = operation step.operator (operand_tree step.left) (operand_tree step.right)

-- an expression is an operand: a number, or a variable with a number that an atom's can have
abbrev pub is_operand : Tree AtomVariable → Bool
is_operand (number n) = true
is_operand (variable v) = nat_lt v.variable MAX_VARIABLES
is_operand (negation e) = false
is_operand (operation op e f) = false

-- an expression is an operator over two operands
abbrev pub is_step : Tree AtomVariable → Bool
is_step (number n) = false
is_step (variable v) = false
is_step (negation e) = false
is_step (operation op e f) = is_operand e && is_operand f
