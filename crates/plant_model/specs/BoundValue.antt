-- The ways to the value of an expression over variables of atoms.
use Rattle.std.specs.Prelude.{◌≡◌, true, List}
use Rattle.petri_atom.specs.Expression.{Tree, value_of}
use Rattle.petri_atom.specs.Local.{Local}
use Rattle.petri_atom.specs.StraightCode.{IsCodeOf}
use Rattle.plant_model.specs.BoundStep.{step_tree}
use Rattle.plant_model.specs.Numbering.{are_listed, numbered}
use Rattle.plant_model.specs.Values.{value_there}
use Rattle.plant_model.specs.declared.bound_expressions.AtomVariable.{AtomVariable}
use Rattle.plant_model.specs.declared.bound_value.ValueWay.{ValueWay}
use Rattle.plant_model.specs.declared.bound_value.ValueWay.TheVariants.{Copied, Coded, Stepped}
use Rattle.plant_model.specs.declared.bound_step.BoundStep.{BoundStep}
use Rattle.plant_model.specs.declared.row_code.RowCode.{RowCode}
use Rattle.plant_model.specs.declared.variable_cell.VariableCell.{VariableCell}

-- code over a row of variables is that of an expression: each variable of it is in the row, and with its variables as their places there it is what the code was made of
abbrev pub IsRowCodeOf : RowCode → Tree AtomVariable → Type 0
IsRowCodeOf c tree = (are_listed c.variables.items tree ≡ true) × IsCodeOf c.code (numbered c.variables.items tree)

-- a way gives the value of an expression in each global state: what it copies or its operator makes has that value, or its code is that of the
-- expression; a walk over the expression gives the value anyway
pub record IsWayTo (way : ValueWay) (tree : Tree AtomVariable) : Type 0 where
  pub copied : (cell : VariableCell) (states : List Local) → way ≡ Copied cell → value_there states cell.variable ≡ value_of (value_there states) tree
  pub stepped : (step : BoundStep) (states : List Local) → way ≡ Stepped step → value_of (value_there states) (step_tree step) ≡ value_of (value_there states) tree
  pub coded : (code : RowCode) → way ≡ Coded code → IsRowCodeOf code tree
