use Rattle.std.proofs.Common.{◌∙◌, ap, sym}
use Rattle.petri_atom.specs.Expression.{tree_of}
use Rattle.blocked_text.specs.Variables.{variables_in}
use Rattle.blocked_text.proofs.Seeking.{found, found-entry}
use Rattle.blocked_text.proofs.variables.variable_at.Goals as goal

pub returns-in-Ok : goal.returns-in-Ok
returns-in-Ok g c = ap found (sym c.in-Ok.is ∙ c.seek.ensures) ∙ found-entry c.args.place (variables_in (tree_of c.args.expression.now))

pub returns-in-Err : goal.returns-in-Err
returns-in-Err g c = ap found (sym c.in-Err.is ∙ c.seek.ensures) ∙ found-entry c.args.place (variables_in (tree_of c.args.expression.now))
