-- The variable does not stand at a place so far.
use Rattle.std.proofs.Common.{◌≡◌, false, take}
use Rattle.std.specs.List.{list_any}
use Rattle.petri_atom.specs.Expression.{tree_of}
use Rattle.blocked_text.specs.Variables.{variables_in}
use Rattle.blocked_text.proofs.variables.is_before.Given as goal

abbrev pub invariant-loop-earlier : goal.invariant-loop-earlier
invariant-loop-earlier g l = list_any (λ v. g.V.Same.same v l.variable) (take l.earlier (variables_in (tree_of l.expression))) ≡ false
