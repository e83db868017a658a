use Rattle.std.proofs.Common.{◌≡◌, map, take}
use Rattle.plant_model.specs.BoundExpressions.{input_by, inputs_of}
use Rattle.plant_model.proofs.bound_expressions.inputs_of.Given as goal

-- what is found of the inputs so far
abbrev pub invariant-loop-input : goal.invariant-loop-input
invariant-loop-input l = inputs_of l.all.items ≡ map (input_by l.ports) (take l.input-index l.written)
