use Rattle.std.proofs.Common.{◌≡◌}
use Rattle.plant_model.specs.Choice.{by_atom}
use Rattle.plant_model.proofs.interactions.ports_by_atom.Given as goal

abbrev pub invariant-loop-atom : goal.invariant-loop-atom
invariant-loop-atom l = l.ports.items ≡ by_atom l.atom l.taking_part.items
