use Rattle.std.proofs.Common.{◌≡◌, ◌++◌, map, drop}
use Rattle.plant_model.specs.Choice.{interactions_from}
use Rattle.plant_model.specs.Interaction.{interaction_of}
use Rattle.plant_model.specs.Wire.{wire_of}
use Rattle.plant_model.proofs.system.interactions_of_wires.Given as goal

abbrev pub invariant-loop-number : goal.invariant-loop-number
invariant-loop-number l =
    map interaction_of l.all.items ++ interactions_from l.atoms l.number (map wire_of (drop l.number l.wires)) ≡
    interactions_from l.atoms 0 (map wire_of l.wires)
