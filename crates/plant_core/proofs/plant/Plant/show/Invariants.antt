use Rattle.std.proofs.Common.{◌≡◌, length, take}
use Rattle.plant_core.specs.Plants.{definition_of, view_of}
use Rattle.plant_core.proofs.plant.Plant.show.Given as goal

abbrev pub invariant-loop-atom : goal.invariant-loop-atom
invariant-loop-atom g l = record {
  as_many : length l.states ≡ length (definition_of l.self).atoms;
  same : take l.atom l.states ≡ take l.atom (view_of l.self).present;
}
