-- Up to this number each atom is in its first state.
use Rattle.std.proofs.Common.{◌≡◌, map, take}
use Rattle.petri_atom.specs.Definition.{initial}
use Rattle.step_core.specs.Running.{plant_in, states_in}
use Rattle.run_tallies.proofs.restart.restart.Given as goal

abbrev pub invariant-loop-number : goal.invariant-loop-number
invariant-loop-number l = record {
  plant : plant_in l.run ≡ plant_in l.initial.run;
  first : take l.number (states_in l.run) ≡ map initial (take l.number (plant_in l.initial.run).atoms);
}
