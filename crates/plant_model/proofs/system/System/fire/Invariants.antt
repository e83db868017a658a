use Rattle.std.proofs.Common.{◌≡◌, map, take}
use Rattle.petri_atom.specs.Atom.{definition_of}
use Rattle.plant_model.specs.Chosen.{firing_of}
use Rattle.plant_model.specs.Fitting.{AllFit}
use Rattle.plant_model.specs.Step.{stepped_from, transfer}
use Rattle.plant_model.specs.System.{plant_of}
use Rattle.plant_model.proofs.system.System.fire.Given as goal

-- the moves so far are made
abbrev pub invariant-loop-place : goal.invariant-loop-place
invariant-loop-place l =
    (l.states-inside.states.items ≡ stepped_from (map definition_of l.self.atoms.items) (take l.place l.moves) (transfer (plant_of l.self) l.fn.states (firing_of l.choice l.inputs)) 0 l.fn.states) ×
    (AllFit (plant_of l.self) l.fn.states → AllFit (plant_of l.self) l.states-inside.states.items)
