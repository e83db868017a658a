use Rattle.std.proofs.Common.{◌≡◌, map, take, length}
use Rattle.petri_atom.specs.Atom.{definition_of}
use Rattle.petri_atom.specs.Definition.{initial}
use Rattle.plant_model.proofs.Initial.{FirstFit}
use Rattle.plant_model.proofs.state.PlantState.init.Given as goal

abbrev pub invariant-loop-atom : goal.invariant-loop-atom
invariant-loop-atom l =
    (l.states.items ≡ map (λ a. initial (definition_of a)) (take l.atom-index l.atoms)) ×
    (length l.states.items ≡ l.atom-index) × FirstFit l.atoms l.states.items l.atom-index
