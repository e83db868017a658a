use Rattle.std.proofs.Common.{◌≡◌, map, take}
use Rattle.petri_atom.specs.Atom.{definition_of}
use Rattle.recorded_picks.proofs.names.index_of_atoms.Given as goal

abbrev pub invariant-loop-atom : goal.invariant-loop-atom
invariant-loop-atom l = l.names ≡ map (λ a. (definition_of a).name) (take l.atom-index l.atoms)
