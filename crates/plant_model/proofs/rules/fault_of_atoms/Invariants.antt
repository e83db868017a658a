use Rattle.std.proofs.Common.{◌≡◌, map, drop}
use Rattle.petri_atom.specs.Atom.{definition_of}
use Rattle.plant_model.specs.Rules.{first_fault_in, atom_fault}
use Rattle.plant_model.proofs.rules.fault_of_atoms.Given as goal

abbrev pub invariant-loop-number : goal.invariant-loop-number
invariant-loop-number l =
    let tell = atom_fault (map definition_of l.atoms) in
    first_fault_in tell l.number (map definition_of (drop l.number l.atoms)) ≡ first_fault_in tell 0 (map definition_of l.atoms)
