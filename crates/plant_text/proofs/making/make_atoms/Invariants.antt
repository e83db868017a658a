use Rattle.std.proofs.Common.{◌≡◌, map}
use Rattle.petri_atom.specs.Atom.{definition_of}
use Rattle.atom_lines.specs.Draft.{drafted}
use Rattle.plant_text.proofs.making.make_atoms.Given as goal

-- the atoms so far are those of the drafts so far
abbrev pub invariant-loop-draft : goal.invariant-loop-draft
invariant-loop-draft l = map definition_of l.atoms.items ≡ map drafted l.yielded
