-- The writer took each name so far.
use Rattle.std.proofs.Common.{◌++◌, codes, take}
use Rattle.std.specs.Prelude.{flat_map}
use Rattle.std.specs.Io.KnownBytes.{Appends}
use Rattle.petri_atom.specs.Atom.{definition_of}
use Rattle.petri_atom.specs.Definition.{variable_name}
use Rattle.plant_drawing.proofs.atom.print_exports.Given as goal

abbrev pub invariant-loop-variable : goal.invariant-loop-variable
invariant-loop-variable g l =
    Appends (g.W.Write.contents l.initial.output) (g.W.Write.contents l.output) (flat_map (λ v. codes " " ++ variable_name (definition_of l.atom) v) (take l.variable-index l.exports))
