-- The writer took each update so far.
use Rattle.std.proofs.Common.{map, take}
use Rattle.std.specs.Prelude.{flat_map}
use Rattle.std.specs.Io.KnownBytes.{Appends}
use Rattle.petri_atom.specs.Atom.{definition_of}
use Rattle.petri_atom.specs.Update.{update_of}
use Rattle.plant_drawing.specs.Atom.{update_text}
use Rattle.plant_drawing.proofs.transition.print_updates.Given as goal

abbrev pub invariant-loop-update : goal.invariant-loop-update
invariant-loop-update g l =
    Appends (g.W.Write.contents l.initial.output) (g.W.Write.contents l.output) (flat_map (update_text (definition_of l.atom)) (map update_of (take l.update-index l.updates)))
