use Rattle.std.proofs.Common.{◌≡◌}
use Rattle.petri_atom.specs.Local.{set_below}
use Rattle.plant_tasks.specs.Drawn.{is_named_in}
use Rattle.plant_tasks.proofs.drawing.set_of.Given as goal

abbrev pub invariant-loop-number : goal.invariant-loop-number
invariant-loop-number l = l.set ≡ set_below l.number (is_named_in l.names l.atoms)
