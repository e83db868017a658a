-- The set has those of the first atoms that are behind.
use Rattle.std.proofs.Common.{◌≡◌, is_some}
use Rattle.petri_atom.specs.Local.{set_below}
use Rattle.plant_core.specs.Plants.{view_of}
use Rattle.plant_core.specs.View.{behind_state}
use Rattle.plant_core.proofs.plant.Plant.behind.Given as goal

abbrev pub invariant-loop-atom : goal.invariant-loop-atom
invariant-loop-atom g l = l.atoms ≡ set_below l.atom (λ k. is_some (behind_state (view_of l.self) k))
