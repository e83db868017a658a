use Rattle.std.proofs.Common.{refl}
use Rattle.petri_atom.specs.Local.{set_below}
use Rattle.petri_atom.proofs.state.Delivered.clear.Goals as goal

pub invariant_of-self : goal.invariant_of-self
unfolding set_below
invariant_of-self c = (refl, refl)
