use Rattle.std.proofs.Common.{◌≡◌, length, take, map}
use Rattle.connector_tree.specs.declared.tree.TheConstants.{MAX_LEAVES}
use Rattle.plant_model.proofs.choice.atoms_of.Given as goal

abbrev pub invariant-loop-place : goal.invariant-loop-place
invariant-loop-place l =
    (take l.place l.atoms ≡ map (λ m. m.atom) (take l.place l.moves)) × (length l.atoms ≡ MAX_LEAVES)
