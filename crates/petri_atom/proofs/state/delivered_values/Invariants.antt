use Rattle.std.proofs.Common.{◌≡◌, pos, length, take, map}
use Rattle.std.specs.Prelude.{unwrap_or}
use Rattle.petri_atom.specs.declared.state.TheConstants.{MAX_EXPORTS}
use Rattle.petri_atom.proofs.state.delivered_values.Given as goal

abbrev pub invariant-loop-number : goal.invariant-loop-number
invariant-loop-number l =
    (take l.number l.all ≡ map (λ value. unwrap_or value (pos 0)) (take l.number l.values)) ×
    (length l.all ≡ MAX_EXPORTS)
