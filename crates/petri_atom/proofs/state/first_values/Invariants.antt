use Rattle.std.proofs.Common.{◌≡◌, length, take, map}
use Rattle.petri_atom.specs.declared.state.TheConstants.{MAX_VARIABLES}
use Rattle.petri_atom.specs.Local.{IsZeroFrom}
use Rattle.petri_atom.proofs.state.first_values.Given as goal

abbrev pub invariant-loop-number : goal.invariant-loop-number
invariant-loop-number l =
    (take l.number l.values ≡ map (λ v. v.first) (take l.number l.variables)) × IsZeroFrom l.number l.values ×
    (length l.values ≡ MAX_VARIABLES)
