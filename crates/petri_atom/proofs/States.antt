use Rattle.std.proofs.Common.{◌≡◌, ap, ◌∙◌}
use Rattle.petri_atom.specs.Local.{Local}

-- two states with the same marking and the same values are the same
pub same_state : (a b : Local) → a.marking ≡ b.marking → a.values ≡ b.values → a ≡ b
same_state a b marking values =
    ap (λ m. record { marking = m; values = a.values }) marking ∙ ap (λ v. record { marking = b.marking; values = v }) values
