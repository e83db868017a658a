-- The usual weights.
use Rattle.std.proofs.Common.{◌≡◌, ◌<◌, ◌≤◌, ℕ, arith, get_or, length, replicate, ⊎_elim}
use Rattle.std.proofs.lemmas.Bool.{cases_lt}
use Rattle.std.proofs.lemmas.List.{get_or-replicate, get_or_past, length-replicate}

-- no entry of a row of one number is more than it
pub at-most : (n weight place : ℕ) → get_or (replicate n weight) place 0 ≤ weight
at-most n weight place =
    ⊎_elim
    (λ less. omega (arith, get_or-replicate n place weight 0 less))
    (λ past. omega (arith, get_or_past (replicate n weight) place 0 (omega (arith, past, length-replicate n weight))))
    (cases_lt place n)
