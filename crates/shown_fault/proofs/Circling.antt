-- The connectors that rules reach, round by round.
use Rattle.std.proofs.Common.{◌≡◌, ap, ℕ, suc, ◌+◌, ◌-◌, ◌<◌, arith, Bool, List}
use Rattle.shown_fault.specs.Circle.{spread, reached}

-- one of the rounds that are left is made
pub one_round : (rounds round : ℕ) (is_up : Bool) (names lines : List (List ℕ)) → round < rounds →
    reached (rounds - round) is_up names lines ≡ reached (rounds - (round + 1)) is_up (spread is_up names lines) lines
one_round rounds round is_up names lines more =
    let left : rounds - round ≡ suc (rounds - (round + 1)) = omega arith in ap (λ n. reached n is_up names lines) left
