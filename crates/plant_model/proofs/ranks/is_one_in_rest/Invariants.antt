use Rattle.std.proofs.Common.{◌≡◌, ◌<◌, ◌≤◌, ℕ, true, false}
use Rattle.std.specs.FinSet.{contains}
use Rattle.plant_model.specs.Ranks.{is_in_parts, parts_at}
use Rattle.plant_model.proofs.ranks.is_one_in_rest.Given as goal

abbrev pub invariant-loop-number : goal.invariant-loop-number
invariant-loop-number l =
    (n m : ℕ) → l.first ≤ n → n < l.number → contains l.set m ≡ true → is_in_parts (parts_at l.rest n) m ≡ false
