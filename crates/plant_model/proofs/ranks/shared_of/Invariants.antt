use Rattle.std.proofs.Common.{◌≡◌, ◌<◌, ◌↔◌, ℕ, true, false}
use Rattle.std.specs.FinSet.{contains}
use Rattle.priority_filter.specs.Members.{has_bit}
use Rattle.plant_model.specs.Ranks.{is_own}
use Rattle.plant_model.proofs.ranks.shared_of.Given as goal

-- the connectors so far that have interactions and all in the set, and what it has beside theirs
abbrev pub invariant-loop-number : goal.invariant-loop-number
invariant-loop-number l =
    ((e : ℕ) → (has_bit l.whole e ≡ true) ↔ ((e < l.number) × (((m : ℕ) × (is_own l.rows e m ≡ true)) × ((m : ℕ) → is_own l.rows e m ≡ true → contains l.all m ≡ true)))) ×
    ((m : ℕ) → (contains l.heads m ≡ true) ↔ ((contains l.all m ≡ true) × ((e : ℕ) → has_bit l.whole e ≡ true → is_own l.rows e m ≡ false)))
