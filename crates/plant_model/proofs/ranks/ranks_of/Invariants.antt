use Rattle.std.proofs.Common.{◌≡◌, ℕ, length}
use Rattle.std.specs.Prelude.{Some, slice_get}
use Rattle.priority_filter.specs.Active.{unconditional}
use Rattle.priority_filter.specs.Decided.{is_below}
use Rattle.plant_model.specs.Ranks.{IsRankBy}
use Rattle.plant_model.specs.declared.ranks.Rank.{Rank}
use Rattle.plant_model.proofs.ranks.ranks_of.Given as goal

-- there is a rank of each connector so far
abbrev pub invariant-loop-connector : goal.invariant-loop-connector
invariant-loop-connector l =
    (length l.of_connectors.items ≡ l.connector) ×
    ((k : ℕ) (r : Rank) → slice_get l.of_connectors.items k ≡ Some r → IsRankBy (is_below (unconditional l.order.rules) l.order.interactions) l.rows l.shared.items l.rests.parts.items k r)
