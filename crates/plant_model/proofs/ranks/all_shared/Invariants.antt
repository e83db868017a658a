use Rattle.std.proofs.Common.{◌≡◌, ℕ, length}
use Rattle.std.specs.Prelude.{Some, slice_get}
use Rattle.priority_filter.specs.Active.{unconditional}
use Rattle.priority_filter.specs.Decided.{is_below}
use Rattle.plant_model.specs.Ranks.{IsShared, is_own}
use Rattle.plant_model.specs.declared.ranks.Shared.{Shared}
use Rattle.plant_model.proofs.ranks.all_shared.Given as goal

abbrev pub invariant-loop-connector : goal.invariant-loop-connector
invariant-loop-connector l =
    (length l.all.items ≡ l.connector) ×
    ((k : ℕ) (s : Shared) → slice_get l.all.items k ≡ Some s → IsShared (is_below (unconditional l.order.rules) l.order.interactions) (is_own l.rows) k s)
