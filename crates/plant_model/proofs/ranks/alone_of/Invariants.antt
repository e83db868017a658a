use Rattle.std.proofs.Common.{◌≡◌, ◌<◌, ◌↔◌, ℕ, true}
use Rattle.priority_filter.specs.Active.{unconditional}
use Rattle.priority_filter.specs.Decided.{is_below}
use Rattle.priority_filter.specs.Members.{has_bit}
use Rattle.plant_model.specs.Ranks.{IsAlone, is_own}
use Rattle.plant_model.proofs.ranks.alone_of.Given as goal

abbrev pub invariant-loop-connector : goal.invariant-loop-connector
invariant-loop-connector l =
    (k : ℕ) → (has_bit l.alone k ≡ true) ↔ ((k < l.connector) × IsAlone (is_below (unconditional l.order.rules) l.order.interactions) (is_own l.rows) k)
