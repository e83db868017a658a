use Rattle.std.proofs.Common.{◌≡◌, ◌<◌, ◌+◌, ◌-◌, ◌*◌}
use Rattle.step_core.specs.Weights.{sum_from}
use Rattle.step_core.proofs.weights.Weights.find_by_word.Given as goal

-- there is such a group, and the choices of those before it are passed
abbrev pub invariant-loop-group : goal.invariant-loop-group
invariant-loop-group l = (l.group < 8) × (l.place ≡ sum_from l.self.of_connectors 0 (8 * l.group) + l.left)

abbrev pub decreases-loop-group : goal.decreases-loop-group
decreases-loop-group l = 8 - l.group

-- there is such a connector, and the choices of those before it are
abbrev pub invariant-loop-connector : goal.invariant-loop-connector
invariant-loop-connector l = (l.connector < 64) × (l.place ≡ sum_from l.self.of_connectors 0 l.connector + l.left)

abbrev pub decreases-loop-connector : goal.decreases-loop-connector
decreases-loop-connector l = 64 - l.connector
