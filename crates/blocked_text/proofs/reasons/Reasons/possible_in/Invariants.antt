use Rattle.std.proofs.Common.{false}
use Rattle.plant_model.specs.Choice.{is_possible_at, plant_interactions}
use Rattle.blocked_text.specs.Asked.{plant_asked}
use Rattle.blocked_text.proofs.Filling.{Filled}
use Rattle.blocked_text.proofs.reasons.Reasons.possible_in.Given as goal

-- what is said of the first interactions is right
abbrev pub invariant-loop-number : goal.invariant-loop-number
invariant-loop-number l =
    Filled (is_possible_at (plant_asked l.self).atoms (plant_asked l.self).wires l.states (plant_interactions (plant_asked l.self))) false l.number l.possible
