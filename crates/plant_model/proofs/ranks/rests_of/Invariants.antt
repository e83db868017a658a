use Rattle.std.proofs.Common.{map}
use Rattle.priority_filter.specs.Active.{unconditional}
use Rattle.priority_filter.specs.Decided.{is_below}
use Rattle.plant_model.specs.Interaction.{interaction_of}
use Rattle.plant_model.specs.Ranks.{AreRests}
use Rattle.plant_model.proofs.ranks.rests_of.Given as goal

abbrev pub invariant-loop-number : goal.invariant-loop-number
invariant-loop-number l =
    AreRests (is_below (unconditional l.order.rules) l.order.interactions) (map interaction_of l.interactions) l.shared l.number (record { parts = l.parts; with_rest = l.with_rest; watched = l.watched })
