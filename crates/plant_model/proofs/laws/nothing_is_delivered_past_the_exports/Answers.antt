use Rattle.plant_model.proofs.PastExports.{delivered-long, past-exports}
use Rattle.plant_model.proofs.laws.nothing_is_delivered_past_the_exports.Goals as goal

pub returns-clause-places : goal.returns-clause-places
returns-clause-places c = delivered-long

pub returns-clause-none_past : goal.returns-clause-none_past
returns-clause-none_past c = past-exports
