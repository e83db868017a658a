use Rattle.connector_tree.proofs.TokenMeaning.{port_sets_written, interactions_written}
use Rattle.connector_tree.proofs.laws.tokens_have_the_interactions.Goals as goal

pub returns-clause-port_sets : goal.returns-clause-port_sets
returns-clause-port_sets c = port_sets_written

pub returns-clause-interactions : goal.returns-clause-interactions
returns-clause-interactions c = interactions_written
