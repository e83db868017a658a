use Rattle.connector_tree.proofs.Algebra.{bracket_of_one}
use Rattle.connector_tree.proofs.laws.bracket_of_one_changes_nothing.Goals as goal

pub returns : goal.returns
returns c = bracket_of_one
