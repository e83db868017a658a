use Rattle.connector_tree.proofs.Algebra.{full_interaction}
use Rattle.connector_tree.proofs.laws.full_mask_is_an_interaction.Goals as goal

pub returns : goal.returns
returns c = full_interaction
