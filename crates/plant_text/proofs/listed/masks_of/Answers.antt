use Rattle.std.proofs.Common.{◌∙◌, sym}
use Rattle.connector_tree.specs.Tree.{tree_of}
use Rattle.connector_tree.proofs.TokenMeaning.{interactions_written}
use Rattle.plant_text.proofs.listed.masks_of.Goals as goal

pub returns-in-Ok-clause-masks : goal.returns-in-Ok-clause-masks
returns-in-Ok-clause-masks c = c.in-Ok.ensures.list ∙ sym (interactions_written (tree_of c.args.connector.now))
