use Rattle.std.proofs.Common.{◌∙◌, sym}
use Rattle.connector_tree.specs.Tree.{tree_of}
use Rattle.connector_tree.proofs.TokenMeaning.{interactions_written}
use Rattle.shown_fault.proofs.interaction.masks_of.Goals as goal

pub returns-in-Ok : goal.returns-in-Ok
returns-in-Ok c = c.in-Ok.ensures.list ∙ sym (interactions_written (tree_of c.args.connector.now))
