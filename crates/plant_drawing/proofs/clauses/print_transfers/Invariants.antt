-- The writer took each transfer so far.
use Rattle.std.proofs.Common.{map, take}
use Rattle.std.specs.Prelude.{flat_map}
use Rattle.std.specs.Io.KnownBytes.{Appends}
use Rattle.petri_atom.specs.Atom.{definition_of}
use Rattle.plant_model.specs.Wire.{transfer_of}
use Rattle.connector_tree.specs.Tree as connectors
use Rattle.plant_drawing.specs.Connector.{transfer_line}
use Rattle.plant_drawing.proofs.clauses.print_transfers.Given as goal

abbrev pub invariant-loop-transfer : goal.invariant-loop-transfer
invariant-loop-transfer g l =
    Appends (g.W.Write.contents l.initial.output) (g.W.Write.contents l.output)
    (flat_map (transfer_line (map definition_of l.exports.atoms.now) (connectors.leaves (connectors.tree_of l.exports.connector.now))) (map transfer_of (take l.transfer-index l.transfers)))
