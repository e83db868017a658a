use Rattle.std.specs.Prelude.{map}
use Rattle.petri_atom.specs.Expression.{tree_of}
use Rattle.connector_tree.specs.Tree as connectors
use Rattle.plant_model.specs.Plant.{TransferDefinition, WireDefinition}
use Rattle.plant_model.specs.declared.wire.Transfer.{Transfer}
use Rattle.plant_model.specs.declared.wire.Wire.{Wire}

-- a transfer as it was written
abbrev pub transfer_of : Transfer → TransferDefinition
transfer_of t = record { target = t.target; value = tree_of t.value }

-- a wire as it was written
abbrev pub wire_of : Wire → WireDefinition
wire_of w = record {
  name = w.name;
  connector = connectors.tree_of w.connector;
  guards = map tree_of w.guards.items;
  transfers = map transfer_of w.transfers.items;
  inputs = w.inputs.items;
}
