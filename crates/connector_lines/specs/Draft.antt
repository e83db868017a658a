-- The connector so far.
use Rattle.std.specs.Prelude.{[], map}
use Rattle.petri_atom.specs.Expression.{tree_of}
use Rattle.connector_tree.specs.Tree as connectors
use Rattle.plant_model.specs.Plant.{WireDefinition}
use Rattle.plant_model.specs.Wire.{transfer_of}
use Rattle.connector_lines.specs.declared.draft.WireDraft.{WireDraft}

-- the connector as its lines have written it so far; no line writes an input
abbrev pub drafted : WireDraft → WireDefinition
drafted d = record {
  name = d.name;
  connector = connectors.tree_of d.connector;
  guards = map tree_of d.guards.items;
  transfers = map transfer_of d.transfers.items;
  inputs = [];
}
