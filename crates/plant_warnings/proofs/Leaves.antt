-- The connectors of a plant have few leaves.
use Rattle.std.proofs.Common.{◌≡◌, ◌∙◌, refl, ap, ℕ, ◌≤◌, ◌<◌, List, map, length, get_or}
use Rattle.std.specs.Prelude.{None, option_map}
use Rattle.std.proofs.lemmas.Option.{slice_get_read, slice_get-map}
use Rattle.connector_tree.specs.Tree.{leaves}
use Rattle.connector_tree.specs.declared.tree.TheConstants.{MAX_LEAVES}
use Rattle.plant_model.specs.Rules.{first_fault_in, tree_fault}
use Rattle.plant_model.specs.Wire.{wire_of}
use Rattle.plant_model.specs.declared.wire.Wire.{Wire}
use Rattle.plant_model.proofs.TreeRules.{few_leaves}

-- if no tree of connectors has a fault, the connector at a place has few leaves
pub few-leaves_at : (wires : List Wire) (i : ℕ) (w : Wire) → first_fault_in tree_fault 0 (map wire_of wires) ≡ None → i < length wires → w ≡ get_or wires i w
    → length (leaves (wire_of w).connector) ≤ MAX_LEAVES
few-leaves_at wires i w none within here =
    few_leaves (map wire_of wires) none i (wire_of w)
    (slice_get-map wire_of wires i ∙ ap (option_map wire_of) (slice_get_read wires (length wires) i w refl within here))
