-- The names of the wires are those of the plant's connectors.
use Rattle.std.proofs.Common.{◌≡◌, ◌∙◌, ap, map, subst, sym}
use Rattle.std.specs.Prelude.{IfOk}
use Rattle.std.proofs.lemmas.Simd.{map-map}
use Rattle.plant_model.specs.Plant.{WireDefinition}
use Rattle.plant_model.specs.System.{plant_of}
use Rattle.plant_model.specs.Wire.{wire_of}
use Rattle.shown_fault.specs.Lent.{lists_of}
use Rattle.shown_fault.specs.Near.{near_line}
use Rattle.plant_tasks.specs.Near.{connector_names}
use Rattle.plant_tasks.proofs.near.near_connector.Goals as goal

pub returns : goal.returns
returns c =
    let names : lists_of c.deref.result.now ≡ connector_names (plant_of c.args.system.now) =
    ap lists_of c.deref.ensures.value ∙ c.in_ok-names.ensures ∙ sym (map-map (λ (w : WireDefinition). w.name) wire_of c.wires.result.now) ∙ ap (map (λ (w : WireDefinition). w.name)) c.wires.ensures in
    subst (λ all. IfOk c.near_line.result (λ line. line.items ≡ near_line c.args.name.now all)) names c.near_line.ensures
