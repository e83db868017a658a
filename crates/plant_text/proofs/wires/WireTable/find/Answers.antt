use Rattle.std.proofs.Common.{◌∙◌, ap, subst, ◌<◌, ℕ, length, IfSome}
use Rattle.std.proofs.lemmas.List.{length-map}
use Rattle.plant_text.specs.Parts.{wire_listed}
use Rattle.plant_text.specs.declared.listed.ListedWire.{ListedWire}
use Rattle.plant_text.proofs.Indexed.{place_of_wire}
use Rattle.plant_text.proofs.wires.WireTable.find.Goals as goal

pub returns-clause-first : goal.returns-clause-first
returns-clause-first c =
    let table = c.args.self.now in
    c.find.ensures.first ∙ place_of_wire table.wires.now table.names.now c.args.name.now table.named

pub returns-clause-within : goal.returns-clause-within
returns-clause-within c =
    let table = c.args.self.now in
    subst (λ (count : ℕ). IfSome c.find.result (λ index. index < count))
    (ap length table.named ∙ length-map table.wires.now (λ (w : ListedWire). (wire_listed w).name)) c.find.ensures.within
