use Rattle.std.proofs.Common.{◌∙◌, ap, sym}
use Rattle.plant_model.specs.Made.{plant_by}
use Rattle.plant_model.specs.Rules.{first_of, fault_of_wires}
use Rattle.plant_model.proofs.system.first_fault.Goals as goal

pub returns-in-None : goal.returns-in-None
returns-in-None c =
    let plant = plant_by c.args.atoms.now c.args.wires.now c.args.rules.now in
    c.fault_of_wires.ensures ∙ ap (λ o. first_of o (fault_of_wires plant)) (sym c.in-None.is ∙ c.early_fault.ensures)
