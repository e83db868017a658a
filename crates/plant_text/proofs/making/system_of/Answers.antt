use Rattle.std.proofs.Common.{◌∙◌, ap}
use Rattle.std.proofs.lemmas.Result.{IfOk-from_err}
use Rattle.plant_model.specs.Made.{plant_by}
use Rattle.plant_text.specs.Parts.{plant_drafted}
use Rattle.plant_text.specs.Text.{text_of}
use Rattle.plant_text.proofs.Exits.{found_without_memory}
use Rattle.plant_text.proofs.Systems.{written_as_drafted, ordered_as_written, found_of_system}
use Rattle.plant_text.proofs.making.system_of.Goals as goal

pub returns-in-Ok-clause-made : goal.returns-in-Ok-clause-made
returns-in-Ok-clause-made c =
    let draft = c.args.draft in
    ap text_of c.in-Ok.ensures.made ∙
    written_as_drafted c.in_ok-atoms.atoms.items c.in_ok-wires.wires.items c.deref.result.now draft.atoms.items draft.wires.items c.in_ok-atoms.ensures c.in_ok-wires.ensures ∙
    ap (plant_drafted draft.atoms.items draft.wires.items) c.deref.ensures.value

pub returns-in-Ok-clause-ordered : goal.returns-in-Ok-clause-ordered
returns-in-Ok-clause-ordered c =
    let draft = c.args.draft in
    let atoms = c.in_ok-atoms.atoms.items in
    let wires = c.in_ok-wires.wires.items in
    let rules = c.deref.result.now in
    ordered_as_written (plant_by atoms wires rules) _ c.in-Ok.ensures.sound
    (written_as_drafted atoms wires rules draft.atoms.items draft.wires.items c.in_ok-atoms.ensures c.in_ok-wires.ensures ∙ ap (plant_drafted draft.atoms.items draft.wires.items) c.deref.ensures.value)

pub returns-clause-fault : goal.returns-clause-fault
returns-clause-fault c =
    let draft = c.args.draft in
    let atoms = c.in_ok-atoms.atoms.items in
    let wires = c.in_ok-wires.wires.items in
    let rules = c.deref.result.now in
    rw (c.of_no_line.ensures, c.system_fault.ensures)
    (found_of_system c.in-Err.fault (plant_by atoms wires rules) _ c.requires c.in-Err.ensures.fault
    (written_as_drafted atoms wires rules draft.atoms.items draft.wires.items c.in_ok-atoms.ensures c.in_ok-wires.ensures ∙ ap (plant_drafted draft.atoms.items draft.wires.items) c.deref.ensures.value))

pub returns-in_err-atoms-clause-made : goal.returns-in_err-atoms-clause-made
returns-in_err-atoms-clause-made c = IfOk-from_err c.from_residual.result _ c.from_residual.ensures.0

pub returns-in_err-atoms-clause-ordered : goal.returns-in_err-atoms-clause-ordered
returns-in_err-atoms-clause-ordered c = IfOk-from_err c.from_residual.result _ c.from_residual.ensures.0

pub returns-in_err-atoms-clause-digest : goal.returns-in_err-atoms-clause-digest
returns-in_err-atoms-clause-digest c = IfOk-from_err c.from_residual.result _ c.from_residual.ensures.0

pub returns-in_err-atoms-clause-fault : goal.returns-in_err-atoms-clause-fault
returns-in_err-atoms-clause-fault c = found_without_memory c.from_residual.result _ c.from_residual.ensures.1

pub returns-in_err-wires-clause-made : goal.returns-in_err-wires-clause-made
returns-in_err-wires-clause-made c = IfOk-from_err c.from_residual-in_err-wires.result _ c.from_residual-in_err-wires.ensures.0

pub returns-in_err-wires-clause-ordered : goal.returns-in_err-wires-clause-ordered
returns-in_err-wires-clause-ordered c = IfOk-from_err c.from_residual-in_err-wires.result _ c.from_residual-in_err-wires.ensures.0

pub returns-in_err-wires-clause-digest : goal.returns-in_err-wires-clause-digest
returns-in_err-wires-clause-digest c = IfOk-from_err c.from_residual-in_err-wires.result _ c.from_residual-in_err-wires.ensures.0

pub returns-in_err-wires-clause-fault : goal.returns-in_err-wires-clause-fault
returns-in_err-wires-clause-fault c = found_without_memory c.from_residual-in_err-wires.result _ c.from_residual-in_err-wires.ensures.1
