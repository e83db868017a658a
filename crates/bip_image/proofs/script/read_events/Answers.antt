-- The script that was read is what the reader gave.
use Rattle.std.proofs.Common.{◌≡◌, ◌∙◌, sym, ap}
use Rattle.std.specs.Prelude.{Ok}
use Rattle.std.proofs.lemmas.Result.{err_from_is_err_and}
use Rattle.plant_model.specs.System.{plant_of}
use Rattle.script_lines.specs.Script.{script_meaning}
use Rattle.plant_tasks.proofs.Printing.{of_known}
use Rattle.bip_image.proofs.script.read_events.Goals as goal

pub returns-clause-events : goal.returns-clause-events
returns-clause-events g c =
    let plant = plant_of c.args.system.now in
    of_known _ c.in_ok-bytes.bytes.items (λ bytes. script_meaning plant bytes ≡ Ok c.in_ok-read_script.field-0.items) c.in_ok-bytes.ensures.all
    (sym (ap (script_meaning plant) c.deref.ensures.value) ∙ c.in_ok-read_script.ensures.events)

pub returns-in_err-bytes-clause-refused : goal.returns-in_err-bytes-clause-refused
returns-in_err-bytes-clause-refused g c =
    let told = err_from_is_err_and c.from_residual.result c.from_residual.ensures.1 in
    rw (told.1, told.2) (c.in_err-bytes.ensures.refused (plant_of c.args.system.now))
