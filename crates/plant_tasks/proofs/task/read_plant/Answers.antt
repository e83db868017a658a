-- The text that was read is what the reader gave.
use Rattle.std.proofs.Common.{◌≡◌, ◌∙◌, sym, ap}
use Rattle.std.specs.Prelude.{Ok}
use Rattle.plant_model.specs.System.{plant_of}
use Rattle.plant_text.specs.Text.{text_of}
use Rattle.plant_text.specs.Meaning.{meaning}
use Rattle.plant_tasks.proofs.Printing.{of_known}
use Rattle.plant_tasks.proofs.task.read_plant.Goals as goal

pub returns-clause-plant : goal.returns-clause-plant
returns-clause-plant g c =
    of_known _ c.in_ok-text.field-0.items (λ bytes. meaning bytes ≡ Ok (text_of (plant_of c.in_ok-plant_of_text.field-0))) c.in_ok-text.ensures.all
    (sym (ap meaning c.deref.ensures.value) ∙ c.in_ok-plant_of_text.ensures.plant)
