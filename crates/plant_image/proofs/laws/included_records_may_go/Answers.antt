use Rattle.plant_image.proofs.OnContents.{cut_leads}
use Rattle.plant_image.proofs.laws.included_records_may_go.Goals as goal

pub returns : goal.returns
returns c = λ plant contents states counts number base_cell count leads short behind. cut_leads plant contents states counts number leads base_cell count short behind
