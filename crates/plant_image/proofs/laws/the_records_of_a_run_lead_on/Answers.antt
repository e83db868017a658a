use Rattle.plant_image.proofs.OnContents.{run_leads}
use Rattle.plant_image.proofs.laws.the_records_of_a_run_lead_on.Goals as goal

pub returns : goal.returns
returns c = λ plant contents start end counts number cs leads run. run_leads plant contents start counts number leads end cs run
