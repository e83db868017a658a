use Rattle.plant_image.proofs.OnContents.{saved_leads}
use Rattle.plant_image.proofs.laws.a_state_on_the_way_leads_to_the_same.Goals as goal

pub returns : goal.returns
returns c = λ plant contents states counts number a saved leads at slots way early. saved_leads plant contents states counts number leads a saved at slots way early
