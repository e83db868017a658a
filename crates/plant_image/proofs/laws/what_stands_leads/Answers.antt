use Rattle.plant_image.proofs.Standings.{stands_leads, leads_stands}
use Rattle.plant_image.proofs.laws.what_stands_leads.Goals as goal

pub returns-clause-leads : goal.returns-clause-leads
returns-clause-leads c = λ plant digest bytes number cells states stands. stands_leads plant digest bytes cells states number stands

pub returns-clause-stands : goal.returns-clause-stands
returns-clause-stands c = λ plant digest bytes number cells states counts none leads. leads_stands plant digest bytes cells states number counts none leads
