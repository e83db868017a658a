use Rattle.run_text.proofs.Takes.{taken-stuck}
use Rattle.run_text.proofs.laws.where_a_pick_takes_nothing.Goals as goal

pub returns : goal.returns
returns c = λ plant states take is. taken-stuck plant states take is
