use Rattle.read_back.proofs.OnePart.{atoms_named, condition_named, wires_named}
use Rattle.read_back.proofs.OwnRules.{own_rule}
use Rattle.read_back.proofs.laws.a_plant_is_named_apart.Goals as goal

pub returns : goal.returns
returns c = record {
  atoms = λ plant valid formed names. atoms_named plant valid names formed;
  connectors = λ plant valid names. wires_named plant valid names;
  rules = λ plant rule valid own. own_rule plant valid rule own;
  conditions = λ plant rule valid formed names own. condition_named plant valid names formed rule own;
}
