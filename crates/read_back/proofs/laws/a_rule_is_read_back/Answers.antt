use Rattle.read_back.proofs.Sides.{rule_read, side_read}
use Rattle.read_back.proofs.laws.a_rule_is_read_back.Goals as goal

pub returns : goal.returns
returns c = record {
  side = λ plant side named held. side_read plant named side held;
  rule = λ plant rule rules named held known room. rule_read plant named rule rules held known room;
}
