use Rattle.read_back.proofs.Plants.{tree_read, guard_read, target_found, value_read, condition_read, updated_found, update_read, line_read}
use Rattle.read_back.proofs.laws.what_a_plant_holds_is_read_back.Goals as goal

pub returns : goal.returns
returns c = record {
  tree = λ plant w kept own. tree_read plant kept w own;
  guard = λ plant w e kept own at numbers. guard_read plant kept w own e at numbers;
  target = λ plant w t kept own at. target_found plant kept w own t at;
  value = λ plant w t kept own at numbers. value_read plant kept w own t at numbers;
  condition = λ plant a t kept own at numbers. condition_read plant kept a own t at numbers;
  updated = λ plant a t u kept own at in_it. updated_found plant kept a own t at u in_it;
  update = λ plant a t u kept own at in_it numbers. update_read plant kept a own t at u in_it numbers;
  rule = λ plant rule rules kept own room. line_read plant kept rule rules own room;
}
