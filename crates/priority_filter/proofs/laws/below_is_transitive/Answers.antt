use Rattle.priority_filter.specs.Order.{IsRuleStep}
use Rattle.priority_filter.proofs.Chains.{Leads-join}
use Rattle.priority_filter.proofs.laws.below_is_transitive.Goals as goal

pub returns : goal.returns
returns c = λ rules interactions a b d up on. Leads-join (IsRuleStep rules interactions) a b d up on
