use Rattle.priority_filter.proofs.MemberLaws.{members_of-zeros}
use Rattle.priority_filter.proofs.interaction_set.InteractionSet.new.Goals as goal

pub returns : goal.returns
returns c = members_of-zeros 16
