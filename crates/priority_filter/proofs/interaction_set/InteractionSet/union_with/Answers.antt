use Rattle.std.proofs.Common.{◌∙◌, ap}
use Rattle.std.specs.FinSet as set
use Rattle.priority_filter.specs.Members.{members_of}
use Rattle.priority_filter.proofs.CommonMembers.{members_of-united}
use Rattle.priority_filter.proofs.interaction_set.InteractionSet.union_with.Goals as goal

pub returns : goal.returns
returns c =
    members_of-united c.self.inside.words c.other.inside.words c.unite.new.words 16 c.self.told c.other.told c.unite.array_long c.unite.ensures.united
    ∙ ap (λ s. set.union s (members_of c.other.inside.words)) c.self.view_is
    ∙ ap (set.union c.args.self.now) c.other.view_is
