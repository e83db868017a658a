use Rattle.std.proofs.Common.{◌∙◌, ap, arith}
use Rattle.std.specs.FinSet.{insert}
use Rattle.priority_filter.proofs.MemberLaws.{members_of-set_bit}
use Rattle.priority_filter.proofs.interaction_set.InteractionSet.insert.Goals as goal

pub returns-then-place-lt-INTERACTION_LIMIT-clause-within : goal.returns-then-place-lt-INTERACTION_LIMIT-clause-within
returns-then-place-lt-INTERACTION_LIMIT-clause-within c = λ _.
    members_of-set_bit c.self.inside.words c.from-place.result (omega arith)
    ∙ ap (λ s. insert s c.from-place.result) c.self.view_is
    ∙ ap (insert c.args.self.now) c.from-place.ensures
