use Rattle.std.proofs.Common.{◌∙◌, ◌||◌, ap}
use Rattle.std.specs.FinSet as set
use Rattle.priority_filter.specs.Members.{members_of}
use Rattle.priority_filter.proofs.CommonMembers.{united-within, united-past}
use Rattle.priority_filter.proofs.interaction_set.InteractionSet.union_words.Goals as goal

pub returns-clause-within : goal.returns-clause-within
returns-clause-within c n below =
    united-within c.self.inside.words c.other.inside.words c.unite.new.words c.args.words c.unite.ensures.united n below ∙
    ap (λ s. set.contains s n || set.contains (members_of c.other.inside.words) n) c.self.view_is ∙
    ap (λ s. set.contains c.args.self.now n || set.contains s n) c.other.view_is

pub returns-clause-past : goal.returns-clause-past
returns-clause-past c n past =
    united-past c.self.inside.words c.other.inside.words c.unite.new.words c.args.words c.unite.ensures.rest n past ∙
    ap (λ s. set.contains s n) c.self.view_is
