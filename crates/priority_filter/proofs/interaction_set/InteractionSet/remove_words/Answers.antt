use Rattle.std.proofs.Common.{◌∙◌, ◌&&◌, not, ap}
use Rattle.std.specs.FinSet as set
use Rattle.priority_filter.specs.Members.{holds}
use Rattle.priority_filter.proofs.MemberLaws.{contains-members_of, held}
use Rattle.priority_filter.proofs.CommonMembers.{united-past}
use Rattle.priority_filter.proofs.interaction_set.InteractionSet.remove_words.Goals as goal

pub returns-clause-within : goal.returns-clause-within
returns-clause-within c n below =
    let old = c.self.inside.words in
    let other = c.other.inside.words in
    contains-members_of c.subtract.new.words n ∙
    c.subtract.ensures.cleared n below ∙
    ap (λ b. b && not (holds other n)) (held old c.args.self.now c.self.view_is n) ∙
    ap (λ b. set.contains c.args.self.now n && not b) (held other c.args.other.now c.other.view_is n)

pub returns-clause-past : goal.returns-clause-past
returns-clause-past c n past =
    united-past c.self.inside.words c.other.inside.words c.subtract.new.words c.args.words c.subtract.ensures.rest n past ∙
    ap (λ s. set.contains s n) c.self.view_is
