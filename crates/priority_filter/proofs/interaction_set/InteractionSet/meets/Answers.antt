use Rattle.std.proofs.Common.{◌∙◌, sym}
use Rattle.priority_filter.proofs.MemberLaws.{held}
use Rattle.priority_filter.proofs.interaction_set.InteractionSet.meets.Goals as goal

pub returns : goal.returns
returns c =
    let mine = held c.self.inside.words c.args.self.now c.self.view_is in
    let theirs = held c.other.inside.words c.args.other.now c.other.view_is in (
      λ yes. let some = c.have_common_bit.ensures.0 yes in (some.0, some.1, sym (mine some.0) ∙ some.2, sym (theirs some.0) ∙ some.3),
      λ some. c.have_common_bit.ensures.1 (some.0, some.1, mine some.0 ∙ some.2, theirs some.0 ∙ some.3),
    )
