use Rattle.std.proofs.Common.{ℕ, ◌∙◌, sym, arith, IsTrue}
use Rattle.priority_filter.specs.Members.{holds}
use Rattle.priority_filter.proofs.MemberLaws.{held, holds_within}
use Rattle.priority_filter.proofs.interaction_set.InteractionSet.intersects.Goals as goal

pub returns : goal.returns
returns c =
    let words = c.self.inside.words in
    let mine = held words c.args.self.now c.self.view_is in
    let theirs = held c.other.inside.words c.args.other.now c.other.view_is in (
      λ yes_. let some = c.have_common_bit.ensures.0 yes_ in (some.0, sym (mine some.0) ∙ some.2, sym (theirs some.0) ∙ some.3),
      λ some.
          let a : ℕ = some.0 in
          let there : IsTrue (holds words a) = mine a ∙ some.1 in
          c.have_common_bit.ensures.1 (a, omega (arith, holds_within words a there, c.self.told), there, theirs a ∙ some.2),
    )
