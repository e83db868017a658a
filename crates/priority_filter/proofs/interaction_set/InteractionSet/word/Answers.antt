use Rattle.std.proofs.Common.{◌∙◌, ◌%◌, ap, sym, get_or}
use Rattle.std.specs.FinSet as set
use Rattle.priority_filter.specs.Members.{has_bit}
use Rattle.priority_filter.proofs.MemberLaws.{contains-members_of}
use Rattle.priority_filter.proofs.interaction_set.InteractionSet.word.Goals as goal

pub returns : goal.returns
returns c n at =
    let words = c.self.inside.words in
    ap (λ k. has_bit (get_or words k 0) (n % 64)) (sym at) ∙ sym (contains-members_of words n) ∙
    ap (λ s. set.contains s n) c.self.view_is
