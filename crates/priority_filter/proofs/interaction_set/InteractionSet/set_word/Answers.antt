use Rattle.std.proofs.Common.{◌<◌, ◌/◌, ◌%◌, ◌∙◌, ap, sym, arith, length, get_or, set, get_or-set_same, get_or-set_other}
use Rattle.std.specs.FinSet as fin
use Rattle.priority_filter.specs.Members.{has_bit}
use Rattle.priority_filter.proofs.MemberLaws.{contains-members_of}
use Rattle.priority_filter.proofs.interaction_set.InteractionSet.set_word.Goals as goal

pub returns-clause-here : goal.returns-clause-here
returns-clause-here c n at =
    let words = c.self.inside.words in
    let place = c.args.place in
    let word = c.args.word in
    let within : place < length words = omega (arith, c.requires, c.self.told) in
    contains-members_of (set words place word) n ∙
    ap (λ k. has_bit (get_or (set words place word) k 0) (n % 64)) at ∙
    ap (λ w. has_bit w (n % 64)) (get_or-set_same words place word 0 within)

pub returns-clause-others : goal.returns-clause-others
returns-clause-others c n apart =
    let words = c.self.inside.words in
    contains-members_of (set words c.args.place c.args.word) n ∙
    ap (λ w. has_bit w (n % 64)) (get_or-set_other words c.args.place (n / 64) c.args.word 0 apart) ∙
    sym (contains-members_of words n) ∙ ap (λ s. fin.contains s n) c.self.view_is
