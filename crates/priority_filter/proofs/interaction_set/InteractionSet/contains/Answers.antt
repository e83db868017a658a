use Rattle.std.proofs.Common.{◌∙◌, ap, sym, arith}
use Rattle.std.proofs.lemmas.Bool.{le-ltb}
use Rattle.std.specs.FinSet as set
use Rattle.priority_filter.proofs.MemberLaws.{bit_test, contains_past}
use Rattle.priority_filter.proofs.interaction_set.InteractionSet.contains.Goals as goal

pub returns-then-place-lt-INTERACTION_LIMIT-clause-held : goal.returns-then-place-lt-INTERACTION_LIMIT-clause-held
returns-then-place-lt-INTERACTION_LIMIT-clause-held c =
    bit_test c.self.inside.words c.from-place.result
    ∙ ap (λ s. set.contains s c.from-place.result) c.self.view_is
    ∙ ap (set.contains c.args.self.now) c.from-place.ensures

pub returns-else-place-lt-INTERACTION_LIMIT-clause-held : goal.returns-else-place-lt-INTERACTION_LIMIT-clause-held
returns-else-place-lt-INTERACTION_LIMIT-clause-held c =
    le-ltb c.from-place.result 1024 c.if-place-lt-INTERACTION_LIMIT.false
    ∙ sym (contains_past c.self.inside.words c.from-place.result (omega arith))
    ∙ ap (λ s. set.contains s c.from-place.result) c.self.view_is
    ∙ ap (set.contains c.args.self.now) c.from-place.ensures
