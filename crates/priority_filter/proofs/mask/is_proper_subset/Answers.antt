use Rattle.std.proofs.lemmas.Bool.{eqb-true, eqb-false, ne_eqb, not-true, not_from_false}
use Rattle.priority_filter.proofs.MaskLaws.{subset_and, proper_differs, proper_from_and}
use Rattle.priority_filter.proofs.mask.is_proper_subset.Goals as goal

pub returns-then-mask-other : goal.returns-then-mask-other
returns-then-mask-other c =
    let m = c.args.mask in
    let n = c.args.other in
    (λ differ. proper_from_and m n c.if-mask-other.true (eqb-false m n (not-true _ differ)), λ proper. not_from_false _ (ne_eqb m n (proper_differs m n proper)))

pub returns-else-mask-other : goal.returns-else-mask-other
returns-else-mask-other c =
    let m = c.args.mask in
    let n = c.args.other in
    (λ same. absurd (c.if-mask-other.false (eqb-true _ m same)), λ proper. absurd (c.if-mask-other.false (subset_and m n proper.0)))
