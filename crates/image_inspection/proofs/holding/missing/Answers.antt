use Rattle.std.proofs.Common.{arith}
use Rattle.std.proofs.lemmas.List.FromFn.{sum_by-map-range_with_len_more}
use Rattle.image_inspection.specs.Holding.{took_part}
use Rattle.image_inspection.proofs.holding.missing.Goals as goal

pub loop-atom-preserved : goal.loop-atom-preserved
loop-atom-preserved c =
    let n = c.loop-atom.atom in
    omega (arith, c.loop-atom.invariant, c.saved_count.ensures, c.behind.ensures.count, sum_by-map-range_with_len_more (λ x. x) (took_part c.args.saved.now c.args.marks.now) 0 n n (omega arith))
