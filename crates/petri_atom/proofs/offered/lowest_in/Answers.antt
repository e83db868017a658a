use Rattle.std.proofs.Common.{◌<◌, ◌^◌, ◌∙◌, sym, arith}
use Rattle.petri_atom.proofs.Members.{first-low, first-high}
use Rattle.petri_atom.proofs.offered.lowest_in.Goals as goal

pub returns-then-low-ne0 : goal.returns-then-low-ne0
returns-then-low-ne0 c =
    let small : c.args.set < 2 ^ 128 = omega arith in
    let filled : 0 < c.low_word-low.result = omega (arith, c.if-low-ne0.true) in
    first-low c.args.set c.requires small c.low_word-low.result c.low_word-low.ensures filled

pub returns-else-low-ne0 : goal.returns-else-low-ne0
returns-else-low-ne0 c =
    let small : c.args.set < 2 ^ 128 = omega arith in
    first-high c.args.set c.requires small (sym c.low_word-low.ensures ∙ c.if-low-ne0.false)
