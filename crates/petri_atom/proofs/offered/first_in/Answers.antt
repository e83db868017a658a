use Rattle.std.proofs.Common.{◌≡◌, ◌<◌, ◌^◌, ◌∙◌, leb, sym, ap, arith}
use Rattle.std.proofs.lemmas.Bool.{le-leb, lt-leb}
use Rattle.std.specs.Int.{w128}
use Rattle.petri_atom.specs.Definition.{first_from}
use Rattle.petri_atom.specs.Local.{numbers_below}
use Rattle.petri_atom.proofs.Members.{find-none, find-lowest, find-others}
use Rattle.petri_atom.proofs.offered.first_in.Goals as goal

pub returns-then-from-number : goal.returns-then-from-number
returns-then-from-number c =
    let left = c.loop-left.left in
    let some : 0 < left = omega (arith, c.loop-left-test.true) in
    let small : left < 2 ^ 128 = omega arith in
    sym (find-lowest w128 left some small (λ n. leb c.args.from n) (le-leb _ _ c.if-from-number.true)) ∙ c.loop-left.invariant

pub loop-left-preserved : goal.loop-left-preserved
loop-left-preserved c =
    let left = c.loop-left.left in
    let some : 0 < left = omega (arith, c.loop-left-test.true) in
    let small : left < 2 ^ 128 = omega arith in
    sym (find-others w128 left some small (λ n. leb c.args.from n) (lt-leb _ _ c.if-from-number.false)) ∙ c.loop-left.invariant

pub returns : goal.returns
returns c =
    let none : c.loop-left.left ≡ 0 = omega (arith, c.loop-left-test.false) in
    sym (ap (λ w. first_from c.args.from (numbers_below 128 w)) none ∙ find-none (λ n. leb c.args.from n) 128) ∙ c.loop-left.invariant
