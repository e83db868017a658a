use Rattle.std.proofs.Common.{◌<◌, ◌^◌, ◌∙◌, sym, ap, eqb, arith}
use Rattle.std.proofs.lemmas.Bool.{le-ltb}
use Rattle.std.proofs.lemmas.Nat.Bits.{bit_at_above, shr_and_one}
use Rattle.plant_model.proofs.interactions.has_leaf.Goals as goal

pub returns-then-leaf-lt16 : goal.returns-then-leaf-lt16
returns-then-leaf-lt16 c = ap (λ x. eqb x 1) (shr_and_one c.args.mask c.args.leaf)

pub returns-else-leaf-lt16 : goal.returns-else-leaf-lt16
returns-else-leaf-lt16 c =
    let small : c.args.mask < 2 ^ 16 = omega arith in
    le-ltb c.args.leaf 16 c.if-leaf-lt16.false ∙
    sym (ap (λ b. eqb b 1) (bit_at_above c.args.mask 16 c.args.leaf small c.if-leaf-lt16.false))
