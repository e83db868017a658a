use Rattle.std.proofs.Common.{◌<◌, ◌^◌, ◌∙◌, sym, ap, eqb, arith}
use Rattle.std.proofs.lemmas.Bool.{le-ltb}
use Rattle.std.proofs.lemmas.Nat.Bits.{shr_and_one}
use Rattle.petri_atom.proofs.Sets.{has-above}
use Rattle.petri_atom.proofs.state.has_bit.Goals as goal

pub returns-then-bit-lt8 : goal.returns-then-bit-lt8
returns-then-bit-lt8 c = ap (λ x. eqb x 1) (shr_and_one c.args.mask c.args.bit)

pub returns-else-bit-lt8 : goal.returns-else-bit-lt8
returns-else-bit-lt8 c =
    let small : c.args.mask < 2 ^ 8 = omega arith in
    le-ltb c.args.bit 8 c.if-bit-lt8.false ∙ sym (has-above c.args.mask 8 c.args.bit small c.if-bit-lt8.false)
