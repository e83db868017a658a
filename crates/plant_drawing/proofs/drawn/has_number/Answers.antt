use Rattle.std.proofs.Common.{◌<◌, ◌^◌, ◌==◌, ◌∙◌, sym, ap, arith}
use Rattle.std.proofs.lemmas.Bool.{le-ltb}
use Rattle.std.proofs.lemmas.Nat.Bits.{bit_at_above}
use Rattle.plant_drawing.proofs.drawn.has_number.Goals as goal

pub returns-else-number-lt-MAX_ATOMS : goal.returns-else-number-lt-MAX_ATOMS
returns-else-number-lt-MAX_ATOMS c =
    let small : c.args.set < 2 ^ 64 = omega arith in
    le-ltb c.args.number 64 c.if-number-lt-MAX_ATOMS.false ∙
    sym (ap (λ bit. bit == 1) (bit_at_above c.args.set 64 c.args.number small c.if-number-lt-MAX_ATOMS.false))
