use Rattle.std.proofs.Common.{◌∙◌, sym, arith}
use Rattle.plant_words.proofs.Decimals.{magnitude-short}
use Rattle.plant_words.proofs.numbers.read_magnitude.Goals as goal

pub returns-then-digits-le-MAX_DIGITS : goal.returns-then-digits-le-MAX_DIGITS
returns-then-digits-le-MAX_DIGITS c = c.read_decimal.ensures ∙ sym (magnitude-short c.args.digits.now (omega arith))
