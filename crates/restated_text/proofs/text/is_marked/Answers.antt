use Rattle.std.proofs.Common.{◌<◌, ◌^◌, ◌==◌, ◌∙◌, sym, ap, arith}
use Rattle.std.proofs.lemmas.Bool.{le-ltb}
use Rattle.std.proofs.lemmas.Nat.Bits.{bit_at_above}
use Rattle.restated_text.proofs.text.is_marked.Goals as goal

pub returns-else-place-lt-MAX_PLACES : goal.returns-else-place-lt-MAX_PLACES
returns-else-place-lt-MAX_PLACES c =
    let small : c.args.marking < 2 ^ 64 = omega arith in
    le-ltb c.args.place 64 c.if-place-lt-MAX_PLACES.false ∙
    sym (ap (λ bit. bit == 1) (bit_at_above c.args.marking 64 c.args.place small c.if-place-lt-MAX_PLACES.false))
