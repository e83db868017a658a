use Rattle.std.proofs.Common.{◌^◌, ◌/◌, ◌<◌, arith}
use Rattle.std.proofs.Math.Nat.{div-eq_of_lt}
use Rattle.std.proofs.lemmas.Bool.{eqb-true, eq-eqb, le-leb}
use Rattle.std.proofs.lemmas.Nat.{pow_below}
use Rattle.petri_atom.proofs.Sets.{has-above}
use Rattle.petri_atom.proofs.Within.{below_from_none, none_from_zero}
use Rattle.petri_atom.proofs.marking.is_within.Goals as goal

pub returns-then-count-ge-MAX_PLACES : goal.returns-then-count-ge-MAX_PLACES
returns-then-count-ge-MAX_PLACES c =
    (λ yes k past. has-above c.args.places 64 k c.ranges.places.fits (omega (arith, past, c.if-count-ge-MAX_PLACES.true)), λ none. le-leb 64 c.args.count c.if-count-ge-MAX_PLACES.true)

pub returns-else-count-ge-MAX_PLACES : goal.returns-else-count-ge-MAX_PLACES
returns-else-count-ge-MAX_PLACES c =
    let low : c.args.count < 64 = omega (arith, c.if-count-ge-MAX_PLACES.false) in (
      λ yes k past. none_from_zero c.args.places c.args.count (eqb-true (c.args.places / 2 ^ c.args.count) 0 yes) k past,
      λ none. eq-eqb (c.args.places / 2 ^ c.args.count) 0 (div-eq_of_lt (below_from_none c.args.places c.args.count c.ranges.places.fits (omega (arith, pow_below c.args.count 64 low)) none)),
    )
