use Rattle.std.proofs.Common.{◌^◌, ◌<◌, refl, get_or, arith, w64}
use Rattle.std.specs.Int.{bit_not}
use Rattle.std.proofs.lemmas.Bool.{false≢true, both_ways}
use Rattle.std.proofs.lemmas.Nat.{and_le_l}
use Rattle.priority_filter.specs.Members.{holds}
use Rattle.priority_filter.proofs.CommonMembers.{in_one_from_word, in_other_too}
use Rattle.priority_filter.proofs.interaction_set.has_other_bit.Goals as goal

pub returns-then-more-ne0 : goal.returns-then-more-ne0
returns-then-more-ne0 c =
    let xs = c.args.words.now in
    let ys = c.args.other.now in
    let k = c.loop-k.k in
    let small : get_or ys k 0 < 2 ^ 64 = omega arith in (
      λ _.
          let found = in_one_from_word xs ys k small (omega (arith, and_le_l (get_or xs k 0) (bit_not w64 (get_or ys k 0)))) c.if-more-ne0.true in
          (found.0, omega (arith, found.1), found.2, found.3),
      λ _. refl,
    )

pub loop-k-preserved : goal.loop-k-preserved
loop-k-preserved c =
    in_other_too c.args.words.now c.args.other.now c.loop-k.k (omega arith) (omega arith) c.loop-k.invariant

pub returns : goal.returns
returns c = (
  λ never. absurd (false≢true never),
  λ some. absurd (both_ways (holds c.args.other.now some.0) some.3 (c.loop-k.invariant some.0 (omega (arith, some.1)) some.2)),
)
