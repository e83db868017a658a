use Rattle.std.proofs.Common.{refl, get_or, arith}
use Rattle.std.proofs.lemmas.Bool.{false≢true}
use Rattle.std.proofs.lemmas.Nat.{and_le_l}
use Rattle.priority_filter.proofs.CommonMembers.{in_both_from_word, none_in_both}
use Rattle.priority_filter.proofs.interaction_set.have_common_bit.Goals as goal

pub returns-then-common-ne0 : goal.returns-then-common-ne0
returns-then-common-ne0 c = (
  λ _.
      let found = in_both_from_word c.args.words.now c.args.other.now c.loop-k.k (omega (arith, and_le_l (get_or c.args.words.now c.loop-k.k 0) (get_or c.args.other.now c.loop-k.k 0))) c.if-common-ne0.true in
      (found.0, omega (arith, found.1), found.2, found.3),
  λ _. refl,
)

pub returns : goal.returns
returns c = (
  λ never. absurd (false≢true never),
  λ some. absurd (none_in_both c.args.words.now c.args.other.now c.loop-k.k c.loop-k.invariant some.0 (omega (arith, some.1)) some.2 some.3),
)
