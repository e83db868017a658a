use Rattle.std.proofs.Common.{◌≡◌, ◌∷◌, true, false, length, arith, ap}
use Rattle.shown_fault.proofs.Lacking.{rest_of, tested, one_more}
use Rattle.shown_fault.proofs.operands.lacking.Goals as goal

pub loop-word-preserved-then-lacks_after : goal.loop-word-preserved-then-lacks_after
loop-word-preserved-then-lacks_after c =
    let is : c.loop-word.words ≡ c.in-Some.word.now ∷ c.next_word.new.self = c.in-Some.ensures.word in
    let left = rest_of _ _ _ _ c.loop-word.number is c.loop-word.invariant.1 in
    let test = tested c.in-Some.word.now _ _ c.loop-word.number _ _ true left c.operands_of.ensures.value c.lacks_after.ensures c.if-lacks_after.true in
    (one_more _ _ _ _ true _ is test c.loop-word.invariant.0, left, omega (arith, ap length is))

pub loop-word-preserved : goal.loop-word-preserved
loop-word-preserved c =
    let is : c.loop-word.words ≡ c.in-Some.word.now ∷ c.next_word.new.self = c.in-Some.ensures.word in
    let left = rest_of _ _ _ _ c.loop-word.number is c.loop-word.invariant.1 in
    let test = tested c.in-Some.word.now _ _ c.loop-word.number _ _ false left c.operands_of.ensures.value c.lacks_after.ensures c.if-lacks_after.false in
    (one_more _ _ _ _ false _ is test c.loop-word.invariant.0, left, omega (arith, ap length is))
