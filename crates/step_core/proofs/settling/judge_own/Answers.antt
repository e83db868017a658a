use Rattle.std.proofs.Common.{arith}
use Rattle.step_core.proofs.OwnRange.{few-words, own-words, row-at}
use Rattle.step_core.proofs.settling.judge_own.Goals as goal

pub judge_in_word-requires-clause-place : goal.judge_in_word-requires-clause-place
judge_in_word-requires-clause-place c =
    let its = row-at c.args.system.now c.args.connector c.index-rows.result.now c.requires.connector c.index-rows.ensures in
    omega (arith, c.if-high-low.true, c.from-low.ensures, c.from-high.ensures, few-words c.args.system.now c.args.connector c.index-rows.result.now c.requires.connector its)

pub judge_in_word-requires-clause-own : goal.judge_in_word-requires-clause-own
judge_in_word-requires-clause-own c n own =
    let its = row-at c.args.system.now c.args.connector c.index-rows.result.now c.requires.connector c.index-rows.ensures in
    let words = own-words c.args.system.now c.args.connector c.index-rows.result.now c.requires.connector its n own in
    omega (arith, words.0, words.1, c.if-high-low.true, c.from-low.ensures, c.from-high.ensures)
