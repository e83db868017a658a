use Rattle.std.specs.FinSet.{contains}
use Rattle.step_core.proofs.OfAlone.{stands-elsewhere}
use Rattle.step_core.proofs.TopAlone.{kept-of-all}
use Rattle.step_core.proofs.alone.Apart.judge.Goals as goal

pub returns-then-rows-eq1-clause-standing : goal.returns-then-rows-eq1-clause-standing
returns-then-rows-eq1-clause-standing c =
    let a = c.args.self.now in
    stands-elsewhere a.system.now c.args.connector c.requires.alone (contains c.args.possible.now) (contains c.judge_one.new.possible) a.standing.now c.judge_one.ensures.kept.others c.requires.standing

pub returns-then-rows-eq1-clause-kept : goal.returns-then-rows-eq1-clause-kept
returns-then-rows-eq1-clause-kept c =
    let a = c.args.self.now in
    kept-of-all a.system.now c.args.connector c.requires.alone a.states.now c.args.possible.now c.judge_one.new.possible c.args.kept.now c.judge_one.new.kept c.judge_one.ensures.kept c.requires.kept

pub returns-then-high-low-clause-standing : goal.returns-then-high-low-clause-standing
returns-then-high-low-clause-standing c =
    let a = c.args.self.now in
    stands-elsewhere a.system.now c.args.connector c.requires.alone (contains c.args.possible.now) (contains c.judge_in_word.new.possible) a.standing.now c.judge_in_word.ensures.kept.others c.requires.standing

pub returns-then-high-low-clause-kept : goal.returns-then-high-low-clause-kept
returns-then-high-low-clause-kept c =
    let a = c.args.self.now in
    kept-of-all a.system.now c.args.connector c.requires.alone a.states.now c.args.possible.now c.judge_in_word.new.possible c.args.kept.now c.judge_in_word.new.kept c.judge_in_word.ensures.kept c.requires.kept

pub returns-else-high-low-clause-standing : goal.returns-else-high-low-clause-standing
returns-else-high-low-clause-standing c =
    let a = c.args.self.now in
    stands-elsewhere a.system.now c.args.connector c.requires.alone (contains c.args.possible.now) (contains c.judge_in_words.new.possible) a.standing.now c.judge_in_words.ensures.kept.others c.requires.standing

pub returns-else-high-low-clause-kept : goal.returns-else-high-low-clause-kept
returns-else-high-low-clause-kept c =
    let a = c.args.self.now in
    kept-of-all a.system.now c.args.connector c.requires.alone a.states.now c.args.possible.now c.judge_in_words.new.possible c.args.kept.now c.judge_in_words.new.kept c.judge_in_words.ensures.kept c.requires.kept
