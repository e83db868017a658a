use Rattle.std.specs.FinSet.{contains}
use Rattle.step_core.proofs.TopAlone.{all-top-here, flat-top, top-here}
use Rattle.step_core.proofs.alone.Apart.top_of_words.Goals as goal

pub returns-then-rank-clause-top : goal.returns-then-rank-clause-top
returns-then-rank-clause-top c =
    let system = c.args.self.now.system.now in
    let possible = contains c.args.possible.now in
    all-top-here system c.args.connector c.requires.alone c.args.place c.args.word possible c.requires.word
    (flat-top system c.args.connector c.requires.alone c.args.rank.now c.requires.rank c.if-rank.true possible)

pub returns-clause-top : goal.returns-clause-top
returns-clause-top c =
    let told = c.without_lower.ensures in
    top-here c.args.self.now.system.now c.args.connector c.requires.alone c.args.place c.args.word (contains c.args.possible.now) c.requires.word
    c.without_lower.result told.within told.goes told.gone
