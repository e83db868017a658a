use Rattle.plant_model.proofs.PossibleWords.{judged-word}
use Rattle.plant_model.proofs.connector_judge.judge_word.Goals as goal

pub returns-clause-judged : goal.returns-clause-judged
returns-clause-judged c clauses states unasked =
    let written = c.put_own.ensures in
    judged-word c.args.rows.now c.args.off clauses states c.args.place c.word.result c.word.ensures c.word_possible-here.result (c.word_possible-here.ensures clauses states unasked) c.args.possible.now c.put_own.new.possible
    written.put written.kept written.others
