use Rattle.std.proofs.Common.{◌∙◌, sym}
use Rattle.plant_model.proofs.PossibleWords.{judged-word}
use Rattle.plant_model.proofs.connector_judge.judge_low_word.Goals as goal

pub returns-clause-judged : goal.returns-clause-judged
returns-clause-judged c =
    let rows = c.args.rows.now in
    let written = c.put_own.ensures in
    judged-word rows c.args.off c.args.clauses.now c.args.states.now rows.low rows.low_own c.requires.words.own c.low_possible-here.result c.low_possible-here.ensures c.args.possible.now c.put_own.new.possible
    (λ n at. written.put n (at ∙ sym c.from.ensures))
    (λ n at. written.kept n (at ∙ sym c.from.ensures))
    (λ n other. written.others n (λ at. other (at ∙ c.from.ensures)))
