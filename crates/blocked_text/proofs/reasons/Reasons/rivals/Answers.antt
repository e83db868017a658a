use Rattle.std.proofs.Common.{◌∙◌, ap, arith, map}
use Rattle.priority_filter.specs.Decided.{is_below}
use Rattle.plant_model.specs.Choice.{named, plant_interactions}
use Rattle.blocked_text.specs.Asked.{plant_asked}
use Rattle.blocked_text.proofs.Counting.{seen-counts}
use Rattle.blocked_text.proofs.reasons.Reasons.rivals.Goals as goal

pub returns-clause-rivals : goal.returns-clause-rivals
returns-clause-rivals c =
    let plant = plant_asked c.args.self.now in
    let counts = seen-counts plant c.args.states.now c.seen-seen.result c.keeps_its_rules.ensures.plant c.seen-seen.ensures.shown in
    record {
      possible = c.possible_in.ensures;
      counts = counts;
      above = λ n m within. c.rows_above.ensures n m (omega (arith, within, c.rows_above.result.ok.0)) ∙ ap (λ rules. is_below rules (map named (plant_interactions plant)) n m) counts;
    }
