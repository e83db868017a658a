use Rattle.std.proofs.Common.{◌==◌, ◌∙◌, ap, arith}
use Rattle.std.proofs.lemmas.Bool.{le-ltb}
use Rattle.plant_model.specs.Chosen.{choice_of}
use Rattle.step_core.specs.Running.{plant_in, states_in}
use Rattle.plant_drawing.proofs.Ordered.{known_by_first, known_past}
use Rattle.plant_drawing.proofs.choice.has_choice.Goals as goal

pub returns-then-first-count : goal.returns-then-first-count
returns-then-first-count c =
    ap (λ connector. connector == c.args.connector) c.from.ensures
    ∙ known_by_first (plant_in c.args.run.now) (states_in c.args.run.now) c.args.connector c.first_from-first.result (choice_of c.nth.result) c.first_from-first.ensures c.nth.ensures.entry

pub returns-else-first-count : goal.returns-else-first-count
returns-else-first-count c =
    le-ltb c.first_from-first.result c.count.result c.if-first-count.false
    ∙ known_past (plant_in c.args.run.now) (states_in c.args.run.now) c.args.connector c.first_from-first.result c.first_from-first.ensures (omega (arith, c.count.ensures.count))
