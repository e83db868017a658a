use Rattle.std.specs.Prelude.{slice_get}
use Rattle.plant_model.specs.Choice.{plant_interactions}
use Rattle.plant_model.specs.Interaction.{interaction_of}
use Rattle.plant_model.specs.System.{plant_of}
use Rattle.blocked_text.specs.Way.{way_text}
use Rattle.blocked_text.proofs.Entries.{made-at, made-past, printed-entry, printed-no-entry}
use Rattle.blocked_text.proofs.reason_text.print_way_to.Goals as goal

pub returns-in-Some : goal.returns-in-Some
returns-in-Some g c =
    let plant = plant_of c.args.report.now.system.now in
    let all = plant_interactions plant in
    let higher = c.in-Some.higher.now in
    let found = c.in-Some.ensures.lookup in
    printed-entry (way_text plant c.args.report.now.states.now all c.args.report.now.lines.now (interaction_of c.args.interaction.now)) (slice_get all c.args.above) (interaction_of higher) c.print_way.result
    (g.W.Write.contents c.args.output.now) (g.W.Write.contents c.print_way.new.output)
    (made-at interaction_of c.interactions.result.now all c.interactions.ensures c.from.result c.args.above c.from.ensures higher found.3.0 found.1) c.print_way.ensures

pub returns-in-None : goal.returns-in-None
returns-in-None g c =
    let plant = plant_of c.args.report.now.system.now in
    let all = plant_interactions plant in
    printed-no-entry (way_text plant c.args.report.now.states.now all c.args.report.now.lines.now (interaction_of c.args.interaction.now)) (slice_get all c.args.above) (g.W.Write.contents c.args.output.now)
    (made-past interaction_of c.interactions.result.now all c.interactions.ensures c.from.result c.args.above c.from.ensures c.in-None.ensures.lookup.3)
