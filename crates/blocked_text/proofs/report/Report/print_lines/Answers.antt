use Rattle.std.proofs.Common.{◌≡◌, sym, refl, arith}
use Rattle.std.specs.Prelude.{Some, slice_get}
use Rattle.std.proofs.lemmas.Option.{get_or_from_slice_get, slice_get_within}
use Rattle.plant_model.specs.Choice.{plant_interactions}
use Rattle.plant_model.specs.Interaction.{interaction_of}
use Rattle.text_io.proofs.Leading.{leads-element}
use Rattle.blocked_text.specs.Report.{plant_in}
use Rattle.blocked_text.specs.Blocked.{line_of}
use Rattle.blocked_text.proofs.Entries.{made-at}
use Rattle.blocked_text.proofs.report.Report.print_lines.Goals as goal

pub loop-number-preserved : goal.loop-number-preserved
loop-number-preserved g c =
    let plant = plant_in c.args.self.now in
    let all = plant_interactions plant in
    let n = c.loop-number.number in
    let i = interaction_of c.interaction-item.result in
    let there : slice_get all n ≡ Some i =
    made-at interaction_of c.interactions-interaction-items.result.now all c.interactions-interaction-items.ensures n n refl c.interaction-item.result (omega arith) c.interaction-item.is in
    leads-element (line_of plant c.args.self.now.states.now all c.args.self.now.lines.now c.args.connector) all n i
    (g.W.Write.contents c.args.output.now) (g.W.Write.contents c.loop-number.output) (g.W.Write.contents c.print_line.new.output) _
    (slice_get_within all n i there) (sym (get_or_from_slice_get all n i i there)) c.loop-number.invariant c.in_ok-print_line.ensures
