-- The run that is counted is that of the picks that are asked for, up to where something holds of what the words say.
use Rattle.std.proofs.Common.{◌≡◌, ◌∙◌, ap, refl, sym}
use Rattle.std.specs.Prelude.{option_map}
use Rattle.run_tallies.specs.Tally.{tally_text}
use Rattle.run_watches.specs.Watches.{first_of}
use Rattle.plant_tasks.specs.Ending.{trace_ending}
use Rattle.plant_tasks.specs.Picked.{picks_weighted}
use Rattle.plant_tasks.specs.Printed.{plant_read}
use Rattle.plant_tasks.specs.Reached.{are_several}
use Rattle.plant_tasks.specs.Tallied.{picks_counted}
use Rattle.plant_tasks.specs.Watches.{held_in}
use Rattle.plant_tasks.proofs.Traced.{held_read, run_done, several_read}
use Rattle.plant_tasks.proofs.tallies.print_run.Goals as goal

pub returns : goal.returns
returns g c =
    let plant = plant_read c.args.plant.now in
    let tally = c.args.tally.now in
    let picking = c.args.picking.now in
    let words = c.args.words.now in
    let watches = tally.watches.items in
    let input = g.F.Read.remaining c.args.input in
    let read = c.requires in
    let lent : c.deref.result.now ≡ words.watches.items = c.deref.ensures.value in
    run_done g.W.Write.contents g.S.Write.contents _ _ c.args.plant.now input watches tally.weights.items picking (tally_text c.count_asked.result)
    c.trace_ended.result c.tally_run-ran.result (first_of c.deref.result.now) c.are_several.result _ _ _ _ _
    refl
    (ap (λ asked. option_map (tally_text asked (are_several watches) (held_in plant watches) plant) (picks_counted tally picking plant input)) (sym c.count_asked.ensures))
    refl refl refl read.all
    (c.trace_ended.ensures ∙ ap (λ all. trace_ending all c.tally_run-ran.result) c.deref-2.ensures.value)
    (ap first_of lent ∙ held_read plant watches words.watches.items read.read)
    (c.are_several.ensures ∙ ap are_several lent ∙ several_read plant watches words.watches.items read.read)
    (c.in_ok-picks.ensures ∙ ap (λ weights. picks_weighted weights picking plant input) read.given)
    c.tally_run-ran.ensures.told c.tally_run-ran.ensures.reached
