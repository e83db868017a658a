-- The run is that of the picks that are asked for, up to where something holds of what the words say.
use Rattle.std.proofs.Common.{◌≡◌, ◌∙◌, ap, refl}
use Rattle.run_watches.specs.Watches.{first_of}
use Rattle.plant_tasks.specs.Ending.{trace_ending}
use Rattle.plant_tasks.specs.Picked.{picks_weighted}
use Rattle.plant_tasks.specs.Printed.{plant_read}
use Rattle.plant_tasks.specs.Reached.{are_several}
use Rattle.plant_tasks.specs.Traced.{run_shaped}
use Rattle.plant_tasks.specs.Words.{AreRead}
use Rattle.plant_tasks.proofs.Traced.{held_read, lent_read, run_done, several_read}
use Rattle.plant_tasks.proofs.traces.print_trace.Goals as goal

pub returns : goal.returns
returns g c =
    let plant = plant_read c.args.plant.now in
    let trace = c.args.trace.now in
    let words = c.in_ok-words.words in
    let input = g.F.Read.remaining c.args.input in
    let read : AreRead plant trace.watches.items trace.weights.items words =
    lent_read plant _ _ _ _ words c.deref.ensures.value c.deref-2.ensures.value c.in_ok-words.ensures.words in
    let lent : c.deref-3.result.now ≡ words.watches.items = c.deref-3.ensures.value in
    run_done g.W.Write.contents g.S.Write.contents _ _ c.args.plant.now input trace.watches.items trace.weights.items trace.picking (run_shaped trace.shape)
    c.trace_ended.result c.print_run-ran.result (first_of c.deref-3.result.now) (are_several c.deref-3.result.now) _ _ _ _ _
    refl refl refl refl refl read.all
    (c.trace_ended.ensures ∙ ap (λ all. trace_ending all c.print_run-ran.result) c.deref-4.ensures.value)
    (ap first_of lent ∙ held_read plant trace.watches.items words.watches.items read.read)
    (ap are_several lent ∙ several_read plant trace.watches.items words.watches.items read.read)
    (c.in_ok-picks.ensures ∙ ap (λ weights. picks_weighted weights trace.picking plant input) read.given)
    c.print_run-ran.ensures.told c.print_run-ran.ensures.reached
