-- The runs of seeds that are counted are watched and weighted as the words say.
use Rattle.std.proofs.Common.{◌≡◌, ◌∙◌, ap}
use Rattle.plant_model.specs.System.{plant_of}
use Rattle.run_watches.specs.Watches.{first_of}
use Rattle.plant_tasks.specs.Reached.{are_several}
use Rattle.plant_tasks.specs.Tallied.{nevers_in, seeds_of}
use Rattle.plant_tasks.proofs.Counted.{counted_as}
use Rattle.plant_tasks.proofs.Traced.{held_read, several_read}
use Rattle.plant_tasks.proofs.tallies.print_seeds.Goals as goal

pub returns : goal.returns
returns g c =
    let plant = plant_of c.args.system.now in
    let tally = c.args.tally.now in
    let words = c.args.words.now in
    let watches = tally.watches.items in
    let read = c.requires in
    let lent : c.deref-2.result.now ≡ words.watches.items = c.deref-2.ensures.value in
    counted_as g.W.Write.contents tally (seeds_of c.args.seeds) c.seeds_of.result plant c.tally_seeds.result words.weights
    (first_of c.deref-2.result.now) c.are_several.result c.deref-3.result.now _ _
    c.seeds_of.ensures read.given (ap first_of lent ∙ held_read plant watches words.watches.items read.read)
    (c.are_several.ensures ∙ ap are_several lent ∙ several_read plant watches words.watches.items read.read)
    (c.deref-3.ensures.value ∙ c.in_ok-nevers.ensures ∙ ap nevers_in c.deref.ensures.value)
    (record { printed = c.tally_seeds.ensures.printed; refusal = c.tally_seeds.ensures.refusal; bad = c.tally_seeds.ensures.bad })
    c.tally_seeds.ensures.nothing_printed
