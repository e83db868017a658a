-- The first of the words that is no watch is the one that was to be read.
use Rattle.std.proofs.Common.{◌∙◌}
use Rattle.std.proofs.lemmas.Result.{err_from_is_err_and}
use Rattle.plant_model.specs.System.{plant_of}
use Rattle.plant_tasks.proofs.Unread.{first_here}
use Rattle.plant_tasks.proofs.watches.watches_of.Goals as goal

pub returns-in_err-watch-clause-bad : goal.returns-in_err-watch-clause-bad
returns-in_err-watch-clause-bad c =
    let told = err_from_is_err_and c.from_residual.result c.from_residual.ensures.1 in
    let before = c.loop-one.invariant in
    rw (told.1, told.2)
    (first_here (plant_of c.args.system.now) c.args.words.now _ c.loop-one.one-index _ c.in_err-watch.field-0.0 (c.len.ensures ∙ before.place) c.loop-one-test.true before.bad
    c.in_err-watch.ensures.bad)
