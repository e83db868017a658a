-- What the words ask for is one run, or the runs of seeds.
use Rattle.std.proofs.Common.{subst, sym}
use Rattle.command_line.specs.declared.request.Task.TheVariants.{Summary}
use Rattle.plant_tasks.specs.Done.{IsDone}
use Rattle.plant_tasks.specs.Printed.{plant_read}
use Rattle.plant_tasks.proofs.Counted.{seeds_done}
use Rattle.plant_tasks.proofs.Traced.{lent_read}
use Rattle.plant_tasks.proofs.tallies.print_tally.Goals as goal

pub print_run-requires : goal.print_run-requires
print_run-requires g c = lent_read (plant_read c.args.plant.now) _ _ _ _ c.in_ok-words.words c.deref.ensures.value c.deref-2.ensures.value c.in_ok-words.ensures.words

pub print_seeds-ran-requires : goal.print_seeds-ran-requires
print_seeds-ran-requires g c = lent_read (plant_read c.args.plant.now) _ _ _ _ c.in_ok-words.words c.deref.ensures.value c.deref-2.ensures.value c.in_ok-words.ensures.words

pub returns-in-One : goal.returns-in-One
returns-in-One g c =
    subst (λ runs. IsDone g.W.Write.contents g.S.Write.contents (Summary (record c.args.tally.now { runs = runs })) c.args.plant.now (g.F.Read.remaining c.args.input) c.print_run.result
    c.args.output.now c.print_run.new.output c.args.saved.now c.print_run.new.saved)
    (sym c.in-One.is) c.print_run.ensures

pub returns-in-Seeds : goal.returns-in-Seeds
returns-in-Seeds g c =
    let read = lent_read (plant_read c.args.plant.now) _ _ _ _ c.in_ok-words.words c.deref.ensures.value c.deref-2.ensures.value c.in_ok-words.ensures.words in
    subst (λ runs. IsDone g.W.Write.contents g.S.Write.contents (Summary (record c.args.tally.now { runs = runs })) c.args.plant.now (g.F.Read.remaining c.args.input) c.seeds_ended.result
    c.args.output.now c.print_seeds-ran.new.output c.args.saved.now c.args.saved.now)
    (sym c.in-Seeds.is)
    (seeds_done g.W.Write.contents g.S.Write.contents c.args.tally.now c.in-Seeds.seeds c.args.plant.now (g.F.Read.remaining c.args.input) c.seeds_ended.result c.print_seeds-ran.result
    _ _ c.args.saved.now c.seeds_ended.ensures read.all c.print_seeds-ran.ensures)
