use Rattle.std.proofs.Common.{◌<◌, get_or, length, arith}
use Rattle.std.proofs.lemmas.Option.{slice_get-get_or, slice_get_within}
use Rattle.plant_model.proofs.Stepping.{no_move}
use Rattle.step_core.specs.Jobs.{jobs_of}
use Rattle.plant_core.specs.Plants.{definition_of}
use Rattle.plant_core.proofs.driving.begin.Goals as goal

pub hold_jobs-requires-clause-there : goal.hold_jobs-requires-clause-there
hold_jobs-requires-clause-there g c place job at =
    let plant = definition_of c.args.plant.now in
    let moves = c.in-Ok.fired.choice.moves in
    let given = c.in-Ok.ensures.jobs in
    let within : place < length moves = omega (arith, slice_get_within (jobs_of c.begin.new.jobs) place job at, given.as_many) in
    let m = get_or moves place no_move in
    let its = given.each place m job (slice_get-get_or moves place no_move within) at in
    omega (arith, slice_get_within plant.atoms m.atom job.definition its.definition, its.atom, c.requires.jobs)
