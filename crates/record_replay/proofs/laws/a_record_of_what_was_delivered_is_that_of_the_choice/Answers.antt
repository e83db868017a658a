use Rattle.std.proofs.Common.{ap}
use Rattle.plant_model.specs.Step.{transfer}
use Rattle.record_replay.proofs.RecordEntries.{told-all}
use Rattle.record_replay.proofs.laws.a_record_of_what_was_delivered_is_that_of_the_choice.Goals as goal

pub returns : goal.returns
returns c = λ plant states counts n choice rows many told.
    ap (λ entries. record { number = n; connector = choice.connector; entries = entries }) (told-all counts (transfer plant states choice) choice.moves rows many told)
