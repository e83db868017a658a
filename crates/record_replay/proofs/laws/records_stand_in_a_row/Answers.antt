use Rattle.record_replay.proofs.Counting.{behind-append}
use Rattle.record_replay.proofs.OnRuns.{length-records, numbers-of, records-append}
use Rattle.record_replay.proofs.laws.records_stand_in_a_row.Goals as goal

pub returns-clause-numbers : goal.returns-clause-numbers
returns-clause-numbers c = numbers-of

pub returns-clause-as_many : goal.returns-clause-as_many
returns-clause-as_many c = length-records

pub returns-clause-joined : goal.returns-clause-joined
returns-clause-joined c = λ plant states counts n xs ys. records-append plant xs ys states counts n

pub returns-clause-counted : goal.returns-clause-counted
returns-clause-counted c = λ counts xs ys. behind-append xs ys counts
