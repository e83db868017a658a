use Rattle.snapshot_writer.proofs.Batched.{first_stored, first_is_last, rest_stored, nothing_stored}
use Rattle.snapshot_writer.proofs.laws.a_batch_is_stored_one_state_after_another.Goals as goal

pub returns-clause-first : goal.returns-clause-first
returns-clause-first c = first_stored

pub returns-clause-here : goal.returns-clause-here
returns-clause-here c = first_is_last

pub returns-clause-rest : goal.returns-clause-rest
returns-clause-rest c = rest_stored

pub returns-clause-nothing : goal.returns-clause-nothing
returns-clause-nothing c = nothing_stored
