use Rattle.snapshot_writer.specs.Slots.{saved_at}
use Rattle.snapshot_writer.proofs.NewestStates.{other_is_free, other_is_slot}
use Rattle.snapshot_writer.proofs.laws.the_slot_that_is_written_next_is_free.Goals as goal

pub returns-clause-slot : goal.returns-clause-slot
returns-clause-slot c atom cells = other_is_slot (saved_at atom 0 cells) (saved_at atom 1 cells)

pub returns-clause-free : goal.returns-clause-free
returns-clause-free c atom cells = other_is_free (saved_at atom 0 cells) (saved_at atom 1 cells)
