use Rattle.petri_atom.specs.Transition.{transition_of}
use Rattle.plant_warnings.specs.Reads.{reads_variable}
use Rattle.plant_warnings.proofs.Mapped.{any_seen}
use Rattle.plant_warnings.proofs.reads.is_read_inside.Goals as goal

pub returns : goal.returns
returns c = any_seen (reads_variable c.args.variable) transition_of c.transitions.result.now _ c.is_read_by_one.result c.transitions.ensures c.is_read_by_one.ensures
