use Rattle.std.proofs.Common.{ap, not, ◌==◌}
use Rattle.petri_atom.specs.Transition.{transition_of}
use Rattle.plant_warnings.proofs.Mapped.{any_seen}
use Rattle.plant_warnings.proofs.ports.has_no_transition.Goals as goal

pub returns : goal.returns
returns c = ap not (any_seen (λ t. t.port == c.args.port) transition_of c.transitions.result.now _ c.is_of_one.result c.transitions.ensures c.is_of_one.ensures)
