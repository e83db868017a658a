use Rattle.petri_atom.specs.Local.{is_in}
use Rattle.petri_atom.specs.Transition.{transition_of}
use Rattle.plant_warnings.proofs.Mapped.{any_seen}
use Rattle.plant_warnings.proofs.places.is_target.Goals as goal

pub returns : goal.returns
returns c = any_seen (λ t. is_in t.targets c.args.place) transition_of c.transitions.result.now _ c.is_target_of_one.result c.transitions.ensures c.is_target_of_one.ensures
