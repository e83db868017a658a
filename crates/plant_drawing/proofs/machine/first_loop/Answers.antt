use Rattle.petri_atom.proofs.Positions.{first_of_images}
use Rattle.petri_atom.specs.Transition.{transition_of}
use Rattle.plant_drawing.specs.Atom.{is_loop}
use Rattle.plant_drawing.proofs.machine.first_loop.Goals as goal

pub returns : goal.returns
returns c = first_of_images transition_of (is_loop c.args.place) c.transitions.result.now _ c.loop_among.result c.transitions.ensures c.loop_among.ensures
