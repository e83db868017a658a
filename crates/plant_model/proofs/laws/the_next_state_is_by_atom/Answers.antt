use Rattle.plant_model.specs.Firing.{choice_in}
use Rattle.plant_model.specs.Step.{transfer}
use Rattle.plant_model.proofs.ByAtom.{first-of-atom, moves-on, next-entry, none-of, stays}
use Rattle.plant_model.proofs.laws.the_next_state_is_by_atom.Goals as goal

pub returns-clause-by_atom : goal.returns-clause-by_atom
returns-clause-by_atom c = λ plant states firing i. next-entry plant.atoms firing.moves (transfer plant states firing) i states

pub returns-clause-moves : goal.returns-clause-moves
returns-clause-moves c = λ plant states firing m a s valid allowed at its_atom its_state.
    moves-on plant.atoms firing.moves (transfer plant states firing) m.atom states m a s (first-of-atom plant states (choice_in firing) valid allowed m at) its_atom its_state

pub returns-clause-stays : goal.returns-clause-stays
returns-clause-stays c = λ plant states firing i apart. stays plant.atoms firing.moves (transfer plant states firing) i states (none-of i firing.moves apart)
