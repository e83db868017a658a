use Rattle.petri_atom.proofs.state.AtomState.copy.Goals as goal

pub returns : goal.returns
returns c = c.self.view_is
