use Rattle.plant_model.proofs.choice.Moves.as_slice.Goals as goal

pub returns-clause-moves : goal.returns-clause-moves
returns-clause-moves c = c.self.view_is
