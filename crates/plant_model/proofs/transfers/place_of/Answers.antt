use Rattle.plant_model.proofs.ValueRows.{own-place}
use Rattle.plant_model.proofs.transfers.place_of.Goals as goal

pub returns-then-moves-last-clause-found : goal.returns-then-moves-last-clause-found
returns-then-moves-last-clause-found c = own-place c.args.moves.now c.requires.apart c.args.last c.requires.last c.args.atom c.if-moves-last.true
