use Rattle.plant_model.proofs.ValueRows.{own-place}
use Rattle.plant_model.proofs.transfers.place_behind.Goals as goal

pub returns-then-moves-expected-clause-found : goal.returns-then-moves-expected-clause-found
returns-then-moves-expected-clause-found c = own-place c.args.moves.now c.requires.apart _ c.if-expected-moves.true c.args.atom c.if-moves-expected.true
