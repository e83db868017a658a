use Rattle.plant_words.proofs.splits.split_export.Goals as goal

pub returns : goal.returns
returns c = c.sides.ensures
