use Rattle.std.proofs.Common.{take}
use Rattle.plant_model.specs.ConnectorRows.{AreWordsAt}
use Rattle.plant_model.proofs.connector_rows.words_at.Given as goal

-- they are the words of the rows so far
abbrev pub invariant-loop-row : goal.invariant-loop-row
invariant-loop-row l = AreWordsAt l.place (take l.row-index l.rows) l.words.items
