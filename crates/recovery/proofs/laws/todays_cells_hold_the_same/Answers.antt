use Rattle.recovery.specs.OldImage.{length-todays_cells}
use Rattle.recovery.proofs.OldCells.{base_same, full_same, identity_same, record_same, slot_same, version_same}
use Rattle.recovery.proofs.laws.todays_cells_hold_the_same.Goals as goal

pub returns-clause-count : goal.returns-clause-count
returns-clause-count c = length-todays_cells

pub returns-clause-full : goal.returns-clause-full
returns-clause-full c = full_same

pub returns-clause-version : goal.returns-clause-version
returns-clause-version c = version_same

pub returns-clause-identity : goal.returns-clause-identity
returns-clause-identity c = identity_same

pub returns-clause-bases : goal.returns-clause-bases
returns-clause-bases c atoms base cells old two = base_same atoms cells old base two

pub returns-clause-slots : goal.returns-clause-slots
returns-clause-slots c atoms atom slot cells old below two = slot_same atoms cells old atom slot below two

pub returns-clause-records : goal.returns-clause-records
returns-clause-records c atoms ring number cells old = record_same atoms cells old ring number
