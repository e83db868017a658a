use Rattle.std.proofs.Common.{◌+◌, [], ◌∷◌, sym, subst}
use Rattle.disk_model.specs.declared.cells.TheConstants.{BODY}
use Rattle.disk_model.specs.Cells.{seen_cells}
use Rattle.gated_journal.specs.declared.ring.Ring.{Ring}
use Rattle.gated_journal.specs.Live.{AreRecords}
use Rattle.gated_journal.specs.Bases.{IsBased}
use Rattle.gated_journal.specs.Stops.{IsReady}
use Rattle.device_tests.specs.AppendThenMove.{record_of}
use Rattle.device_tests.proofs.NewDevice.{three_records}
use Rattle.device_tests.proofs.tests.callers.keep_the_last_of_three.Goals as goal

pub append_then_move-requires-clause-ready : goal.append_then_move-requires-clause-ready
append_then_move-requires-clause-ready g c keeps = subst (λ (j : Ring). IsReady j c.args.cells.now) (sym c.requires.journal) (c.requires.ready keeps)

pub append_then_move-requires-clause-based : goal.append_then_move-requires-clause-based
append_then_move-requires-clause-based g c keeps = subst (λ (j : Ring). IsBased j (seen_cells (BODY + 1) c.args.cells.now)) (sym c.requires.journal) (c.requires.read keeps).based

pub append_then_move-requires-clause-records : goal.append_then_move-requires-clause-records
append_then_move-requires-clause-records g c keeps = (
  record_of 1 ∷ record_of 2 ∷ record_of 3 ∷ [],
  subst (λ (j : Ring). AreRecords (j.last + 1) (c.body_of.result ∷ c.body_of-2.result ∷ c.body_of-3.result ∷ []) (record_of 1 ∷ record_of 2 ∷ record_of 3 ∷ [])) (sym c.requires.journal)
      (three_records c.body_of.result c.body_of-2.result c.body_of-3.result c.body_of.ensures c.body_of-2.ensures c.body_of-3.ensures),
)
