-- The moves before this place are added.
use Rattle.std.proofs.Common.{◌≡◌, List, length}
use Rattle.petri_atom.specs.Definition.{AtomDefinition}
use Rattle.run_summary.specs.Moves.{Moved}
use Rattle.run_summary.specs.Totals.{totals_from}
use Rattle.run_summary.proofs.Moving.{Adds}
use Rattle.run_summary.proofs.moves.add_moves.Given as goal

abbrev pub invariant-loop-step : goal.invariant-loop-step
invariant-loop-step l = record {
  as_many : length l.summaries.items ≡ length l.initial.summaries.items;
  adds : (atoms : List AtomDefinition) (past : List Moved) → l.initial.summaries.items ≡ totals_from 0 atoms past → Adds l.states l.moves atoms past l.step-index l.summaries.items;
}
