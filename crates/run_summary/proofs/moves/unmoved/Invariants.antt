-- The atoms before this place are there.
use Rattle.std.proofs.Common.{◌≡◌, [], map, take}
use Rattle.petri_atom.specs.Atom.{definition_of}
use Rattle.run_summary.specs.Totals.{totals_from}
use Rattle.run_summary.proofs.moves.unmoved.Given as goal

abbrev pub invariant-loop-atom : goal.invariant-loop-atom
invariant-loop-atom l = l.summaries.items ≡ totals_from 0 (map definition_of (take l.atom-index l.atoms)) []
