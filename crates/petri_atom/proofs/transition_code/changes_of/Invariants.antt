use Rattle.std.proofs.Common.{map}
use Rattle.petri_atom.specs.StraightCode.{IsChangeOf}
use Rattle.petri_atom.specs.Update.{update_of}
use Rattle.petri_atom.proofs.Coded.{AreFirst}
use Rattle.petri_atom.proofs.transition_code.changes_of.Given as goal

abbrev pub invariant-loop-update : goal.invariant-loop-update
invariant-loop-update l = AreFirst IsChangeOf l.update-index l.changes.items (map update_of l.updates)
