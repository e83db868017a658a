use Rattle.std.proofs.Common.{◌≡◌, List, drop}
use Rattle.petri_atom.specs.Definition.{UpdateDefinition, updated}
use Rattle.petri_atom.specs.StraightCode.{AreChangesOf}
use Rattle.petri_atom.proofs.transition_code.TransitionCode.update.Given as goal

abbrev pub invariant-loop-change : goal.invariant-loop-change
invariant-loop-change l =
    (l.state.marking ≡ l.fn.state.marking) ×
    ((us : List UpdateDefinition) → AreChangesOf l.self.changes.items us → updated (drop l.change-index us) l.state.values ≡ updated us l.fn.state.values)
