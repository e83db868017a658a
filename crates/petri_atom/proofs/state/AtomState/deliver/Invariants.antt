use Rattle.std.proofs.Common.{◌≡◌, drop}
use Rattle.petri_atom.specs.Definition.{delivered_to}
use Rattle.petri_atom.proofs.state.AtomState.deliver.Given as goal

abbrev pub invariant-loop-export : goal.invariant-loop-export
invariant-loop-export l =
    (l.self.marking ≡ l.fn.self.marking) ×
    (delivered_to l.delivered l.export (drop l.export l.exports) l.self.values ≡ delivered_to l.delivered 0 l.exports l.fn.self.values)
