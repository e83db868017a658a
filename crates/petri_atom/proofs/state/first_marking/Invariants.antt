use Rattle.std.proofs.Common.{◌≡◌}
use Rattle.petri_atom.specs.Local.{set_below}
use Rattle.petri_atom.specs.Definition.{is_marked_first}
use Rattle.petri_atom.proofs.state.first_marking.Given as goal

abbrev pub invariant-loop-number : goal.invariant-loop-number
invariant-loop-number l = l.word ≡ set_below l.number (is_marked_first l.places)
