use Rattle.std.proofs.Common.{◌≡◌, length, map}
use Rattle.petri_atom.specs.Parts.{port_of}
use Rattle.petri_atom.specs.Transition.{transition_of}
use Rattle.petri_atom.proofs.Telling.{AreRight}
use Rattle.petri_atom.proofs.behind.all_behind.Given as goal

abbrev pub invariant-loop-fired : goal.invariant-loop-fired
invariant-loop-fired l = record {
  number : length l.all.items ≡ l.fired-index;
  right : AreRight (map port_of l.ports) (map transition_of l.transitions) (length l.transitions) l.all.items;
}
