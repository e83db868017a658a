use Rattle.std.proofs.Common.{◌≡◌, ◌<◌, ◌≤◌, ℕ, length, get_or}
use Rattle.petri_atom.specs.Atom.{definition_of}
use Rattle.petri_atom.specs.Local.{Local}
use Rattle.petri_atom.specs.Definition.{enabled, offered_set}
use Rattle.petri_atom.specs.declared.parts.TheConstants.{MAX_PORTS, MAX_TRANSITIONS}
use Rattle.petri_atom.proofs.atom.Atom.counts_among.Given as goal

abbrev pub invariant-loop-port : goal.invariant-loop-port
invariant-loop-port l =
    ((state : Local) → l.offered ≡ offered_set (definition_of l.self) state → (k : ℕ) → k < l.port → get_or l.counts k 0 ≡ length (enabled (definition_of l.self) state k)) ×
    ((k : ℕ) → l.port ≤ k → get_or l.counts k 0 ≡ 0) ×
    ((k : ℕ) → get_or l.counts k 0 ≤ MAX_TRANSITIONS) ×
    (length l.counts ≡ MAX_PORTS)
