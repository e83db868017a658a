use Rattle.std.proofs.Common.{◌≡◌, ◌==◌, ℕ, take}
use Rattle.std.specs.List.{list_any}
use Rattle.petri_atom.specs.Local.{has}
use Rattle.record_replay.proofs.parts.atoms_in.Given as goal

-- the atoms of the entries so far
abbrev pub invariant-loop-entry : goal.invariant-loop-entry
invariant-loop-entry l = (atom : ℕ) → has l.atoms atom ≡ list_any (λ e. e.atom == atom) (take l.entry-index l.fired.entries)
