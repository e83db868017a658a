use Rattle.std.proofs.Common.{◌≡◌, ◌≤◌, ℕ, true, false, drop, length, map}
use Rattle.petri_atom.specs.Local.{is_in}
use Rattle.priority_filter.specs.Members.{has_bit}
use Rattle.plant_model.specs.Wire.{wire_of}
use Rattle.step_core.specs.SureJudgement.{has_leaf_of}
use Rattle.step_core.proofs.sure.connectors_of_atoms.Given as goal

-- a connector with a leaf of one of the atoms that are not left has its bit, and one past the last has none
abbrev pub invariant-loop-atom : goal.invariant-loop-atom
invariant-loop-atom l = record {
  told : (k atom : ℕ) → has_bit l.connectors k ≡ false → is_in l.atoms atom ≡ true → is_in (drop l.atom-index l.atoms) atom ≡ false → has_leaf_of (map wire_of l.system.wires.items) atom k ≡ false;
  within : (k : ℕ) → length (map wire_of l.system.wires.items) ≤ k → has_bit l.connectors k ≡ false;
}
