use Rattle.std.proofs.Common.{◌≡◌, ℕ, false, take}
use Rattle.petri_atom.specs.Behind.{may_write}
use Rattle.petri_atom.specs.Local.{is_in}
use Rattle.petri_atom.proofs.behind.Written.add_all.Given as goal

abbrev pub invariant-loop-variable : goal.invariant-loop-variable
invariant-loop-variable l = record {
  kept : (v : ℕ) → may_write l.self.word v ≡ false → may_write l.initial.self.word v ≡ false;
  added : (v : ℕ) → may_write l.self.word v ≡ false → is_in (take l.variable-index l.variables) v ≡ false;
}
