use Rattle.std.proofs.Common.{◌≡◌, ◌≤◌, ◌<◌, ℕ}
use Rattle.std.specs.Prelude.{None, slice_index_or}
use Rattle.plant_model.proofs.copy_row.is_free_from.Given as goal

-- none so far is there
abbrev pub invariant-loop-export : goal.invariant-loop-export
invariant-loop-export l = (k : ℕ) → l.first ≤ k → k < l.export → slice_index_or l.cells k None ≡ None
