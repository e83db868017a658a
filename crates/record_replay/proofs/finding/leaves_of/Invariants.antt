use Rattle.std.proofs.Common.{◌≡◌, ℕ, nat_lt, ◌&&◌}
use Rattle.connector_tree.specs.Masks.{is_set}
use Rattle.record_replay.specs.Finding.{is_leaf_of}
use Rattle.record_replay.proofs.finding.leaves_of.Given as goal

-- the leaves so far
abbrev pub invariant-loop-leaf : goal.invariant-loop-leaf
invariant-loop-leaf l = (j : ℕ) → is_set l.mask j ≡ (nat_lt j l.leaf && is_leaf_of l.leaves l.atoms j)
