use Rattle.std.proofs.Common.{◌≡◌, ◌+◌, ◌-◌, ◌<◌, ℕ, drop}
use Rattle.plant_model.specs.declared.limits.TheConstants.{MAX_ATOMS}
use Rattle.record_replay.specs.Records.{count_of}
use Rattle.plant_image.specs.Contents.{most_by}
use Rattle.plant_image.proofs.counts.most_firings.Given as goal

-- the rest leads from what is known so far to what all lead to
abbrev pub invariant-loop-place : goal.invariant-loop-place
invariant-loop-place l = (atom : ℕ) → atom < MAX_ATOMS → most_by atom (l.base - 1) l.base l.records ≡ most_by atom (count_of l.most atom) (l.base + l.place) (drop l.place l.records)
