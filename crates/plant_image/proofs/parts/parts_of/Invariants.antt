use Rattle.std.proofs.Common.{◌≡◌, ◌<◌, ◌≤◌, ℕ, length, slice_get, slice_index_or, Some, vec_capacity, vec_len}
use Rattle.record_codec.specs.Fired.{FiredFields}
use Rattle.record_replay.specs.Parts.{IsOfParts}
use Rattle.plant_image.proofs.parts.parts_of.Given as goal

-- the records so far
abbrev pub invariant-loop-fired : goal.invariant-loop-fired
invariant-loop-fired l = record {
  room : length l.records ≤ vec_capacity l.parts;
  long : vec_len l.parts ≡ l.fired-index;
  each : (k : ℕ) (r : FiredFields) → k < l.fired-index → slice_get l.records k ≡ Some r → IsOfParts r (slice_index_or l.parts.items k 0);
}
