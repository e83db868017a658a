use Rattle.std.proofs.Common.{◌≡◌, length, take}
use Rattle.plant_model.specs.declared.limits.TheConstants.{MAX_ATOMS}
use Rattle.record_replay.specs.Records.{counted_from}
use Rattle.record_replay.proofs.records.count_participants.Given as goal

-- the moves so far are counted
abbrev pub invariant-loop-step : goal.invariant-loop-step
invariant-loop-step l = record {
  counted : l.counts ≡ counted_from (take l.step-index l.moves) 0 l.fn.counts;
  all : length l.counts ≡ MAX_ATOMS;
}
