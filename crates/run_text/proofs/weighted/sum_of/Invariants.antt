-- The weights before this place are added, and each is below 2^16.
use Rattle.std.proofs.Common.{◌≡◌, ◌≤◌, ◌*◌, ◌^◌, take}
use Rattle.std.specs.List.{sum}
use Rattle.run_text.proofs.weighted.sum_of.Given as goal

abbrev pub invariant-loop-share : goal.invariant-loop-share
invariant-loop-share l = record {
  sum : l.sum ≡ sum (take l.share-index l.shares);
  few : l.sum ≤ l.share-index * 2 ^ 16;
}
