use Rattle.std.proofs.Common.{◌≡◌, ◌<◌, ℕ, length}
use Rattle.std.specs.Prelude.{Some, slice_get}
use Rattle.plant_model.specs.Step.{nothing_delivered}
use Rattle.plant_model.proofs.transfers.deliver_nothing.Given as goal

-- nothing is delivered at the places so far
abbrev pub invariant-loop-place : goal.invariant-loop-place
invariant-loop-place l =
    (length l.delivered ≡ length l.initial.delivered) × ((n : ℕ) → n < l.place → slice_get l.delivered n ≡ Some nothing_delivered)
