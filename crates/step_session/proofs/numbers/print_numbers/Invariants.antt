-- The numbers before the next one are printed after the first.
use Rattle.std.proofs.Common.{◌+◌, ◌-◌}
use Rattle.std.specs.Prelude.{flat_map}
use Rattle.std.specs.List.{range_with_len}
use Rattle.std.specs.Io.KnownBytes.{Appends}
use Rattle.step_session.specs.Numbers.{later_number}
use Rattle.step_session.proofs.numbers.print_numbers.Given as goal

abbrev pub invariant-loop-number : goal.invariant-loop-number
invariant-loop-number g l =
    Appends (g.W.Write.contents l.initial.output) (g.W.Write.contents l.output) (flat_map later_number (range_with_len (l.first + 1) (l.number-counter - (l.first + 1))))
