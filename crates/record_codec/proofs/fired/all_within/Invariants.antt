use Rattle.std.proofs.Common.{◌≡◌, true, take}
use Rattle.std.specs.List.{list_all}
use Rattle.record_codec.specs.Entry.{is_entry}
use Rattle.record_codec.proofs.fired.all_within.Given as goal

abbrev pub invariant-loop-entry : goal.invariant-loop-entry
invariant-loop-entry l = list_all (is_entry l.number) (take l.entry-index l.entries) ≡ true
