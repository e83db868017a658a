use Rattle.std.proofs.Common.{◌≡◌, ◌+◌, ◌*◌, ◌≤◌, length, take}
use Rattle.record_codec.specs.declared.layout.TheConstants.{LONGEST_ENTRY}
use Rattle.record_codec.specs.Entry.{entries_at, after_entries}
use Rattle.record_codec.proofs.reader.Reader.entries.Given as goal

abbrev pub invariant-loop-i : goal.invariant-loop-i
invariant-loop-i l = record {
  rest : l.self ≡ after_entries l.i l.fn.self;
  values : take l.i l.into ≡ entries_at l.i l.fn.self;
  left : length l.fn.self ≤ length l.self + LONGEST_ENTRY * l.i;
}
