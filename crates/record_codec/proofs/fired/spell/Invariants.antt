use Rattle.std.proofs.Common.{◌≡◌, ◌+◌, ◌*◌, ◌≤◌, ◌++◌, length, take, All}
use Rattle.std.specs.List.{flat_map}
use Rattle.record_codec.specs.declared.layout.TheConstants.{LONGEST_ENTRY}
use Rattle.record_codec.specs.declared.fired.TheConstants.{HEAD}
use Rattle.record_codec.specs.Bytes.{eight_bytes, two_bytes, one_byte, padded}
use Rattle.record_codec.specs.Entry.{EntryFits, entry_bytes}
use Rattle.record_codec.proofs.fired.spell.Given as goal

abbrev pub invariant-loop-place : goal.invariant-loop-place
invariant-loop-place g l =
    let all = g.E.EntrySource.entries l.entries in
    let front = (eight_bytes l.number ++ two_bytes l.connector ++ one_byte (length all)) ++ flat_map entry_bytes (take l.place all) in
    record {
      end : l.end ≡ length front;
      within : l.end ≤ HEAD + LONGEST_ENTRY * l.place;
      written : l.body ≡ padded (length l.body) front;
      fits : All EntryFits (take l.place all);
    }
