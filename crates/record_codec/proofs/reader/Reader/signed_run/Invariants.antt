use Rattle.std.proofs.Common.{◌≡◌, ◌*◌, take, drop}
use Rattle.record_codec.specs.Bytes.{signed_numbers}
use Rattle.record_codec.proofs.reader.Reader.signed_run.Given as goal

abbrev pub invariant-loop-i : goal.invariant-loop-i
invariant-loop-i l = record {
  rest : l.self ≡ drop (8 * l.i) l.fn.self;
  values : take l.i l.into ≡ signed_numbers l.i l.fn.self;
}
