use Rattle.std.proofs.Common.{◌≡◌, ◌+◌, ◌*◌, ◌++◌, length, take, All, FitsSigned, w64}
use Rattle.std.specs.List.{flat_map}
use Rattle.record_codec.specs.Bytes.{signed_bytes}
use Rattle.record_codec.proofs.writer.Writer.signed_run.Given as goal

abbrev pub invariant-loop-number : goal.invariant-loop-number
invariant-loop-number g l = record {
  written : l.self ≡ l.fn.self ++ flat_map signed_bytes (take l.number-index l.numbers);
  len : length l.self ≡ length l.fn.self + 8 * l.number-index;
  fits : All (FitsSigned w64) (take l.number-index l.numbers);
}
