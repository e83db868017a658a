use Rattle.std.proofs.Common.{◌≡◌, drop}
use Rattle.bip_bench.specs.Hash.{hash_from}
use Rattle.bip_bench.proofs.hash.Hash.add.Given as goal

abbrev pub invariant-loop-byte : goal.invariant-loop-byte
invariant-loop-byte l = hash_from l.self.value (drop l.byte-index l.bytes) ≡ hash_from l.fn.self.value l.bytes
