use Rattle.std.proofs.Common.{◌+◌, ◌∙◌, sym, ap, drop}
use Rattle.std.proofs.lemmas.List.{drop_more}
use Rattle.bip_bench.specs.Hash.{hash_by, hash_from}
use Rattle.bip_bench.proofs.hash.Hash.add.Goals as goal

pub loop-byte-preserved : goal.loop-byte-preserved
loop-byte-preserved c =
    let bytes = c.args.bytes.now in
    let index = c.loop-byte.byte-index in
    ap (λ byte. hash_from (hash_by c.loop-byte.self.value byte) (drop (index + 1) bytes)) c.from.ensures ∙
    sym (ap (hash_from c.loop-byte.self.value) (drop_more bytes index 0 c.loop-byte-test.true)) ∙ c.loop-byte.invariant
