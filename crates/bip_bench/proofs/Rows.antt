-- Values that are known from elsewhere, computed by the definitions.
use Rattle.std.proofs.Common.{◌≡◌, refl, []}
use Rattle.std.specs.Prelude.{codes}
use Rattle.bip_bench.specs.Hash.{hash_from}
use Rattle.bip_bench.specs.Report.{rate_of}
use Rattle.bip_bench.specs.declared.hash.TheConstants.{OFFSET}

-- the published test vectors of FNV-1a: no byte, `a` and `foobar`
known_hashes : (hash_from OFFSET [] ≡ 14695981039346656037) × (hash_from OFFSET (codes "a") ≡ 12638187200555641996) × (hash_from OFFSET (codes "foobar") ≡ 9625390261332436968)
known_hashes = (refl, refl, refl)

-- 3 steps in a second and a half are 2 a second
rates_by_the_second : (rate_of 3 1500000000 ≡ 2) × (rate_of 3 0 ≡ 0)
rates_by_the_second = (refl, refl)
