-- FNV-1a of 64 bits.
use Rattle.std.specs.Prelude.{ℕ, List, [], ◌∷◌, ◌*◌, ◌%◌, ◌^◌, bit_xor}
use Rattle.bip_bench.specs.declared.hash.TheConstants.{PRIME}

-- the hash goes on by a byte
abbrev pub hash_by : ℕ → ℕ → ℕ
hash_by hash byte = (bit_xor hash byte * PRIME) % 2 ^ 64

-- the hash goes on by each of some bytes
abbrev pub hash_from : ℕ → List ℕ → ℕ
hash_from hash [] = hash
hash_from hash (byte ∷ bytes) = hash_from (hash_by hash byte) bytes
