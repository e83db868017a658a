-- Numbers as bytes, and a body as a spelling that zeros follow.
use Rattle.std.specs.Prelude.{ℕ, zero, suc, ◌-◌, ℤ, Bool, ◌&&◌, if◌then◌else◌, List, [], ◌∷◌, ◌++◌, length, take, drop, replicate, slice_index, Option, Some, None, All, ◌<◌}
use Rattle.std.specs.Int.{w16, w32, w64, to_be_bytes, from_be_bytes, cast_unsigned, cast_signed}
use Rattle.std.specs.Str.{bytes_eq}

-- each is a byte
abbrev pub AreBytes : List ℕ → Type 0
AreBytes bytes = All (λ byte. byte < 256) bytes

-- a number in one byte
unfoldable pub one_byte : ℕ → List ℕ
one_byte n = n ∷ []

-- a number in two bytes, the high one first
unfoldable pub two_bytes : ℕ → List ℕ
two_bytes n = to_be_bytes w16 n

-- a number in four bytes, the high one first
unfoldable pub four_bytes : ℕ → List ℕ
four_bytes n = to_be_bytes w32 n

-- a number in eight bytes, the high one first
unfoldable pub eight_bytes : ℕ → List ℕ
eight_bytes n = to_be_bytes w64 n

-- a signed number in eight bytes, in two's complement
unfoldable pub signed_bytes : ℤ → List ℕ
signed_bytes z = to_be_bytes w64 (cast_unsigned w64 z)

-- the number that the first byte is
unfoldable pub one_byte_number : List ℕ → ℕ
one_byte_number bytes = slice_index bytes 0

-- the number that the first two bytes are
unfoldable pub two_byte_number : List ℕ → ℕ
two_byte_number bytes = from_be_bytes w16 (take 2 bytes)

-- the number that the first four bytes are
unfoldable pub four_byte_number : List ℕ → ℕ
four_byte_number bytes = from_be_bytes w32 (take 4 bytes)

-- the number that the first eight bytes are
unfoldable pub eight_byte_number : List ℕ → ℕ
eight_byte_number bytes = from_be_bytes w64 (take 8 bytes)

-- the signed number that the first eight bytes are
unfoldable pub signed_number : List ℕ → ℤ
signed_number bytes = cast_signed w64 (from_be_bytes w64 (take 8 bytes))

-- so many signed numbers, one after the other
abbrev pub signed_numbers : ℕ → List ℕ → List ℤ
signed_numbers zero bytes = []
signed_numbers (suc n) bytes = signed_number bytes ∷ signed_numbers n (drop 8 bytes)

-- so many zeros
unfoldable pub zeros : ℕ → List ℕ
zeros n = replicate n 0

-- the bytes, and zeros after them up to the length
unfoldable pub padded : ℕ → List ℕ → List ℕ
padded len bytes = bytes ++ zeros (len - length bytes)

-- The value that a body holds: the one that its fields say, where that is in its ranges and the body is
-- its spelling and zeros.
abbrev pub if_spelled : {V : Type 0} → Bool → V → List ℕ → List ℕ → Option V
if_spelled in_range value bytes body = if in_range && bytes_eq body (padded (length body) bytes) then Some value else None
