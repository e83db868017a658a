-- A number that was written is read again, and the bytes after it are left.
use Rattle.std.proofs.Common.{◌≡◌, ℕ, zero, suc, ◌+◌, ◌*◌, ◌^◌, ◌<◌, ℤ, pos, negsuc, List, [], ◌∷◌, ◌++◌, length, drop, refl, ap, ◌∙◌, arith, append_assoc, All, FitsSigned}
use Rattle.std.specs.Int.{w16, w32, w64, to_be_bytes, from_be_bytes, cast_signed, cast_unsigned}
use Rattle.std.specs.List.{flat_map}
use Rattle.std.proofs.lemmas.List.{take_at, drop_at, length-append, drop-drop}
use Rattle.std.proofs.lemmas.Nat.{from_be_bytes-to_be_bytes_2, from_be_bytes-to_be_bytes_4, from_be_bytes-to_be_bytes_8}
use Rattle.std.proofs.lemmas.Int.{to_z-of_z}
use Rattle.record_codec.specs.Bytes.{one_byte, two_bytes, four_bytes, eight_bytes, signed_bytes, one_byte_number, two_byte_number, four_byte_number, eight_byte_number, signed_number, signed_numbers}

-- ---- how long each is

pub length-one_byte : (n : ℕ) → length (one_byte n) ≡ 1
unfolding one_byte
length-one_byte n = refl

pub length-two_bytes : (n : ℕ) → length (two_bytes n) ≡ 2
unfolding two_bytes
length-two_bytes n = refl

pub length-four_bytes : (n : ℕ) → length (four_bytes n) ≡ 4
unfolding four_bytes
length-four_bytes n = refl

pub length-eight_bytes : (n : ℕ) → length (eight_bytes n) ≡ 8
unfolding eight_bytes
length-eight_bytes n = refl

pub length-signed_bytes : (z : ℤ) → length (signed_bytes z) ≡ 8
unfolding signed_bytes
length-signed_bytes z = refl

pub length-signed_run : (zs : List ℤ) → length (flat_map signed_bytes zs) ≡ 8 * length zs
length-signed_run [] = refl
length-signed_run (z ∷ zs) = omega (arith, length-append (signed_bytes z) (flat_map signed_bytes zs), length-signed_bytes z, length-signed_run zs)

-- ---- the bytes after each

pub drop-one_byte : (n : ℕ) (rest : List ℕ) → drop 1 (one_byte n ++ rest) ≡ rest
drop-one_byte n rest = drop_at (one_byte n) rest 1 (length-one_byte n)

pub drop-two_bytes : (n : ℕ) (rest : List ℕ) → drop 2 (two_bytes n ++ rest) ≡ rest
drop-two_bytes n rest = drop_at (two_bytes n) rest 2 (length-two_bytes n)

pub drop-four_bytes : (n : ℕ) (rest : List ℕ) → drop 4 (four_bytes n ++ rest) ≡ rest
drop-four_bytes n rest = drop_at (four_bytes n) rest 4 (length-four_bytes n)

pub drop-eight_bytes : (n : ℕ) (rest : List ℕ) → drop 8 (eight_bytes n ++ rest) ≡ rest
drop-eight_bytes n rest = drop_at (eight_bytes n) rest 8 (length-eight_bytes n)

pub drop-signed_bytes : (z : ℤ) (rest : List ℕ) → drop 8 (signed_bytes z ++ rest) ≡ rest
drop-signed_bytes z rest = drop_at (signed_bytes z) rest 8 (length-signed_bytes z)

-- ---- each is read again

pub one_byte_number-one_byte : (n : ℕ) (rest : List ℕ) → one_byte_number (one_byte n ++ rest) ≡ n
unfolding one_byte_number one_byte
one_byte_number-one_byte n rest = refl

pub two_byte_number-two_bytes : (n : ℕ) (rest : List ℕ) → n < 2 ^ 16 → two_byte_number (two_bytes n ++ rest) ≡ n
unfolding two_byte_number two_bytes
two_byte_number-two_bytes n rest lt =
    ap (from_be_bytes w16) (take_at (to_be_bytes w16 n) rest 2 refl) ∙ from_be_bytes-to_be_bytes_2 n lt

pub four_byte_number-four_bytes : (n : ℕ) (rest : List ℕ) → n < 2 ^ 32 → four_byte_number (four_bytes n ++ rest) ≡ n
unfolding four_byte_number four_bytes
four_byte_number-four_bytes n rest lt =
    ap (from_be_bytes w32) (take_at (to_be_bytes w32 n) rest 4 refl) ∙ from_be_bytes-to_be_bytes_4 n lt

pub eight_byte_number-eight_bytes : (n : ℕ) (rest : List ℕ) → n < 2 ^ 64 → eight_byte_number (eight_bytes n ++ rest) ≡ n
unfolding eight_byte_number eight_bytes
eight_byte_number-eight_bytes n rest lt =
    ap (from_be_bytes w64) (take_at (to_be_bytes w64 n) rest 8 refl) ∙ from_be_bytes-to_be_bytes_8 n lt

below_of_z : (z : ℤ) → FitsSigned w64 z → cast_unsigned w64 z < 2 ^ 64
below_of_z (pos n) fits = omega (arith, fits.sfits)
below_of_z (negsuc n) fits = omega (arith, fits.sfits)

pub signed_number-signed_bytes : (z : ℤ) (rest : List ℕ) → FitsSigned w64 z → signed_number (signed_bytes z ++ rest) ≡ z
unfolding signed_number signed_bytes
signed_number-signed_bytes z rest fits =
    ap (λ (bytes : List ℕ). cast_signed w64 (from_be_bytes w64 bytes)) (take_at (to_be_bytes w64 (cast_unsigned w64 z)) rest 8 refl)
    ∙ ap (cast_signed w64) (from_be_bytes-to_be_bytes_8 (cast_unsigned w64 z) (below_of_z z fits))
    ∙ to_z-of_z w64 z fits

-- ---- runs of signed numbers

pub length-signed_numbers : (n : ℕ) (bytes : List ℕ) → length (signed_numbers n bytes) ≡ n
length-signed_numbers zero bytes = refl
length-signed_numbers (suc n) bytes = ap suc (length-signed_numbers n (drop 8 bytes))

-- one more number at the end
pub signed_numbers_more : (n : ℕ) (bytes : List ℕ) → signed_numbers (n + 1) bytes ≡ signed_numbers n bytes ++ signed_number (drop (8 * n) bytes) ∷ []
signed_numbers_more zero bytes = refl
signed_numbers_more (suc n) bytes =
    let one_on : suc n + 1 ≡ suc (n + 1) = omega arith in
    let after : drop (8 * n) (drop 8 bytes) ≡ drop (8 * suc n) bytes = drop-drop (8 * n) 8 bytes ∙ ap (λ (k : ℕ). drop k bytes) (omega arith) in
    ap (λ (k : ℕ). signed_numbers k bytes) one_on
    ∙ ap (λ (zs : List ℤ). signed_number bytes ∷ zs) (signed_numbers_more n (drop 8 bytes) ∙ ap (λ (left : List ℕ). signed_numbers n (drop 8 bytes) ++ signed_number left ∷ []) after)

pub signed_numbers-run : (zs : List ℤ) (rest : List ℕ) → All (FitsSigned w64) zs → signed_numbers (length zs) (flat_map signed_bytes zs ++ rest) ≡ zs
signed_numbers-run [] rest fits = refl
signed_numbers-run (z ∷ zs) rest fits =
    let after : List ℕ = flat_map signed_bytes zs ++ rest in
    let grouped : (signed_bytes z ++ flat_map signed_bytes zs) ++ rest ≡ signed_bytes z ++ after = append_assoc (signed_bytes z) (flat_map signed_bytes zs) rest in
    let first : signed_number ((signed_bytes z ++ flat_map signed_bytes zs) ++ rest) ≡ z = ap signed_number grouped ∙ signed_number-signed_bytes z after (fits 0 z (omega arith)) in
    let left : drop 8 ((signed_bytes z ++ flat_map signed_bytes zs) ++ rest) ≡ after = ap (drop 8) grouped ∙ drop-signed_bytes z after in
    let others : signed_numbers (length zs) after ≡ zs = signed_numbers-run zs rest (λ k d lt. fits (suc k) d (omega arith)) in
    rw (first, left, others) refl
