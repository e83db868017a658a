-- A body holds a base exactly where it is the base's spelling and zeros.
use Rattle.std.proofs.Common.{◌≡◌, ℕ, ◌-◌, true, List, length, Some, ap, ◌∙◌, arith, ◌≤◌}
use Rattle.std.proofs.lemmas.Bool.Decides.{nat_tests}
use Rattle.record_codec.specs.Bytes.{padded, zeros, eight_byte_number}
use Rattle.record_codec.specs.Base.{IsBase, IsBaseBody, is_base, base_bytes, base_in}
use Rattle.record_codec.proofs.Spelled.{if_spelled-some, if_spelled_is}
use Rattle.record_codec.proofs.Written.{padded_is, padded_to_own}
use Rattle.record_codec.proofs.Numbers.{eight_byte_number-eight_bytes, length-eight_bytes}

pub is_base-true : (number : ℕ) → IsBase number → is_base number ≡ true
is_base-true number h = grind (arith, nat_tests)

pub IsBase-from_test : (number : ℕ) → is_base number ≡ true → IsBase number
IsBase-from_test number h = record { positive = grind (arith, nat_tests); within = grind (arith, nat_tests) }

pub held_base_is_spelled : (body : List ℕ) (number : ℕ) → base_in body ≡ Some number → IsBaseBody body number
unfolding base_in
held_base_is_spelled body number e =
    let n = eight_byte_number body in
    let p = if_spelled-some (is_base n) n number (base_bytes n) body e in
    rw (← p.same) (record { in_range = IsBase-from_test n p.in_range; spelled = p.spelled })

pub spelled_base_is_held : (body : List ℕ) (number : ℕ) → IsBaseBody body number → base_in body ≡ Some number
unfolding base_in
spelled_base_is_held body number h =
    let is : eight_byte_number body ≡ number = ap eight_byte_number (h.spelled ∙ padded_is (length body) (base_bytes number)) ∙ eight_byte_number-eight_bytes number (zeros (length body - length (base_bytes number))) (omega (arith, h.in_range.within)) in
    rw is (if_spelled_is (is_base number) number (base_bytes number) body (is_base-true number h.in_range) h.spelled)

-- what is written is read again
pub base_reads_back : (number len : ℕ) → 8 ≤ len → IsBase number → base_in (padded len (base_bytes number)) ≡ Some number
base_reads_back number len fits h =
    spelled_base_is_held (padded len (base_bytes number)) number (record { in_range = h; spelled = padded_to_own len (base_bytes number) (omega (arith, length-eight_bytes number)) })
