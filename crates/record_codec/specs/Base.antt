-- The body of a base cell.
use Rattle.std.specs.Prelude.{◌≡◌, ℕ, ◌+◌, ◌≤◌, nat_le, Bool, ◌&&◌, List, length, Option}
use Rattle.record_codec.specs.declared.layout.TheConstants.{LAST_NUMBER}
use Rattle.record_codec.specs.Bytes.{eight_bytes, eight_byte_number, padded, if_spelled}

-- a base is the number of a record, or one past the last
pub record IsBase (number : ℕ) : Type 0 where
  pub positive : 1 ≤ number
  pub within : number ≤ LAST_NUMBER + 1

-- the same as a test
abbrev pub is_base : ℕ → Bool
is_base number = nat_le 1 number && nat_le number (LAST_NUMBER + 1)

-- how a base is spelled
abbrev pub base_bytes : ℕ → List ℕ
base_bytes number = eight_bytes number

-- the body is the spelling of this base, and zeros
pub record IsBaseBody (body : List ℕ) (number : ℕ) : Type 0 where
  pub in_range : IsBase number
  pub spelled : body ≡ padded (length body) (base_bytes number)

-- the base that a body holds
unfoldable pub base_in : List ℕ → Option ℕ
base_in body = let number = eight_byte_number body in if_spelled (is_base number) number (base_bytes number) body
