-- The body of a slot: the state of one atom as it was saved.
use Rattle.std.specs.Prelude.{◌≡◌, ℕ, ◌^◌, ◌<◌, ◌≤◌, nat_lt, nat_le, Bool, ◌&&◌, ℤ, List, ◌++◌, length, drop, Option, All, FitsSigned}
use Rattle.std.specs.Int.{w64}
use Rattle.std.specs.List.{flat_map}
use Rattle.record_codec.specs.declared.layout.TheConstants.{MOST_ATOMS, LAST_NUMBER, MOST_VARIABLES}
use Rattle.record_codec.specs.Bytes.{one_byte, two_bytes, eight_bytes, signed_bytes, one_byte_number, two_byte_number, eight_byte_number, signed_numbers, padded, if_spelled}

-- the saved state of an atom: how often it had taken part, the number fired when it was copied, its
-- marking as a set of bits, and the values of its variables
pub record SavedFields : Type 0 where
  pub atom : ℕ
  pub count : ℕ
  pub at : ℕ
  pub marking : ℕ
  pub values : List ℤ

-- the ranges of a saved state
pub record IsSaved (saved : SavedFields) : Type 0 where
  pub atom_within : saved.atom < MOST_ATOMS
  pub count_within : saved.count ≤ saved.at
  pub at_within : saved.at ≤ LAST_NUMBER
  pub values_within : length saved.values ≤ MOST_VARIABLES

-- the same as a test
abbrev pub is_saved : SavedFields → Bool
is_saved saved = nat_lt saved.atom MOST_ATOMS && nat_le saved.count saved.at && nat_le saved.at LAST_NUMBER && nat_le (length saved.values) MOST_VARIABLES

-- the marking is a u64, and each value an i64
pub record SavedFits (saved : SavedFields) : Type 0 where
  pub marking : saved.marking < 2 ^ 64
  pub values : All (FitsSigned w64) saved.values

-- how a saved state is spelled
abbrev pub saved_bytes : SavedFields → List ℕ
saved_bytes saved = two_bytes saved.atom ++ eight_bytes saved.count ++ eight_bytes saved.at ++ eight_bytes saved.marking ++ one_byte (length saved.values) ++ flat_map signed_bytes saved.values

-- the body is the spelling of this saved state, and zeros
pub record IsSavedBody (body : List ℕ) (saved : SavedFields) : Type 0 where
  pub in_range : IsSaved saved
  pub fits : SavedFits saved
  pub spelled : body ≡ padded (length body) (saved_bytes saved)

-- what the fields say
abbrev pub saved_fields : List ℕ → SavedFields
saved_fields body =
    let from_count = drop 2 body in
    let from_at = drop 8 from_count in
    let from_marking = drop 8 from_at in
    let from_variables = drop 8 from_marking in
    record {
      atom = two_byte_number body;
      count = eight_byte_number from_count;
      at = eight_byte_number from_at;
      marking = eight_byte_number from_marking;
      values = signed_numbers (one_byte_number from_variables) (drop 1 from_variables);
    }

-- the saved state that a body holds
unfoldable pub saved_in : List ℕ → Option SavedFields
saved_in body = let saved = saved_fields body in if_spelled (is_saved saved) saved (saved_bytes saved) body
