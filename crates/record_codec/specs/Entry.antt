-- What one participant did in a fired interaction, as it stands in a record.
use Rattle.std.specs.Prelude.{◌≡◌, ℕ, zero, suc, ◌+◌, ◌*◌, ◌/◌, ◌%◌, ◌<◌, ◌≤◌, nat_lt, nat_le, ◌==◌, Bool, ◌&&◌, if◌then◌else◌, ℤ, List, [], ◌∷◌, ◌++◌, length, drop, Option, Some, None, IfSome, All, FitsSigned}
use Rattle.std.specs.Int.{w64}
use Rattle.std.specs.List.{flat_map, sum_by}
use Rattle.record_codec.specs.declared.entry.Entry.{Entry}
use Rattle.record_codec.specs.declared.layout.TheConstants.{MOST_ATOMS, MOST_TRANSITIONS, MOST_EXPORTED}
use Rattle.record_codec.specs.Bytes.{one_byte, two_bytes, eight_bytes, signed_bytes, one_byte_number, two_byte_number, eight_byte_number, signed_number}

-- the ranges of an entry in the record with this number
pub record IsEntry (number : ℕ) (entry : Entry) : Type 0 where
  pub atom_within : entry.atom < MOST_ATOMS
  pub transition_within : entry.transition < MOST_TRANSITIONS
  pub participation_positive : 1 ≤ entry.participation
  pub participation_within : entry.participation ≤ number

-- the same as a test
abbrev pub is_entry : ℕ → Entry → Bool
is_entry number entry = nat_lt entry.atom MOST_ATOMS && nat_lt entry.transition MOST_TRANSITIONS && nat_le 1 entry.participation && nat_le entry.participation number

-- there is a place for each variable that a port may export, and each value is an i64
pub record EntryFits (entry : Entry) : Type 0 where
  pub places : length entry.delivered ≡ MOST_EXPORTED
  pub values : All (λ value. IfSome value (FitsSigned w64)) entry.delivered

-- 1 for a value that was delivered
abbrev pub bit_of : Option ℤ → ℕ
bit_of None = 0
bit_of (Some value) = 1

-- the mask has bit j for a value that was delivered to variable j
abbrev pub mask_of : List (Option ℤ) → ℕ
mask_of [] = 0
mask_of (value ∷ values) = bit_of value + 2 * mask_of values

-- a value that was delivered is spelled in eight bytes, and one that was not in none
abbrev pub value_bytes : Option ℤ → List ℕ
value_bytes None = []
value_bytes (Some value) = signed_bytes value

-- how an entry is spelled
unfoldable pub entry_bytes : Entry → List ℕ
entry_bytes entry = two_bytes entry.atom ++ two_bytes entry.transition ++ eight_bytes entry.participation ++ one_byte (sum_by bit_of entry.delivered) ++ one_byte (mask_of entry.delivered) ++ flat_map value_bytes entry.delivered

-- the first bits of a mask, from bit 0 up
abbrev pub bits_of : ℕ → ℕ → List Bool
bits_of zero mask = []
bits_of (suc n) mask = (mask % 2 == 1) ∷ bits_of n (mask / 2)

-- the value in the first eight bytes, where there is one, and the bytes after it
abbrev pub value_at : Bool → List ℕ → Option ℤ
value_at given bytes = if given then Some (signed_number bytes) else None

abbrev pub after_value : Bool → List ℕ → List ℕ
after_value given bytes = if given then drop 8 bytes else bytes

-- one after the other, a value for each bit that is set, and the bytes after them
abbrev pub values_at : List Bool → List ℕ → List (Option ℤ)
values_at [] bytes = []
values_at (given ∷ more) bytes = value_at given bytes ∷ values_at more (after_value given bytes)

abbrev pub after_values : List Bool → List ℕ → List ℕ
after_values [] bytes = bytes
after_values (given ∷ more) bytes = after_values more (after_value given bytes)

-- the mask of the entry that the bytes begin with
abbrev pub mask_at : List ℕ → ℕ
mask_at bytes = one_byte_number (drop 1 (drop 8 (drop 2 (drop 2 bytes))))

-- what stands after that mask
abbrev pub after_mask : List ℕ → List ℕ
after_mask bytes = drop 1 (drop 1 (drop 8 (drop 2 (drop 2 bytes))))

-- what the fields of an entry say
unfoldable pub entry_at : List ℕ → Entry
entry_at bytes = record {
  atom = two_byte_number bytes;
  transition = two_byte_number (drop 2 bytes);
  participation = eight_byte_number (drop 2 (drop 2 bytes));
  delivered = values_at (bits_of MOST_EXPORTED (mask_at bytes)) (after_mask bytes);
}

-- what stands after them
unfoldable pub after_entry : List ℕ → List ℕ
after_entry bytes = after_values (bits_of MOST_EXPORTED (mask_at bytes)) (after_mask bytes)

-- so many entries, one after the other, and the bytes after them
abbrev pub entries_at : ℕ → List ℕ → List Entry
entries_at zero bytes = []
entries_at (suc n) bytes = entry_at bytes ∷ entries_at n (after_entry bytes)

abbrev pub after_entries : ℕ → List ℕ → List ℕ
after_entries zero bytes = bytes
after_entries (suc n) bytes = after_entries n (after_entry bytes)
