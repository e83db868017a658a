-- The body of a record: one fired interaction.
use Rattle.std.specs.Prelude.{◌≡◌, ℕ, ◌<◌, ◌≤◌, nat_lt, nat_le, Bool, true, ◌&&◌, List, [], ◌∷◌, ◌++◌, length, map, drop, Option, All}
use Rattle.std.specs.List.Sorted.{IsStrictlyIncreasing}
use Rattle.std.specs.List.{flat_map, list_all}
use Rattle.record_codec.specs.declared.entry.Entry.{Entry}
use Rattle.record_codec.specs.declared.layout.TheConstants.{LAST_NUMBER, MOST_CONNECTORS, MOST_ENTRIES}
use Rattle.record_codec.specs.Bytes.{one_byte, two_bytes, eight_bytes, one_byte_number, two_byte_number, eight_byte_number, padded, if_spelled}
use Rattle.record_codec.specs.Entry.{IsEntry, is_entry, EntryFits, entry_bytes, entries_at}

-- a fired interaction: its number, its connector, and an entry for each participant
pub record FiredFields : Type 0 where
  pub number : ℕ
  pub connector : ℕ
  pub entries : List Entry

-- the atoms of entries, in their order
abbrev pub atoms_of : List Entry → List ℕ
atoms_of entries = map (λ (entry : Entry). entry.atom) entries

-- the ranges of a record of at most so many entries; its atoms rise strictly from entry to entry
pub record IsFiredUpTo (most : ℕ) (fired : FiredFields) : Type 0 where
  pub number_positive : 1 ≤ fired.number
  pub number_within : fired.number ≤ LAST_NUMBER
  pub connector_within : fired.connector < MOST_CONNECTORS
  pub some_entry : 1 ≤ length fired.entries
  pub entries_within : length fired.entries ≤ most
  pub entries : All (IsEntry fired.number) fired.entries
  pub rising : IsStrictlyIncreasing (atoms_of fired.entries)

-- the ranges in this layout
abbrev pub IsFired : FiredFields → Type 0
IsFired fired = IsFiredUpTo MOST_ENTRIES fired

-- each number is below the next, as a test
abbrev pub is_rising : List ℕ → Bool
is_rising [] = true
is_rising (x ∷ []) = true
is_rising (x ∷ y ∷ ys) = nat_lt x y && is_rising (y ∷ ys)

-- the ranges as a test
abbrev pub is_fired_up_to : ℕ → FiredFields → Bool
is_fired_up_to most fired =
    nat_le 1 fired.number && nat_le fired.number LAST_NUMBER && nat_lt fired.connector MOST_CONNECTORS
    && nat_le 1 (length fired.entries) && nat_le (length fired.entries) most
    && list_all (is_entry fired.number) fired.entries && is_rising (atoms_of fired.entries)

abbrev pub is_fired : FiredFields → Bool
is_fired fired = is_fired_up_to MOST_ENTRIES fired

-- each entry has its places, and each value is an i64
pub record FiredFits (fired : FiredFields) : Type 0 where
  pub entries : All EntryFits fired.entries

-- how a record is spelled
abbrev pub fired_bytes : FiredFields → List ℕ
fired_bytes fired = eight_bytes fired.number ++ two_bytes fired.connector ++ one_byte (length fired.entries) ++ flat_map entry_bytes fired.entries

-- the body is the spelling of this record, and zeros
pub record IsFiredBodyUpTo (most : ℕ) (body : List ℕ) (fired : FiredFields) : Type 0 where
  pub in_range : IsFiredUpTo most fired
  pub fits : FiredFits fired
  pub spelled : body ≡ padded (length body) (fired_bytes fired)

abbrev pub IsFiredBody : List ℕ → FiredFields → Type 0
IsFiredBody body fired = IsFiredBodyUpTo MOST_ENTRIES body fired

-- what the fields say
abbrev pub fired_fields : List ℕ → FiredFields
fired_fields body =
    let from_connector = drop 8 body in
    let from_count = drop 2 from_connector in
    record {
      number = eight_byte_number body;
      connector = two_byte_number from_connector;
      entries = entries_at (one_byte_number from_count) (drop 1 from_count);
    }

-- the record that a body holds
abbrev pub fired_up_to : ℕ → List ℕ → Option FiredFields
fired_up_to most body = let fired = fired_fields body in if_spelled (is_fired_up_to most fired) fired (fired_bytes fired) body

unfoldable pub fired_in : List ℕ → Option FiredFields
fired_in body = fired_up_to MOST_ENTRIES body
