-- What is read from bytes fits its type.
use Rattle.std.proofs.Common.{◌≡◌, ◌≤◌, ℕ, zero, suc, ◌^◌, ◌<◌, Bool, true, false, ℤ, List, [], ◌∷◌, length, take, drop, get_or, Option, IfSome, All, FitsSigned, w64, inl, inr, refl, arith}
use Rattle.std.proofs.lemmas.Bool.{cases_lt}
use Rattle.std.proofs.lemmas.List.{get_or_past, length-take-le}
use Rattle.std.proofs.lemmas.Nat.{be_bytes_2}
use Rattle.std.specs.Int.{w16, from_be_bytes}
use Rattle.std.proofs.lemmas.List.Elements.{All-nil, All-cons, All-take, All-drop}
use Rattle.std.proofs.Math.Facts.{sfits_to_z}
use Rattle.record_codec.specs.declared.layout.TheConstants.{MOST_EXPORTED}
use Rattle.record_codec.specs.Bytes.{AreBytes, two_bytes, two_byte_number, eight_byte_number, signed_number, signed_numbers}
use Rattle.record_codec.specs.Entry.{EntryFits, bits_of, value_at, after_value, values_at, after_values, mask_at, after_mask, entry_at, after_entry, entries_at}

abbrev pub IsByte : ℕ → Type 0
IsByte byte = byte < 256

byte_below : (bytes : List ℕ) → AreBytes bytes → (i : ℕ) → get_or bytes i 0 < 256
byte_below bytes h i =
    elim (cases_lt i (length bytes)) [
      | inl lt ↦ h i 0 lt
      | inr past ↦ rw (get_or_past bytes i 0 past) (omega arith)
    ]

AreBytes-drop : (n : ℕ) (bytes : List ℕ) → AreBytes bytes → AreBytes (drop n bytes)
AreBytes-drop n bytes h = All-drop IsByte n bytes h

pub two_byte_number_below : (bytes : List ℕ) → AreBytes bytes → two_byte_number bytes < 2 ^ 16
unfolding two_byte_number
two_byte_number_below bytes h =
    let each = byte_below (take 2 bytes) (All-take IsByte 2 bytes h) in
    omega (arith, each 0, each 1)

-- a number that was read from two bytes is spelled by them
pub two_bytes-two_byte_number : (bytes : List ℕ) → AreBytes bytes → 2 ≤ length bytes → two_bytes (two_byte_number bytes) ≡ take 2 bytes
unfolding two_bytes two_byte_number
two_bytes-two_byte_number bytes h long =
    be_bytes_2 (take 2 bytes) (from_be_bytes w16 (take 2 bytes)) (length-take-le 2 bytes long) (byte_below (take 2 bytes) (All-take IsByte 2 bytes h)) refl

pub eight_byte_number_below : (bytes : List ℕ) → AreBytes bytes → eight_byte_number bytes < 2 ^ 64
unfolding eight_byte_number
eight_byte_number_below bytes h =
    let each = byte_below (take 8 bytes) (All-take IsByte 8 bytes h) in
    omega (arith, each 0, each 1, each 2, each 3, each 4, each 5, each 6, each 7)

signed_number_fits : (bytes : List ℕ) → AreBytes bytes → FitsSigned w64 (signed_number bytes)
unfolding signed_number
signed_number_fits bytes h =
    let each = byte_below (take 8 bytes) (All-take IsByte 8 bytes h) in
    sfits_to_z {w = w64} (omega (arith, each 0, each 1, each 2, each 3, each 4, each 5, each 6, each 7))

pub signed_numbers_fit : (n : ℕ) (bytes : List ℕ) → AreBytes bytes → All (FitsSigned w64) (signed_numbers n bytes)
signed_numbers_fit zero bytes h = All-nil (FitsSigned w64)
signed_numbers_fit (suc n) bytes h =
    All-cons (FitsSigned w64) (signed_number bytes) (signed_numbers n (drop 8 bytes)) (signed_number_fits bytes h) (signed_numbers_fit n (drop 8 bytes) (AreBytes-drop 8 bytes h))

abbrev ValueFits : Option ℤ → Type 0
ValueFits value = IfSome value (FitsSigned w64)

value_fits : (given : Bool) (bytes : List ℕ) → AreBytes bytes → ValueFits (value_at given bytes)
value_fits true bytes h = signed_number_fits bytes h
value_fits false bytes h = tt

AreBytes-after_value : (given : Bool) (bytes : List ℕ) → AreBytes bytes → AreBytes (after_value given bytes)
AreBytes-after_value true bytes h = AreBytes-drop 8 bytes h
AreBytes-after_value false bytes h = h

values_fit : (bits : List Bool) (bytes : List ℕ) → AreBytes bytes → All ValueFits (values_at bits bytes)
values_fit [] bytes h = All-nil ValueFits
values_fit (given ∷ bits) bytes h =
    All-cons ValueFits (value_at given bytes) (values_at bits (after_value given bytes)) (value_fits given bytes h) (values_fit bits (after_value given bytes) (AreBytes-after_value given bytes h))

AreBytes-after_values : (bits : List Bool) (bytes : List ℕ) → AreBytes bytes → AreBytes (after_values bits bytes)
AreBytes-after_values [] bytes h = h
AreBytes-after_values (given ∷ bits) bytes h = AreBytes-after_values bits (after_value given bytes) (AreBytes-after_value given bytes h)

AreBytes-after_mask : (bytes : List ℕ) → AreBytes bytes → AreBytes (after_mask bytes)
AreBytes-after_mask bytes h =
    let transition = AreBytes-drop 2 bytes h in
    let participation = AreBytes-drop 2 (drop 2 bytes) transition in
    let count = AreBytes-drop 8 (drop 2 (drop 2 bytes)) participation in
    let mask = AreBytes-drop 1 (drop 8 (drop 2 (drop 2 bytes))) count in
    AreBytes-drop 1 (drop 1 (drop 8 (drop 2 (drop 2 bytes)))) mask

entry_fits : (bytes : List ℕ) → AreBytes bytes → EntryFits (entry_at bytes)
unfolding entry_at
entry_fits bytes h = record {
  places = refl;
  values = values_fit (bits_of MOST_EXPORTED (mask_at bytes)) (after_mask bytes) (AreBytes-after_mask bytes h);
}

AreBytes-after_entry : (bytes : List ℕ) → AreBytes bytes → AreBytes (after_entry bytes)
unfolding after_entry
AreBytes-after_entry bytes h = AreBytes-after_values (bits_of MOST_EXPORTED (mask_at bytes)) (after_mask bytes) (AreBytes-after_mask bytes h)

pub entries_fit : (n : ℕ) (bytes : List ℕ) → AreBytes bytes → All EntryFits (entries_at n bytes)
entries_fit zero bytes h = All-nil EntryFits
entries_fit (suc n) bytes h =
    All-cons EntryFits (entry_at bytes) (entries_at n (after_entry bytes)) (entry_fits bytes h) (entries_fit n (after_entry bytes) (AreBytes-after_entry bytes h))
