-- A body holds a record exactly where it is the record's spelling and zeros.
use Rattle.std.proofs.Common.{◌≡◌, ℕ, ◌+◌, ◌*◌, ◌≤◌, ◌-◌, true, List, ◌++◌, length, drop, get_or, Some, refl, ap, ◌∙◌, arith, append_assoc}
use Rattle.std.specs.List.{flat_map, list_all}
use Rattle.std.proofs.lemmas.Bool.Decides.{nat_tests}
use Rattle.std.proofs.lemmas.List.{length-append}
use Rattle.std.proofs.lemmas.List.Sums.{AllPass-from_list_all, list_all-from_AllPass}
use Rattle.record_codec.specs.declared.entry.Entry.{Entry}
use Rattle.record_codec.specs.declared.layout.TheConstants.{LONGEST_ENTRY, MOST_ENTRIES}
use Rattle.record_codec.specs.Bytes.{AreBytes, padded, if_spelled, zeros, one_byte, two_bytes, eight_bytes, one_byte_number, two_byte_number, eight_byte_number}
use Rattle.record_codec.specs.Entry.{IsEntry, is_entry, entry_bytes, entries_at}
use Rattle.record_codec.specs.Fired.{FiredFields, IsFiredUpTo, IsFired, IsFiredBodyUpTo, FiredFits, atoms_of, is_rising, is_fired_up_to, fired_bytes, fired_fields, fired_up_to}
use Rattle.std.proofs.lemmas.List.Elements.{All-drop}
use Rattle.record_codec.proofs.Fitting.{IsByte, entries_fit}
use Rattle.record_codec.proofs.Spelled.{if_spelled-some, if_spelled_is}
use Rattle.record_codec.proofs.Written.{padded_is, padded_to_own}
use Rattle.record_codec.proofs.Numbers.{length-one_byte, length-two_bytes, length-eight_bytes, drop-one_byte, drop-two_bytes, drop-eight_bytes, one_byte_number-one_byte, two_byte_number-two_bytes, eight_byte_number-eight_bytes}
use Rattle.record_codec.proofs.Rising.{is_rising-true, IsStrictlyIncreasing-from_test}
use Rattle.record_codec.proofs.Entries.{entries_again, length-entries}

is_entry-true : (number : ℕ) (entry : Entry) → IsEntry number entry → is_entry number entry ≡ true
is_entry-true number entry h = grind (arith, nat_tests)

IsEntry-from_test : (number : ℕ) (entry : Entry) → is_entry number entry ≡ true → IsEntry number entry
IsEntry-from_test number entry h = record {
  atom_within = grind (arith, nat_tests);
  transition_within = grind (arith, nat_tests);
  participation_positive = grind (arith, nat_tests);
  participation_within = grind (arith, nat_tests);
}

is_fired-true : (most : ℕ) (fired : FiredFields) → IsFiredUpTo most fired → is_fired_up_to most fired ≡ true
is_fired-true most fired h =
    let entries : list_all (is_entry fired.number) fired.entries ≡ true = list_all-from_AllPass (is_entry fired.number) fired.entries (λ k d lt. is_entry-true fired.number (get_or fired.entries k d) (h.entries k d lt)) in
    let rising : is_rising (atoms_of fired.entries) ≡ true = is_rising-true (atoms_of fired.entries) h.rising in
    grind (arith, nat_tests)

pub IsFired-from_test : (most : ℕ) (fired : FiredFields) → is_fired_up_to most fired ≡ true → IsFiredUpTo most fired
IsFired-from_test most fired h =
    let entries : list_all (is_entry fired.number) fired.entries ≡ true = grind (arith, nat_tests) in
    let rising : is_rising (atoms_of fired.entries) ≡ true = grind (arith, nat_tests) in
    let each = AllPass-from_list_all (is_entry fired.number) fired.entries entries in
    record {
      number_positive = grind (arith, nat_tests);
      number_within = grind (arith, nat_tests);
      connector_within = grind (arith, nat_tests);
      some_entry = grind (arith, nat_tests);
      entries_within = grind (arith, nat_tests);
      entries = λ k d lt. IsEntry-from_test fired.number (get_or fired.entries k d) (each k d lt);
      rising = IsStrictlyIncreasing-from_test (atoms_of fired.entries) rising;
    }

-- the fields of a spelling are those of the record that is spelled
fired_fields-fired_bytes : (most : ℕ) (fired : FiredFields) (rest : List ℕ) → IsFiredUpTo most fired → FiredFits fired → fired_fields (fired_bytes fired ++ rest) ≡ fired
fired_fields-fired_bytes most fired rest h fits =
    let from_entries : List ℕ = flat_map entry_bytes fired.entries ++ rest in
    let from_count : List ℕ = one_byte (length fired.entries) ++ from_entries in
    let from_connector : List ℕ = two_bytes fired.connector ++ from_count in
    let grouped : fired_bytes fired ++ rest ≡ eight_bytes fired.number ++ from_connector = simp append_assoc in
    let connector_left : drop 8 (eight_bytes fired.number ++ from_connector) ≡ from_connector = drop-eight_bytes fired.number from_connector in
    let count_left : drop 2 from_connector ≡ from_count = drop-two_bytes fired.connector from_count in
    let entries_left : drop 1 from_count ≡ from_entries = drop-one_byte (length fired.entries) from_entries in
    let number : eight_byte_number (eight_bytes fired.number ++ from_connector) ≡ fired.number = eight_byte_number-eight_bytes fired.number from_connector (omega (arith, h.number_within)) in
    let connector : two_byte_number from_connector ≡ fired.connector = two_byte_number-two_bytes fired.connector from_count (omega (arith, h.connector_within)) in
    let count : one_byte_number from_count ≡ length fired.entries = one_byte_number-one_byte (length fired.entries) from_entries in
    let entries : entries_at (length fired.entries) from_entries ≡ fired.entries = entries_again fired.number fired.entries rest h.number_within h.entries fits.entries in
    rw (grouped, connector_left, count_left, entries_left, count, number, connector, entries) refl

fired_fields_fit : (body : List ℕ) → AreBytes body → FiredFits (fired_fields body)
fired_fields_fit body bytes =
    let from_connector = All-drop IsByte 8 body bytes in
    let from_count = All-drop IsByte 2 (drop 8 body) from_connector in
    let from_entries = All-drop IsByte 1 (drop 2 (drop 8 body)) from_count in
    record { entries = entries_fit (one_byte_number (drop 2 (drop 8 body))) (drop 1 (drop 2 (drop 8 body))) from_entries }

-- a body that holds a record is its spelling, where the record fits its types, as a body of bytes sees to
pub held_fired_that_fits : (most : ℕ) (body : List ℕ) (fired : FiredFields) → FiredFits fired → fired_up_to most body ≡ Some fired → IsFiredBodyUpTo most body fired
held_fired_that_fits most body fired fits e =
    let f = fired_fields body in
    let p = if_spelled-some (is_fired_up_to most f) f fired (fired_bytes f) body e in
    rw (← p.same) (record { in_range = IsFired-from_test most f p.in_range; fits = rw p.same fits; spelled = p.spelled })

pub held_fired_is_spelled : (most : ℕ) (body : List ℕ) (fired : FiredFields) → AreBytes body → fired_up_to most body ≡ Some fired → IsFiredBodyUpTo most body fired
held_fired_is_spelled most body fired bytes e =
    let f = fired_fields body in
    let p = if_spelled-some (is_fired_up_to most f) f fired (fired_bytes f) body e in
    held_fired_that_fits most body fired (rw (← p.same) (fired_fields_fit body bytes)) e

pub spelled_fired_is_held : (most : ℕ) (body : List ℕ) (fired : FiredFields) → IsFiredBodyUpTo most body fired → fired_up_to most body ≡ Some fired
spelled_fired_is_held most body fired h =
    let is : fired_fields body ≡ fired = ap fired_fields (h.spelled ∙ padded_is (length body) (fired_bytes fired)) ∙ fired_fields-fired_bytes most fired (zeros (length body - length (fired_bytes fired))) h.in_range h.fits in
    ap (λ (f : FiredFields). if_spelled (is_fired_up_to most f) f (fired_bytes f) body) is ∙ if_spelled_is (is_fired_up_to most fired) fired (fired_bytes fired) body (is_fired-true most fired h.in_range) h.spelled

pub length-fired_bytes : (fired : FiredFields) → FiredFits fired → length (fired_bytes fired) ≤ 11 + LONGEST_ENTRY * length fired.entries
length-fired_bytes fired fits =
    let entries = length-entries fired.entries fits.entries in
    simp length-append (omega (arith, length-eight_bytes fired.number, length-two_bytes fired.connector, length-one_byte (length fired.entries), entries))

-- the ranges of a record are those of its number of entries and the others
pub IsFiredUpTo-most : (most other : ℕ) (fired : FiredFields) → length fired.entries ≤ most → IsFiredUpTo other fired → IsFiredUpTo most fired
IsFiredUpTo-most most other fired few h = record {
  number_positive = h.number_positive;
  number_within = h.number_within;
  connector_within = h.connector_within;
  some_entry = h.some_entry;
  entries_within = few;
  entries = h.entries;
  rising = h.rising;
}

-- what is written is read again
pub fired_reads_back : (most : ℕ) (fired : FiredFields) (len : ℕ) → 11 + LONGEST_ENTRY * length fired.entries ≤ len → length fired.entries ≤ most → IsFired fired → FiredFits fired → fired_up_to most (padded len (fired_bytes fired)) ≡ Some fired
fired_reads_back most fired len room few h fits =
    spelled_fired_is_held most (padded len (fired_bytes fired)) fired (record { in_range = IsFiredUpTo-most most MOST_ENTRIES fired few h; fits = fits; spelled = padded_to_own len (fired_bytes fired) (omega (arith, length-fired_bytes fired fits)) })
