-- A body holds a saved state exactly where it is the state's spelling and zeros.
use Rattle.std.proofs.lemmas.List.{length-append}
use Rattle.record_codec.specs.declared.layout.TheConstants.{MOST_VARIABLES}
use Rattle.std.proofs.Common.{◌≡◌, ℕ, ◌-◌, true, List, ◌++◌, length, drop, Some, refl, ap, ◌∙◌, arith, append_assoc, ◌≤◌, ◌+◌, ◌*◌}
use Rattle.std.specs.List.{flat_map}
use Rattle.std.proofs.lemmas.Bool.Decides.{nat_tests}
use Rattle.record_codec.specs.Bytes.{AreBytes, padded, if_spelled, zeros, one_byte, two_bytes, eight_bytes, signed_bytes, one_byte_number, two_byte_number, eight_byte_number, signed_numbers}
use Rattle.record_codec.specs.Saved.{SavedFields, IsSaved, IsSavedBody, SavedFits, is_saved, saved_bytes, saved_fields, saved_in}
use Rattle.std.proofs.lemmas.List.Elements.{All-drop}
use Rattle.record_codec.proofs.Fitting.{IsByte, eight_byte_number_below, signed_numbers_fit}
use Rattle.record_codec.proofs.Spelled.{if_spelled-some, if_spelled_is}
use Rattle.record_codec.proofs.Written.{padded_is, padded_to_own}
use Rattle.record_codec.proofs.Numbers.{drop-one_byte, drop-two_bytes, drop-eight_bytes, one_byte_number-one_byte, two_byte_number-two_bytes, eight_byte_number-eight_bytes, signed_numbers-run, length-one_byte, length-two_bytes, length-eight_bytes, length-signed_run}

is_saved-true : (saved : SavedFields) → IsSaved saved → is_saved saved ≡ true
is_saved-true saved h = grind (arith, nat_tests)

IsSaved-from_test : (saved : SavedFields) → is_saved saved ≡ true → IsSaved saved
IsSaved-from_test saved h = record {
  atom_within = grind (arith, nat_tests);
  count_within = grind (arith, nat_tests);
  at_within = grind (arith, nat_tests);
  values_within = grind (arith, nat_tests);
}

-- the fields of a spelling are those of the saved state that is spelled
saved_fields-saved_bytes : (saved : SavedFields) (rest : List ℕ) → IsSaved saved → SavedFits saved → saved_fields (saved_bytes saved ++ rest) ≡ saved
saved_fields-saved_bytes saved rest h fits =
    let from_values : List ℕ = flat_map signed_bytes saved.values ++ rest in
    let from_variables : List ℕ = one_byte (length saved.values) ++ from_values in
    let from_marking : List ℕ = eight_bytes saved.marking ++ from_variables in
    let from_at : List ℕ = eight_bytes saved.at ++ from_marking in
    let from_count : List ℕ = eight_bytes saved.count ++ from_at in
    let grouped : saved_bytes saved ++ rest ≡ two_bytes saved.atom ++ from_count = simp append_assoc in
    let count_left : drop 2 (two_bytes saved.atom ++ from_count) ≡ from_count = drop-two_bytes saved.atom from_count in
    let at_left : drop 8 from_count ≡ from_at = drop-eight_bytes saved.count from_at in
    let marking_left : drop 8 from_at ≡ from_marking = drop-eight_bytes saved.at from_marking in
    let variables_left : drop 8 from_marking ≡ from_variables = drop-eight_bytes saved.marking from_variables in
    let values_left : drop 1 from_variables ≡ from_values = drop-one_byte (length saved.values) from_values in
    let atom : two_byte_number (two_bytes saved.atom ++ from_count) ≡ saved.atom = two_byte_number-two_bytes saved.atom from_count (omega (arith, h.atom_within)) in
    let count : eight_byte_number from_count ≡ saved.count = eight_byte_number-eight_bytes saved.count from_at (omega (arith, h.count_within, h.at_within)) in
    let at_is : eight_byte_number from_at ≡ saved.at = eight_byte_number-eight_bytes saved.at from_marking (omega (arith, h.at_within)) in
    let marking : eight_byte_number from_marking ≡ saved.marking = eight_byte_number-eight_bytes saved.marking from_variables fits.marking in
    let variables : one_byte_number from_variables ≡ length saved.values = one_byte_number-one_byte (length saved.values) from_values in
    let values : signed_numbers (length saved.values) from_values ≡ saved.values = signed_numbers-run saved.values rest fits.values in
    rw (grouped, count_left, at_left, marking_left, variables_left, values_left, variables, atom, count, at_is, marking, values) refl

saved_fields_fit : (body : List ℕ) → AreBytes body → SavedFits (saved_fields body)
saved_fields_fit body bytes =
    let from_count = All-drop IsByte 2 body bytes in
    let from_at = All-drop IsByte 8 (drop 2 body) from_count in
    let from_marking = All-drop IsByte 8 (drop 8 (drop 2 body)) from_at in
    let from_variables = All-drop IsByte 8 (drop 8 (drop 8 (drop 2 body))) from_marking in
    let from_values = All-drop IsByte 1 (drop 8 (drop 8 (drop 8 (drop 2 body)))) from_variables in
    record {
      marking = eight_byte_number_below (drop 8 (drop 8 (drop 2 body))) from_marking;
      values = signed_numbers_fit (one_byte_number (drop 8 (drop 8 (drop 8 (drop 2 body))))) (drop 1 (drop 8 (drop 8 (drop 8 (drop 2 body))))) from_values;
    }

-- a body that holds a saved state is its spelling, where the state fits its types, as a body of bytes sees to
pub held_saved_that_fits : (body : List ℕ) (saved : SavedFields) → SavedFits saved → saved_in body ≡ Some saved → IsSavedBody body saved
unfolding saved_in
held_saved_that_fits body saved fits e =
    let s = saved_fields body in
    let p = if_spelled-some (is_saved s) s saved (saved_bytes s) body e in
    rw (← p.same) (record { in_range = IsSaved-from_test s p.in_range; fits = rw p.same fits; spelled = p.spelled })

pub held_saved_is_spelled : (body : List ℕ) (saved : SavedFields) → AreBytes body → saved_in body ≡ Some saved → IsSavedBody body saved
unfolding saved_in
held_saved_is_spelled body saved bytes e =
    let s = saved_fields body in
    let p = if_spelled-some (is_saved s) s saved (saved_bytes s) body e in
    held_saved_that_fits body saved (rw (← p.same) (saved_fields_fit body bytes)) e

pub spelled_saved_is_held : (body : List ℕ) (saved : SavedFields) → IsSavedBody body saved → saved_in body ≡ Some saved
unfolding saved_in
spelled_saved_is_held body saved h =
    let is : saved_fields body ≡ saved = ap saved_fields (h.spelled ∙ padded_is (length body) (saved_bytes saved)) ∙ saved_fields-saved_bytes saved (zeros (length body - length (saved_bytes saved))) h.in_range h.fits in
    ap (λ (s : SavedFields). if_spelled (is_saved s) s (saved_bytes s) body) is ∙ if_spelled_is (is_saved saved) saved (saved_bytes saved) body (is_saved-true saved h.in_range) h.spelled

pub length-saved_bytes : (saved : SavedFields) → length (saved_bytes saved) ≡ 27 + 8 * length saved.values
length-saved_bytes saved =
    simp length-append (omega (arith, length-two_bytes saved.atom, length-eight_bytes saved.count, length-eight_bytes saved.at, length-eight_bytes saved.marking, length-one_byte (length saved.values), length-signed_run saved.values))

-- what is written is read again
pub saved_reads_back : (saved : SavedFields) (len : ℕ) → 27 + 8 * MOST_VARIABLES ≤ len → IsSaved saved → SavedFits saved → saved_in (padded len (saved_bytes saved)) ≡ Some saved
saved_reads_back saved len room h fits =
    spelled_saved_is_held (padded len (saved_bytes saved)) saved (record { in_range = h; fits = fits; spelled = padded_to_own len (saved_bytes saved) (omega (arith, length-saved_bytes saved, h.values_within)) })
