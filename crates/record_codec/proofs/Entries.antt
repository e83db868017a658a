-- Entries that were written are read again.
use Rattle.std.proofs.Common.{◌≡◌, ℕ, zero, suc, ◌+◌, ◌*◌, ◌/◌, ◌%◌, ◌≤◌, ◌==◌, true, false, ℤ, List, [], ◌∷◌, ◌++◌, length, drop, Option, Some, None, IfSome, All, FitsSigned, w64, refl, ap, subst, ◌∙◌, arith, append_assoc}
use Rattle.std.specs.List.{flat_map, sum_by}
use Rattle.std.proofs.lemmas.List.{length-append}
use Rattle.std.proofs.lemmas.Bool.Decides.{nat_tests}
use Rattle.record_codec.specs.declared.entry.Entry.{Entry}
use Rattle.record_codec.specs.declared.layout.TheConstants.{MOST_EXPORTED, LONGEST_ENTRY, LAST_NUMBER}
use Rattle.record_codec.specs.Bytes.{one_byte, two_bytes, eight_bytes, signed_bytes, two_byte_number, eight_byte_number, signed_number}
use Rattle.record_codec.specs.Entry.{IsEntry, EntryFits, bit_of, mask_of, value_bytes, entry_bytes, bits_of, values_at, after_values, mask_at, after_mask, entry_at, after_entry, entries_at, after_entries}
use Rattle.record_codec.proofs.Numbers.{length-one_byte, length-two_bytes, length-eight_bytes, length-signed_bytes, drop-one_byte, drop-two_bytes, drop-eight_bytes, drop-signed_bytes, one_byte_number-one_byte, two_byte_number-two_bytes, eight_byte_number-eight_bytes, signed_number-signed_bytes}

-- ---- one more entry

pub length-entries_at : (n : ℕ) (bytes : List ℕ) → length (entries_at n bytes) ≡ n
length-entries_at zero bytes = refl
length-entries_at (suc n) bytes = ap suc (length-entries_at n (after_entry bytes))

pub entries_at_more : (n : ℕ) (bytes : List ℕ) → entries_at (n + 1) bytes ≡ entries_at n bytes ++ entry_at (after_entries n bytes) ∷ []
entries_at_more zero bytes = refl
entries_at_more (suc n) bytes =
    let one_on : suc n + 1 ≡ suc (n + 1) = omega arith in
    ap (λ (k : ℕ). entries_at k bytes) one_on
    ∙ ap (λ (entries : List Entry). entry_at bytes ∷ entries) (entries_at_more n (after_entry bytes))

pub after_entries_more : (n : ℕ) (bytes : List ℕ) → after_entries (n + 1) bytes ≡ after_entry (after_entries n bytes)
after_entries_more zero bytes = refl
after_entries_more (suc n) bytes =
    let one_on : suc n + 1 ≡ suc (n + 1) = omega arith in
    ap (λ (k : ℕ). after_entries k bytes) one_on ∙ after_entries_more n (after_entry bytes)

-- ---- values

-- a mask's lowest bit, and the mask without it
even_mask : (m : ℕ) → ((0 + 2 * m) % 2 == 1) ≡ false
even_mask m = grind (arith, nat_tests)

odd_mask : (m : ℕ) → ((1 + 2 * m) % 2 == 1) ≡ true
odd_mask m = grind (arith, nat_tests)

-- the values of a mask's bits are the values that were written, and what stood after them is left
pub record ReadsAgain (vs : List (Option ℤ)) (rest : List ℕ) : Type 0 where
  pub values : values_at (bits_of (length vs) (mask_of vs)) (flat_map value_bytes vs ++ rest) ≡ vs
  pub after : after_values (bits_of (length vs) (mask_of vs)) (flat_map value_bytes vs ++ rest) ≡ rest

pub values_again : (vs : List (Option ℤ)) (rest : List ℕ) → All (λ v. IfSome v (FitsSigned w64)) vs → ReadsAgain vs rest
values_again [] rest fits = record { values = refl; after = refl }
values_again (None ∷ vs) rest fits =
    let more = values_again vs rest (λ k d lt. fits (suc k) d (omega arith)) in
    let half : (0 + 2 * mask_of vs) / 2 ≡ mask_of vs = omega arith in
    record {
      values = rw (even_mask (mask_of vs), half, more.values) refl;
      after = rw (even_mask (mask_of vs), half, more.after) refl;
    }
values_again (Some z ∷ vs) rest fits =
    let more = values_again vs rest (λ k d lt. fits (suc k) d (omega arith)) in
    let half : (1 + 2 * mask_of vs) / 2 ≡ mask_of vs = omega arith in
    let after : List ℕ = flat_map value_bytes vs ++ rest in
    let grouped : (signed_bytes z ++ flat_map value_bytes vs) ++ rest ≡ signed_bytes z ++ after = append_assoc (signed_bytes z) (flat_map value_bytes vs) rest in
    let first : signed_number (signed_bytes z ++ after) ≡ z = signed_number-signed_bytes z after (fits 0 None (omega arith)) in
    let left : drop 8 (signed_bytes z ++ after) ≡ after = drop-signed_bytes z after in
    record {
      values = rw (odd_mask (mask_of vs), half, grouped, first, left, more.values) refl;
      after = rw (odd_mask (mask_of vs), half, grouped, left, more.after) refl;
    }

-- ---- entries

-- what a value takes, and what the values of an entry take
length-value_bytes : (v : Option ℤ) → length (value_bytes v) ≤ 8
length-value_bytes None = omega arith
length-value_bytes (Some z) = omega (arith, length-signed_bytes z)

length-values : (vs : List (Option ℤ)) → length (flat_map value_bytes vs) ≤ 8 * length vs
length-values [] = omega arith
length-values (v ∷ vs) = omega (arith, length-append (value_bytes v) (flat_map value_bytes vs), length-value_bytes v, length-values vs)

length-entry_bytes : (entry : Entry) → EntryFits entry → length (entry_bytes entry) ≤ LONGEST_ENTRY
unfolding entry_bytes
length-entry_bytes entry fits =
    let values = length-values entry.delivered in
    let count : ℕ = sum_by bit_of entry.delivered in
    simp length-append (omega (arith, length-two_bytes entry.atom, length-two_bytes entry.transition, length-eight_bytes entry.participation, length-one_byte count, length-one_byte (mask_of entry.delivered), values, fits.places))

pub length-entries : (entries : List Entry) → All EntryFits entries → length (flat_map entry_bytes entries) ≤ LONGEST_ENTRY * length entries
length-entries [] fits = omega arith
length-entries (e ∷ es) fits =
    let first = length-entry_bytes e (fits 0 e (omega arith)) in
    let more = length-entries es (λ k d lt. fits (suc k) d (omega arith)) in
    omega (arith, length-append (entry_bytes e) (flat_map entry_bytes es), first, more)

-- the fields of a spelling are those of the entry that is spelled, and what stood after it is left
pub record EntryAgain (entry : Entry) (rest : List ℕ) : Type 0 where
  pub entry_is : entry_at (entry_bytes entry ++ rest) ≡ entry
  pub after : after_entry (entry_bytes entry ++ rest) ≡ rest

abbrev same_type : Entry → Entry → Type 0
same_type x y = x ≡ y

-- entries are the same where their fields are
same_entry : {a b c d e f : ℕ} {g i : List (Option ℤ)} → a ≡ b → c ≡ d → e ≡ f → g ≡ i → same_type (record { atom = a; transition = c; participation = e; delivered = g }) (record { atom = b; transition = d; participation = f; delivered = i })
same_entry p q r s = cc

pub entry_again : (number : ℕ) (entry : Entry) (rest : List ℕ) → number ≤ LAST_NUMBER → IsEntry number entry → EntryFits entry → EntryAgain entry rest
unfolding entry_bytes entry_at after_entry
entry_again number entry rest within h fits =
    let values : ReadsAgain entry.delivered rest = values_again entry.delivered rest fits.values in
    let count : ℕ = sum_by bit_of entry.delivered in
    let mask : ℕ = mask_of entry.delivered in
    let from_values : List ℕ = flat_map value_bytes entry.delivered ++ rest in
    let from_mask : List ℕ = one_byte mask ++ from_values in
    let from_count : List ℕ = one_byte count ++ from_mask in
    let from_participation : List ℕ = eight_bytes entry.participation ++ from_count in
    let from_transition : List ℕ = two_bytes entry.transition ++ from_participation in
    let bytes : List ℕ = two_bytes entry.atom ++ from_transition in
    let grouped : entry_bytes entry ++ rest ≡ bytes = simp append_assoc in
    let transition_left : drop 2 bytes ≡ from_transition = drop-two_bytes entry.atom from_transition in
    let participation_left : drop 2 from_transition ≡ from_participation = drop-two_bytes entry.transition from_participation in
    let count_left : drop 8 from_participation ≡ from_count = drop-eight_bytes entry.participation from_count in
    let mask_left : drop 1 from_count ≡ from_mask = drop-one_byte count from_mask in
    let values_left : drop 1 from_mask ≡ from_values = drop-one_byte mask from_values in
    let mask_is : mask_at bytes ≡ mask = rw (transition_left, participation_left, count_left, mask_left) (one_byte_number-one_byte mask from_values) in
    let values_are : after_mask bytes ≡ from_values = rw (transition_left, participation_left, count_left, mask_left, values_left) refl in
    let atom : two_byte_number bytes ≡ entry.atom = two_byte_number-two_bytes entry.atom from_transition (omega (arith, h.atom_within)) in
    let transition : two_byte_number (drop 2 bytes) ≡ entry.transition = rw transition_left (two_byte_number-two_bytes entry.transition from_participation (omega (arith, h.transition_within))) in
    let participation : eight_byte_number (drop 2 (drop 2 bytes)) ≡ entry.participation = rw (transition_left, participation_left) (eight_byte_number-eight_bytes entry.participation from_count (omega (arith, h.participation_within, within))) in
    let delivered : values_at (bits_of MOST_EXPORTED (mask_at bytes)) (after_mask bytes) ≡ entry.delivered =
    ap (λ (m : ℕ). values_at (bits_of MOST_EXPORTED m) (after_mask bytes)) mask_is
    ∙ ap (λ (left : List ℕ). values_at (bits_of MOST_EXPORTED mask) left) values_are
    ∙ subst (λ (n : ℕ). values_at (bits_of n mask) from_values ≡ entry.delivered) fits.places values.values in
    let left : after_values (bits_of MOST_EXPORTED (mask_at bytes)) (after_mask bytes) ≡ rest =
    ap (λ (m : ℕ). after_values (bits_of MOST_EXPORTED m) (after_mask bytes)) mask_is
    ∙ ap (λ (from : List ℕ). after_values (bits_of MOST_EXPORTED mask) from) values_are
    ∙ subst (λ (n : ℕ). after_values (bits_of n mask) from_values ≡ rest) fits.places values.after in
    record {
      entry_is = ap entry_at grouped ∙ same_entry atom transition participation delivered;
      after = ap after_entry grouped ∙ left;
    }

-- entries, one after the other, are read again
pub entries_again : (number : ℕ) (entries : List Entry) (rest : List ℕ) → number ≤ LAST_NUMBER → All (IsEntry number) entries → All EntryFits entries → entries_at (length entries) (flat_map entry_bytes entries ++ rest) ≡ entries
entries_again number [] rest within h fits = refl
entries_again number (e ∷ es) rest within h fits =
    let after : List ℕ = flat_map entry_bytes es ++ rest in
    let grouped : (entry_bytes e ++ flat_map entry_bytes es) ++ rest ≡ entry_bytes e ++ after = append_assoc (entry_bytes e) (flat_map entry_bytes es) rest in
    let again : EntryAgain e after = entry_again number e after within (h 0 e (omega arith)) (fits 0 e (omega arith)) in
    let first : entry_at ((entry_bytes e ++ flat_map entry_bytes es) ++ rest) ≡ e = ap entry_at grouped ∙ again.entry_is in
    let left : after_entry ((entry_bytes e ++ flat_map entry_bytes es) ++ rest) ≡ after = ap after_entry grouped ∙ again.after in
    let others : entries_at (length es) after ≡ es = entries_again number es rest within (λ k d lt. h (suc k) d (omega arith)) (λ k d lt. fits (suc k) d (omega arith)) in
    rw (first, left, others) refl
