-- Worked examples of the definitions, as computed facts. The bodies are short: a definition takes a body of
-- any length.
use Rattle.std.proofs.Common.{◌≡◌, ℕ, ◌^◌, pos, negsuc, ℤ, List, [], ◌∷◌, ◌++◌, Option, Some, None, refl, replicate, map, length, slice_index}
use Rattle.record_codec.specs.declared.layout.TheConstants.{BODY, MAGIC, VERSION, MOST_ATOMS, LEAST_RING, MOST_RING, DIGEST, LAST_NUMBER, MOST_VARIABLES, MOST_CONNECTORS, MOST_TRANSITIONS, MOST_EXPORTED, LONGEST_ENTRY, MOST_ENTRIES, ENTRY_COUNT_AT}
use Rattle.record_codec.specs.declared.ring.TheConstants.{IDENTITY_CELL}
use Rattle.record_codec.specs.declared.v1.TheConstants.{BODY as FIRST_BODY, VERSION as FIRST_VERSION, MOST_ENTRIES as FIRST_MOST_ENTRIES}
use Rattle.record_codec.specs.Ring.{identity_cell, base_cell, slot_cell, record_cell, device_cells}
use Rattle.record_codec.specs.Bytes.{one_byte, two_bytes, four_bytes, eight_bytes, signed_bytes, one_byte_number, two_byte_number, four_byte_number, eight_byte_number, signed_number, zeros, padded}
use Rattle.record_codec.specs.Base.{base_in}
use Rattle.record_codec.specs.Identity.{IdentityFields, identity_bytes_of, identity_bytes, identity_in, version_in}
use Rattle.record_codec.specs.Saved.{SavedFields, saved_bytes, saved_in}
use Rattle.record_codec.specs.Entry.{entry_bytes, entry_at, after_entry}
use Rattle.record_codec.specs.Fired.{FiredFields, fired_bytes, fired_in}
use Rattle.record_codec.specs.FirstLayout.{todays_body, todays_version, todays_identity, todays_record}
use Rattle.record_codec.specs.declared.entry.Entry.{Entry}

-- ---- sizes and limits

a_body_has_1023_bytes : BODY ≡ 1023
a_body_has_1023_bytes = refl

an_identity_begins_with_bipf : MAGIC ≡ 66 ∷ 73 ∷ 80 ∷ 70 ∷ []
an_identity_begins_with_bipf = refl

this_is_version_2 : VERSION ≡ 2
this_is_version_2 = refl

a_digest_has_32_bytes : DIGEST ≡ 32
a_digest_has_32_bytes = refl

a_ring_has_8_records_at_least : LEAST_RING ≡ 8
a_ring_has_8_records_at_least = refl

and_4096_at_most : MOST_RING ≡ 4096
and_4096_at_most = refl

the_last_number_is_below_2_to_63 : LAST_NUMBER ≡ 9223372036854775807
the_last_number_is_below_2_to_63 = refl

a_plant_has_64_atoms_at_most : MOST_ATOMS ≡ 64
a_plant_has_64_atoms_at_most = refl

and_64_connectors : MOST_CONNECTORS ≡ 64
and_64_connectors = refl

an_atom_has_16_variables_at_most : MOST_VARIABLES ≡ 16
an_atom_has_16_variables_at_most = refl

and_128_transitions : MOST_TRANSITIONS ≡ 128
and_128_transitions = refl

a_port_exports_4_variables_at_most : MOST_EXPORTED ≡ 4
a_port_exports_4_variables_at_most = refl

a_record_has_16_entries_at_most : MOST_ENTRIES ≡ 16
a_record_has_16_entries_at_most = refl

each_of_46_bytes_at_most : LONGEST_ENTRY ≡ 46
each_of_46_bytes_at_most = refl

-- ---- cells, of two atoms and a ring of eight

the_identity_stands_first : IDENTITY_CELL ≡ identity_cell
the_identity_stands_first = refl

then_the_bases : base_cell 1 ≡ 2
then_the_bases = refl

slot_1_of_atom_1_is_cell_6 : slot_cell 1 1 ≡ 6
slot_1_of_atom_1_is_cell_6 = refl

record_8_is_cell_7 : record_cell 2 8 8 ≡ 7
record_8_is_cell_7 = refl

record_7_is_the_last_cell : record_cell 2 8 7 ≡ 14
record_7_is_the_last_cell = refl

fifteen_cells_in_all : device_cells 2 8 ≡ 15
fifteen_cells_in_all = refl

the_largest_device_has_4227_cells : device_cells 64 4096 ≡ 4227
the_largest_device_has_4227_cells = refl

-- ---- bases

base_nine_is_read : base_in (0 ∷ 0 ∷ 0 ∷ 0 ∷ 0 ∷ 0 ∷ 0 ∷ 9 ∷ 0 ∷ 0 ∷ []) ≡ Some 9
unfolding base_in eight_byte_number eight_bytes padded zeros
base_nine_is_read = refl

a_byte_after_a_base_is_refused : base_in (0 ∷ 0 ∷ 0 ∷ 0 ∷ 0 ∷ 0 ∷ 0 ∷ 9 ∷ 0 ∷ 1 ∷ []) ≡ None
unfolding base_in eight_byte_number eight_bytes padded zeros
a_byte_after_a_base_is_refused = refl

base_zero_is_refused : base_in (0 ∷ 0 ∷ 0 ∷ 0 ∷ 0 ∷ 0 ∷ 0 ∷ 0 ∷ 0 ∷ []) ≡ None
unfolding base_in eight_byte_number eight_bytes padded zeros
base_zero_is_refused = refl

the_last_base_is_read : base_in (128 ∷ 0 ∷ 0 ∷ 0 ∷ 0 ∷ 0 ∷ 0 ∷ 0 ∷ 0 ∷ []) ≡ Some (2 ^ 63)
unfolding base_in eight_byte_number eight_bytes padded zeros
the_last_base_is_read = refl

a_base_past_the_last_is_refused : base_in (128 ∷ 0 ∷ 0 ∷ 0 ∷ 0 ∷ 0 ∷ 0 ∷ 1 ∷ 0 ∷ []) ≡ None
unfolding base_in eight_byte_number eight_bytes padded zeros
a_base_past_the_last_is_refused = refl

-- ---- identities

-- two atoms, a ring of 8, and a digest of 32 bytes 171
abbrev sample_identity : IdentityFields
sample_identity = record { atoms = 2; ring = 8; digest = replicate 32 171 }

an_identity_is_spelled : identity_bytes sample_identity ≡ 66 ∷ 73 ∷ 80 ∷ 70 ∷ 0 ∷ 2 ∷ 0 ∷ 2 ∷ 0 ∷ 0 ∷ 0 ∷ 8 ∷ replicate 32 171
unfolding two_bytes four_bytes
an_identity_is_spelled = refl

an_identity_is_read : identity_in (identity_bytes sample_identity ++ 0 ∷ 0 ∷ []) ≡ Some sample_identity
unfolding identity_in two_byte_number four_byte_number two_bytes four_bytes padded zeros
an_identity_is_read = refl

a_ring_of_seven_is_refused : identity_in (66 ∷ 73 ∷ 80 ∷ 70 ∷ 0 ∷ 2 ∷ 0 ∷ 2 ∷ 0 ∷ 0 ∷ 0 ∷ 7 ∷ replicate 32 171) ≡ None
unfolding identity_in two_byte_number four_byte_number two_bytes four_bytes padded zeros
a_ring_of_seven_is_refused = refl

another_version_is_refused : identity_in (66 ∷ 73 ∷ 80 ∷ 70 ∷ 0 ∷ 0 ∷ 0 ∷ 2 ∷ 0 ∷ 0 ∷ 0 ∷ 8 ∷ replicate 32 171) ≡ None
unfolding identity_in two_byte_number four_byte_number two_bytes four_bytes padded zeros
another_version_is_refused = refl

another_version_is_told : version_in (66 ∷ 73 ∷ 80 ∷ 70 ∷ 0 ∷ 2 ∷ 0 ∷ []) ≡ Some 2
unfolding version_in two_byte_number
another_version_is_told = refl

no_version_without_the_magic : version_in (66 ∷ 73 ∷ 80 ∷ 71 ∷ 0 ∷ 1 ∷ 0 ∷ []) ≡ None
unfolding version_in two_byte_number
no_version_without_the_magic = refl

-- ---- saved states

-- atom 0 at count 4, copied at number 4, place 0 marked, one variable with value 4
abbrev sample_saved : SavedFields
sample_saved = record { atom = 0; count = 4; at = 4; marking = 1; values = pos 4 ∷ [] }

abbrev sample_saved_bytes : List ℕ
sample_saved_bytes =
    0 ∷ 0 ∷ 0 ∷ 0 ∷ 0 ∷ 0 ∷ 0 ∷ 0 ∷ 0 ∷ 4 ∷ 0 ∷ 0 ∷ 0 ∷ 0 ∷ 0 ∷ 0 ∷ 0 ∷ 4 ∷ 0 ∷ 0 ∷ 0 ∷ 0 ∷ 0 ∷ 0 ∷ 0 ∷ 1 ∷ 1 ∷ 0 ∷ 0 ∷ 0 ∷ 0 ∷ 0 ∷ 0 ∷ 0 ∷ 4 ∷ []

a_saved_state_is_spelled : saved_bytes sample_saved ≡ sample_saved_bytes
unfolding one_byte two_bytes eight_bytes signed_bytes
a_saved_state_is_spelled = refl

a_saved_state_is_read : saved_in (sample_saved_bytes ++ 0 ∷ 0 ∷ []) ≡ Some sample_saved
unfolding saved_in one_byte two_bytes eight_bytes signed_bytes one_byte_number two_byte_number eight_byte_number signed_number padded zeros
a_saved_state_is_read = refl

a_count_above_at_is_refused : saved_in (0 ∷ 0 ∷ 0 ∷ 0 ∷ 0 ∷ 0 ∷ 0 ∷ 0 ∷ 0 ∷ 5 ∷ 0 ∷ 0 ∷ 0 ∷ 0 ∷ 0 ∷ 0 ∷ 0 ∷ 4 ∷ 0 ∷ 0 ∷ 0 ∷ 0 ∷ 0 ∷ 0 ∷ 0 ∷ 1 ∷ 0 ∷ []) ≡ None
unfolding saved_in one_byte two_bytes eight_bytes signed_bytes one_byte_number two_byte_number eight_byte_number signed_number padded zeros
a_count_above_at_is_refused = refl

-- ---- records

-- value 1 delivered to the first of four variables
abbrev first_alone : List (Option ℤ)
first_alone = Some (pos 1) ∷ None ∷ None ∷ None ∷ []

abbrev nothing : List (Option ℤ)
nothing = None ∷ None ∷ None ∷ None ∷ []

-- record 2 of the sample plant: atoms 0 and 1 took part, and 1 was delivered to a variable of atom 1
abbrev second_record : FiredFields
second_record = record {
  number = 2;
  connector = 1;
  entries = record { atom = 0; transition = 0; participation = 2; delivered = nothing } ∷ record { atom = 1; transition = 0; participation = 1; delivered = first_alone } ∷ [];
}

abbrev second_record_bytes : List ℕ
second_record_bytes =
    0 ∷ 0 ∷ 0 ∷ 0 ∷ 0 ∷ 0 ∷ 0 ∷ 2 ∷ 0 ∷ 1 ∷ 2
    ∷ 0 ∷ 0 ∷ 0 ∷ 0 ∷ 0 ∷ 0 ∷ 0 ∷ 0 ∷ 0 ∷ 0 ∷ 0 ∷ 2 ∷ 0 ∷ 0
    ∷ 0 ∷ 1 ∷ 0 ∷ 0 ∷ 0 ∷ 0 ∷ 0 ∷ 0 ∷ 0 ∷ 0 ∷ 0 ∷ 1 ∷ 1 ∷ 1 ∷ 0 ∷ 0 ∷ 0 ∷ 0 ∷ 0 ∷ 0 ∷ 0 ∷ 1 ∷ []

a_record_is_spelled : fired_bytes second_record ≡ second_record_bytes
unfolding entry_bytes one_byte two_bytes eight_bytes signed_bytes
a_record_is_spelled = refl

a_record_is_read : fired_in (second_record_bytes ++ 0 ∷ 0 ∷ []) ≡ Some second_record
unfolding fired_in entry_bytes entry_at after_entry one_byte two_bytes eight_bytes signed_bytes one_byte_number two_byte_number eight_byte_number signed_number padded zeros
a_record_is_read = refl

-- number 1 with participation number 2
a_participation_past_the_number_is_refused : fired_in (0 ∷ 0 ∷ 0 ∷ 0 ∷ 0 ∷ 0 ∷ 0 ∷ 1 ∷ 0 ∷ 0 ∷ 1 ∷ 0 ∷ 0 ∷ 0 ∷ 0 ∷ 0 ∷ 0 ∷ 0 ∷ 0 ∷ 0 ∷ 0 ∷ 0 ∷ 2 ∷ 0 ∷ 0 ∷ 0 ∷ []) ≡ None
unfolding fired_in entry_bytes entry_at after_entry one_byte two_bytes eight_bytes signed_bytes one_byte_number two_byte_number eight_byte_number signed_number padded zeros
a_participation_past_the_number_is_refused = refl

-- atoms 1 and 0 in this order
atoms_out_of_order_are_refused : fired_in (0 ∷ 0 ∷ 0 ∷ 0 ∷ 0 ∷ 0 ∷ 0 ∷ 1 ∷ 0 ∷ 0 ∷ 2 ∷ 0 ∷ 1 ∷ 0 ∷ 0 ∷ 0 ∷ 0 ∷ 0 ∷ 0 ∷ 0 ∷ 0 ∷ 0 ∷ 1 ∷ 0 ∷ 0 ∷ 0 ∷ 0 ∷ 0 ∷ 0 ∷ 0 ∷ 0 ∷ 0 ∷ 0 ∷ 0 ∷ 0 ∷ 0 ∷ 1 ∷ 0 ∷ 0 ∷ 0 ∷ []) ≡ None
unfolding fired_in entry_bytes entry_at after_entry one_byte two_bytes eight_bytes signed_bytes one_byte_number two_byte_number eight_byte_number signed_number padded zeros
atoms_out_of_order_are_refused = refl

-- mask 1 with 0 values counted
a_count_of_values_that_is_not_the_ones_is_refused : fired_in (0 ∷ 0 ∷ 0 ∷ 0 ∷ 0 ∷ 0 ∷ 0 ∷ 1 ∷ 0 ∷ 0 ∷ 1 ∷ 0 ∷ 0 ∷ 0 ∷ 0 ∷ 0 ∷ 0 ∷ 0 ∷ 0 ∷ 0 ∷ 0 ∷ 0 ∷ 1 ∷ 0 ∷ 1 ∷ 0 ∷ 0 ∷ 0 ∷ 0 ∷ 0 ∷ 0 ∷ 0 ∷ 7 ∷ []) ≡ None
unfolding fired_in entry_bytes entry_at after_entry one_byte two_bytes eight_bytes signed_bytes one_byte_number two_byte_number eight_byte_number signed_number padded zeros
a_count_of_values_that_is_not_the_ones_is_refused = refl

-- values to variables 1 and 3 make mask 10, and stand from the lower variable up
values_stand_from_the_lowest_bit_up : entry_bytes (record { atom = 3; transition = 5; participation = 7; delivered = None ∷ Some (pos 9) ∷ None ∷ Some (negsuc 0) ∷ [] })
    ≡ 0 ∷ 3 ∷ 0 ∷ 5 ∷ 0 ∷ 0 ∷ 0 ∷ 0 ∷ 0 ∷ 0 ∷ 0 ∷ 7 ∷ 2 ∷ 10 ∷ 0 ∷ 0 ∷ 0 ∷ 0 ∷ 0 ∷ 0 ∷ 0 ∷ 9 ∷ 255 ∷ 255 ∷ 255 ∷ 255 ∷ 255 ∷ 255 ∷ 255 ∷ 255 ∷ []
unfolding entry_bytes one_byte two_bytes eight_bytes signed_bytes
values_stand_from_the_lowest_bit_up = refl

-- ---- the first layout

its_bodies_have_511_bytes : FIRST_BODY ≡ 511
its_bodies_have_511_bytes = refl

it_is_version_1 : FIRST_VERSION ≡ 1
it_is_version_1 = refl

its_records_have_8_entries_at_most : FIRST_MOST_ENTRIES ≡ 8
its_records_have_8_entries_at_most = refl

versions_1_and_2_change_places : map todays_version (0 ∷ 1 ∷ 2 ∷ 3 ∷ 258 ∷ []) ≡ 0 ∷ 2 ∷ 1 ∷ 3 ∷ 258 ∷ []
versions_1_and_2_change_places = refl

todays_body_is_longer : length (todays_body (5 ∷ [])) ≡ 1023
unfolding todays_body padded zeros
todays_body_is_longer = refl

an_old_base_is_read : base_in (todays_body (0 ∷ 0 ∷ 0 ∷ 0 ∷ 0 ∷ 0 ∷ 0 ∷ 9 ∷ 0 ∷ [])) ≡ Some 9
unfolding todays_body base_in eight_byte_number eight_bytes padded zeros
an_old_base_is_read = refl

a_byte_after_an_old_base_is_refused : base_in (todays_body (0 ∷ 0 ∷ 0 ∷ 0 ∷ 0 ∷ 0 ∷ 0 ∷ 9 ∷ 0 ∷ 1 ∷ [])) ≡ None
unfolding todays_body base_in eight_byte_number eight_bytes padded zeros
a_byte_after_an_old_base_is_refused = refl

an_old_saved_state_is_read : saved_in (todays_body (sample_saved_bytes ++ 0 ∷ 0 ∷ [])) ≡ Some sample_saved
unfolding todays_body saved_in one_byte two_bytes eight_bytes signed_bytes one_byte_number two_byte_number eight_byte_number signed_number padded zeros
an_old_saved_state_is_read = refl

an_old_identity_is_read : identity_in (todays_identity (identity_bytes_of 1 sample_identity ++ 0 ∷ 0 ∷ [])) ≡ Some sample_identity
unfolding todays_identity todays_body version_in identity_in two_byte_number four_byte_number two_bytes four_bytes padded zeros
an_old_identity_is_read = refl

an_old_identity_of_version_2_is_refused : identity_in (todays_identity (identity_bytes sample_identity)) ≡ None
unfolding todays_identity todays_body version_in identity_in two_byte_number four_byte_number two_bytes four_bytes padded zeros
an_old_identity_of_version_2_is_refused = refl

an_old_version_3_is_told : version_in (todays_identity (66 ∷ 73 ∷ 80 ∷ 70 ∷ 0 ∷ 3 ∷ 0 ∷ [])) ≡ Some 3
unfolding todays_identity todays_body version_in two_byte_number two_bytes padded zeros
an_old_version_3_is_told = refl

an_old_body_without_the_magic_tells_no_version : version_in (todays_identity (66 ∷ 73 ∷ 80 ∷ 71 ∷ 0 ∷ 1 ∷ 0 ∷ [])) ≡ None
unfolding todays_identity todays_body version_in two_byte_number two_bytes padded zeros
an_old_body_without_the_magic_tells_no_version = refl

an_old_record_is_read : fired_in (todays_record (second_record_bytes ++ 0 ∷ 0 ∷ [])) ≡ Some second_record
unfolding todays_record todays_body fired_in entry_bytes entry_at after_entry one_byte two_bytes eight_bytes signed_bytes one_byte_number two_byte_number eight_byte_number signed_number padded zeros
an_old_record_is_read = refl

-- record 1, in which these atoms took part
abbrev record_of : List ℕ → FiredFields
record_of atoms = record {
  number = 1;
  connector = 0;
  entries = map (λ (atom : ℕ). let entry : Entry = record { atom = atom; transition = 0; participation = 1; delivered = nothing } in entry) atoms;
}

abbrev of_eight : FiredFields
of_eight = record_of (0 ∷ 1 ∷ 2 ∷ 3 ∷ 4 ∷ 5 ∷ 6 ∷ 7 ∷ [])

abbrev of_nine : FiredFields
of_nine = record_of (0 ∷ 1 ∷ 2 ∷ 3 ∷ 4 ∷ 5 ∷ 6 ∷ 7 ∷ 8 ∷ [])

byte_10_says_how_many : slice_index (fired_bytes of_nine) ENTRY_COUNT_AT ≡ 9
unfolding eight_bytes two_bytes one_byte
byte_10_says_how_many = refl

an_old_record_of_eight_entries_is_read : fired_in (todays_record (fired_bytes of_eight)) ≡ Some of_eight
unfolding todays_record todays_body fired_in entry_bytes entry_at after_entry one_byte two_bytes eight_bytes signed_bytes one_byte_number two_byte_number eight_byte_number signed_number padded zeros
an_old_record_of_eight_entries_is_read = refl

one_of_nine_is_read_today : fired_in (fired_bytes of_nine) ≡ Some of_nine
unfolding fired_in entry_bytes entry_at after_entry one_byte two_bytes eight_bytes signed_bytes one_byte_number two_byte_number eight_byte_number signed_number padded zeros
one_of_nine_is_read_today = refl

an_old_one_of_nine_is_refused : fired_in (todays_record (fired_bytes of_nine)) ≡ None
unfolding todays_record todays_body fired_in entry_bytes entry_at after_entry one_byte two_bytes eight_bytes signed_bytes one_byte_number two_byte_number eight_byte_number signed_number padded zeros
an_old_one_of_nine_is_refused = refl
