-- Cells of a ring of eight records after two atoms, worked out by hand. The bodies are short: a definition takes a body of any length.
use Rattle.std.proofs.Common.{◌≡◌, ℕ, List, [], ◌∷◌, Some, None, refl}
use Rattle.disk_model.specs.Cells.{Cell}
use Rattle.record_codec.specs.Bytes.{one_byte, two_bytes, eight_bytes, one_byte_number, two_byte_number, eight_byte_number, padded, zeros}
use Rattle.record_codec.specs.Base.{base_in, base_bytes}
use Rattle.record_codec.specs.Entry.{entry_bytes, entry_at}
use Rattle.record_codec.specs.Fired.{FiredFields, fired_bytes, fired_in}
use Rattle.gated_journal.specs.declared.ring.Ring.{Ring}
use Rattle.gated_journal.specs.Live.{live, place}
use Rattle.gated_journal.specs.Bases.{base_of, base_cell_of, other_cell}
use Rattle.gated_journal.specs.Rings.{cells_of_ring}
use Rattle.gated_journal.specs.Stops.{moved}

-- a firing of atom 0 alone, as record n
record_of : ℕ → FiredFields
record_of n = record { number = n; connector = 0; entries = record { atom = 0; transition = 0; participation = n; delivered = None ∷ None ∷ None ∷ None ∷ [] } ∷ [] }

holds : ℕ → Cell
holds n = Some (fired_bytes (record_of n))

base_is : ℕ → Cell
base_is n = Some (base_bytes n)

empty : Cell
empty = None

-- the journal whose base is 9, and whose records 9 and 10 are live
nine_and_ten : Ring
nine_and_ten = record { atoms = 2; ring = 8; base_cell = 1; base = 9; last = 10 }

-- its cells: the identity, the bases, four slots, and the ring, whose first cell is that of record 8
cells_with : Cell → Cell → List Cell → List Cell
cells_with first second ring = empty ∷ first ∷ second ∷ empty ∷ empty ∷ empty ∷ empty ∷ ring

fifteen_cells : cells_of_ring nine_and_ten ≡ 15
unfolding nine_and_ten
fifteen_cells = refl

record_16_has_the_cell_of_record_8 : place nine_and_ten 16 ≡ 7
unfolding nine_and_ten
record_16_has_the_cell_of_record_8 = refl

two_are_live : live nine_and_ten (cells_with (base_is 9) (base_is 1) (empty ∷ holds 9 ∷ holds 10 ∷ empty ∷ empty ∷ empty ∷ empty ∷ empty ∷ [])) ≡ record_of 9 ∷ record_of 10 ∷ []
unfolding nine_and_ten cells_with holds record_of base_is empty fired_in entry_bytes entry_at one_byte two_bytes eight_bytes one_byte_number two_byte_number eight_byte_number padded zeros
two_are_live = refl

-- a record of the round before ends the list, as an empty cell does
another_number_ends_the_list : live nine_and_ten (cells_with (base_is 9) (base_is 1) (empty ∷ holds 9 ∷ holds 10 ∷ holds 3 ∷ holds 12 ∷ empty ∷ empty ∷ empty ∷ [])) ≡ record_of 9 ∷ record_of 10 ∷ []
unfolding nine_and_ten cells_with holds record_of base_is empty fired_in entry_bytes entry_at one_byte two_bytes eight_bytes one_byte_number two_byte_number eight_byte_number padded zeros
another_number_ends_the_list = refl

-- a full ring has eight records and no more: the ninth would have the cell of the first
a_full_ring_has_eight : live nine_and_ten (cells_with (base_is 9) (base_is 1) (holds 16 ∷ holds 9 ∷ holds 10 ∷ holds 11 ∷ holds 12 ∷ holds 13 ∷ holds 14 ∷ holds 15 ∷ [])) ≡ record_of 9 ∷ record_of 10 ∷ record_of 11 ∷ record_of 12 ∷ record_of 13 ∷ record_of 14 ∷ record_of 15 ∷ record_of 16 ∷ []
unfolding nine_and_ten cells_with holds record_of base_is empty fired_in entry_bytes entry_at one_byte two_bytes eight_bytes one_byte_number two_byte_number eight_byte_number padded zeros
a_full_ring_has_eight = refl

-- open behind a closed cell: record 12 is not live, but would be once record 11 stands before it
an_open_cell_past_the_end_is_not_live : live nine_and_ten (cells_with (base_is 9) (base_is 1) (empty ∷ holds 9 ∷ holds 10 ∷ empty ∷ holds 12 ∷ empty ∷ empty ∷ empty ∷ [])) ≡ record_of 9 ∷ record_of 10 ∷ []
unfolding nine_and_ten cells_with holds record_of base_is empty fired_in entry_bytes entry_at one_byte two_bytes eight_bytes one_byte_number two_byte_number eight_byte_number padded zeros
an_open_cell_past_the_end_is_not_live = refl

-- with base 10 the list begins there
the_base_begins_the_list : live (moved 10 nine_and_ten) (cells_with (base_is 9) (base_is 10) (empty ∷ holds 9 ∷ holds 10 ∷ empty ∷ empty ∷ empty ∷ empty ∷ empty ∷ [])) ≡ record_of 10 ∷ []
unfolding nine_and_ten cells_with holds record_of base_is empty fired_in entry_bytes entry_at one_byte two_bytes eight_bytes one_byte_number two_byte_number eight_byte_number padded zeros
the_base_begins_the_list = refl

-- the greater base counts, the first where both are equal, and the only one
the_greater_base_counts : base_of (cells_with (base_is 9) (base_is 10) []) ≡ Some 10
unfolding cells_with base_is empty base_in eight_bytes eight_byte_number padded zeros
the_greater_base_counts = refl

the_first_of_two_equal_ones_counts : base_cell_of (cells_with (base_is 9) (base_is 9) []) ≡ 1
unfolding cells_with base_is empty base_in eight_bytes eight_byte_number padded zeros
the_first_of_two_equal_ones_counts = refl

the_only_base_counts : base_cell_of (cells_with empty (base_is 1) []) ≡ 2
unfolding cells_with base_is empty base_in eight_bytes eight_byte_number padded zeros
the_only_base_counts = refl

the_other_cell_of_the_first_is_the_second : other_cell nine_and_ten ≡ 2
unfolding nine_and_ten
the_other_cell_of_the_first_is_the_second = refl
