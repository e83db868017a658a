-- Slots of two atoms, worked out by hand. The bodies are short: a definition takes a body of any length.
use Rattle.std.proofs.Common.{◌≡◌, ℕ, List, [], ◌∷◌, map, Option, Some, None, refl}
use Rattle.disk_model.specs.Cells.{Cell}
use Rattle.record_codec.specs.Bytes.{one_byte, two_bytes, eight_bytes, signed_bytes, one_byte_number, two_byte_number, eight_byte_number, signed_number, padded, zeros}
use Rattle.record_codec.specs.Saved.{SavedFields, saved_bytes, saved_in}
use Rattle.snapshot_writer.specs.Slots.{saved_at, newest, newest_slot, newest_slotted, other_slot}

-- the state of an atom that had taken part so often, when record 9 was the last
state : ℕ → ℕ → SavedFields
state atom count = record { atom = atom; count = count; at = 9; marking = 1; values = [] }

holds : ℕ → ℕ → Cell
holds atom count = Some (saved_bytes (state atom count))

empty : Cell
empty = None

-- the identity, the bases, and two slots for each of two atoms
slots : Cell → Cell → Cell → Cell → List Cell
slots a b c d = empty ∷ empty ∷ empty ∷ a ∷ b ∷ c ∷ d ∷ []

-- the newest state of atom 0, its slot, and the slot that is written next, where its slots hold these
found : Cell → Cell → Option SavedFields × ℕ × ℕ
found a b = (newest 0 (slots a b empty empty), newest_slot 0 (slots a b empty empty), other_slot 0 (slots a b empty empty))

-- The greater count is the newest, in either slot. Of two equal ones it is the first, and a state alone is it. With no state at all
-- slot 0 is written first. The state of another atom is none of this one.
the_newest_of_two_slots : map (λ (held : Cell × Cell). found held.0 held.1) ((holds 0 4, holds 0 7) ∷ (holds 0 7, holds 0 4) ∷ (holds 0 4, holds 0 4) ∷ (empty, holds 0 2) ∷ (empty, empty) ∷ (holds 0 4, holds 1 7) ∷ [])
    ≡ (Some (state 0 7), 1, 0) ∷ (Some (state 0 7), 0, 1) ∷ (Some (state 0 4), 0, 1) ∷ (Some (state 0 2), 1, 0) ∷ (None, 0, 0) ∷ (Some (state 0 4), 0, 1) ∷ []
unfolding found state holds empty slots saved_in one_byte two_bytes eight_bytes signed_bytes one_byte_number two_byte_number eight_byte_number signed_number padded zeros
the_newest_of_two_slots = refl

the_newest_with_its_slot : newest_slotted 0 (slots (holds 0 7) (holds 0 4) empty empty) ≡ Some (0, state 0 7)
unfolding state holds empty slots saved_in one_byte two_bytes eight_bytes signed_bytes one_byte_number two_byte_number eight_byte_number signed_number padded zeros
the_newest_with_its_slot = refl

-- the slots of the second atom stand after those of the first
the_newest_of_the_second_atom : newest 1 (slots (holds 0 4) empty empty (holds 1 2)) ≡ Some (state 1 2)
unfolding state holds empty slots saved_in one_byte two_bytes eight_bytes signed_bytes one_byte_number two_byte_number eight_byte_number signed_number padded zeros
the_newest_of_the_second_atom = refl

a_slot_of_another_atom_holds_none : saved_at 0 1 (slots (holds 0 4) (holds 1 7) empty empty) ≡ None
unfolding state holds empty slots saved_in one_byte two_bytes eight_bytes signed_bytes one_byte_number two_byte_number eight_byte_number signed_number padded zeros
a_slot_of_another_atom_holds_none = refl
