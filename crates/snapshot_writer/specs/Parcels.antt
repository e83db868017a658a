-- The state of one atom as it is saved, and the body of a slot that holds it.
use Rattle.std.specs.Prelude.{◌≡◌, ℕ, List, Some}
use Rattle.petri_atom.specs.Local.{Local}
use Rattle.record_codec.specs.declared.layout.TheConstants.{BODY}
use Rattle.record_codec.specs.Bytes.{padded}
use Rattle.record_codec.specs.Saved.{SavedFields, saved_bytes, saved_in}

-- the state of an atom that had taken part so often when the last record that was fired had this number
abbrev pub saved_by : ℕ → ℕ → ℕ → Local → SavedFields
saved_by atom count at state = record { atom = atom; count = count; at = at; marking = state.marking; values = state.values }

-- the state alone
abbrev pub local_in : SavedFields → Local
local_in saved = record { marking = saved.marking; values = saved.values }

-- the body of a slot that holds this state
abbrev pub slot_body : SavedFields → List ℕ
slot_body saved = padded BODY (saved_bytes saved)

-- The body is the spelling of this state, and is read as it.
pub record IsBodyOf (body : List ℕ) (saved : SavedFields) : Type 0 where
  pub spelled : body ≡ slot_body saved
  pub read : saved_in body ≡ Some saved
