-- Which atoms have a part in which records, as words: bit n for atom n.
use Rattle.std.specs.Prelude.{◌≡◌, ◌==◌, ℕ, Bool, List, Some, length, slice_get, slice_index_or}
use Rattle.std.specs.List.{list_any}
use Rattle.petri_atom.specs.Local.{has}
use Rattle.record_codec.specs.Fired.{FiredFields}

-- the atom has a part in the record
abbrev pub has_part : ℕ → FiredFields → Bool
has_part atom r = list_any (λ e. e.atom == atom) r.entries

-- the word has the atoms that have a part in the record
abbrev pub IsOfParts : FiredFields → ℕ → Type 0
IsOfParts r word = (atom : ℕ) → has word atom ≡ has_part atom r

-- there is such a word of each record, in their order
pub record AreParts (records : List FiredFields) (words : List ℕ) : Type 0 where
  pub as_many : length words ≡ length records
  pub each : (k : ℕ) (r : FiredFields) → slice_get records k ≡ Some r → IsOfParts r (slice_index_or words k 0)
