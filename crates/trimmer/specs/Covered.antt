-- Which records are covered.
use Rattle.std.specs.Prelude.{ℕ, ◌==◌, ◌&&◌, not, Bool, nat_le, List, slice_get}
use Rattle.std.specs.List.{list_all, list_any}
use Rattle.std.specs.Option.{option_map_or}
use Rattle.trimmer.specs.declared.mark.Participation.{Participation}
use Rattle.trimmer.specs.declared.saved.SavedAt.{SavedAt}

-- a record as the trimmer sees it: its number, and its participants with their participation numbers
pub record MarkFields : Type 0 where
  pub number : ℕ
  pub participations : List Participation

-- after how many firings of an atom its newest snapshot was made: none if it has no snapshot
abbrev pub saved_count : List SavedAt → ℕ → ℕ
saved_count saved atom = option_map_or (λ (newest : SavedAt). newest.count) (slice_get saved atom) 0

-- the participant's firing is one of those after which its atom's newest snapshot was made
abbrev pub is_saved : List SavedAt → Participation → Bool
is_saved saved one = nat_le one.number (saved_count saved one.atom)

-- a record is covered: each of its participants is saved after it
abbrev pub is_covered : List SavedAt → MarkFields → Bool
is_covered saved mark = list_all (is_saved saved) mark.participations

-- an atom keeps the record: it is a participant, and is not saved after it
abbrev pub is_held_by : ℕ → List SavedAt → MarkFields → Bool
is_held_by atom saved mark = list_any (λ one. one.atom == atom && not (is_saved saved one)) mark.participations
