-- The words of a line before the one that is at fault.
use Rattle.std.specs.Prelude.{ℕ, Bool, false, List, slice_get}
use Rattle.std.specs.List.{list_any}
use Rattle.std.specs.Option.{option_map_or}
use Rattle.petri_atom.specs.Name.{is_same_text}

-- the word with this number is there, and is this one
abbrev pub is_word_at : List (List ℕ) → ℕ → List ℕ → Bool
is_word_at words number word = option_map_or (λ found. is_same_text found word) (slice_get words number) false

-- one of the words is this one
abbrev pub has_word : List (List ℕ) → List ℕ → Bool
has_word words word = list_any (λ found. is_same_text found word) words
