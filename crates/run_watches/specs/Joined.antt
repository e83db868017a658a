-- `at ATOM PLACE` as one word.
use Rattle.std.specs.Prelude.{ℕ, zero, suc, if◌then◌else◌, List, [], ◌∷◌, ◌++◌, codes}
use Rattle.petri_atom.specs.Name.{is_same_text}

-- how many words after this one belong to an `at`, where so many did before it
abbrev pub owned_after : ℕ → List ℕ → ℕ
owned_after zero word = if is_same_text word (codes "at") then 2 else 0
owned_after (suc owned) word = owned

-- what stands behind a word: a dot before one that belongs to an `at`, and else a space
abbrev pub mark_before : ℕ → List ℕ
mark_before zero = codes " "
mark_before (suc owned) = codes "."

-- the words, of which the first so many belong to an `at` before them
abbrev pub joined_from : ℕ → List (List ℕ) → List ℕ
joined_from owned [] = []
joined_from owned (word ∷ words) = word ++ mark_before (owned_after owned word) ++ joined_from (owned_after owned word) words

-- The text of words in which each `at ATOM PLACE` is the one word `at.ATOM.PLACE`.
abbrev pub joined_text : List (List ℕ) → List ℕ
joined_text words = joined_from 0 words
