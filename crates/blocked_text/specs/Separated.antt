-- Words with a text between two.
use Rattle.std.specs.Prelude.{ℕ, List, [], ◌∷◌, ◌++◌}

-- words with this between two, and this before the first
abbrev pub separated_after : List ℕ → List ℕ → List (List ℕ) → List ℕ
separated_after before between [] = []
separated_after before between (word ∷ words) = before ++ word ++ separated_after between between words

-- what stands before the next word, where this stood before the first one of these
abbrev pub after_words : List ℕ → List ℕ → List (List ℕ) → List ℕ
after_words before between [] = before
after_words before between (word ∷ words) = between
