-- The words of a run, and what stands between them, in each format.
use Rattle.std.specs.Prelude.{ℕ, ℤ, List, [], ◌∷◌, ◌++◌, codes}
use Rattle.std.specs.Fmt.{signed_decimal}
use Rattle.text_io.specs.declared.format.Format.{Format}
use Rattle.text_io.specs.declared.format.Format.TheVariants.{Lines, Csv, Jsonl}

-- words with this between two, and this before the first
abbrev pub separated_after : List ℕ → List ℕ → List (List ℕ) → List ℕ
separated_after before between [] = []
separated_after before between (word ∷ words) = before ++ word ++ separated_after between between words

-- words with this between two
abbrev pub separated_by : List ℕ → List (List ℕ) → List ℕ
separated_by between words = separated_after [] between words

-- what stands before the next word, if this stood before the first one of these
abbrev pub after_words : List ℕ → List ℕ → List (List ℕ) → List ℕ
after_words before between [] = before
after_words before between (word ∷ words) = between

-- what stands between two places, and between two values
abbrev pub between_text : Format → List ℕ
between_text Lines = codes " "
between_text Csv = codes " "
between_text Jsonl = codes ","

-- a name between quotes
abbrev pub quoted : List ℕ → List ℕ
quoted name = codes "\"" ++ name ++ codes "\""

-- a name that stands as a word of its own
abbrev pub name_text : Format → List ℕ → List ℕ
name_text Lines name = name
name_text Csv name = name
name_text Jsonl name = quoted name

-- what stands between the name of a variable and its value
abbrev pub equals_text : Format → List ℕ
equals_text Lines = codes "="
equals_text Csv = codes "="
equals_text Jsonl = codes ":"

-- a variable and its value
abbrev pub assigned_text : Format → List ℕ → ℤ → List ℕ
assigned_text format name value = name_text format name ++ equals_text format ++ signed_decimal value
