-- What the words of a command say, as `clap` found them.
use Rattle.std.specs.Prelude.{◌≡◌, ℕ, List, map, Bool, true, false, codes, if◌then◌else◌, Option, None, Some, option_and_then, option_map}
use Rattle.std.specs.Borrow.{Bor}
use Rattle.clap.specs.Matches.{first_value, matched_of, one_text, raw_values}
use Rattle.clap.specs.declared.parser.matches.Found.{Found}
use Rattle.clap.specs.declared.parser.matches.ValueSource.{ValueSource}
use Rattle.clap.specs.declared.parser.matches.ValueSource.TheVariants.{CommandLine, DefaultValue}

-- the text of a word that may be there
abbrev pub word_of : Option (Bor (List ℕ)) → Option (List ℕ)
word_of word = option_map (λ w. w.now) word

-- the texts of words that may be there
abbrev pub words_of : Option (Bor (List (Bor (List ℕ)))) → Option (List (List ℕ))
words_of words = option_map (λ ws. map (λ w. w.now) ws.now) words

-- the words that were found by a name
abbrev pub are_found : Found → List ℕ → Option (List (List ℕ))
are_found found name = option_map raw_values (matched_of found name)

-- places of words that may be there
abbrev pub places_of : Option (Bor (List ℕ)) → Option (List ℕ)
places_of places = option_map (λ ps. ps.now) places

-- where among all words those stand that were found by a name
abbrev pub places_found : Found → List ℕ → Option (List ℕ)
places_found found name = option_map (λ a. a.indices.items) (matched_of found name)

-- an option without a value is set where it was found set, and is not where it was found otherwise
abbrev pub IsFlag : Found → List ℕ → Bool → Type 0
IsFlag found name flag =
    (one_text found name ≡ Some (codes "true") → flag ≡ true) ×
    (one_text found name ≡ Some (codes "false") → flag ≡ false) × (one_text found name ≡ None → flag ≡ false)

-- a value was named by words, and is not the usual one for want of words
abbrev pub is_by_words : Option ValueSource → Bool
is_by_words None = false
is_by_words (Some DefaultValue) = false
is_by_words (Some CommandLine) = true

-- the first value that was found by a name, where words named it
abbrev pub named_value : Found → List ℕ → Option (List ℕ)
named_value found name = if is_by_words (option_and_then (λ a. a.source) (matched_of found name)) then first_value found name else None
