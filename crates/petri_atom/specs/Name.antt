use Rattle.std.specs.Prelude.{ℕ, Bool, false, not, ◌&&◌, ◌||◌, List, [], ◌∷◌, length, nat_le, nat_eq, ◌==◌, codes}
use Rattle.std.specs.List.{list_all}
use Rattle.std.specs.Cmp.Lexicographic.{pointwise}
use Rattle.petri_atom.specs.declared.name.TheConstants.{MAX_NAME}

-- an ASCII letter
abbrev pub is_letter : ℕ → Bool
is_letter c = (nat_le 65 c && nat_le c 90) || (nat_le 97 c && nat_le c 122)

-- a letter, a digit or `_`
abbrev pub is_letter_or_digit : ℕ → Bool
is_letter_or_digit c = is_letter c || (nat_le 48 c && nat_le c 57) || c == 95

-- two texts are the same
abbrev pub is_same_text : List ℕ → List ℕ → Bool
is_same_text = pointwise nat_eq

-- the words of a plant text that are no names
abbrev pub is_reserved : List ℕ → Bool
is_reserved text =
    is_same_text text (codes "from") || is_same_text text (codes "to") || is_same_text text (codes "when") ||
    is_same_text text (codes "do") || is_same_text text (codes "init") || is_same_text text (codes "at") ||
    is_same_text text (codes "min") || is_same_text text (codes "max")

-- the first byte of the text is a letter
abbrev pub begins_with_letter : List ℕ → Bool
begins_with_letter [] = false
begins_with_letter (c ∷ cs) = is_letter c

-- each byte of the text is a letter, a digit or `_`
abbrev pub has_word_bytes : List ℕ → Bool
has_word_bytes text = list_all is_letter_or_digit text

-- the text begins with a letter, and has letters, digits and `_` alone
abbrev pub is_word : List ℕ → Bool
is_word text = begins_with_letter text && has_word_bytes text

-- a name: a word of at most 32 bytes that is not reserved
abbrev pub is_name : List ℕ → Bool
is_name text = nat_le (length text) MAX_NAME && is_word text && not (is_reserved text)
