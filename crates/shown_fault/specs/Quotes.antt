-- A quote of a tree that does not stand after its port.
use Rattle.std.specs.Prelude.{ℕ, ◌-◌, ◌==◌, Bool, not, if◌then◌else◌, List, [], ◌∷◌, length, slice_get, unwrap_or, codes}
use Rattle.std.specs.Option.{option_map_or}
use Rattle.petri_atom.specs.Name.{is_same_text}
use Rattle.plant_words.specs.Splits.{port_parts}
use Rattle.shown_fault.specs.Shown.{advice_line}

-- a quote may be put after the word
abbrev pub can_be_marked : List ℕ → Bool
can_be_marked word = option_map_or (λ parts. not parts.quoted) (port_parts word) (is_same_text word (codes "]"))

-- where a quote stands: after this word, if it may
abbrev pub quoted_line : List ℕ → List ℕ
quoted_line word =
    if can_be_marked word then advice_line (codes "a quote stands directly after its port or bracket: write " ∷ word ∷ codes "'" ∷ [])
    else advice_line (codes "a quote stands directly after its port or bracket: write A.t'" ∷ [])

-- the word that a quote belongs to that begins a word before these bytes: that before it if there are none
abbrev pub marked_by : List (List ℕ) → List ℕ → List ℕ
marked_by words [] = unwrap_or (slice_get words (length words - 1)) []
marked_by words (byte ∷ bytes) = byte ∷ bytes

-- where the quote (39) stands that a word of a tree begins with, after these words; nothing if it begins with none
unfoldable pub quote_advice : List (List ℕ) → List ℕ → List ℕ
quote_advice words [] = []
quote_advice words (byte ∷ bytes) = if byte == 39 then quoted_line (marked_by words bytes) else []
