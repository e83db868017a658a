-- Words of several parts.
use Rattle.std.specs.Prelude.{ℕ, ◌-◌, Bool, ◌&&◌, if◌then◌else◌, ◌==◌, List, [], ◌∷◌, length, take, slice_index, Option, Some, None}
use Rattle.std.specs.List.{slice_split}
use Rattle.std.specs.Option.{option_map}
use Rattle.plant_words.specs.Words.{is_filled}

-- the two parts, where there are two and neither is empty
abbrev pub both_of : List (List ℕ) → Option (List ℕ × List ℕ)
both_of [] = None
both_of (left ∷ []) = None
both_of (left ∷ right ∷ []) = if is_filled left && is_filled right then Some (left, right) else None
both_of (left ∷ right ∷ third ∷ more) = None

-- what stands on both sides of a byte that the word has once
abbrev pub sides_in : ℕ → List ℕ → Option (List ℕ × List ℕ)
sides_in byte word = both_of (slice_split (λ b. b == byte) word)

-- `ATOM.NAME`, as an export is written: its parts around the only dot (46)
abbrev pub export_parts : List ℕ → Option (List ℕ × List ℕ)
export_parts word = sides_in 46 word

-- `NAME:MASK`: its parts around the only colon (58)
abbrev pub named_mask_in : List ℕ → Option (List ℕ × List ℕ)
named_mask_in word = sides_in 58 word

-- the word ends with a quote (39)
abbrev pub is_quoted : List ℕ → Bool
is_quoted word = slice_index word (length word - 1) == 39

-- the word without the one quote at its end, if it has one
abbrev pub without_quote : List ℕ → List ℕ
without_quote word = if is_quoted word then take (length word - 1) word else word

-- a port of a connector's tree, and whether a quote follows it
pub record PortParts : Type 0 where
  pub atom : List ℕ
  pub port : List ℕ
  pub quoted : Bool

-- `ATOM.PORT` or `ATOM.PORT'`
abbrev pub port_parts : List ℕ → Option PortParts
port_parts word = option_map (λ sides. record { atom = sides.0; port = sides.1; quoted = is_quoted word }) (sides_in 46 (without_quote word))
