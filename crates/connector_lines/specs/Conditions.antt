-- What words say as the condition of a priority rule.
use Rattle.std.specs.Prelude.{ℕ, List, [], ◌∷◌, drop, Option, Result, Ok, codes}
use Rattle.std.specs.Option.{ok_or}
use Rattle.plant_words.specs.declared.line_fault.LineFault.{LineFault}
use Rattle.plant_words.specs.declared.line_fault.LineFault.TheVariants.{UnknownName}
use Rattle.plant_words.specs.Reading.{◌>>=◌, first_word, first_keyword, at_end}
use Rattle.priority_filter.specs.declared.rule.Rule.{Rule}
use Rattle.priority_filter.specs.declared.rule.Rule.TheVariants.{Under, UnderAt}
use Rattle.priority_filter.specs.declared.rule.Side.{Side}
use Rattle.priority_filter.specs.declared.seen.At.{At}

-- the number of the atom with a name, and of the place with a name of the atom with a number
abbrev pub AtomsNamed : Type 0
AtomsNamed = List ℕ → Option ℕ

abbrev pub PlacesNamed : Type 0
PlacesNamed = ℕ → List ℕ → Option ℕ

-- `ATOM at PLACE`: the place, which must be one of that atom
abbrev pub condition_in : AtomsNamed → PlacesNamed → List (List ℕ) → Result At LineFault
condition_in atom_named place_named words = do
  atom_name ← first_word words
  atom ← ok_or (atom_named atom_name) UnknownName
  _ ← first_keyword (codes "at") (drop 1 words)
  name ← first_word (drop 2 words)
  place ← ok_or (place_named atom name) UnknownName
  _ ← at_end (drop 3 words)
  Ok (record { atom = atom; place = place })

-- the condition after the word `when`
abbrev pub condition_after : AtomsNamed → PlacesNamed → List (List ℕ) → Result At LineFault
condition_after atom_named place_named words = do
  _ ← first_keyword (codes "when") words
  condition_in atom_named place_named (drop 1 words)

-- the rule of two sides that ends with these words: without a condition where there are none
abbrev pub rule_after : AtomsNamed → PlacesNamed → Side → Side → List (List ℕ) → Result Rule LineFault
rule_after atom_named place_named left right [] = Ok (Under left right)
rule_after atom_named place_named left right (word ∷ words) =
    condition_after atom_named place_named (word ∷ words) >>= λ at. Ok (UnderAt left right at)
