-- The rule that a line writes, or the fault of its first word that is at fault. The words are those after the line's
-- first one.
use Rattle.std.specs.Prelude.{ℕ, Bool, List, drop, Option, Result, Ok, codes}
use Rattle.std.specs.Option.{ok_or}
use Rattle.priority_filter.specs.declared.rule.Rule.{Rule}
use Rattle.priority_filter.specs.declared.rule.Rule.TheVariants.{Maximal}
use Rattle.plant_words.specs.declared.line_fault.LineFault.{LineFault}
use Rattle.plant_words.specs.declared.line_fault.LineFault.TheVariants.{UnknownName}
use Rattle.plant_words.specs.Reading.{◌>>=◌, first_word, first_keyword, at_end}
use Rattle.connector_lines.specs.Conditions.{AtomsNamed, PlacesNamed, rule_after}
use Rattle.connector_lines.specs.Sides.{side_in}

-- `prio SIDE < SIDE`, and after it `when ATOM at PLACE` or nothing: the left side is below the right one, where the place is marked or
-- always
abbrev pub priority_in : (List ℕ → Option ℕ) → (ℕ → ℕ → Bool) → AtomsNamed → PlacesNamed → List (List ℕ) → Result Rule LineFault
priority_in connector_named has_interaction atom_named place_named words = do
  left ← side_in connector_named has_interaction words
  _ ← first_keyword (codes "<") (drop 1 words)
  right ← side_in connector_named has_interaction (drop 2 words)
  rule_after atom_named place_named left right (drop 3 words)

-- `maximal NAME`: the connector with the name is maximal
abbrev pub maximal_in : (List ℕ → Option ℕ) → List (List ℕ) → Result Rule LineFault
maximal_in connector_named words = do
  word ← first_word words
  connector ← ok_or (connector_named word) UnknownName
  _ ← at_end (drop 1 words)
  Ok (Maximal connector)
