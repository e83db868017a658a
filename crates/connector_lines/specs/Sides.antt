-- What a word says as one side of a priority rule.
use Rattle.std.specs.Prelude.{ℕ, ◌^◌, Bool, nat_lt, List, Option, Result, Ok}
use Rattle.std.specs.Option.{ok_or, option_map_or}
use Rattle.plant_words.specs.Numbers.{pick_in as number_in}
use Rattle.plant_words.specs.Splits.{named_mask_in}
use Rattle.priority_filter.specs.declared.rule.Side.{Side}
use Rattle.priority_filter.specs.declared.rule.Side.TheVariants.{Whole, One}
use Rattle.plant_words.specs.declared.line_fault.LineFault.{LineFault}
use Rattle.plant_words.specs.declared.line_fault.LineFault.TheVariants.{UnknownName, BadNumber}
use Rattle.plant_words.specs.Reading.{◌>>=◌, check, first_word}

-- `NAME`: each interaction of the connector with the name
abbrev pub whole_of : (List ℕ → Option ℕ) → List ℕ → Result Side LineFault
whole_of connector_named name = do
  connector ← ok_or (connector_named name) UnknownName
  Ok (Whole connector)

-- `NAME:MASK`, by its parts: the interaction of the connector that the mask says, which must be one; a number past 16 bits is none
abbrev pub one_of : (List ℕ → Option ℕ) → (ℕ → ℕ → Bool) → List ℕ × List ℕ → Result Side LineFault
one_of connector_named has_interaction parts = do
  connector ← ok_or (connector_named parts.0) UnknownName
  mask ← ok_or (number_in parts.1) BadNumber
  _ ← check (nat_lt mask (2 ^ 16)) UnknownName
  _ ← check (has_interaction connector mask) UnknownName
  Ok (One connector mask)

-- the side that a word is: `NAME:MASK` where it is written so, and else `NAME`
abbrev pub side_of : (List ℕ → Option ℕ) → (ℕ → ℕ → Bool) → List ℕ → Result Side LineFault
side_of connector_named has_interaction word =
    option_map_or (one_of connector_named has_interaction) (named_mask_in word) (whole_of connector_named word)

-- the side that the first word is
abbrev pub side_in : (List ℕ → Option ℕ) → (ℕ → ℕ → Bool) → List (List ℕ) → Result Side LineFault
side_in connector_named has_interaction words = do
  word ← first_word words
  side_of connector_named has_interaction word
