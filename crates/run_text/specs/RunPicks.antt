-- Picks of any kind.
use Rattle.std.specs.Prelude.{List, Option, Some}
use Rattle.run_text.specs.Picks.{PickDefinition}
use Rattle.run_text.specs.declared.picks.RunPicks.{RunPicks}
use Rattle.run_text.specs.declared.picks.RunPicks.TheVariants.{Given, Random, From}

-- the picks that are left, where a source of another kind says its own so
abbrev pub picks_left : {F : Type 0} → (F → Option (List PickDefinition)) → RunPicks F → Option (List PickDefinition)
picks_left left_of (Given picks) = Some picks
picks_left left_of (Random picks) = Some picks
picks_left left_of (From source) = left_of source
