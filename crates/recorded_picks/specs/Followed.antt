-- Picks of a source, and others after them.
use Rattle.std.specs.Prelude.{if◌then◌else◌, List, ◌++◌, Option, Some, option_map}
use Rattle.run_text.specs.Picks.{PickDefinition}
use Rattle.recorded_picks.specs.declared.followed.Followed.{Followed}

-- picks that may be known, and these after them
abbrev pub followed : List PickDefinition → Option (List PickDefinition) → Option (List PickDefinition)
followed more left = option_map (λ picks. picks ++ more) left

-- the picks that are left of a source and the random ones, where the source says its own so
abbrev pub left_in : {F : Type 0} → (F → Option (List PickDefinition)) → Followed F → Option (List PickDefinition)
left_in left_of f = if f.is_past then Some f.random else followed f.random (left_of f.source)
