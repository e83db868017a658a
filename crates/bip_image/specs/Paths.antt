-- Which paths the words of the command line name.
use Rattle.std.specs.Prelude.{ℕ, List, [], Option}
use Rattle.std.specs.Option.{option_map_or}

-- a path, or the empty one where there is none
abbrev pub path_in : Option (List ℕ) → List ℕ
path_in path = option_map_or (λ p. p) path []
