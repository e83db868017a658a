-- What a run by workers prints after where the plant stands.
use Rattle.std.specs.Prelude.{ℕ, List, ◌++◌, codes, decimal}

-- how many choices were fired by all workers together
abbrev pub by_line : ℕ → List ℕ
by_line fired = codes "by " ++ decimal fired ++ codes "\n"
