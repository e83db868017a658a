-- Where what a task reads and writes is.
use Rattle.std.specs.Prelude.{ℕ, List, Option, None, option_map}
use Rattle.std.specs.Borrow.{Bor}
use Rattle.plant_tasks.specs.declared.paths.TaskPaths.{TaskPaths}

-- the text of a path that may be there
abbrev pub path_of : Option (Bor (List ℕ)) → Option (List ℕ)
path_of path = option_map (λ p. p.now) path

-- a plant text at a path, and nothing beside it
abbrev pub plant_alone : Bor (List ℕ) → TaskPaths
plant_alone plant = record { plant = plant; input = None; saved = None }
