-- What is said of the elements of a list by their numbers.
use Rattle.std.specs.Prelude.{ℕ, ◌+◌, List, [], ◌∷◌, ◌++◌}

-- what is said of each element of a list, the elements numbered from n, one after another
abbrev pub numbered : {X Y : Type 0} → (ℕ → X → List Y) → ℕ → List X → List Y
numbered say n [] = []
numbered say n (x ∷ xs) = say n x ++ numbered say (n + 1) xs
