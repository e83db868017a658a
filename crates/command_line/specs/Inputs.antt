-- Which paths stand for the standard input.
use Rattle.std.specs.Prelude.{ℕ, Bool, ◌&&◌, List, codes}
use Rattle.petri_atom.specs.Name.{is_same_text}

-- the path stands for the standard input
abbrev pub is_standard_input : List ℕ → Bool
is_standard_input path = is_same_text path (codes "-")

-- both paths do
abbrev pub are_one_input : List ℕ → List ℕ → Bool
are_one_input one other = is_standard_input one && is_standard_input other
