-- The variables that an expression names.
use Rattle.std.specs.Prelude.{ℕ, zero, suc, Bool, List, [], ◌∷◌, ◌++◌, take, Result, Ok, Err}
use Rattle.std.specs.List.{list_any}
use Rattle.petri_atom.specs.Expression.{Tree, number, variable, negation, operation}

-- the variables in an expression, from left to right, as often as it names them
abbrev pub variables_in : {V : Type 0} → Tree V → List V
variables_in (number n) = []
variables_in (variable v) = v ∷ []
variables_in (negation e) = variables_in e
variables_in (operation op e f) = variables_in e ++ variables_in f

-- an element is the same as one of the first k of a list
abbrev pub is_before : {V : Type 0} → (V → V → Bool) → List V → ℕ → V → Bool
is_before same xs k x = list_any (λ y. same y x) (take k xs)

-- the element of a list at a place, or at what place it is sought after the list
abbrev pub sought : {V : Type 0} → ℕ → List V → Result V ℕ
sought place [] = Err place
sought zero (x ∷ xs) = Ok x
sought (suc place) (x ∷ xs) = sought place xs
