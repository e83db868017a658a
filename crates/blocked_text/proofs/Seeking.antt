-- The variables of an expression, sought by their places.
use Rattle.std.proofs.Common.{◌≡◌, ℕ, zero, suc, ◌≤◌, refl, List, [], ◌∷◌, ◌++◌, length, arith}
use Rattle.std.specs.Prelude.{Option, Some, None, Result, Ok, Err, slice_get}
use Rattle.std.proofs.lemmas.List.{length-append}
use Rattle.petri_atom.specs.Expression.{Tree, number, variable, negation, operation, word_count}
use Rattle.blocked_text.specs.Variables.{sought, variables_in}

-- what is sought further is sought among these
abbrev pub further : {V : Type 0} → Result V ℕ → List V → Result V ℕ
further (Ok x) xs = Ok x
further (Err place) xs = sought place xs

-- among two lists an element is sought in the first and then in the second
pub sought-further : {V : Type 0} (place : ℕ) (xs ys : List V) → sought place (xs ++ ys) ≡ further (sought place xs) ys
sought-further place [] ys = refl
sought-further zero (x ∷ xs) ys = refl
sought-further (suc place) (x ∷ xs) ys = sought-further place xs ys

-- the element that is found; nothing of one that is sought further
abbrev pub found : {V : Type 0} → Result V ℕ → Option V
found (Ok x) = Some x
found (Err place) = None

-- the element that is found is the entry at the place
pub found-entry : {V : Type 0} (place : ℕ) (xs : List V) → found (sought place xs) ≡ slice_get xs place
found-entry place [] = refl
found-entry zero (x ∷ xs) = refl
found-entry (suc place) (x ∷ xs) = found-entry place xs

-- an expression has no more variables than words
pub few-variables : {V : Type 0} (e : Tree V) → length (variables_in e) ≤ word_count e
few-variables (number n) = omega arith
few-variables (variable v) = omega arith
few-variables (negation e) = omega (arith, few-variables e)
few-variables (operation op e f) = omega (arith, few-variables e, few-variables f, length-append (variables_in e) (variables_in f))
