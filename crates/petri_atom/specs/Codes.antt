-- A code for expressions, by which a proof tells two values apart that hold expressions.
use Rattle.std.specs.Prelude.{◌≡◌, ◌⊎◌, ℕ, ℤ, pos, List, [], ◌∷◌, ◌++◌}
use Rattle.std.specs.Coded.{Coded, code_by, codes}
use Rattle.std.proofs.Common.{inl, inr, refl, sym, ap, ◌∙◌, append_assoc}
use Rattle.std.proofs.lemmas.List.{append-nil}
use Rattle.petri_atom.specs.Expression.{Tree, number, variable, negation, operation}
use Rattle.petri_atom.specs.declared.expression.Operator.{Operator}

-- what stands in an expression: a number or a variable, a negation or an operator
abbrev Mark : Type 0
Mark = (ℤ ⊎ ℕ) ⊎ (Unit {0} ⊎ Operator)

-- the marks of an expression, each after its parts
marks : Tree ℕ → List Mark
marks (number n) = inl (inl n) ∷ []
marks (variable v) = inl (inr v) ∷ []
marks (negation t) = marks t ++ inr (inl tt) ∷ []
marks (operation op l r) = marks l ++ (marks r ++ inr (inr op) ∷ [])

-- the expressions that stand on a stack when marks were read
read : List Mark → List (Tree ℕ) → List (Tree ℕ)
read [] stack = stack
read (inl (inl n) ∷ ms) stack = read ms (number n ∷ stack)
read (inl (inr v) ∷ ms) stack = read ms (variable v ∷ stack)
read (inr (inl u) ∷ ms) [] = []
read (inr (inl u) ∷ ms) (t ∷ stack) = read ms (negation t ∷ stack)
read (inr (inr op) ∷ ms) [] = []
read (inr (inr op) ∷ ms) (r ∷ []) = []
read (inr (inr op) ∷ ms) (r ∷ l ∷ stack) = read ms (operation op l r ∷ stack)

top : List (Tree ℕ) → Tree ℕ
top [] = number (pos 0)
top (t ∷ stack) = t

-- the marks of an expression are read as that expression
read-marks : (t : Tree ℕ) (ms : List Mark) (stack : List (Tree ℕ)) → read (marks t ++ ms) stack ≡ read ms (t ∷ stack)
unfolding marks read
read-marks (number n) ms stack = refl
read-marks (variable v) ms stack = refl
read-marks (negation t) ms stack = ap (λ (l : List Mark). read l stack) (append_assoc (marks t) (inr (inl tt) ∷ []) ms) ∙ read-marks t (inr (inl tt) ∷ ms) stack
read-marks (operation op l r) ms stack =
    ap (λ (x : List Mark). read x stack) (append_assoc (marks l) (marks r ++ inr (inr op) ∷ []) ms) ∙
    (read-marks l ((marks r ++ inr (inr op) ∷ []) ++ ms) stack ∙
    (ap (λ (x : List Mark). read x (l ∷ stack)) (append_assoc (marks r) (inr (inr op) ∷ []) ms) ∙ read-marks r (inr (inr op) ∷ ms) (l ∷ stack)))

pub tree_code : Coded (Tree ℕ)
unfolding read top
tree_code = code_by (List Mark) (Prim.hlevel codes) marks (λ ms. top (read ms []))
    (λ t. ap top (ap (λ (l : List Mark). read l []) (sym (append-nil (marks t))) ∙ read-marks t [] []))
