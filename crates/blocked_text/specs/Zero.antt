-- What is said of a guard that is 0.
use Rattle.std.specs.Prelude.{ℕ, ℤ, Bool, if◌then◌else◌, List, [], ◌∷◌, ◌++◌, codes}
use Rattle.std.specs.Fmt.{signed_decimal}
use Rattle.petri_atom.specs.Expression.{Tree}
use Rattle.part_text.specs.Expression.{expression_text}
use Rattle.text_io.specs.Numbered.{numbered}
use Rattle.blocked_text.specs.Separated.{separated_after}
use Rattle.blocked_text.specs.Variables.{is_before, variables_in}

-- a variable and its value
abbrev pub value_text : {V : Type 0} → (V → List ℕ) → (V → ℤ) → V → List ℕ
value_text name at v = name v ++ codes "=" ++ signed_decimal (at v)

-- the variable at place k among those of an expression and its value; nothing if it stands before that place too
abbrev pub value_word : {V : Type 0} → (V → V → Bool) → (V → List ℕ) → (V → ℤ) → List V → ℕ → V → List (List ℕ)
value_word same name at all k v = if is_before same all k v then [] else value_text name at v ∷ []

-- these variables with their values, each once, in order of their first places
abbrev pub value_words : {V : Type 0} → (V → V → Bool) → (V → List ℕ) → (V → ℤ) → List V → List (List ℕ)
value_words same name at all = numbered (value_word same name at all) 0 all

-- the end of a list in parentheses; nothing of one that is empty
abbrev pub closing : {V : Type 0} → List V → List ℕ
closing [] = []
closing (v ∷ vs) = codes ")"

-- the values of some variables in parentheses; nothing if there is no variable
abbrev pub values_text : {V : Type 0} → (V → V → Bool) → (V → List ℕ) → (V → ℤ) → List V → List ℕ
values_text same name at all = separated_after (codes " (") (codes ", ") (value_words same name at all) ++ closing all

-- a guard that is 0: its expression, and the values of the variables that it reads
abbrev pub zero_text : {V : Type 0} → (V → V → Bool) → (V → List ℕ) → (V → ℤ) → Tree V → List ℕ
zero_text same name at guard =
    codes "guard '" ++ expression_text name guard ++ codes "' is 0" ++ values_text same name at (variables_in guard)
