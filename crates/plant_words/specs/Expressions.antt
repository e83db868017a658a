-- Rows of words as expressions.
use Rattle.std.specs.Prelude.{ℕ, zero, suc, ◌≤◌, ◌≡◌, Bool, true, List, [], ◌∷◌, ◌++◌, length, Option, Result, Ok, Err, is_ok, IfOk}
use Rattle.std.specs.List.{list_all}
use Rattle.std.specs.declared.alloc.AllocError.{AllocError}
use Rattle.petri_atom.specs.Expression.{Tree, number, variable, negation, operation, tree_of}
use Rattle.petri_atom.specs.declared.expression.Expression.{Expression}
use Rattle.petri_atom.specs.declared.parts.TheConstants.{MAX_WORDS}
use Rattle.plant_words.specs.declared.expression_fault.ExpressionFault.{ExpressionFault}
use Rattle.plant_words.specs.declared.expression_fault.ExpressionFault.TheVariants.{BadExpression, Limit}
use Rattle.plant_words.specs.declared.expression_word.Word.{Word}
use Rattle.plant_words.specs.declared.expression_word.Word.TheVariants.{Number, Variable, Negation, Operation}
use Rattle.plant_words.specs.ExpressionWords.{word_in}

-- how many expressions are wanted after a word: its operands, and so many more
abbrev pub wanted_after : {V : Type 0} → Word V → ℕ → ℕ
wanted_after (Number n) more = more
wanted_after (Variable v) more = more
wanted_after Negation more = suc more
wanted_after (Operation o) more = suc (suc more)

-- what a word makes of the expressions that stand after it: it takes the first ones as its operands, which are there
abbrev pub led_by : {V : Type 0} → Word V → List (Tree V) → List (Tree V)
led_by (Number n) trees = number n ∷ trees
led_by (Variable v) trees = variable v ∷ trees
led_by Negation (e ∷ trees) = negation e ∷ trees
led_by (Operation o) (e ∷ f ∷ trees) = operation o e f ∷ trees
led_by word trees = trees

-- expressions and the words that are left, or the first fault
abbrev pub Reading : Type 0 → Type 0
Reading V = Result (List (Tree V) × List (List ℕ)) ExpressionFault

-- the expressions changed, and the words left as they are
abbrev pub on_trees : {V : Type 0} → (List (Tree V) → List (Tree V)) → Reading V → Reading V
on_trees change (Ok reading) = Ok (change reading.0, reading.1)
on_trees change (Err fault) = Err fault

-- a word, and what is read after it
abbrev pub behind : {V : Type 0} → Result (Word V) ExpressionFault → ℕ → (ℕ → Reading V) → Reading V
behind (Err fault) more read = Err fault
behind (Ok word) more read = on_trees (led_by word) (read (wanted_after word more))

-- So many expressions in a row, in prefix form, of at most so many words: each word takes the expressions directly
-- after it as its operands.
abbrev pub expressions_in : {V : Type 0} → (List ℕ → Option V) → ℕ → ℕ → List (List ℕ) → Reading V
expressions_in named limit zero words = Ok ([], words)
expressions_in named limit (suc more) [] = Err BadExpression
expressions_in named zero (suc more) (word ∷ words) = Err Limit
expressions_in named (suc limit) (suc more) (word ∷ words) =
    behind (word_in named word) more (λ wanted. expressions_in named limit wanted words)

-- the one expression of a row of one, and the words that are left
abbrev pub only : {V : Type 0} → Reading V → Result (Tree V × List (List ℕ)) ExpressionFault
only (Ok ((e ∷ trees), words)) = Ok (e, words)
only (Ok ([], words)) = Err BadExpression
only (Err fault) = Err fault

-- the expression that stands first in the words, and the words that are left, or the first fault
abbrev pub expression_in : {V : Type 0} → (List ℕ → Option V) → List (List ℕ) → Result (Tree V × List (List ℕ)) ExpressionFault
expression_in named words = only (expressions_in named MAX_WORDS 1 words)

-- the words that are left, or the fault
abbrev pub words_left : {A : Type 0} → Result (A × List (List ℕ)) ExpressionFault → Result (List (List ℕ)) ExpressionFault
words_left (Ok reading) = Ok reading.1
words_left (Err fault) = Err fault

-- An expression that stands first in the words, before those that are left: whatever is wanted after it, it stands in
-- front of that. If there was memory for it, it is the one that was made.
pub record Stands {V : Type 0} (named : List ℕ → Option V) (limit left : ℕ) (words rest : List (List ℕ)) (made : Result (Expression V) AllocError) : Type 0 where
  pub tree : Tree V
  pub says : (more : ℕ) → expressions_in named limit (suc more) words ≡ on_trees (λ trees. tree ∷ trees) (expressions_in named left more rest)
  pub is_made : IfOk made (λ expression. tree_of expression ≡ tree)

-- a word that is no fault
abbrev pub has_meaning : {V : Type 0} → (List ℕ → Option V) → List ℕ → Bool
has_meaning named word = is_ok (word_in named word)

-- words of which the first ones, at most so many and each with a meaning, were passed over, and the words after them
pub record PassesOver {V : Type 0} (named : List ℕ → Option V) (limit : ℕ) (words rest : List (List ℕ)) : Type 0 where
  pub passed : List (List ℕ)
  pub splits : words ≡ passed ++ rest
  pub within : length passed ≤ limit
  pub sound : list_all (has_meaning named) passed ≡ true
