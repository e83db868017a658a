-- What each expression keeps that a line's words say: it is small, and its variables are named by words.
use Rattle.std.proofs.Common.{◌≡◌, refl, subst, ℕ, ◌≤◌, Bool, true, List, [], ◌∷◌, Option, Some, Result, Ok, Err, IfOk, IfSome}
use Rattle.petri_atom.specs.Expression.{Tree, word_count, all_variables}
use Rattle.petri_atom.specs.declared.parts.TheConstants.{MAX_WORDS}
use Rattle.plant_words.specs.Expressions.{expression_in}
use Rattle.plant_words.specs.declared.expression_fault.ExpressionFault.{ExpressionFault}
use Rattle.plant_words.proofs.ExpressionParts.{words_of_expression, variables_of_expression}
use Rattle.plant_model.specs.declared.wire.Export.{Export}
use Rattle.plant_words.specs.declared.line_fault.LineFault.{LineFault}
use Rattle.plant_words.specs.Reading.{◌>>=◌, at_end, on_line}
use Rattle.connector_lines.specs.Rows.{Named, whole_expression}
use Rattle.connector_lines.specs.Parts.{Passes}

-- an expression that is small, and whose variables pass the test
pub record IsKept (test : Export → Bool) (tree : Tree Export) : Type 0 where
  pub within : word_count tree ≤ MAX_WORDS
  pub passing : all_variables test tree ≡ true

-- no word after an expression changes it
only_at_end : (P : Tree Export → Type 0) (read : Result (Tree Export × List (List ℕ)) ExpressionFault) →
    ((tree : Tree Export) (rest : List (List ℕ)) → read ≡ Ok (tree, rest) → P tree) →
    IfOk (on_line read >>= λ r. (at_end r.1 >>= λ _. Ok r.0)) P
only_at_end P (Ok (tree, [])) kept = kept tree [] refl
only_at_end P (Ok (tree, (word ∷ words))) kept = tt
only_at_end P (Err fault) kept = tt

-- a test that each variable passes that is named
passes_if_found : (test : Export → Bool) (found : Option Export) (variable : Export) → IfSome found (λ v. test v ≡ true) → found ≡ Some variable → test variable ≡ true
passes_if_found test found variable passing is =
    subst (λ (o : Option Export). IfSome o (λ v. test v ≡ true)) is passing

-- an expression of a line is small, and its variables are named by words
pub whole_is_kept : (test : Export → Bool) (named : Named) → Passes test named → (words : List (List ℕ)) → IfOk (whole_expression named words) (IsKept test)
whole_is_kept test named passing words =
    only_at_end (IsKept test) (expression_in named words) (λ tree rest read. record {
      within = words_of_expression named words rest tree read;
      passing = variables_of_expression named test words rest tree (λ text v is. passes_if_found test (named text) v (passing text) is) read;
    })

-- the same of an expression that was read
pub expression_is_kept : (test : Export → Bool) (named : Named) → Passes test named → (words : List (List ℕ)) (tree : Tree Export) → whole_expression named words ≡ Ok tree → IsKept test tree
expression_is_kept test named passing words tree is =
    subst (λ (read : Result (Tree Export) LineFault). IfOk read (IsKept test)) is (whole_is_kept test named passing words)
