-- Words that are left behind an expression.
use Rattle.std.proofs.Common.{◌≡◌, ◌≢◌, ℕ, refl, sym, subst, ap, ◌∙◌, List, [], ◌∷◌}
use Rattle.std.specs.Prelude.{Result, Ok, Err, IfErr, IsErrAnd}
use Rattle.petri_atom.specs.Expression.{Tree}
use Rattle.plant_words.specs.Expressions.{words_left}
use Rattle.plant_words.specs.declared.expression_fault.ExpressionFault.{ExpressionFault}
use Rattle.run_watches.specs.Watches.{WatchTree, holds, if_ended, of_expression}
use Rattle.run_watches.specs.declared.fault.WatchFault.{WatchFault}
use Rattle.run_watches.specs.declared.fault.WatchFault.TheVariants.{MoreWords}
use Rattle.run_watches.specs.declared.operand.Operand.{Operand}

-- the words of a reading
abbrev words_or : List (List ℕ) → Result (List (List ℕ)) ExpressionFault → List (List ℕ)
words_or other (Ok words) = words
words_or other (Err fault) = other

-- where a word is left, the watch has not ended
not_ended : (watch : WatchTree) (words : List (List ℕ)) → words ≢ [] → if_ended watch words ≡ Err MoreWords
not_ended watch [] some = absurd (some refl)
not_ended watch (word ∷ words) some = refl

-- and so behind an expression
pub left_over : (read : Result (Tree Operand × List (List ℕ)) ExpressionFault) (rest : List (List ℕ)) → words_left read ≡ Ok rest → rest ≢ [] → of_expression read ≡ Err MoreWords
left_over (Ok read) rest left some = not_ended (holds read.0) read.1 (λ none. some (sym (ap (words_or []) left) ∙ none))
left_over (Err fault) rest left some = absurd (some (sym (ap (words_or []) left)))

-- what holds of a fault holds of it where it is passed on
pub told_fault : {X : Type 0} (result : Result X WatchFault) (fault : WatchFault) (P : WatchFault → Type 0) → IsErrAnd result (λ told. told ≡ fault) → P fault → IfErr result P
told_fault (Ok x) fault P told given = tt
told_fault (Err found) fault P told given = subst P (sym told) given
