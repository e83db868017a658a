-- Laws of readings.
use Rattle.std.proofs.Common.{◌≡◌, ◌∙◌, refl, sym, ℕ, suc, ap, List, ◌∷◌, Option, Result, Ok, Err, IfOk, IfErr, OnOk, IsOkAnd}
use Rattle.std.specs.declared.alloc.AllocError.{AllocError}
use Rattle.petri_atom.specs.Expression.{Tree, tree_of, negation, operation}
use Rattle.petri_atom.specs.declared.expression.Expression.{Expression}
use Rattle.petri_atom.specs.declared.parts.TheConstants.{MAX_WORDS}
use Rattle.petri_atom.specs.declared.expression.Operator.{Operator}
use Rattle.plant_words.specs.declared.expression_word.Word.{Word}
use Rattle.plant_words.specs.declared.expression_word.Word.TheVariants.{Negation, Operation}
use Rattle.plant_words.specs.declared.expression_fault.ExpressionFault.{ExpressionFault}
use Rattle.plant_words.specs.Expressions.{Reading, expressions_in, expression_in, on_trees, led_by, wanted_after, only, words_left, Stands}

-- an expression that stands first in words is the only one of a row of one
alone : {V : Type 0} (named : List ℕ → Option V) (left : ℕ) (words rest : List (List ℕ)) (read : Result (Expression V) AllocError) (s : Stands named MAX_WORDS left words rest read) →
    expression_in named words ≡ Ok (s.tree, rest)
alone named left words rest read s = ap only (s.says 0)

only_one : {V : Type 0} (named : List ℕ → Option V) (left : ℕ) (words rest : List (List ℕ)) (read : Result (Expression V) AllocError) → Stands named MAX_WORDS left words rest read →
    IfOk read (λ e. expression_in named words ≡ Ok (tree_of e, rest))
only_one named left words rest (Ok e) s = alone named left words rest (Ok e) s ∙ ap (λ tree. Ok (tree, rest)) (sym s.is_made)
only_one named left words rest (Err f) s = tt

-- so it is the one that was made, if there was memory for it
pub only_made : {V : Type 0} (named : List ℕ → Option V) (left : ℕ) (words rest : List (List ℕ)) (result : Result (Result (Expression V) AllocError) ExpressionFault) → IfOk result (Stands named MAX_WORDS left words rest) →
    IfOk result (λ read. IfOk read (λ e. expression_in named words ≡ Ok (tree_of e, rest)))
only_made named left words rest (Ok read) s = only_one named left words rest read s
only_made named left words rest (Err f) s = tt

-- and the words after it are left
pub only_left : {V : Type 0} (named : List ℕ → Option V) (left : ℕ) (words rest : List (List ℕ)) (result : Result (Result (Expression V) AllocError) ExpressionFault) → IfOk result (Stands named MAX_WORDS left words rest) →
    OnOk result (words_left (expression_in named words) ≡ Ok rest)
only_left named left words rest (Ok read) s = ap words_left (alone named left words rest read s)
only_left named left words rest (Err f) s = tt

-- the fault of one expression is the fault of the whole
pub only_fault : {V A : Type 0} (result : Result A ExpressionFault) (reading : ℕ → Reading V) →
    IfErr result (λ f. (more : ℕ) → reading (suc more) ≡ Err f) →
    IfErr result (λ f. only (reading 1) ≡ Err f)
only_fault (Ok x) reading h = tt
only_fault (Err f) reading h = ap only (h 0)

negated : {V : Type 0} (operand : Tree V) (r : Reading V) →
    on_trees (led_by Negation) (on_trees (λ trees. operand ∷ trees) r) ≡ on_trees (λ trees. negation operand ∷ trees) r
negated operand (Ok reading) = refl
negated operand (Err fault) = refl

operated : {V : Type 0} (o : Operator) (left right : Tree V) (r : Reading V) →
    on_trees (led_by (Operation o)) (on_trees (λ trees. left ∷ trees) (on_trees (λ trees. right ∷ trees) r))
    ≡ on_trees (λ trees. operation o left right ∷ trees) r
operated o left right (Ok reading) = refl
operated o left right (Err fault) = refl

-- `!` takes the expression after it
pub reads_negation : {V : Type 0} (before between after : ℕ → Reading V) (word : Word V) (operand whole : Tree V) →
    word ≡ Negation →
    ((more : ℕ) → before (suc more) ≡ on_trees (led_by word) (between (wanted_after word more))) →
    ((more : ℕ) → between (suc more) ≡ on_trees (λ trees. operand ∷ trees) (after more)) →
    whole ≡ negation operand →
    (more : ℕ) → before (suc more) ≡ on_trees (λ trees. whole ∷ trees) (after more)
reads_negation before between after word operand whole which first read is more =
    first more ∙ ap (λ w. on_trees (led_by w) (between (wanted_after w more))) which ∙ ap (on_trees (led_by Negation)) (read more) ∙ negated operand (after more) ∙ ap (λ e. on_trees (λ trees. e ∷ trees) (after more)) (sym is)

-- an operator takes the two expressions after it
pub reads_operation : {V : Type 0} (before first second after : ℕ → Reading V) (word : Word V) (o : Operator) (left right whole : Tree V) →
    word ≡ Operation o →
    ((more : ℕ) → before (suc more) ≡ on_trees (led_by word) (first (wanted_after word more))) →
    ((more : ℕ) → first (suc more) ≡ on_trees (λ trees. left ∷ trees) (second more)) →
    ((more : ℕ) → second (suc more) ≡ on_trees (λ trees. right ∷ trees) (after more)) →
    whole ≡ operation o left right →
    (more : ℕ) → before (suc more) ≡ on_trees (λ trees. whole ∷ trees) (after more)
reads_operation before first second after word o left right whole which says one two is more =
    says more ∙ ap (λ w. on_trees (led_by w) (first (wanted_after w more))) which ∙ ap (on_trees (led_by (Operation o))) (one (suc more) ∙ ap (on_trees (λ trees. left ∷ trees)) (two more)) ∙
    operated o left right (after more) ∙ ap (λ e. on_trees (λ trees. e ∷ trees) (after more)) (sym is)

-- the expression of an operator is made of those that were made of its operands
made_of_one : {V : Type 0} (tree : Tree V) (operand made : Result (Expression V) AllocError) → IfOk operand (λ e. tree_of e ≡ tree) →
    IfOk made (λ e. IsOkAnd operand (λ inner. tree_of e ≡ negation (tree_of inner))) → IfOk made (λ e. tree_of e ≡ negation tree)
made_of_one tree (Ok o) (Ok e) one is = is ∙ ap negation one
made_of_one tree (Err f) (Ok e) one is = absurd is
made_of_one tree operand (Err f) one is = tt

made_of_two : {V : Type 0} (o : Operator) (first second : Tree V) (left right made : Result (Expression V) AllocError) → IfOk left (λ e. tree_of e ≡ first) → IfOk right (λ e. tree_of e ≡ second) →
    IfOk made (λ e. IsOkAnd left (λ one. IsOkAnd right (λ other. tree_of e ≡ operation o (tree_of one) (tree_of other)))) → IfOk made (λ e. tree_of e ≡ operation o first second)
made_of_two o first second (Ok l) (Ok r) (Ok e) one other is = is ∙ ap (λ t. operation o t (tree_of r)) one ∙ ap (operation o first) other
made_of_two o first second (Ok l) (Err f) (Ok e) one other is = absurd is
made_of_two o first second (Err f) right (Ok e) one other is = absurd is
made_of_two o first second left right (Err f) one other is = tt

-- `!` stands before the expression after it
pub negation_stands : {V : Type 0} (named : List ℕ → Option V) (limit middle left : ℕ) (words behind rest : List (List ℕ)) (word : Word V) (operand made : Result (Expression V) AllocError) →
    word ≡ Negation →
    ((more : ℕ) → expressions_in named limit (suc more) words ≡ on_trees (led_by word) (expressions_in named middle (wanted_after word more) behind)) →
    Stands named middle left behind rest operand →
    IfOk made (λ e. IsOkAnd operand (λ inner. tree_of e ≡ negation (tree_of inner))) →
    Stands named limit left words rest made
negation_stands named limit middle left words behind rest word operand made which first s is = record {
  tree = negation s.tree;
  says = reads_negation (λ wanted. expressions_in named limit wanted words) (λ wanted. expressions_in named middle wanted behind) (λ wanted. expressions_in named left wanted rest)
      word s.tree (negation s.tree) which first s.says refl;
  is_made = made_of_one s.tree operand made s.is_made is;
}

-- an operator stands before the two expressions after it
pub operation_stands : {V : Type 0} (named : List ℕ → Option V) (limit first second left : ℕ) (words behind between rest : List (List ℕ)) (word : Word V) (o : Operator) (one other made : Result (Expression V) AllocError) →
    word ≡ Operation o →
    ((more : ℕ) → expressions_in named limit (suc more) words ≡ on_trees (led_by word) (expressions_in named first (wanted_after word more) behind)) →
    Stands named first second behind between one → Stands named second left between rest other →
    IfOk made (λ e. IsOkAnd one (λ l. IsOkAnd other (λ r. tree_of e ≡ operation o (tree_of l) (tree_of r)))) →
    Stands named limit left words rest made
operation_stands named limit first second left words behind between rest word o one other made which says s t is = record {
  tree = operation o s.tree t.tree;
  says = reads_operation (λ wanted. expressions_in named limit wanted words) (λ wanted. expressions_in named first wanted behind) (λ wanted. expressions_in named second wanted between) (λ wanted. expressions_in named left wanted rest)
      word o s.tree t.tree (operation o s.tree t.tree) which says s.says t.says refl;
  is_made = made_of_two o s.tree t.tree one other made s.is_made t.is_made is;
}
