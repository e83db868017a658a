-- What an expression is made of that words say: few words, and variables that are named.
use Rattle.std.proofs.Common.{◌≡◌, ◌∙◌, refl, ap, subst, ℕ, zero, suc, ◌+◌, ◌≤◌, Bool, true, false, if◌then◌else◌, ℤ, codes, List, [], ◌∷◌, Option, Some, None, Result, Ok, Err, arith, lit≤}
use Rattle.std.specs.List.{list_all}
use Rattle.std.specs.Option.{option_map_or}
use Rattle.std.proofs.lemmas.Bool.{and_parts, and_from}
use Rattle.petri_atom.specs.Expression.{Tree, word_count, all_variables}
use Rattle.petri_atom.specs.declared.expression.Operator.{Operator}
use Rattle.petri_atom.specs.declared.parts.TheConstants.{MAX_WORDS}
use Rattle.plant_words.specs.declared.expression_fault.ExpressionFault.{ExpressionFault}
use Rattle.plant_words.specs.declared.expression_word.Word.{Word}
use Rattle.plant_words.specs.declared.expression_word.Word.TheVariants.{Number, Variable, Negation, Operation}
use Rattle.plant_words.specs.declared.expression_fault.ExpressionFault.TheVariants.{NotAscii}
use Rattle.plant_words.specs.ExpressionWords.{number_in, variable_found, operator_in, could_be_variable, legal_word_in, word_in}
use Rattle.plant_words.specs.Expressions.{Reading, expressions_in, expression_in, led_by, wanted_after, on_trees, behind, only}
use Rattle.petri_atom.specs.Name.{is_same_text}
use Rattle.plant_words.specs.Lines.{is_legal_line}
use Rattle.plant_words.specs.Numbers.{is_numeric, int_in}
use Rattle.plant_words.proofs.Steps.{either_way}

-- what a change of the expressions makes, it makes of expressions that were read
pub on_trees-ok : {V : Type 0} (change : List (Tree V) → List (Tree V)) (r : Reading V) (trees : List (Tree V)) (rest : List (List ℕ)) →
    on_trees change r ≡ Ok (trees, rest) → (before : List (Tree V)) × (r ≡ Ok (before, rest)) × (change before ≡ trees)
on_trees-ok {V = V} change (Ok (before, words)) trees rest read =
    let same : ◌≡◌ {A = List (Tree V) × List (List ℕ)} (change before, words) (trees, rest) = cc in
    (before, ap (λ parts. Ok (before, parts.1)) same, ap (λ parts. parts.0) same)
on_trees-ok change (Err fault) trees rest read = absurd (cc)

-- the one expression of a row stands first in it
pub only-ok : {V : Type 0} (r : Reading V) (tree : Tree V) (rest : List (List ℕ)) →
    only r ≡ Ok (tree, rest) → (trees : List (Tree V)) × (r ≡ Ok (tree ∷ trees, rest))
only-ok {V = V} (Ok ((e ∷ trees), words)) tree rest read =
    let same : ◌≡◌ {A = Tree V × List (List ℕ)} (e, words) (tree, rest) = cc in
    (trees, ap (λ parts. Ok (parts.0 ∷ trees, parts.1)) same)
only-ok (Ok ([], words)) tree rest read = absurd (cc)
only-ok (Err fault) tree rest read = absurd (cc)

-- what holds of the expressions after each word holds of those that a word leads
led_has : {V : Type 0} (named : List ℕ → Option V) (P : ℕ → List (Tree V) → Type 0) (limit more : ℕ) (text : List ℕ) (r : Result (Word V) ExpressionFault) (read : ℕ → Reading V) (trees : List (Tree V)) (rest : List (List ℕ)) →
    word_in named text ≡ r →
    ((word : Word V) (before : List (Tree V)) → word_in named text ≡ Ok word → P limit before → P (suc limit) (led_by word before)) →
    ((wanted : ℕ) (before : List (Tree V)) (left : List (List ℕ)) → read wanted ≡ Ok (before, left) → P limit before) →
    behind r more read ≡ Ok (trees, rest) → P (suc limit) trees
led_has named P limit more text (Ok word) read trees rest says next later said =
    let found = on_trees-ok (led_by word) (read (wanted_after word more)) trees rest said in
    subst (P (suc limit)) found.2 (next word found.0 says (later (wanted_after word more) found.0 rest found.1))
led_has named P limit more text (Err fault) read trees rest says next later said = absurd (cc)

-- What holds of no expressions, and of those that a word leads where it holds of those after it, holds of each row
-- that is read. The number is how many words the row may have.
row_has : {V : Type 0} (named : List ℕ → Option V) (P : ℕ → List (Tree V) → Type 0) →
    ((limit : ℕ) → P limit []) →
    ((limit : ℕ) (text : List ℕ) (word : Word V) (trees : List (Tree V)) → word_in named text ≡ Ok word → P limit trees → P (suc limit) (led_by word trees)) →
    (limit more : ℕ) (words : List (List ℕ)) (trees : List (Tree V)) (rest : List (List ℕ)) →
    expressions_in named limit more words ≡ Ok (trees, rest) → P limit trees
row_has {V = V} named P none next limit zero words trees rest read =
    let same : ◌≡◌ {A = List (Tree V) × List (List ℕ)} ([], words) (trees, rest) = cc in
    subst (P limit) (ap (λ parts. parts.0) same) (none limit)
row_has named P none next limit (suc more) [] trees rest read = absurd (cc)
row_has named P none next zero (suc more) (text ∷ words) trees rest read = absurd (cc)
row_has named P none next (suc limit) (suc more) (text ∷ words) trees rest read =
    led_has named P limit more text (word_in named text) (λ wanted. expressions_in named limit wanted words) trees rest
    refl (next limit text) (λ wanted before left is. row_has named P none next limit wanted words before left is) read

-- how many words expressions in a row are written with
abbrev words_in : {V : Type 0} → List (Tree V) → ℕ
words_in [] = 0
words_in (e ∷ trees) = word_count e + words_in trees

-- a word adds one to the words of the expressions after it, at most
words_led_by : {V : Type 0} (word : Word V) (trees : List (Tree V)) → words_in (led_by word trees) ≤ words_in trees + 1
words_led_by (Number n) trees = let same : 1 + words_in trees ≤ words_in trees + 1 = omega arith in same
words_led_by (Variable v) trees = let same : 1 + words_in trees ≤ words_in trees + 1 = omega arith in same
words_led_by Negation [] = lit≤ tt
words_led_by Negation (e ∷ trees) = let same : 1 + word_count e + words_in trees ≤ word_count e + words_in trees + 1 = omega arith in same
words_led_by (Operation o) [] = lit≤ tt
words_led_by (Operation o) (e ∷ []) = let more : word_count e + 0 ≤ word_count e + 0 + 1 = omega arith in more
words_led_by (Operation o) (e ∷ f ∷ trees) =
    let same : 1 + word_count e + word_count f + words_in trees ≤ word_count e + (word_count f + words_in trees) + 1 = omega arith in same

-- an expression that words say has at most as many words as one may
pub words_of_expression : {V : Type 0} (named : List ℕ → Option V) (words rest : List (List ℕ)) (tree : Tree V) →
    expression_in named words ≡ Ok (tree, rest) → word_count tree ≤ MAX_WORDS
words_of_expression {V = V} named words rest tree read =
    let found = only-ok (expressions_in named MAX_WORDS 1 words) tree rest read in
    let few : ℕ → List (Tree V) → Type 0 = λ limit trees. words_in trees ≤ limit in
    let all : words_in (tree ∷ found.0) ≤ MAX_WORDS =
    row_has named few (λ limit. omega arith) (λ limit text word trees says within. omega (arith, words_led_by word trees, within)) MAX_WORDS 1 words (tree ∷ found.0) rest found.1 in
    let first : word_count tree + words_in found.0 ≤ MAX_WORDS = all in
    omega (arith, first)

-- a word that says a variable is its name
named_by : {V : Type 0} (negates : Bool) (operator : Option Operator) (numeric : Bool) (value : Option ℤ) (could_be : Bool) (meant : Option V) (v : V) →
    (if negates then Ok Negation else option_map_or (λ o. Ok (Operation o)) operator (if numeric then number_in value else variable_found could_be meant)) ≡ Ok (Variable v) → meant ≡ Some v
named_by true operator numeric value could_be meant v says = absurd (cc)
named_by false (Some o) numeric value could_be meant v says = absurd (cc)
named_by false None true None could_be meant v says = absurd (cc)
named_by false None true (Some n) could_be meant v says = absurd (cc)
named_by false None false value could_be None v says = absurd (cc)
named_by false None false value could_be (Some w) v says = cc

variable_named : {V : Type 0} (named : List ℕ → Option V) (text : List ℕ) (v : V) → word_in named text ≡ Ok (Variable v) → named text ≡ Some v
variable_named named text v =
    either_way (is_legal_line text) (legal_word_in named text) (Err NotAscii) (Variable v) (named text ≡ Some v)
    (λ said. named_by (is_same_text text (codes "!")) (operator_in text) (is_numeric text) (int_in text) (could_be_variable text) (named text) v said)
    (λ said. absurd (cc))

-- a word leads expressions of such variables where it says such a variable alone
variables_led_by : {V : Type 0} (test : V → Bool) (word : Word V) (trees : List (Tree V)) → ((v : V) → word ≡ Variable v → test v ≡ true) →
    list_all (all_variables test) trees ≡ true → list_all (all_variables test) (led_by word trees) ≡ true
variables_led_by test (Number n) trees own all = all
variables_led_by test (Variable v) trees own all = and_from _ _ (own v refl) all
variables_led_by test Negation [] own all = refl
variables_led_by test Negation (e ∷ trees) own all = all
variables_led_by test (Operation o) [] own all = refl
variables_led_by test (Operation o) (e ∷ []) own all = all
variables_led_by test (Operation o) (e ∷ f ∷ trees) own all =
    let first = and_parts (all_variables test e) _ all in
    let later = and_parts (all_variables test f) _ first.1 in
    and_from _ _ (and_from _ _ first.0 later.0) later.1

-- what holds of each variable that is named holds of those in an expression that words say
pub variables_of_expression : {V : Type 0} (named : List ℕ → Option V) (test : V → Bool) (words rest : List (List ℕ)) (tree : Tree V) →
    ((text : List ℕ) (v : V) → named text ≡ Some v → test v ≡ true) →
    expression_in named words ≡ Ok (tree, rest) → all_variables test tree ≡ true
variables_of_expression {V = V} named test words rest tree passes read =
    let found = only-ok (expressions_in named MAX_WORDS 1 words) tree rest read in
    let known : ℕ → List (Tree V) → Type 0 = λ limit trees. list_all (all_variables test) trees ≡ true in
    let all : list_all (all_variables test) (tree ∷ found.0) ≡ true =
    row_has named known (λ limit. refl)
    (λ limit text word trees says each. variables_led_by test word trees (λ v is. passes text v (variable_named named text v (says ∙ ap Ok is))) each)
    MAX_WORDS 1 words (tree ∷ found.0) rest found.1 in
    (and_parts (all_variables test tree) _ all).0
