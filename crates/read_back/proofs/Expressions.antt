-- An expression as its words, and these words read.
use Rattle.std.proofs.Common.{◌≡◌, ◌∙◌, refl, sym, ap, ℕ, suc, ℤ, ◌+◌, ◌-◌, ◌≤◌, Bool, true, List, [], ◌∷◌, ◌++◌, append_assoc, codes, Option, Some, Ok, arith}
use Rattle.std.specs.Fmt.{signed_decimal}
use Rattle.std.proofs.lemmas.Bool.{and_parts}
use Rattle.petri_atom.specs.Expression.{Tree, number, variable, negation, operation, word_count, all_variables}
use Rattle.petri_atom.specs.declared.expression.Operator.{Operator}
use Rattle.petri_atom.specs.declared.expression.Operator.TheVariants.{Add, Subtract, Multiply, Min, Max, Less, LessOrEqual, Equal, NotEqual, And, Or}
use Rattle.petri_atom.specs.declared.parts.TheConstants.{MAX_WORDS}
use Rattle.plant_words.specs.ExpressionWords.{number_in, variable_found, word_in}
use Rattle.plant_words.specs.Expressions.{Reading, on_trees, behind, expressions_in, only, expression_in}
use Rattle.plant_words.specs.Words.{words_of}
use Rattle.plant_words.proofs.ExpressionReading.{reads_negation, reads_operation}
use Rattle.part_text.specs.Expression.{operator_word, expression_text}
use Rattle.read_back.specs.Expressions.{has_numbers_in_range}
use Rattle.read_back.proofs.Words.{is_one_word, IsBehind, word_before}
use Rattle.read_back.proofs.Decimals.{number_is_one_word}
use Rattle.read_back.proofs.ExpressionWords.{operator_is_one_word, number_reads}

-- ---- words

-- the words of an expression
abbrev expression_words : {V : Type 0} → (V → List ℕ) → Tree V → List (List ℕ)
expression_words name (number n) = signed_decimal n ∷ []
expression_words name (variable v) = name v ∷ []
expression_words name (negation e) = codes "!" ∷ expression_words name e
expression_words name (operation op e f) = operator_word op ∷ (expression_words name e ++ expression_words name f)

-- three texts with a space between two of them, before a fourth
spaced : (first second third rest : List ℕ) → (first ++ codes " " ++ second ++ codes " " ++ third) ++ rest ≡ first ++ 32 ∷ (second ++ 32 ∷ (third ++ rest))
spaced first second third rest =
    append_assoc (first ++ codes " " ++ second ++ codes " ") third rest
    ∙ append_assoc (first ++ codes " " ++ second) (codes " ") (third ++ rest)
    ∙ append_assoc (first ++ codes " ") second (32 ∷ (third ++ rest))
    ∙ append_assoc first (codes " ") (second ++ 32 ∷ (third ++ rest))

-- ---- rows

module _ {V : Type 0} (named : List ℕ → Option V) (limit left more : ℕ) (text : List ℕ) (words : List (List ℕ)) (one : limit ≡ suc left) where
  -- the first word of a row is read by what it says
  first_read : expressions_in named limit (suc more) (text ∷ words) ≡ behind (word_in named text) more (λ wanted. expressions_in named left wanted words)
  first_read = ap (λ (n : ℕ). expressions_in named n (suc more) (text ∷ words)) one

  -- a number and a variable stand in front of what is read after them
  number_first : (n : ℤ) → word_in named text ≡ number_in (Some n) → expressions_in named limit (suc more) (text ∷ words) ≡ on_trees (λ trees. number n ∷ trees) (expressions_in named left more words)
  number_first n says = first_read ∙ ap (λ word. behind word more (λ wanted. expressions_in named left wanted words)) says

  variable_first : (v : V) → word_in named text ≡ variable_found true (Some v) → expressions_in named limit (suc more) (text ∷ words) ≡ on_trees (λ trees. variable v ∷ trees) (expressions_in named left more words)
  variable_first v says = first_read ∙ ap (λ word. behind word more (λ wanted. expressions_in named left wanted words)) says

-- an operator takes the two expressions after it
module _ {V : Type 0} (named : List ℕ → Option V) (e f : Tree V) (before first second after : ℕ → Reading V) where
  operator_first : (op : Operator) → ((more : ℕ) → before (suc more) ≡ behind (word_in named (operator_word op)) more first) → ((more : ℕ) → first (suc more) ≡ on_trees (λ trees. e ∷ trees) (second more)) →
      ((more : ℕ) → second (suc more) ≡ on_trees (λ trees. f ∷ trees) (after more)) → (more : ℕ) → before (suc more) ≡ on_trees (λ trees. operation op e f ∷ trees) (after more)
  operator_first Add says one other = reads_operation before first second after _ Add e f (operation Add e f) refl says one other refl
  operator_first Subtract says one other = reads_operation before first second after _ Subtract e f (operation Subtract e f) refl says one other refl
  operator_first Multiply says one other = reads_operation before first second after _ Multiply e f (operation Multiply e f) refl says one other refl
  operator_first Min says one other = reads_operation before first second after _ Min e f (operation Min e f) refl says one other refl
  operator_first Max says one other = reads_operation before first second after _ Max e f (operation Max e f) refl says one other refl
  operator_first Less says one other = reads_operation before first second after _ Less e f (operation Less e f) refl says one other refl
  operator_first LessOrEqual says one other = reads_operation before first second after _ LessOrEqual e f (operation LessOrEqual e f) refl says one other refl
  operator_first Equal says one other = reads_operation before first second after _ Equal e f (operation Equal e f) refl says one other refl
  operator_first NotEqual says one other = reads_operation before first second after _ NotEqual e f (operation NotEqual e f) refl says one other refl
  operator_first And says one other = reads_operation before first second after _ And e f (operation And e f) refl says one other refl
  operator_first Or says one other = reads_operation before first second after _ Or e f (operation Or e f) refl says one other refl

-- of variables that pass the test, each is one word that says the variable
module _ {V : Type 0} (name : V → List ℕ) (named : List ℕ → Option V) (test : V → Bool) (says : (v : V) → test v ≡ true → word_in named (name v) ≡ variable_found true (Some v)) (whole : (v : V) → test v ≡ true → is_one_word (name v) ≡ true) where
  -- the words of an expression stand before those after it
  words_stand : (e : Tree V) → has_numbers_in_range e ≡ true → all_variables test e ≡ true → (text : List ℕ) (words : List (List ℕ)) → IsBehind text words →
      words_of (expression_text name e ++ text) ≡ expression_words name e ++ words
  words_stand (number n) numbers variables text words behind = behind (signed_decimal n) (number_is_one_word n numbers)
  words_stand (variable v) numbers variables text words behind = behind (name v) (whole v variables)
  words_stand (negation e) numbers variables text words behind =
      word_before (codes "!") (expression_text name e ++ text) refl
      ∙ ap (λ (rest : List (List ℕ)). codes "!" ∷ rest) (words_stand e numbers variables text words behind)
  words_stand (operation op e f) numbers variables text words behind =
      let in_range = and_parts (has_numbers_in_range e) (has_numbers_in_range f) numbers in
      let known = and_parts (all_variables test e) (all_variables test f) variables in
      let second : List ℕ = expression_text name f ++ text in
      let second_words : List (List ℕ) = expression_words name f ++ words in
      ap words_of (spaced (operator_word op) (expression_text name e) (expression_text name f) text)
      ∙ word_before (operator_word op) (expression_text name e ++ 32 ∷ second) (operator_is_one_word op)
      ∙ ap (λ (rest : List (List ℕ)). operator_word op ∷ rest)
      (words_stand e in_range.0 known.0 (32 ∷ second) second_words
      (λ word one. word_before word second one ∙ ap (λ (rest : List (List ℕ)). word ∷ rest) (words_stand f in_range.1 known.1 text words behind))
      ∙ sym (append_assoc (expression_words name e) (expression_words name f) words))

  -- and they are read as the expression
  words_read : (e : Tree V) → has_numbers_in_range e ≡ true → all_variables test e ≡ true → (limit left more : ℕ) (words : List (List ℕ)) → limit ≡ word_count e + left →
      expressions_in named limit (suc more) (expression_words name e ++ words) ≡ on_trees (λ trees. e ∷ trees) (expressions_in named left more words)
  words_read (number n) numbers variables limit left more words count =
      let one : limit ≡ suc left = omega (arith, count) in
      number_first named limit left more (signed_decimal n) words one n (number_reads named n numbers)
  words_read (variable v) numbers variables limit left more words count =
      let one : limit ≡ suc left = omega (arith, count) in
      variable_first named limit left more (name v) words one v (says v variables)
  words_read (negation e) numbers variables limit left more words count =
      let within : ℕ = word_count e + left in
      let one : limit ≡ suc (word_count e + left) = omega (arith, count) in
      let behind : List (List ℕ) = expression_words name e ++ words in
      reads_negation (λ wanted. expressions_in named limit wanted (codes "!" ∷ behind)) (λ wanted. expressions_in named within wanted behind) (λ wanted. expressions_in named left wanted words)
      _ e (negation e) refl
      (λ m. first_read named limit within m (codes "!") behind one)
      (λ m. words_read e numbers variables within left m words refl)
      refl more
  words_read (operation op e f) numbers variables limit left more words count =
      let in_range = and_parts (has_numbers_in_range e) (has_numbers_in_range f) numbers in
      let known = and_parts (all_variables test e) (all_variables test f) variables in
      let last : ℕ = word_count f + left in
      let within : ℕ = word_count e + last in
      let one : limit ≡ suc (word_count e + (word_count f + left)) = omega (arith, count) in
      let first : List (List ℕ) = expression_words name e in
      let second : List (List ℕ) = expression_words name f in
      ap (λ (rest : List (List ℕ)). expressions_in named limit (suc more) (operator_word op ∷ rest)) (append_assoc first second words)
      ∙ operator_first named e f (λ wanted. expressions_in named limit wanted (operator_word op ∷ (first ++ (second ++ words)))) (λ wanted. expressions_in named within wanted (first ++ (second ++ words)))
      (λ wanted. expressions_in named last wanted (second ++ words)) (λ wanted. expressions_in named left wanted words) op
      (λ m. first_read named limit within m (operator_word op) (first ++ (second ++ words)) one)
      (λ m. words_read e in_range.0 known.0 within last m (second ++ words) refl)
      (λ m. words_read f in_range.1 known.1 last left m words refl)
      more

  -- so the text of an expression is read as the expression, and the words after it are left
  pub text_read : (e : Tree V) → word_count e ≤ MAX_WORDS → has_numbers_in_range e ≡ true → all_variables test e ≡ true → (text : List ℕ) (words : List (List ℕ)) → IsBehind text words →
      expression_in named (words_of (expression_text name e ++ text)) ≡ Ok (e, words)
  text_read e small numbers variables text words behind =
      let count : MAX_WORDS ≡ word_count e + (MAX_WORDS - word_count e) = omega (arith, small) in
      ap (expression_in named) (words_stand e numbers variables text words behind)
      ∙ ap only (words_read e numbers variables MAX_WORDS (MAX_WORDS - word_count e) 0 words count)
