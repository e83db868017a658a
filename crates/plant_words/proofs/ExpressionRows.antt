-- Worked examples of the definitions, as computed facts.
use Rattle.std.proofs.Common.{◌≡◌, ℕ, refl, if◌then◌else◌, List, [], ◌∷◌, ◌++◌, codes, replicate, Option, Some, None, Result, Ok, Err, pos, negsuc}
use Rattle.petri_atom.specs.Name.{is_same_text}
use Rattle.petri_atom.specs.Expression.{Tree, number, variable, negation, operation, word_count}
use Rattle.petri_atom.specs.declared.expression.Operator.TheVariants.{Add, Subtract, Less, Equal, And}
use Rattle.plant_words.specs.Words.{words_of}
use Rattle.plant_words.specs.declared.expression_fault.ExpressionFault.{ExpressionFault}
use Rattle.plant_words.specs.declared.expression_fault.ExpressionFault.TheVariants.{NotAscii, UnknownName, BadExpression, BadNumber, Limit}
use Rattle.plant_words.specs.Expressions.{expression_in}

-- the only variable is `n`, with number 0
named : List ℕ → Option ℕ
named word = if is_same_text word (codes "n") then Some 0 else None

-- the expression of a line and the words after it, or its first fault
read : List ℕ → Result (Tree ℕ × List (List ℕ)) ExpressionFault
unfolding named
read line = expression_in named (words_of line)

a_guard : read (codes "&& < n 10 ! == n 3") ≡
    Ok (operation And (operation Less (variable 0) (number (pos 10))) (negation (operation Equal (variable 0) (number (pos 3)))), [])
unfolding read
a_guard = refl

operands_keep_their_order : read (codes "- 3 4") ≡ Ok (operation Subtract (number (pos 3)) (number (pos 4)), [])
unfolding read
operands_keep_their_order = refl

a_negative_operand : read (codes "- -7 n do") ≡ Ok (operation Subtract (number (negsuc 6)) (variable 0), codes "do" ∷ [])
unfolding read
a_negative_operand = refl

a_negative_number : read (codes "-3") ≡ Ok (number (negsuc 2), [])
unfolding read
a_negative_number = refl

words_after_are_left : read (codes "+ n 1 do m") ≡ Ok (operation Add (variable 0) (number (pos 1)), codes "do" ∷ codes "m" ∷ [])
unfolding read
words_after_are_left = refl

no_words : read [] ≡ Err BadExpression
unfolding read
no_words = refl

a_missing_operand : read (codes "+ 1") ≡ Err BadExpression
unfolding read
a_missing_operand = refl

a_minus_alone_misses_both : read (codes "+ 1 -") ≡ Err BadExpression
unfolding read
a_minus_alone_misses_both = refl

an_unknown_name : read (codes "+ x 12x") ≡ Err UnknownName
unfolding read
an_unknown_name = refl

an_unknown_export : read (codes "A.n") ≡ Err UnknownName
unfolding read
an_unknown_export = refl

digits_and_a_letter : read (codes "+ 12x x") ≡ Err BadExpression
unfolding read
digits_and_a_letter = refl

a_reserved_word : read (codes "when") ≡ Err BadExpression
unfolding read
a_reserved_word = refl

a_name_with_a_quote : read (codes "! ! n'") ≡ Err BadExpression
unfolding read
a_name_with_a_quote = refl

a_number_of_twenty_digits : read (codes "+ 00000000000000000007") ≡ Err BadNumber
unfolding read
a_number_of_twenty_digits = refl

a_number_past_the_largest : read (codes "9223372036854775808") ≡ Err BadNumber
unfolding read
a_number_past_the_largest = refl

a_number_below_the_least : read (codes "-9223372036854775809") ≡ Err BadNumber
unfolding read
a_number_below_the_least = refl

an_illegal_byte : read (codes "+ n " ++ 128 ∷ []) ≡ Err NotAscii
unfolding read
an_illegal_byte = refl

an_illegal_byte_in_a_word : read (codes "+ n" ++ 128 ∷ codes " x") ≡ Err NotAscii
unfolding read
an_illegal_byte_in_a_word = refl

an_illegal_byte_after_a_fault : read (codes "+ x " ++ 128 ∷ []) ≡ Err UnknownName
unfolding read
an_illegal_byte_after_a_fault = refl

an_illegal_byte_after_the_expression : read (codes "n " ++ 128 ∷ []) ≡ Ok (variable 0, (128 ∷ []) ∷ [])
unfolding read
an_illegal_byte_after_the_expression = refl

-- an expression of so many words `!` and a variable after them
denied : ℕ → List (List ℕ)
denied count = replicate count (codes "!") ++ codes "n" ∷ []

-- the fault, if it is one
fault_of_result : Result (Tree ℕ × List (List ℕ)) ExpressionFault → Option ExpressionFault
fault_of_result (Ok reading) = None
fault_of_result (Err fault) = Some fault

-- how many words the expression has, or 0 for a fault
words_read : Result (Tree ℕ × List (List ℕ)) ExpressionFault → ℕ
words_read (Ok reading) = word_count reading.0
words_read (Err fault) = 0

sixty_four_words_are_read : words_read (expression_in named (denied 63)) ≡ 64
unfolding named denied words_read
sixty_four_words_are_read = refl

sixty_four_words_are_no_fault : fault_of_result (expression_in named (denied 63)) ≡ None
unfolding named denied fault_of_result
sixty_four_words_are_no_fault = refl

sixty_five_words : fault_of_result (expression_in named (denied 64)) ≡ Some Limit
unfolding named denied fault_of_result
sixty_five_words = refl

sixty_four_words_without_an_end : fault_of_result (expression_in named (replicate 64 (codes "!"))) ≡ Some BadExpression
unfolding named fault_of_result
sixty_four_words_without_an_end = refl
