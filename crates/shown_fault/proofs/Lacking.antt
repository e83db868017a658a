-- The operator after which an operand is missing, word by word.
use Rattle.std.proofs.Common.{◌≡◌, ◌∙◌, sym, ap, ℕ, ◌+◌, Bool, List, ◌∷◌, drop, Option, Some}
use Rattle.std.specs.Prelude.{if◌then◌else◌}
use Rattle.std.proofs.lemmas.List.{drop-drop}
use Rattle.shown_fault.specs.Operands.{operands_of, lacks, lacking_after}

-- after one more word, one fewer is left
pub rest_of : (word : List ℕ) (old new all : List (List ℕ)) (number : ℕ) → old ≡ word ∷ new → old ≡ drop number all → new ≡ drop (number + 1) all
rest_of word old new all number is left = sym (ap (drop 1) is) ∙ ap (drop 1) left ∙ drop-drop 1 number all

-- what is answered of the words after an operator is so of those that are left
pub tested : (word : List ℕ) (new all : List (List ℕ)) (number operands : ℕ) (answer value : Bool) → new ≡ drop (number + 1) all →
    operands ≡ operands_of word → answer ≡ lacks operands (drop (number + 1) all) → answer ≡ value → lacks (operands_of word) new ≡ value
tested word new all number operands answer value left is answered known =
    ap (lacks (operands_of word)) left ∙ ap (λ n. lacks n (drop (number + 1) all)) (sym is) ∙ sym answered ∙ known

-- a word is the last one so far where it lacks an operand, and else the one before stays
pub one_more : (found : Option (List ℕ)) (word : List ℕ) (old new : List (List ℕ)) (answer : Bool) (end : Option (List ℕ)) → old ≡ word ∷ new →
    lacks (operands_of word) new ≡ answer → lacking_after found old ≡ end → lacking_after (if answer then Some word else found) new ≡ end
one_more found word old new answer end is test before =
    ap (λ t. lacking_after (if t then Some word else found) new) (sym test) ∙ ap (lacking_after found) (sym is) ∙ before
