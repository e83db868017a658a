-- Words that were passed over.
use Rattle.std.proofs.Common.{◌≡◌, ℕ, ◌-◌, ◌≤◌, refl, sym, ◌<◌, true, List, [], ◌∷◌, ◌++◌, append_assoc, Option, arith, rules}
use Rattle.std.proofs.lemmas.List.{length-append}
use Rattle.std.proofs.lemmas.List.Folds.{list_all-append}
use Rattle.plant_words.specs.Expressions.{has_meaning, PassesOver}

-- words that are passed over, and then more of them
pub passes_both : {V : Type 0} (named : List ℕ → Option V) (limit middle last : ℕ) (words rest end : List (List ℕ)) →
    PassesOver named (limit - middle) words rest → PassesOver named (middle - last) rest end →
    middle ≤ limit → last ≤ middle → PassesOver named (limit - last) words end
passes_both named limit middle last words rest end first second above below = record {
  passed = first.passed ++ second.passed;
  splits = grind (arith, first.splits, second.splits, append_assoc);
  within = rw (length-append first.passed second.passed) (omega (arith, first.within, second.within, above, below));
  sound = grind (arith, list_all-append (has_meaning named) first.passed second.passed, first.sound, second.sound);
}

-- no word is passed over
pub passes_none : {V : Type 0} (named : List ℕ → Option V) (limit : ℕ) (words rest : List (List ℕ)) → rest ≡ words → PassesOver named limit words rest
passes_none named limit words rest kept = record { passed = []; splits = sym kept; within = omega arith; sound = refl }

-- one word with a meaning is passed over
pub passes_one : {V : Type 0} (named : List ℕ → Option V) (word : List ℕ) (words : List (List ℕ)) (limit left : ℕ) →
    has_meaning named word ≡ true → left < limit → PassesOver named (limit - left) (word ∷ words) words
passes_one named word words limit left sound falls = record {
  passed = word ∷ [];
  splits = refl;
  within = omega (arith, falls);
  sound = search rules;
}

-- words that are passed over, then more of them, and then more
pub passes_three : {V : Type 0} (named : List ℕ → Option V) (limit middle third last : ℕ) (words rest more end : List (List ℕ)) →
    PassesOver named (limit - middle) words rest → PassesOver named (middle - third) rest more → PassesOver named (third - last) more end →
    middle ≤ limit → third ≤ middle → last ≤ third → PassesOver named (limit - last) words end
passes_three named limit middle third last words rest more end first second behind above between below =
    passes_both named limit middle last words rest end first (passes_both named middle third last rest more end second behind between below)
    above (omega (arith, between, below))
