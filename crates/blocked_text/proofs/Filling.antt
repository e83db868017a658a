-- A row with a place for each interaction that a plant may have, as its places are filled one after another.
use Rattle.std.proofs.Common.{◌≡◌, ℕ, ◌+◌, ◌<◌, ◌≤◌, ◌∙◌, sym, ap, List, length, get_or, set, replicate, ⊎_elim, arith, get_or-set_same, get_or-set_other}
use Rattle.std.proofs.lemmas.Bool.{cases_eq, cases_lt}
use Rattle.std.proofs.lemmas.List.{get_or-replicate, get_or_past, length-replicate, length-set}

-- its first k places have what a function says, and the others have nothing
pub record Filled {X : Type 0} (f : ℕ → X) (none : X) (k : ℕ) (xs : List X) : Type 0 where
  pub long : length xs ≡ 1024
  pub first : (n : ℕ) → n < k → get_or xs n none ≡ f n
  pub rest : (n : ℕ) → k ≤ n → get_or xs n none ≡ none

module _ {X : Type 0} (f : ℕ → X) (none : X) where
  pub filled-none : Filled f none 0 (replicate 1024 none)
  filled-none = record {
    long = length-replicate 1024 none;
    first = λ n never. absurd (omega arith);
    rest = λ n _. ⊎_elim (λ within. get_or-replicate 1024 n none none within) (λ past. get_or_past (replicate 1024 none) n none (omega (arith, past, length-replicate 1024 none))) (cases_lt n 1024);
  }

  pub filled-more : (k place : ℕ) (xs : List X) (x : X) → place ≡ k → k < 1024 → Filled f none k xs → x ≡ f k → Filled f none (k + 1) (set xs place x)
  filled-more k place xs x same within filled is = record {
    long = length-set xs place x ∙ filled.long;
    first = λ n below. ⊎_elim
        (λ here. ap (λ j. get_or (set xs place x) j none) (here ∙ sym same) ∙ get_or-set_same xs place x none (omega (arith, filled.long)) ∙ is ∙ ap f (sym here))
        (λ other. get_or-set_other xs place n x none (λ there. other (there ∙ same)) ∙ filled.first n (omega arith))
        (cases_eq n k);
    rest = λ n past. get_or-set_other xs place n x none (omega arith) ∙ filled.rest n (omega arith);
  }

  -- where the function says nothing of what is left
  pub filled-all : (k : ℕ) (xs : List X) → Filled f none k xs → ((n : ℕ) → k ≤ n → f n ≡ none) → (n : ℕ) → get_or xs n none ≡ f n
  filled-all k xs filled nothing n =
      ⊎_elim (λ below. filled.first n below) (λ past. filled.rest n past ∙ sym (nothing n past)) (cases_lt n k)
