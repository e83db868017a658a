-- A set that grows leaves fewer numbers out.
use Rattle.std.proofs.Common.{◌≡◌, ℕ, zero, suc, ◌+◌, ◌<◌, ◌≤◌, Bool, true, false, cond, sym, ap, ◌∙◌, ⊎_elim, arith, IsTrue}
use Rattle.std.specs.Ordering.{nat_cmp}
use Rattle.std.specs.FinSet.{FinSet, contains}
use Rattle.std.proofs.lemmas.Bool.{cases_eq, false≢true}
use Rattle.priority_filter.specs.declared.interaction_set.TheConstants.{INTERACTION_LIMIT}

-- how many of the numbers from .. from + n - 1 fail the test
abbrev failing : (ℕ → Bool) → ℕ → ℕ → ℕ
failing test from zero = 0
failing test from (suc n) = cond (test from) 0 1 + failing test (from + 1) n

-- how many numbers that an interaction can have are not in the set
unfoldable pub count_out : FinSet nat_cmp → ℕ
count_out set = failing (contains set) 0 INTERACTION_LIMIT

one_less : (p q : Bool) → (IsTrue p → IsTrue q) → cond q 0 1 ≤ cond p 0 1
one_less true true weaker = omega arith
one_less true false weaker = absurd (false≢true (weaker (λ _. true)))
one_less false true weaker = omega arith
one_less false false weaker = omega arith

module _ (p q : ℕ → Bool) (weaker : (n : ℕ) → IsTrue (p n) → IsTrue (q n)) where
  no_more : (from n : ℕ) → failing q from n ≤ failing p from n
  no_more from zero = omega arith
  no_more from (suc n) =
      let here : cond (q from) 0 1 ≤ cond (p from) 0 1 = one_less (p from) (q from) (weaker from) in
      let rest : failing q (from + 1) n ≤ failing p (from + 1) n = no_more (from + 1) n in
      omega arith

  fewer : (from n k : ℕ) → from ≤ k → k < from + n → p k ≡ false → q k ≡ true → failing q from n < failing p from n
  fewer from zero k low high fails passes = absurd (omega arith)
  fewer from (suc n) k low high fails passes =
      let rest : failing q (from + 1) n ≤ failing p (from + 1) n = no_more (from + 1) n in
      ⊎_elim
      (λ same.
      let one : ◌≡◌ {A = ℕ} (cond (p from) 0 1) 1 = ap (λ j. cond (p j) 0 1) (sym same) ∙ ap (λ b. cond b 0 1) fails in
      let none : ◌≡◌ {A = ℕ} (cond (q from) 0 1) 0 = ap (λ j. cond (q j) 0 1) (sym same) ∙ ap (λ b. cond b 0 1) passes in
      omega arith)
      (λ other.
      let here : cond (q from) 0 1 ≤ cond (p from) 0 1 = one_less (p from) (q from) (weaker from) in
      let less : failing q (from + 1) n < failing p (from + 1) n = fewer (from + 1) n k (omega arith) (omega arith) fails passes in
      omega arith)
      (cases_eq k from)

-- a set that gains a number that an interaction can have
pub fewer-out : (old new : FinSet nat_cmp) → ((n : ℕ) → IsTrue (contains old n) → IsTrue (contains new n)) → (k : ℕ) → k < INTERACTION_LIMIT → contains old k ≡ false → contains new k ≡ true → count_out new < count_out old
unfolding count_out
fewer-out old new grows k within fails passes = fewer (contains old) (contains new) grows 0 INTERACTION_LIMIT k (omega arith) (omega arith) fails passes
