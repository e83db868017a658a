-- What one rule with a condition puts into a set.
use Rattle.std.proofs.Common.{◌≡◌, ℕ, ◌<◌, ◌≤◌, Bool, ◌||◌, sym, ◌∙◌, ⊎_elim, IsTrue}
use Rattle.std.specs.Ordering.{nat_cmp}
use Rattle.std.specs.FinSet.{FinSet, contains}
use Rattle.std.proofs.lemmas.Bool.{cases_lt, or_cases, or_left, or_right}
use Rattle.priority_filter.specs.declared.seen.At.{At}
use Rattle.priority_filter.specs.declared.condition.Condition.{Condition}
use Rattle.priority_filter.specs.Conditions.{IsHit}

-- a rule that is hit is so with a larger set
pub hit-more : (c : Condition) (holds : At → Bool) (rivals set more : ℕ → Bool) → ((n : ℕ) → IsTrue (set n) → IsTrue (more n)) → IsHit c holds rivals set → IsHit c holds rivals more
hit-more c holds rivals set more weaker hit =
    let n : ℕ = hit.1.0 in
    (hit.0, (n, hit.1.1, ⊎_elim (λ rival. or_left (rivals n) (more n) rival) (λ there. or_right (rivals n) (more n) (weaker n there)) (or_cases (rivals n) (set n) hit.1.2)))

-- a set to which what is below a rule is added, up to a bound
module _ (c : Condition) (old new : FinSet nat_cmp) (bound : ℕ) (below : (n : ℕ) → IsTrue (contains c.below n) → n < bound)
    (within : (n : ℕ) → n < bound → contains new n ≡ (contains old n || contains c.below n)) (past : (n : ℕ) → bound ≤ n → contains new n ≡ contains old n) where
  pub lowered : (n : ℕ) → IsTrue (contains c.below n) → IsTrue (contains new n)
  lowered n lower = within n (below n lower) ∙ or_right (contains old n) (contains c.below n) lower

  pub grown : (n : ℕ) → IsTrue (contains old n) → IsTrue (contains new n)
  grown n was = ⊎_elim (λ low. within n low ∙ or_left (contains old n) (contains c.below n) was) (λ high. past n high ∙ was) (cases_lt n bound)

  pub only : (other : ℕ → Bool) → ((n : ℕ) → IsTrue (contains old n) → IsTrue (other n)) → ((n : ℕ) → IsTrue (contains c.below n) → IsTrue (other n)) → (n : ℕ) → IsTrue (contains new n) → IsTrue (other n)
  only other was lower n there =
      ⊎_elim
      (λ low. ⊎_elim (was n) (lower n) (or_cases (contains old n) (contains c.below n) (sym (within n low) ∙ there)))
      (λ high. was n (sym (past n high) ∙ there))
      (cases_lt n bound)
