-- Sets of numbers: what is put in, and what is made right number by number.
use Rattle.std.proofs.Common.{◌≡◌, ◌≢◌, ℕ, ◌+◌, Bool, ◌<◌, ◌≤◌, refl, ◌∙◌, ap, true, false, ◌||◌, ⊎_elim, arith}
use Rattle.std.specs.Cmp.{nat_cmp_total, unsigned_tied}
use Rattle.std.specs.Ordering.{nat_cmp}
use Rattle.std.specs.FinSet.{FinSet, contains, insert, contains-insert}
use Rattle.std.proofs.lemmas.Bool.{cases_eq, cases_lt, eq-eqb, ne_eqb}

-- what was put in is in, and all else is in where it was
pub put-here : (s : FinSet nat_cmp) (k : ℕ) → contains (insert s k) k ≡ true
put-here s k = contains-insert nat_cmp_total s k k ∙ ap (λ b. b || contains s k) (unsigned_tied k k ∙ eq-eqb k k refl)

pub put-other : (s : FinSet nat_cmp) (k n : ℕ) → n ≢ k → contains (insert s k) n ≡ contains s n
put-other s k n other = contains-insert nat_cmp_total s k n ∙ ap (λ b. b || contains s n) (unsigned_tied n k ∙ ne_eqb n k other)

-- all numbers up to one more
pub all-more : (old : FinSet nat_cmp) (k : ℕ) → ((n : ℕ) → n < k → contains old n ≡ true) → (n : ℕ) → n < k + 1 → contains (insert old k) n ≡ true
all-more old k before n below = ⊎_elim
    (λ same. ap (contains (insert old k)) same ∙ put-here old k)
    (λ other. put-other old k n other ∙ before n (omega arith))
    (cases_eq n k)

-- what is right at each number below a count that a test does not pass, and is then made right at those that it passes, one by one
module _ {X : Type 0} (Right : ℕ → X → Type 0) (touched : ℕ → Bool) (count : ℕ) where
  abbrev pub IsRightTo : ℕ → (ℕ → X) → Type 0
  IsRightTo i f = (n : ℕ) → n < i → Right n (f n)

  abbrev pub IsRightBut : (ℕ → X) → Type 0
  IsRightBut f = (n : ℕ) → (n < count → touched n ≡ false) → Right n (f n)

  -- where nothing more passes, it is right everywhere
  pub right-all : (i : ℕ) (f : ℕ → X) → ((m : ℕ) → i ≤ m → m < count → touched m ≡ false) → IsRightTo i f → IsRightBut f → (n : ℕ) → Right n (f n)
  right-all i f none before but n = ⊎_elim (before n) (λ from. but n (none n from)) (cases_lt n i)
