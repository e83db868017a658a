-- Words of rows, of which one more is added.
use Rattle.std.proofs.Common.{◌≡◌, ℕ, zero, suc, ◌/◌, ◌%◌, refl, subst, List, [], ◌∷◌, ◌++◌, length, arith}
use Rattle.std.specs.Prelude.{slice_index}
use Rattle.std.specs.FinSet.{FinSet, contains}
use Rattle.std.specs.Ordering.{nat_cmp}
use Rattle.std.proofs.lemmas.List.{length-append}
use Rattle.priority_filter.specs.Members.{has_bit}
use Rattle.plant_model.specs.ConnectorRows.{AreWordsAt, is_in_row}
use Rattle.plant_model.proofs.BitsLeft.{no-bit}

module _ (place : ℕ) where
  -- no word of no row
  pub no-words : AreWordsAt place [] []
  no-words = record { as_many = refl; same = λ k n _. no-bit (n % 64) }

  module _ (row : FinSet nat_cmp) (word : ℕ) (here : (n : ℕ) → n / 64 ≡ place → has_bit word (n % 64) ≡ contains row n) where
    same-pushed : (rows : List (FinSet nat_cmp)) (words : List ℕ) → length words ≡ length rows → ((k n : ℕ) → n / 64 ≡ place → has_bit (slice_index words k) (n % 64) ≡ is_in_row rows n k)
        → (k n : ℕ) → n / 64 ≡ place → has_bit (slice_index (words ++ word ∷ []) k) (n % 64) ≡ is_in_row (rows ++ row ∷ []) n k
    same-pushed [] [] long before zero n at = here n at
    same-pushed [] [] long before (suc k) n at = no-bit (n % 64)
    same-pushed (r ∷ rs) (w ∷ ws) long before zero n at = before 0 n at
    same-pushed (r ∷ rs) (w ∷ ws) long before (suc k) n at = same-pushed rs ws (omega (arith, long)) (λ j. before (suc j)) k n at
    same-pushed [] (w ∷ ws) long before k n at = absurd (omega (arith, long))
    same-pushed (r ∷ rs) [] long before k n at = absurd (omega (arith, long))

    -- the word of one row more
    pub words-pushed : (rows : List (FinSet nat_cmp)) (words : List ℕ) → AreWordsAt place rows words → AreWordsAt place (rows ++ row ∷ []) (words ++ word ∷ [])
    words-pushed rows words before = record {
      as_many = omega (arith, length-append words (word ∷ []), length-append rows (row ∷ []), before.as_many);
      same = same-pushed rows words before.as_many before.same;
    }

-- words are those of the same rows at the same place
pub words-same : (p q : ℕ) (rows others : List (FinSet nat_cmp)) (words : List ℕ) → p ≡ q → rows ≡ others → AreWordsAt p rows words → AreWordsAt q others words
words-same p q rows others words place same are = subst (λ m. AreWordsAt m others words) place (subst (λ rs. AreWordsAt p rs words) same are)
