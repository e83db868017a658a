-- Words of the atoms that have a part in records, one after another.
use Rattle.std.proofs.Common.{◌≡◌, ◌+◌, ◌<◌, ℕ, zero, suc, refl, sym, ◌∙◌, ap, subst, List, [], ◌∷◌, ◌++◌, length, get_or, arith, ⊎_elim, Some, slice_get}
use Rattle.std.proofs.lemmas.Bool.{cases_lt}
use Rattle.std.proofs.lemmas.Option.{same_Some}
use Rattle.record_codec.specs.Fired.{FiredFields}
use Rattle.record_replay.specs.Parts.{IsOfParts}

earlier : (xs : List ℕ) (y k : ℕ) → k < length xs → get_or (xs ++ y ∷ []) k 0 ≡ get_or xs k 0
earlier [] y k below = absurd (omega (arith, below))
earlier (x ∷ xs) y zero below = refl
earlier (x ∷ xs) y (suc k) below = earlier xs y k (omega (arith, below))

last : (xs : List ℕ) (y k : ℕ) → k ≡ length xs → get_or (xs ++ y ∷ []) k 0 ≡ y
last [] y zero is = refl
last [] y (suc k) is = absurd (omega (arith, is))
last (x ∷ xs) y zero is = absurd (omega (arith, is))
last (x ∷ xs) y (suc k) is = last xs y k (omega (arith, is))

-- the word of one record more
pub parts-more : (records : List FiredFields) (words : List ℕ) (n word : ℕ) (x : FiredFields) → length words ≡ n → slice_get records n ≡ Some x → IsOfParts x word
    → ((k : ℕ) (r : FiredFields) → k < n → slice_get records k ≡ Some r → IsOfParts r (get_or words k 0))
    → (k : ℕ) (r : FiredFields) → k < n + 1 → slice_get records k ≡ Some r → IsOfParts r (get_or (words ++ word ∷ []) k 0)
parts-more records words n word x long there its before k r below at =
    ⊎_elim
    (λ less. subst (IsOfParts r) (sym (earlier words word k (omega (arith, less, long)))) (before k r less at))
    (λ past.
    let is : k ≡ n = omega (arith, below, past) in
    subst (IsOfParts r) (sym (last words word k (omega (arith, is, long)))) (subst (λ (y : FiredFields). IsOfParts y word) (same_Some x r (sym there ∙ sym (ap (slice_get records) is) ∙ at)) its))
    (cases_lt k n)
