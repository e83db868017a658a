-- Numbers rise strictly exactly where the test says so.
use Rattle.std.proofs.Common.{◌≡◌, ℕ, zero, suc, ◌+◌, ◌-◌, ◌<◌, ◌≤◌, ◌&&◌, nat_lt, Bool, true, false, List, [], ◌∷◌, length, drop, get_or, refl, sym, ap, subst, ◌∙◌, arith}
use Rattle.std.specs.List.Sorted.{IsStrictlyIncreasing}
use Rattle.std.proofs.lemmas.Bool.Decides.{nat_tests}
use Rattle.std.proofs.lemmas.List.{length-drop}
use Rattle.record_codec.specs.declared.entry.Entry.{Entry}
use Rattle.record_codec.specs.Fired.{is_rising, atoms_of}

both : (a b : Bool) → (a && b) ≡ true → (a ≡ true) × (b ≡ true)
both true b e = (refl, e)
both false b e = absurd cc

-- a number of a list's rest, by its place in the list
after_first : (x : ℕ) (xs : List ℕ) (k : ℕ) → get_or (x ∷ xs) (suc k + 1) 0 ≡ get_or xs (k + 1) 0
after_first x xs k = let one_on : suc k + 1 ≡ suc (k + 1) = omega arith in ap (λ (n : ℕ). get_or (x ∷ xs) n 0) one_on

pub is_rising-true : (xs : List ℕ) → IsStrictlyIncreasing xs → is_rising xs ≡ true
is_rising-true [] h = refl
is_rising-true (x ∷ []) h = refl
is_rising-true (x ∷ y ∷ ys) h =
    let first : nat_lt x y ≡ true = let lt : x < y = h 0 (omega arith) in grind (arith, nat_tests) in
    let others : is_rising (y ∷ ys) ≡ true = is_rising-true (y ∷ ys) (λ k lt. subst (λ (n : ℕ). get_or (y ∷ ys) k 0 < n) (after_first x (y ∷ ys) k) (h (suc k) (omega arith))) in
    rw (first, others) refl

pub IsStrictlyIncreasing-from_test : (xs : List ℕ) → is_rising xs ≡ true → IsStrictlyIncreasing xs
IsStrictlyIncreasing-from_test [] e k lt = absurd (omega arith)
IsStrictlyIncreasing-from_test (x ∷ []) e k lt = absurd (omega arith)
IsStrictlyIncreasing-from_test (x ∷ y ∷ ys) e zero lt =
    let p = both (nat_lt x y) (is_rising (y ∷ ys)) e in
    let first : nat_lt x y ≡ true = p.0 in
    let below : x < y = grind (arith, nat_tests) in
    below
IsStrictlyIncreasing-from_test (x ∷ y ∷ ys) e (suc k) lt =
    let p = both (nat_lt x y) (is_rising (y ∷ ys)) e in
    let more : get_or (y ∷ ys) k 0 < get_or (y ∷ ys) (k + 1) 0 = IsStrictlyIncreasing-from_test (y ∷ ys) p.1 k (omega arith) in
    subst (λ (n : ℕ). get_or (y ∷ ys) k 0 < n) (sym (after_first x (y ∷ ys) k)) more

-- at most one number rises
pub rising_short : (entries : List Entry) → length entries ≤ 1 → is_rising (atoms_of entries) ≡ true
rising_short [] short = refl
rising_short (x ∷ []) short = refl
rising_short (x ∷ y ∷ ys) short = absurd (omega arith)

pub rising_end : (entries : List Entry) (next : ℕ) → length entries ≤ next → is_rising (atoms_of (drop (next - 1) entries)) ≡ is_rising (atoms_of entries) → true ≡ is_rising (atoms_of entries)
rising_end entries next past kept =
    sym (rising_short (drop (next - 1) entries) (omega (arith, length-drop (next - 1) entries))) ∙ kept
