-- The numbers below a bound that pass a test.
use Rattle.std.proofs.Common.{◌≡◌, ◌+◌, ◌<◌, ℕ, zero, suc, Bool, true, false, cond, List, [], ◌∷◌, ◌++◌, filter, ap, sym, ◌∙◌, subst, inl, inr, arith}
use Rattle.std.proofs.lemmas.Bool.{cases_Bool, cases_eq}
use Rattle.std.specs.List.{range_with_len, Contains}
use Rattle.std.specs.List.Sorted.{IsStrictlyIncreasing}
use Rattle.std.proofs.lemmas.List.{append-nil}
use Rattle.std.proofs.lemmas.List.Elements.{filter-append, Contains-append_left, Contains-push, Contains-push_cases}
use Rattle.std.proofs.lemmas.List.FromFn.{length-range_with_len, get_or-range_with_len}
use Rattle.std.proofs.lemmas.List.Kept.{IsStrictlyIncreasing-filter}

range-more : (a n : ℕ) → range_with_len a (suc n) ≡ range_with_len a n ++ ((a + n) ∷ [])
range-more a zero = let e : a ≡ a + 0 = omega arith in ap (λ k. k ∷ []) e
range-more a (suc n) =
    let e : (a + 1) + n ≡ a + suc n = omega arith in
    ap (λ ks. a ∷ ks) (range-more (a + 1) n ∙ ap (λ k. range_with_len (a + 1) n ++ (k ∷ [])) e)

-- the numbers below n that pass
abbrev pub passing : (ℕ → Bool) → ℕ → List ℕ
passing p n = filter p (range_with_len 0 n)

-- one number further
pub passing-suc : (p : ℕ → Bool) (n : ℕ) → passing p (suc n) ≡ passing p n ++ cond (p n) (n ∷ []) []
passing-suc p n =
    let z : 0 + n ≡ n = omega arith in
    ap (filter p) (range-more 0 n)
    ∙ ap (λ k. filter p (range_with_len 0 n ++ (k ∷ []))) z
    ∙ filter-append p (range_with_len 0 n) (n ∷ [])

passing-keeps : (p : ℕ → Bool) (n : ℕ) → p n ≡ true → passing p (suc n) ≡ passing p n ++ (n ∷ [])
passing-keeps p n passes = passing-suc p n ∙ ap (λ b. passing p n ++ cond b (n ∷ []) []) passes

passing-skips : (p : ℕ → Bool) (n : ℕ) → p n ≡ false → passing p (suc n) ≡ passing p n
passing-skips p n passes = passing-suc p n ∙ ap (λ b. passing p n ++ cond b (n ∷ []) []) passes ∙ append-nil (passing p n)

-- each of them is below n and passes
pub passing_is : (p : ℕ → Bool) (n m : ℕ) → Contains (passing p n) m → (m < n) × (p m ≡ true)
passing_is p zero m h = absurd (omega (arith, h.1))
passing_is p (suc n) m h = elim (cases_Bool (p n)) [
  | inl e ↦ elim (Contains-push_cases (passing p n) n m (subst (λ ns. Contains ns m) (passing-keeps p n e) h)) [
    | inl k ↦ let r = passing_is p n m k in (omega (arith, r.0), r.1)
    | inr is ↦ (omega (arith, is), ap p (sym is) ∙ e)
  ]
  | inr e ↦ let r = passing_is p n m (subst (λ ns. Contains ns m) (passing-skips p n e) h) in (omega (arith, r.0), r.1)
]

-- what is below n and passes is one of them
pub is_passing : (p : ℕ → Bool) (n m : ℕ) → m < n → p m ≡ true → Contains (passing p n) m
is_passing p zero m below passes = absurd (omega arith)
is_passing p (suc n) m below passes = elim (cases_eq m n) [
  | inl is ↦ subst (λ ns. Contains ns m) (sym (passing-keeps p n (ap p (sym is) ∙ passes))) (subst (λ k. Contains (passing p n ++ (k ∷ [])) m) is (Contains-push (passing p n) m))
  | inr other ↦
      let less : m < n = omega arith in
      let there = is_passing p n m less passes in
      elim (cases_Bool (p n)) [
        | inl e ↦ subst (λ ns. Contains ns m) (sym (passing-keeps p n e)) (Contains-append_left (passing p n) (n ∷ []) m there)
        | inr e ↦ subst (λ ns. Contains ns m) (sym (passing-skips p n e)) there
      ]
]

-- they rise
pub passing_rises : (p : ℕ → Bool) (n : ℕ) → IsStrictlyIncreasing (passing p n)
passing_rises p n = IsStrictlyIncreasing-filter p (range_with_len 0 n) rises
  where
    rises : IsStrictlyIncreasing (range_with_len 0 n)
    rises k h =
        let size = length-range_with_len 0 n in
        let here = get_or-range_with_len 0 n k 0 (omega (arith, h, size)) in
        let next = get_or-range_with_len 0 n (k + 1) 0 (omega (arith, h, size)) in
        omega (arith, here, next)
