-- Markings that mark none but the first places of an atom.
use Rattle.std.proofs.Common.{◌≡◌, ℕ, ◌^◌, ◌/◌, ◌*◌, ◌+◌, ◌<◌, ◌≤◌, false, sym, ◌∙◌, arith, subst, ⊎_elim}
use Rattle.std.proofs.lemmas.Bool.{cases_lt}
use Rattle.std.proofs.lemmas.Nat.{pow_pos}
use Rattle.std.proofs.Math.Nat.{lt-div-mul-add}
use Rattle.petri_atom.specs.Local.{has, set_below}
use Rattle.petri_atom.proofs.Sets.{has-above, has-set_below, same_set, set_below-lt}

-- a word of 64 bits that marks none from n on is below 2 ^ n
pub below_from_none : (m n : ℕ) → m < 2 ^ 64 → 2 ^ n ≤ 2 ^ 64 → ((k : ℕ) → n ≤ k → has m k ≡ false) → m < 2 ^ n
below_from_none m n word fewer none =
    let small = set_below-lt n (has m) in
    let each : (k : ℕ) → k < 64 → has m k ≡ has (set_below n (has m)) k
    = λ k low.
    ⊎_elim (λ before. sym (has-set_below n (has m) k before))
    (λ past. none k past ∙ sym (has-above (set_below n (has m)) n k small past))
    (cases_lt k n) in
    subst (λ x. x < 2 ^ n) (sym (same_set 64 m (set_below n (has m)) word (omega (arith, small, fewer)) each)) small

-- and one whose part from bit n on is 0 marks none there
pub none_from_zero : (m n : ℕ) → m / 2 ^ n ≡ 0 → (k : ℕ) → n ≤ k → has m k ≡ false
none_from_zero m n none k past =
    let small = subst (λ q. m < q * 2 ^ n + 2 ^ n) none (lt-div-mul-add (pow_pos n)) in
    has-above m n k (omega (arith, small)) past
