-- Masks as sets of leaves: what `&` tells of them.
use Rattle.std.proofs.Common.{◌≡◌, ◌≢◌, ℕ, ◌*◌, ◌^◌, min, sym, ap, subst, ◌∙◌, ⊎_elim, bit_and, pow_pos, arith}
use Rattle.std.specs.Int.{bit_at}
use Rattle.std.proofs.lemmas.Bool.{cases_eq}
use Rattle.std.proofs.lemmas.Nat.Bits.{and_pow, bit_at_and, bit_at-lt, same_from_bits}
use Rattle.priority_filter.specs.Rule.{HasLeaf, IsSubset, IsProperSubset}

-- a leaf takes part if its bit is 1
leaf_bit : (mask leaf : ℕ) → HasLeaf mask leaf → bit_at mask leaf ≡ 1
leaf_bit mask leaf has =
    ⊎_elim
    (λ zero_bit. absurd (has (let none : 0 * 2 ^ leaf ≡ 0 = omega arith in and_pow mask leaf ∙ ap (λ b. b * 2 ^ leaf) zero_bit ∙ none)))
    (λ some. omega (arith, bit_at-lt mask leaf))
    (cases_eq (bit_at mask leaf) 0)

bit_leaf : (mask leaf : ℕ) → bit_at mask leaf ≡ 1 → HasLeaf mask leaf
bit_leaf mask leaf bit none =
    let value : 1 * 2 ^ leaf ≡ 0 = sym (and_pow mask leaf ∙ ap (λ b. b * 2 ^ leaf) bit) ∙ none in
    absurd (omega (arith, pow_pos leaf))

-- `m & n` is m if each leaf of m is one of n
pub subset_and : (m n : ℕ) → IsSubset m n → bit_and m n ≡ m
subset_and m n subset =
    same_from_bits (bit_and m n) m (λ leaf.
    ⊎_elim
    (λ out. bit_at_and m n leaf ∙ omega arith)
    (λ some.
    let bit : bit_at m leaf ≡ 1 = omega (arith, bit_at-lt m leaf) in
    let other : bit_at n leaf ≡ 1 = leaf_bit n leaf (subset leaf (bit_leaf m leaf bit)) in
    bit_at_and m n leaf ∙ omega arith)
    (cases_eq (bit_at m leaf) 0))

pub and_subset : (m n : ℕ) → bit_and m n ≡ m → IsSubset m n
and_subset m n same leaf has =
    let bit : bit_at m leaf ≡ 1 = leaf_bit m leaf has in
    let both : min (bit_at m leaf) (bit_at n leaf) ≡ bit_at m leaf = sym (bit_at_and m n leaf) ∙ ap (λ x. bit_at x leaf) same in
    bit_leaf n leaf (omega (arith, bit_at-lt n leaf))

-- masks with the same leaves are the same
pub same_leaves : (m n : ℕ) → IsSubset m n → IsSubset n m → m ≡ n
same_leaves m n up down =
    same_from_bits m n (λ leaf.
    ⊎_elim
    (λ out. ⊎_elim
    (λ out_too. out ∙ sym out_too)
    (λ some. let bit : bit_at n leaf ≡ 1 = omega (arith, bit_at-lt n leaf) in
    let there : bit_at m leaf ≡ 1 = leaf_bit m leaf (down leaf (bit_leaf n leaf bit)) in there ∙ sym bit)
    (cases_eq (bit_at n leaf) 0))
    (λ some. let bit : bit_at m leaf ≡ 1 = omega (arith, bit_at-lt m leaf) in
    let there : bit_at n leaf ≡ 1 = leaf_bit n leaf (up leaf (bit_leaf m leaf bit)) in bit ∙ sym there)
    (cases_eq (bit_at m leaf) 0))

-- a mask is no proper subset of itself
pub proper_differs : (m n : ℕ) → IsProperSubset m n → m ≢ n
proper_differs m n proper same = proper.1 (λ leaf has. subst (λ x. HasLeaf x leaf) (sym same) has)

pub proper_from_and : (m n : ℕ) → bit_and m n ≡ m → m ≢ n → IsProperSubset m n
proper_from_and m n within differ = (and_subset m n within, λ back. differ (same_leaves m n (and_subset m n within) back))
