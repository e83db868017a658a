use Rattle.std.proofs.Common.{◌≡◌, ℕ, zero, suc, ◌+◌, ◌-◌, ◌*◌, ◌/◌, ◌%◌, ◌^◌, ◌<◌, ◌≤◌, Bool, true, false, cond, not, ◌&&◌, eqb, refl, sym, ◌∙◌, ap, arith, List, [], ◌∷◌, length, filter, find, Some, None, ⊎_elim}
use Rattle.std.specs.Prelude.{bit_and, slice_get}
use mir.Val.{bits}
use Rattle.std.specs.Int.{Width, trailing_zeros, w64, w128}
use Rattle.std.specs.List.{range_with_len}
use Rattle.std.proofs.Math.Bool.{and-true}
use Rattle.std.proofs.lemmas.Bool.{both_ways, cases_lt, cases_eq, eq-eqb, ne_eqb, and_right}
use Rattle.std.proofs.lemmas.Nat.{pow_pos, pow_below, shr_split, mod_below}
use Rattle.std.proofs.lemmas.Nat.Bits.{bit_at_cat_low, bit_at_cat_high, bit_at-pow_same, bit_at-pow_other, bit_at-trailing_zeros}
use Rattle.petri_atom.specs.Definition.{TransitionDefinition, numbers_of}
use Rattle.petri_atom.specs.Local.{has, set_below, numbers_below}
use Rattle.petri_atom.specs.Parts.{is_of_port, set_of_port}
use Rattle.petri_atom.proofs.Sets.{has-above, has-and, same_set, set_below-lt, has-set_below}
use Rattle.petri_atom.proofs.Halves.{has-rest, has-high}
use Rattle.petri_atom.proofs.PortSets.{filter-filter, set_below-both, numbers-set}

-- two tests that agree in a range keep the same of it
pub filter-agree : (f g : ℕ → Bool) (a n : ℕ) → ((k : ℕ) → a ≤ k → k < a + n → f k ≡ g k) → filter f (range_with_len a n) ≡ filter g (range_with_len a n)
filter-agree f g a zero same = refl
filter-agree f g a (suc n) same =
    ap (λ b. cond b (a ∷ filter f (range_with_len (a + 1) n)) (filter f (range_with_len (a + 1) n))) (same a (omega arith) (omega arith)) ∙
    ap (λ r. cond (g a) (a ∷ r) r) (filter-agree f g (a + 1) n (λ k low high. same k (omega arith) (omega arith)))

-- if the first m numbers of a range fail a test, the others alone may pass it
filter-skip : (f : ℕ → Bool) (a m n : ℕ) → ((k : ℕ) → a ≤ k → k < a + m → f k ≡ false) → filter f (range_with_len a (m + n)) ≡ filter f (range_with_len (a + m) n)
filter-skip f a zero n none =
    let e : 0 + n ≡ n = omega arith in
    let here : a ≡ a + 0 = omega arith in
    ap (λ k. filter f (range_with_len a k)) e ∙ ap (λ k. filter f (range_with_len k n)) here
filter-skip f a (suc m) n none =
    let longer : suc m + n ≡ suc (m + n) = omega arith in
    let moved : a + 1 + m ≡ a + suc m = omega arith in
    ap (λ k. filter f (range_with_len a k)) longer ∙
    ap (λ b. cond b (a ∷ filter f (range_with_len (a + 1) (m + n))) (filter f (range_with_len (a + 1) (m + n)))) (none a (omega arith) (omega arith)) ∙
    filter-skip f (a + 1) m n (λ k low high. none k (omega arith) (omega arith)) ∙
    ap (λ k. filter f (range_with_len k n)) moved

-- if all numbers past the first n of a range fail a test, more of them make no difference
filter-stop : (f : ℕ → Bool) (a n m : ℕ) → ((k : ℕ) → a + n ≤ k → f k ≡ false) → filter f (range_with_len a (n + m)) ≡ filter f (range_with_len a n)
filter-stop f a zero m none =
    let e : 0 + m ≡ m + 0 = omega arith in
    ap (λ k. filter f (range_with_len a k)) e ∙ filter-skip f a m 0 (λ k low high. none k (omega arith))
filter-stop f a (suc n) m none =
    let e : suc n + m ≡ suc (n + m) = omega arith in
    ap (λ k. filter f (range_with_len a k)) e ∙
    ap (λ r. cond (f a) (a ∷ r) r) (filter-stop f (a + 1) n m (λ k past. none k (omega arith)))

-- no number is in the empty set
numbers_below-none : (n : ℕ) → numbers_below n 0 ≡ []
unfolding numbers_below
numbers_below-none n =
    let e : n ≡ n + 0 = omega arith in
    ap (λ k. filter (has 0) (range_with_len 0 k)) e ∙
    filter-skip (has 0) 0 n 0 (λ k low high. has-above 0 0 k (pow_pos 0) (omega arith))

pub nth-none : (n k : ℕ) → slice_get (numbers_below n 0) k ≡ None
nth-none n k = ap (λ xs. slice_get xs k) (numbers_below-none n)

pub find-none : (p : ℕ → Bool) (n : ℕ) → find p (numbers_below n 0) ≡ None
find-none p n = ap (find p) (numbers_below-none n)

-- a test twice over
and_same : (b : Bool) → (b && b) ≡ b
and_same true = refl
and_same false = refl

-- a set in a word of any width that is not empty has a lowest one, and the others are those of the word and the word less 1
module _ (width : Width) (w : ℕ) (some : 0 < w) (small : w < 2 ^ bits width) where
  abbrev t : ℕ
  t = trailing_zeros width w

  pub lowest-below : t < bits width
  lowest-below = (bit_at-trailing_zeros width w some small).0

  pub there : has w t ≡ true
  there = ap (λ x. eqb x 1) (bit_at-trailing_zeros width w some small).1

  pub before : (k : ℕ) → k < t → has w k ≡ false
  before k h = ap (λ x. eqb x 1) ((bit_at-trailing_zeros width w some small).2 k h)

  abbrev high : ℕ
  high = w / 2 ^ (t + 1)

  abbrev low : ℕ
  low = w % 2 ^ (t + 1)

  whole : high * 2 ^ (t + 1) + low ≡ w
  whole = shr_split w (t + 1)

  low-lt : low < 2 ^ (t + 1)
  low-lt = mod_below w (2 ^ (t + 1)) (pow_pos (t + 1))

  power : 2 ^ t < 2 ^ (t + 1)
  power = pow_below t (t + 1) (omega arith)

  has-low : (k : ℕ) → k < t + 1 → has low k ≡ has w k
  has-low k h =
      sym (ap (λ x. eqb x 1) (bit_at_cat_low high (t + 1) low k h)) ∙ ap (λ x. has x k) whole

  low-is : low ≡ 2 ^ t
  low-is =
      same_set (t + 1) low (2 ^ t) low-lt power
      (λ k h. has-low k h ∙ ⊎_elim (λ below. before k below ∙ sym (ap (λ x. eqb x 1) (bit_at-pow_other t k (λ same. absurd (omega arith))))) (λ past. let same : k ≡ t = omega arith in ap (has w) same ∙ there ∙ sym (ap (has (2 ^ t)) same ∙ ap (λ x. eqb x 1) (bit_at-pow_same t))) (cases_lt k t))

  abbrev rest : ℕ
  rest = bit_and w (w - 1)

  abbrev below : ℕ
  below = 2 ^ t - 1

  below-lt : below < 2 ^ t
  below-lt = omega (arith, pow_pos t)

  less : w - 1 ≡ high * 2 ^ (t + 1) + below
  less = omega (arith, whole, low-is, pow_pos t)

  less-there : has (w - 1) t ≡ false
  less-there =
      ap (λ x. has x t) less ∙ ap (λ x. eqb x 1) (bit_at_cat_low high (t + 1) below t (omega arith)) ∙
      has-above below t t below-lt (omega arith)

  less-past : (k : ℕ) → t < k → has (w - 1) k ≡ has w k
  less-past k h =
      ap (λ x. has x k) less ∙ ap (λ x. eqb x 1) (bit_at_cat_high high (t + 1) below k (omega (arith, below-lt, power)) (omega arith)) ∙
      sym (sym (ap (λ x. has x k) whole) ∙ ap (λ x. eqb x 1) (bit_at_cat_high high (t + 1) low k low-lt (omega arith)))

  rest-low : (k : ℕ) → k ≤ t → has rest k ≡ false
  rest-low k h =
      has-and w (w - 1) k ∙
      ⊎_elim (λ under. ap (λ b. b && has (w - 1) k) (before k under))
      (λ past. let same : k ≡ t = omega arith in ap (λ j. has w j && has (w - 1) j) same ∙ ap (λ b. b && has (w - 1) t) there ∙ less-there)
      (cases_lt k t)

  rest-high : (k : ℕ) → t < k → has rest k ≡ has w k
  rest-high k h =
      has-and w (w - 1) k ∙ ap (λ b. has w k && b) (less-past k h) ∙ and_same (has w k)

  -- the others are all but the lowest
  pub others : (k : ℕ) → has rest k ≡ (has w k && not (eqb k t))
  others k =
      ⊎_elim (λ under. rest-low k (omega arith) ∙ sym (ap (λ b. b && not (eqb k t)) (before k under)))
      (λ past. ⊎_elim (λ same. rest-low k (omega arith) ∙ sym (ap (λ b. has w k && not b) (eq-eqb k t same) ∙ and_right (has w k) false refl)) (λ other. rest-high k (omega arith) ∙ sym (ap (λ b. has w k && not b) (ne_eqb k t other) ∙ and-true (has w k))) (cases_eq k t))
      (cases_lt k t)

  numbers_below-first : numbers_below (bits width) w ≡ t ∷ numbers_below (bits width) rest
  unfolding numbers_below
  numbers_below-first =
      let r = bits width - 1 - t in
      let first : bits width ≡ t + suc r = omega (arith, lowest-below) in
      let second : bits width ≡ t + 1 + r = omega (arith, lowest-below) in
      let here : 0 + t ≡ t = omega arith in
      let next : 0 + (t + 1) ≡ t + 1 = omega arith in
      ap (λ n. filter (has w) (range_with_len 0 n)) first ∙ filter-skip (has w) 0 t (suc r) (λ k low high. before k (omega arith)) ∙
      ap (λ a. filter (has w) (range_with_len a (suc r))) here ∙
      ap (λ b. cond b (t ∷ filter (has w) (range_with_len (t + 1) r)) (filter (has w) (range_with_len (t + 1) r))) there ∙
      ap (λ xs. t ∷ xs) (sym (ap (λ n. filter (has rest) (range_with_len 0 n)) second ∙ filter-skip (has rest) 0 (t + 1) r (λ k low high. rest-low k (omega arith)) ∙ ap (λ a. filter (has rest) (range_with_len a r)) next ∙ filter-agree (has rest) (has w) (t + 1) r (λ k low high. rest-high k (omega arith))))

  -- so the first number of the set is the lowest, and each later one is a number of the others
  pub nth-first : slice_get (numbers_below (bits width) w) 0 ≡ Some t
  nth-first = ap (λ xs. slice_get xs 0) numbers_below-first

  pub nth-later : (k : ℕ) → slice_get (numbers_below (bits width) w) (suc k) ≡ slice_get (numbers_below (bits width) rest) k
  nth-later k = ap (λ xs. slice_get xs (suc k)) numbers_below-first

  -- and the first number that passes a test is the lowest if that does, and else the first of the others
  pub find-lowest : (p : ℕ → Bool) → p t ≡ true → find p (numbers_below (bits width) w) ≡ Some t
  find-lowest p passes = ap (find p) numbers_below-first ∙ ap (λ b. cond b (Some t) (find p (numbers_below (bits width) rest))) passes

  pub find-others : (p : ℕ → Bool) → p t ≡ false → find p (numbers_below (bits width) w) ≡ find p (numbers_below (bits width) rest)
  find-others p fails = ap (find p) numbers_below-first ∙ ap (λ b. cond b (Some t) (find p (numbers_below (bits width) rest))) fails

-- of a set that is not empty
module _ (set : ℕ) (some : 0 < set) (small : set < 2 ^ 128) where
  -- the first number is the one before which it has no other
  first-is : (n : ℕ) → has set n ≡ true → ((k : ℕ) → k < n → has set k ≡ false) → slice_get (numbers_below 128 set) 0 ≡ Some n
  first-is n inside none =
      let least = trailing_zeros w128 set in
      let same : least ≡ n = ⊎_elim
      (λ less. absurd (both_ways _ (none least less) (there w128 set some small)))
      (λ past. ⊎_elim (λ is. is) (λ other. absurd (both_ways _ (before w128 set some small n (omega (arith, past, other))) inside)) (cases_eq least n))
      (cases_lt least n) in
      nth-first w128 set some small ∙ ap Some same

  -- it is the lowest one below 64, if there is one
  pub first-low : (low : ℕ) → low ≡ set % 2 ^ 64 → 0 < low → slice_get (numbers_below 128 set) 0 ≡ Some (trailing_zeros w64 low)
  first-low low is filled =
      let fits : low < 2 ^ 64 = omega (arith, is, mod_below set (2 ^ 64) (pow_pos 64)) in
      let least = trailing_zeros w64 low in
      let below : least < 64 = lowest-below w64 low filled fits in
      let same : (k : ℕ) → k < 64 → has low k ≡ has set k = λ k h. ap (λ x. has x k) is ∙ has-rest set k h in
      first-is least (sym (same least below) ∙ there w64 low filled fits)
      (λ k h. sym (same k (omega (arith, h, below))) ∙ before w64 low filled fits k h)

  -- and else the lowest one of the others
  pub first-high : set % 2 ^ 64 ≡ 0 → slice_get (numbers_below 128 set) 0 ≡ Some (64 + trailing_zeros w64 (set / 2 ^ 64))
  first-high none =
      let high = set / 2 ^ 64 in
      let filled : 0 < high = omega (arith, shr_split set 64, none, some) in
      let fits : high < 2 ^ 64 = omega (arith, shr_split set 64, small) in
      let least = trailing_zeros w64 high in
      first-is (64 + least) (sym (has-high set least) ∙ there w64 high filled fits)
      (λ k h. ⊎_elim
      (λ low. sym (has-rest set k low) ∙ ap (λ x. has x k) none ∙ has-above 0 0 k (pow_pos 0) (omega arith))
      (λ past. let back : 64 + (k - 64) ≡ k = omega (arith, past) in sym (ap (has set) back) ∙ sym (has-high set (k - 64)) ∙ before w64 high filled fits (k - 64) (omega (arith, h, past)))
      (cases_lt k 64))

-- of a set of transitions, the numbers of a port are those of its transitions that pass the set's test
pub numbers_below-of_port : (f : ℕ → Bool) (port : ℕ) (ts : List TransitionDefinition) → length ts ≤ 128 → numbers_below 128 (bit_and (set_below (length ts) f) (set_of_port port ts)) ≡ filter f (numbers_of port ts)
unfolding numbers_below
numbers_below-of_port f port ts few =
    let n = length ts in
    let both : ℕ → Bool = λ k. f k && is_of_port port ts k in
    let set = set_below n both in
    let longer : 128 ≡ n + (128 - n) = omega arith in
    ap (numbers_below 128) (set_below-both n f (is_of_port port ts)) ∙
    ap (λ k. filter (has set) (range_with_len 0 k)) longer ∙
    filter-stop (has set) 0 n (128 - n) (λ k past. has-above set n k (set_below-lt n both) (omega arith)) ∙
    filter-agree (has set) both 0 n (λ k low high. has-set_below n both k (omega arith)) ∙
    sym (ap (filter f) (numbers-set port ts) ∙ filter-filter f (is_of_port port ts) (range_with_len 0 n))
