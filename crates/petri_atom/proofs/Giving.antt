-- What is delivered, as it is kept: the row that a mask and values keep, and where one more variable gets a value.
use Rattle.std.proofs.Common.{◌≡◌, ℕ, zero, suc, ℤ, pos, ◌*◌, ◌%◌, ◌^◌, ◌<◌, ◌≤◌, Bool, true, false, eqb, refl, sym, ◌∙◌, ap, arith, mod-eq_of_lt, List, [], ◌∷◌, length, Option, Some, None, replicate, ⊎_elim}
use Rattle.std.specs.Prelude.{bit_or, is_some, unwrap_or, slice_index_or, slice_set, slice_get, if◌then◌else◌}
use Rattle.std.specs.Int.{w8}
use Rattle.std.specs.Option.{option_map_or, option_or}
use Rattle.std.proofs.lemmas.Bool.{false≢true, cases_eq, cases_lt}
use Rattle.std.proofs.lemmas.List.{map-set, set-get_or, set_past, length-set, get_or-set_same, get_or-set_other, get_or-replicate, get_or_past}
use Rattle.std.proofs.lemmas.Nat.{or_lt, pow_below}
use Rattle.std.proofs.lemmas.Nat.Bits.{bit_at_set_same, bit_at_set_other}
use Rattle.std.proofs.lemmas.Option.{slice_get_past}
use Rattle.petri_atom.specs.Definition.{delivered_to}
use Rattle.petri_atom.specs.Local.{Row, has, set_below, given, mask_of, values_of, row_in, AreOfRow}
use Rattle.petri_atom.proofs.Sets.{has-set_below, set_below-lt, set_below-is}

-- a value, or none, is what its bit and its number keep
kept : (o : Option ℤ) (bit : Bool) → bit ≡ is_some o → (if bit then Some (unwrap_or o (pos 0)) else None) ≡ o
kept (Some v) bit same = ap (λ b. if b then Some v else None) same
kept None bit same = ap (λ b. if b then Some (pos 0) else None) same

pub four_same : {a b c d a' b' c' d' : Option ℤ} → a ≡ a' → b ≡ b' → c ≡ c' → d ≡ d' → (a ∷ b ∷ c ∷ d ∷ []) ≡ (a' ∷ b' ∷ c' ∷ d' ∷ [])
four_same {a} {b} {c} {d} {a'} {b'} {c'} p q r s =
    ap (λ x. x ∷ b ∷ c ∷ d ∷ []) p ∙ ap (λ x. a' ∷ x ∷ c ∷ d ∷ []) q ∙ ap (λ x. a' ∷ b' ∷ x ∷ d ∷ []) r ∙ ap (λ x. a' ∷ b' ∷ c' ∷ x ∷ []) s

-- a row of four values is what its mask and its values keep
pub row-back : (row : Row) → length row ≡ 4 → row_in (mask_of row) (values_of row) ≡ row
row-back (a ∷ b ∷ c ∷ d ∷ []) four =
    let bit = has-set_below 4 (λ j. is_some (slice_index_or (a ∷ b ∷ c ∷ d ∷ []) j None)) in
    four_same (kept a _ (bit 0 (omega arith))) (kept b _ (bit 1 (omega arith))) (kept c _ (bit 2 (omega arith))) (kept d _ (bit 3 (omega arith)))
row-back [] four = absurd (omega (arith, four))
row-back (a ∷ []) four = absurd (omega (arith, four))
row-back (a ∷ b ∷ []) four = absurd (omega (arith, four))
row-back (a ∷ b ∷ c ∷ []) four = absurd (omega (arith, four))
row-back (a ∷ b ∷ c ∷ d ∷ e ∷ rest) four = absurd (omega (arith, four))

-- a mask and values that are a row's keep that row, and have nothing else in them
module _ (row : Row) (four : length row ≡ 4) (mask : ℕ) (values : List ℤ) (masked : mask ≡ mask_of row) (valued : values ≡ values_of row) where
  pub kept_row : row_in mask values ≡ row
  kept_row = ap (λ m. row_in m values) masked ∙ ap (row_in (mask_of row)) valued ∙ row-back row four

  pub nothing_else : AreOfRow mask values
  nothing_else = (masked ∙ ap mask_of (sym kept_row), valued ∙ ap values_of (sym kept_row))

both_none : (b : Bool) (o : Option ℤ) → (if b then o else o) ≡ o
both_none true o = refl
both_none false o = refl

-- what a row that is kept has at a number
pub row-at : (mask : ℕ) (values : List ℤ) (j : ℕ) → length values ≡ 4 → slice_index_or (row_in mask values) j None ≡ (if has mask j then slice_get values j else None)
row-at mask values zero four = refl
row-at mask values (suc zero) four = refl
row-at mask values (suc (suc zero)) four = refl
row-at mask values (suc (suc (suc zero))) four = refl
row-at mask values (suc (suc (suc (suc j)))) four =
    let more : ℕ = suc (suc (suc (suc j))) in
    sym (ap (λ o. if has mask more then o else None) (slice_get_past values more (omega (arith, four))) ∙ both_none (has mask more) None)

-- of a row of four values, number e of which is to get v
module _ (row : Row) (e : ℕ) (v : ℤ) (four : length row ≡ 4) where
  -- the test of the row's mask
  abbrev is_given : Row → ℕ → Bool
  is_given values j = is_some (slice_index_or values j None)

  -- a number past the row changes nothing
  pub given-past : 4 ≤ e → row ≡ given e v row
  given-past past = sym (set_past row e _ (omega (arith, four, past)))

  stays : (o : Option ℤ) → slice_index_or row e None ≡ o → is_some o ≡ true → row ≡ given e v row
  stays (Some x) there some =
      sym (ap (λ o. slice_set row e (option_or o (Some v))) there ∙ sym (ap (λ o. slice_set row e o) there) ∙ set-get_or row e None)
  stays None there some = absurd (false≢true some)

  -- a value that is there stays
  pub given-present : e < 4 → has (mask_of row) e ≡ true → row ≡ given e v row
  given-present low there =
      stays (slice_index_or row e None) refl
      (sym (has-set_below (length row) (is_given row) e (omega (arith, low, four))) ∙ there)

  comes : (o : Option ℤ) → slice_index_or row e None ≡ o → is_some o ≡ false → slice_set row e (Some v) ≡ given e v row
  comes None there some = sym (ap (λ o. slice_set row e (option_or o (Some v))) there)
  comes (Some x) there some = absurd (false≢true (sym some))

  abbrev after : Row
  after = slice_set row e (Some v)

  abbrev word : ℕ
  word = bit_or (mask_of row) (1 * 2 ^ e % 2 ^ 8)

  -- a value that is not there comes
  module _ (low : e < 4) (fresh : has (mask_of row) e ≡ false) where
    within : e < length row
    within = omega (arith, low, four)

    set_is : after ≡ given e v row
    set_is =
        comes (slice_index_or row e None) refl (sym (has-set_below (length row) (is_given row) e within) ∙ fresh)

    below : e < 8
    below = omega (arith, low)

    plain : 1 * 2 ^ e % 2 ^ 8 ≡ 2 ^ e
    plain =
        let one : 1 * 2 ^ e ≡ 2 ^ e = omega arith in
        ap (λ x. x % 2 ^ 8) one ∙ mod-eq_of_lt (pow_below e 8 below)

    small : word < 2 ^ length row
    small =
        rw plain (or_lt (length row) (mask_of row) (2 ^ e) (set_below-lt (length row) (is_given row)) (pow_below e (length row) within))

    each : (j : ℕ) → j < length row → has word j ≡ is_given after j
    each j h =
        ⊎_elim
        (λ same. ap (has word) same ∙ ap (λ x. eqb x 1) (bit_at_set_same w8 (mask_of row) e below) ∙ sym (ap (is_given after) same ∙ ap is_some (get_or-set_same row e (Some v) None within)))
        (λ other. ap (λ x. eqb x 1) (bit_at_set_other w8 (mask_of row) e below j other) ∙ has-set_below (length row) (is_given row) j h ∙ sym (ap is_some (get_or-set_other row e j (Some v) None other)))
        (cases_eq j e)

    pub given-mask : word ≡ mask_of (given e v row)
    given-mask =
        set_below-is (length row) word (is_given after) small each ∙
        ap (λ n. set_below n (is_given after)) (sym (length-set row e (Some v))) ∙ ap mask_of set_is

    pub given-values : slice_set (values_of row) e v ≡ values_of (given e v row)
    given-values = sym (map-set (λ value. unwrap_or value (pos 0)) row e (Some v)) ∙ ap values_of set_is

    pub given-four : length (given e v row) ≡ 4
    given-four = ap length (sym set_is) ∙ length-set row e (Some v) ∙ four

-- the mask and the values that are kept after a value for a number that had none
module _ (mask : ℕ) (values : List ℤ) (own : AreOfRow mask values) (e : ℕ) (v : ℤ) (low : e < 4) (fresh : has mask e ≡ false) where
  abbrev row : Row
  row = row_in mask values

  none : has (mask_of row) e ≡ false
  none = ap (λ m. has m e) (sym own.0) ∙ fresh

  masked : bit_or mask (1 * 2 ^ e % 2 ^ 8) ≡ mask_of (given e v row)
  masked = ap (λ m. bit_or m (1 * 2 ^ e % 2 ^ 8)) own.0 ∙ given-mask row e v refl low none

  valued : slice_set values e v ≡ values_of (given e v row)
  valued = ap (λ vs. slice_set vs e v) own.1 ∙ given-values row e v refl low none

  pub given-kept : row_in (bit_or mask (1 * 2 ^ e % 2 ^ 8)) (slice_set values e v) ≡ given e v row
  given-kept = kept_row (given e v row) (given-four row e v refl low none) _ _ masked valued

  pub given-own : AreOfRow (bit_or mask (1 * 2 ^ e % 2 ^ 8)) (slice_set values e v)
  given-own = nothing_else (given e v row) (given-four row e v refl low none) _ _ masked valued

-- a row of nothing
abbrev pub nothing : Row
nothing = replicate 4 None

-- has nothing at a number
nothing-at : (j : ℕ) → slice_index_or nothing j None ≡ None
nothing-at j = ⊎_elim
    (λ within. get_or-replicate 4 j None None within)
    (λ past. get_or_past nothing j None past)
    (cases_lt j 4)

-- so its delivery leaves all values as they are
pub delivered-nothing : (j : ℕ) (exports : List ℕ) (values : List ℤ) → delivered_to nothing j exports values ≡ values
delivered-nothing j [] values = refl
delivered-nothing j (v ∷ vs) values =
    ap (λ o. delivered_to nothing (suc j) vs (option_map_or (slice_set values v) o values)) (nothing-at j) ∙
    delivered-nothing (suc j) vs values
