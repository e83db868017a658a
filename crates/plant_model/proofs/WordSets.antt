-- Words as sets: what is put in and taken out, bit by bit.
use Rattle.std.proofs.Common.{◌≡◌, ℕ, ◌^◌, ◌<◌, refl, sym, ◌∙◌, ap, Bool, true, false, not, ◌&&◌, ◌||◌, w64}
use Rattle.std.specs.Prelude.{bit_and, bit_or}
use Rattle.std.specs.Int.{bit_not}
use Rattle.petri_atom.proofs.Sets.{has-or}
use Rattle.priority_filter.specs.Members.{has_bit}
use Rattle.priority_filter.proofs.Words.{bit-and, bit-not}
use Rattle.plant_model.proofs.BitsLeft.{no-bit}

-- two words without a common bit
pub no-common : (a b k : ℕ) → bit_and a b ≡ 0 → has_bit a k ≡ true → has_bit b k ≡ false
no-common a b k none here = ap (λ x. x && has_bit b k) (sym here) ∙ sym (bit-and a b k) ∙ ap (λ w. has_bit w k) none ∙ no-bit k

-- a word without the bits of another
pub bit-without : (a b k : ℕ) → b < 2 ^ 64 → k < 64 → has_bit (bit_and a (bit_not w64 b)) k ≡ (has_bit a k && not (has_bit b k))
bit-without a b k small low = bit-and a (bit_not w64 b) k ∙ ap (λ x. has_bit a k && x) (bit-not b k small low)

never : (x : Bool) → (x && false) ≡ false
never true = refl
never false = refl

as-it-is : (x : Bool) → ((x && true) || false) ≡ x
as-it-is true = refl
as-it-is false = refl

-- of some places the bits are those of another word, and all others stay
module _ (a own here k : ℕ) (small : own < 2 ^ 64) (low : k < 64) where
  bit-changed : has_bit (bit_or (bit_and a (bit_not w64 own)) here) k ≡ ((has_bit a k && not (has_bit own k)) || has_bit here k)
  bit-changed = has-or (bit_and a (bit_not w64 own)) here k ∙ ap (λ x. x || has_bit here k) (bit-without a own k small low)

  pub bit-put : has_bit own k ≡ true → has_bit (bit_or (bit_and a (bit_not w64 own)) here) k ≡ has_bit here k
  bit-put its = bit-changed ∙ ap (λ x. (has_bit a k && not x) || has_bit here k) its ∙ ap (λ x. x || has_bit here k) (never (has_bit a k))

  pub bit-kept : has_bit own k ≡ false → has_bit here k ≡ false → has_bit (bit_or (bit_and a (bit_not w64 own)) here) k ≡ has_bit a k
  bit-kept out none = bit-changed ∙ ap (λ x. (has_bit a k && not x) || has_bit here k) out ∙ ap (λ x. (has_bit a k && true) || x) none ∙ as-it-is (has_bit a k)

-- and where the other word has of these places all but some
module _ (a own out k : ℕ) (small : own < 2 ^ 64) (fits : out < 2 ^ 64) (low : k < 64) where
  pub bit-anew : has_bit own k ≡ true → has_bit (bit_or (bit_and a (bit_not w64 own)) (bit_and own (bit_not w64 out))) k ≡ not (has_bit out k)
  bit-anew its = bit-put a own (bit_and own (bit_not w64 out)) k small low its ∙ bit-without own out k fits low ∙ ap (λ x. x && not (has_bit out k)) its

  pub bit-stays : has_bit own k ≡ false → has_bit (bit_or (bit_and a (bit_not w64 own)) (bit_and own (bit_not w64 out))) k ≡ has_bit a k
  bit-stays its =
      bit-kept a own (bit_and own (bit_not w64 out)) k small low its
      (bit-without own out k fits low ∙ ap (λ x. x && not (has_bit out k)) its)
