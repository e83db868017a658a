-- The kept interactions of a word of 64, one after the other from the lowest bit on.
use Rattle.std.proofs.Common.{◌≡◌, ℕ, ◌+◌, ◌*◌, ◌-◌, ◌/◌, ◌%◌, ◌^◌, ◌<◌, ◌≤◌, ◌∙◌, ap, List, length, arith, Bool, true, false, w64}
use Rattle.std.specs.Prelude.{bit_and}
use Rattle.std.specs.Int.{trailing_zeros}
use Rattle.petri_atom.specs.Local.{Local}
use Rattle.petri_atom.specs.Definition.{AtomDefinition}
use Rattle.priority_filter.specs.Members.{has_bit}
use Rattle.plant_model.specs.Choice.{Interaction}
use Rattle.plant_model.specs.Plant.{WireDefinition}
use Rattle.step_core.specs.ChoicesIn.{AreAllPossible}
use Rattle.step_core.proofs.Counted.{kept-within}
use Rattle.step_core.proofs.LowestBits.{IsRest, bit-below, bit-from, bit-passes, fewer-next, none-between, none-left}

-- of the interactions from 64 times a number on, those from one on whose bits are left are to come
abbrev pub IsLeft : (ℕ → Bool) → ℕ → ℕ → ℕ → Type 0
IsLeft kept at word k = IsRest (λ j. kept (64 * at + j)) word k

-- at first all of the word are
pub all-left : (kept : ℕ → Bool) (at word : ℕ) → ((n : ℕ) → n / 64 ≡ at → has_bit word (n % 64) ≡ kept n) → IsLeft kept at word 0
all-left kept at word is = (
  λ j _ low. ap (has_bit word) (omega (arith, low)) ∙ is (64 * at + j) (omega (arith, low)),
  λ j lower. absurd (omega (arith, lower)),
)

-- where no bit is left, none more of the word is kept
pub none-more : (kept : ℕ → Bool) (at word k : ℕ) → IsLeft kept at word k → word ≡ 0 → (n : ℕ) → 64 * at + k ≤ n → n < 64 * (at + 1) → kept n ≡ false
none-more kept at word k left none n from low =
    ap kept (omega (arith, from)) ∙ none-left (λ j. kept (64 * at + j)) word k left none (n - 64 * at) (omega (arith, from)) (omega (arith, from, low))

-- the interaction of the lowest bit that is left is the next one that is kept, and without its bit the later ones are left
pub record IsLowest (all : List Interaction) (kept : ℕ → Bool) (at word k : ℕ) : Type 0 where
  pub low : trailing_zeros w64 word < 64
  pub from : k ≤ trailing_zeros w64 word
  pub is_kept : kept (64 * at + trailing_zeros w64 word) ≡ true
  pub within : 64 * at + trailing_zeros w64 word < length all
  pub none_before : (n : ℕ) → 64 * at + k ≤ n → n < 64 * at + trailing_zeros w64 word → kept n ≡ false
  pub later : IsLeft kept at (bit_and word (word - 1)) (trailing_zeros w64 word + 1)

pub lowest : (atoms : List AtomDefinition) (wires : List WireDefinition) (states : List Local) (all : List Interaction) (kept : ℕ → Bool) → AreAllPossible atoms wires states all kept
    → (at word k : ℕ) → IsLeft kept at word k → 0 < word → word < 2 ^ 64 → IsLowest all kept at word k
lowest atoms wires states all kept possible at word k left some small =
    let test : ℕ → Bool = λ j. kept (64 * at + j) in
    let bit = trailing_zeros w64 word in
    let from : k ≤ bit = bit-from test word k some small left in
    let is_kept : kept (64 * at + bit) ≡ true = bit-passes test word k some small left in
    record {
      low = bit-below test word k some small left;
      from = from;
      is_kept = is_kept;
      within = kept-within atoms wires states all kept possible (64 * at + bit) is_kept;
      none_before = λ n first last. ap kept (omega (arith, first)) ∙ none-between test word k some small left (n - 64 * at) (omega (arith, first)) (omega (arith, first, last));
      later = fewer-next test word k some small left;
    }
