-- What stands on both sides of a byte that a word has once.
use Rattle.std.proofs.Common.{◌≡◌, ℕ, ◌+◌, ◌<◌, ◌≤◌, Bool, true, false, not, ◌&&◌, if◌then◌else◌, List, [], ◌∷◌, length, take, drop, Some, None, inl, inr, eq-eqb, ne_eqb, refl, sym, ap, ◌∙◌, arith, ◌==◌}
use Rattle.std.specs.List.{slice_split, position_or_len}
use Rattle.std.proofs.Math.Nat.{eq-or-lt_of_le}
use Rattle.std.proofs.lemmas.List.{length-drop, drop-drop}
use Rattle.std.proofs.lemmas.List.Splits.{slice_split_first, length-slice_split}
use Rattle.plant_words.specs.Words.{is_filled}
use Rattle.plant_words.specs.Splits.{both_of, sides_in}
use Rattle.plant_words.proofs.Cuts.{prefix_len-le, uncut}

-- three parts are no two
three_parts : (left right : List ℕ) (parts : List (List ℕ)) → 0 < length parts → both_of (left ∷ right ∷ parts) ≡ None
three_parts left right [] some = absurd (omega (arith, some))
three_parts left right (third ∷ more) some = refl

-- a first part and the parts of what is after it are two where that is uncut
both_once : (is_cut : ℕ → Bool) (left right : List ℕ) (m : ℕ) → m ≡ position_or_len is_cut right →
    both_of (left ∷ slice_split is_cut right) ≡ (if (m == length right) && is_filled left && is_filled right then Some (left, right) else None)
both_once is_cut left right m only =
    elim (eq-or-lt_of_le (prefix_len-le (λ b. not (is_cut b)) right)) [
      | inl whole ↦
          let test : (m == length right) ≡ true = eq-eqb m (length right) (only ∙ whole) in
          ap (λ (parts : List (List ℕ)). both_of (left ∷ parts)) (uncut is_cut right whole)
          ∙ sym (ap (λ (b : Bool). if b && is_filled left && is_filled right then Some (left, right) else None) test)
      | inr within ↦
          let test : (m == length right) ≡ false = ne_eqb m (length right) (λ e. omega (arith, e, only, within)) in
          let more = slice_split is_cut (drop (position_or_len is_cut right + 1) right) in
          ap (λ (parts : List (List ℕ)). both_of (left ∷ parts)) (slice_split_first is_cut right 0 within)
          ∙ three_parts left (take (position_or_len is_cut right) right) more (omega (arith, length-slice_split is_cut (drop (position_or_len is_cut right + 1) right)))
          ∙ sym (ap (λ (b : Bool). if b && is_filled left && is_filled right then Some (left, right) else None) test)
    ]

-- a word without such a byte has no two sides
pub no_sides : (byte : ℕ) (word : List ℕ) (n : ℕ) → n ≡ position_or_len (λ b. b == byte) word → length word ≤ n → sides_in byte word ≡ None
no_sides byte word n value long =
    let short = prefix_len-le (λ b. not (b == byte)) word in
    ap both_of (uncut (λ b. b == byte) word (omega (arith, value, long, short)))

-- the two sides of the first such byte are the word's where the right one has none
pub sides_once : (byte : ℕ) (word left behind : List ℕ) (first : ℕ) (right : List ℕ) (n m : ℕ) →
    n ≡ position_or_len (λ b. b == byte) word → left ≡ take n word → behind ≡ drop n word → behind ≡ first ∷ right → m ≡ position_or_len (λ b. b == byte) right →
    sides_in byte word ≡ (if (m == length right) && is_filled left && is_filled right then Some (left, right) else None)
sides_once byte word left behind first right n m value front back parts only =
    let is_cut : ℕ → Bool = λ b. b == byte in
    let within : position_or_len is_cut word < length word = omega (arith, value, ap length parts, ap length back, length-drop n word) in
    let one : n + 1 ≡ position_or_len is_cut word + 1 = omega (arith, value) in
    let begin : take (position_or_len is_cut word) word ≡ left = sym (front ∙ ap (λ (k : ℕ). take k word) value) in
    let rest : drop (position_or_len is_cut word + 1) word ≡ right = sym (ap (λ (k : ℕ). drop k word) one) ∙ sym (drop-drop 1 n word) ∙ ap (drop 1) (sym back ∙ parts) in
    let cut : slice_split is_cut word ≡ left ∷ slice_split is_cut right =
    slice_split_first is_cut word 0 within ∙ ap (λ (l : List ℕ). l ∷ slice_split is_cut (drop (position_or_len is_cut word + 1) word)) begin ∙ ap (λ (l : List ℕ). left ∷ slice_split is_cut l) rest in
    ap both_of cut ∙ both_once is_cut left right m only
