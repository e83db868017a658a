-- How many records are live, counted one number after another.
use Rattle.std.proofs.Common.{◌≡◌, ℕ, zero, suc, ◌+◌, ◌-◌, ◌<◌, ◌≤◌, Bool, true, false, List, ◌∷◌, if◌then◌else◌, is_some, length, map, Option, Some, None, refl, sym, ◌∙◌, ap, arith}
use Rattle.std.specs.List.{range_with_len}
use Rattle.std.specs.Option.{some_prefix}
use Rattle.disk_model.specs.Cells.{Cell, cell}
use Rattle.record_codec.specs.Fired.{FiredFields}
use Rattle.gated_journal.specs.Live.{live_among, record_in}
use Rattle.gated_journal.proofs.Fronts.{front}

-- one more than the numbers after the first have, where that has a value; else none
front_counts : {X : Type 0} (h : ℕ → Option X) (n k : ℕ) → length (front h n (suc k)) ≡ (if is_some (h n) then suc (length (front h (n + 1) k)) else 0)
front_counts {X} h n k =
    elim (h n) as (λ (o : Option X). length (some_prefix (o ∷ map h (range_with_len (n + 1) k))) ≡ (if is_some o then suc (length (front h (n + 1) k)) else 0)) [
      | None ↦ refl
      | Some x ↦ refl
    ]

-- record n, where its cell holds it
abbrev pub record_at : List Cell → (ℕ → ℕ) → ℕ → Option FiredFields
record_at cells place n = record_in n (cell cells (place n))

-- whether it does was asked of its cell, with the same cells
pub holds_then : (held : Bool) (cells same : List Cell) (place : ℕ → ℕ) (n k : ℕ) → same ≡ cells → k ≡ place n
    → held ≡ is_some (record_in n (cell same k)) → is_some (record_at cells place n) ≡ held
holds_then held cells same place n k is here told =
    ap (λ (l : List Cell). is_some (record_in n (cell l (place n)))) (sym is) ∙ ap (λ (j : ℕ). is_some (record_in n (cell same j))) (sym here) ∙ sym told

module _ (cells : List Cell) (place : ℕ → ℕ) where
  -- how many of the numbers from n up to the top have a live record behind one another
  abbrev pub live_from : ℕ → ℕ → ℕ
  live_from n many = length (live_among cells place (range_with_len n many))

  counted : (n k many : ℕ) → many ≡ suc k → live_from n many ≡ (if is_some (record_at cells place n) then suc (live_from (n + 1) k) else 0)
  counted n k many is = ap (λ (j : ℕ). live_from n j) is ∙ front_counts (record_at cells place) n k

  -- the count ends at the first number whose record is not there
  pub live_ends : (base n top ring : ℕ) → n < top → is_some (record_at cells place n) ≡ false
      → live_from base ring ≡ (n - base) + live_from n (top - n) → n - base ≡ live_from base ring
  live_ends base n top ring within none whole =
      let rest : live_from n (top - n) ≡ 0 =
      counted n (top - (n + 1)) (top - n) (omega (arith, within)) ∙ ap (λ (b : Bool). if b then suc (live_from (n + 1) (top - (n + 1))) else 0) none in
      let nothing : (n - base) + 0 ≡ n - base = omega arith in
      sym (whole ∙ ap (λ (x : ℕ). (n - base) + x) rest ∙ nothing)

  -- and goes on by one where it is
  pub live_goes : (base n top ring : ℕ) → base ≤ n → n < top → is_some (record_at cells place n) ≡ true
      → live_from base ring ≡ (n - base) + live_from n (top - n) → live_from base ring ≡ (n + 1 - base) + live_from (n + 1) (top - (n + 1))
  live_goes base n top ring from within there whole =
      let k : ℕ = top - (n + 1) in
      let rest : live_from n (top - n) ≡ suc (live_from (n + 1) k) =
      counted n k (top - n) (omega (arith, within)) ∙ ap (λ (b : Bool). if b then suc (live_from (n + 1) k) else 0) there in
      let more : (l : ℕ) → (n - base) + suc l ≡ (n + 1 - base) + l = λ l. omega (arith, from) in
      whole ∙ ap (λ (x : ℕ). (n - base) + x) rest ∙ more (live_from (n + 1) k)
