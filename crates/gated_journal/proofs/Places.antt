-- The cells of records: which of them meet, and a row of them as a list.
use Rattle.std.proofs.Common.{◌≡◌, ◌≢◌, inl, inr, ℕ, ◌+◌, ◌-◌, ◌*◌, ◌/◌, ◌%◌, ◌<◌, ◌≤◌, List, length, map, get_or, refl, sym, ◌∙◌, arith}
use Rattle.std.specs.List.{range_with_len}
use Rattle.std.proofs.lemmas.Grind.{common_steps}
use Rattle.std.proofs.lemmas.Bool.{cases_lt, cases_order}
use Rattle.std.proofs.lemmas.Nat.{mod-mul-add, div-add-mod'}
use Rattle.std.proofs.lemmas.List.FromFn.{length-map-range_with_len, get_or-map-range_with_len}
use Rattle.disk_model.specs.DiskState.{DiskState}
use Rattle.disk_model.specs.Cells.{cell_count, IsNoneOf}
use Rattle.disk_model.specs.Steps.{AreInside, AllDiffer}
use Rattle.gated_journal.specs.declared.ring.Ring.{Ring}
use Rattle.gated_journal.specs.Live.{place}
use Rattle.gated_journal.specs.Rings.{cells_of_ring}

-- two numbers less than a round apart have different rests
rests_differ : (ring m n : ℕ) → m < n → n < m + ring → m % ring ≡ n % ring → ⊥
rests_differ ring m n below near = grind (arith, common_steps)

pub places_differ : (j : Ring) (m n : ℕ) → m < n → n < m + j.ring → place j m ≡ place j n → ⊥
places_differ j m n below near same = rests_differ j.ring m n below near (omega (arith, same))

-- a row of places
abbrev pub places : Ring → ℕ → ℕ → List ℕ
places j first count = map (place j) (range_with_len first count)

pub places_length : (j : Ring) (first count : ℕ) → length (places j first count) ≡ count
places_length j first count = length-map-range_with_len (place j) first count

pub places_at : (j : Ring) (first count i n : ℕ) → i < length (places j first count) → first + i ≡ n → get_or (places j first count) i 0 ≡ place j n
places_at j first count i n within at = get_or-map-range_with_len (place j) first count i n 0 (omega (arith, within, places_length j first count)) at

-- A cell is none of a row's, where it is of none of the row's numbers.
pub none_of_places : (j : Ring) (first count k : ℕ) → ((n : ℕ) → first ≤ n → n < first + count → place j n ≢ k) → IsNoneOf (places j first count) k
none_of_places j first count k none i within = λ same.
    let long : length (places j first count) ≡ count = places_length j first count in
    none (first + i) (omega arith) (omega (arith, within, long)) (sym (places_at j first count i (first + i) within refl) ∙ same)

-- The cells of records after and before a row, less than a round away, are none of the row's.
pub before_places : (j : Ring) (first count n : ℕ) → n < first → first + count ≤ n + j.ring → IsNoneOf (places j first count) (place j n)
before_places j first count n below near = none_of_places j first count (place j n) (λ m from to same. places_differ j n m (omega (arith, below, from)) (omega (arith, near, to)) (sym same))

pub after_places : (j : Ring) (first count n : ℕ) → first + count ≤ n → n < first + j.ring → IsNoneOf (places j first count) (place j n)
after_places j first count n behind near = none_of_places j first count (place j n) (λ m from to same. places_differ j m n (omega (arith, behind, to)) (omega (arith, near, from)) same)

-- The cells of a row that is no longer than a round all differ.
pub places_all_differ : (j : Ring) (first count : ℕ) → count ≤ j.ring → AllDiffer (places j first count)
places_all_differ j first count short i k i_within k_within same =
    let long : length (places j first count) ≡ count = places_length j first count in
    let at_i : get_or (places j first count) i 0 ≡ place j (first + i) = places_at j first count i (first + i) i_within refl in
    let at_k : get_or (places j first count) k 0 ≡ place j (first + k) = places_at j first count k (first + k) k_within refl in
    let met : place j (first + i) ≡ place j (first + k) = sym at_i ∙ same ∙ at_k in
    elim (cases_order i k) [
      | inl is ↦ is
      | inr (inl below) ↦ absurd (places_differ j (first + i) (first + k) (omega (arith, below)) (omega (arith, k_within, long, short)) met)
      | inr (inr above) ↦ absurd (places_differ j (first + k) (first + i) (omega (arith, above)) (omega (arith, i_within, long, short)) (sym met))
    ]

-- Each cell of a row is one of the device's.
place_inside : (j : Ring) (n : ℕ) → 1 ≤ j.ring → place j n < cells_of_ring j
place_inside j n some = omega arith

pub places_within : (j : Ring) (first count : ℕ) → 1 ≤ j.ring → (i : ℕ) → i < length (places j first count) → get_or (places j first count) i 0 < cells_of_ring j
places_within j first count some i within = omega (arith, places_at j first count i (first + i) within refl, place_inside j (first + i) some)

pub places_inside : (size : ℕ) (j : Ring) (first count : ℕ) (s : DiskState) → 1 ≤ j.ring → cells_of_ring j ≤ cell_count size s → AreInside size s (places j first count)
places_inside size j first count s some inside i within =
    omega (arith, places_within j first count some i within, inside)

-- A place comes again after a round.
pub place_round : (j : Ring) (n : ℕ) → place j (n + j.ring) ≡ place j n
place_round j n = let same : (n + j.ring) % j.ring ≡ n % j.ring = grind (arith, common_steps) in omega (arith, same)

-- Each record cell is the place of one number of the round that begins at any base.
pub number_of_cell : (j : Ring) (base k : ℕ) → 3 + 2 * j.atoms ≤ k → k < cells_of_ring j → (n : ℕ) × (base ≤ n) × (n < base + j.ring) × (place j n ≡ k)
number_of_cell j base k from to =
    let r : ℕ = k - (3 + 2 * j.atoms) in
    let q : ℕ = base / j.ring in
    let s : ℕ = base % j.ring in
    let below : r < j.ring = omega (arith, from, to) in
    let parts : q * j.ring + s ≡ base = div-add-mod' base j.ring in
    let rest : s < j.ring = omega (arith, below) in
    elim (cases_lt r s) [
      | inl before ↦
          let n : ℕ = (q + 1) * j.ring + r in
          let is : n % j.ring ≡ r = mod-mul-add (q + 1) j.ring r below in
          (n, omega (arith, parts, rest), omega (arith, parts, before), omega (arith, is, from))
      | inr behind ↦
          let n : ℕ = q * j.ring + r in
          let is : n % j.ring ≡ r = mod-mul-add q j.ring r below in
          (n, omega (arith, parts, behind), omega (arith, parts, below), omega (arith, is, from))
    ]
