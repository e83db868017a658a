-- Nothing is wrong with the cells of records in a row exactly if the live ones can be of the plant, and nothing is wrong with the one
-- that ends them.
use Rattle.std.proofs.Common.{◌≡◌, ◌≢◌, ◌⊎◌, inl, inr, ℕ, zero, suc, ◌+◌, ◌<◌, ◌==◌, ◌&&◌, ◌||◌, Bool, true, false, not, if◌then◌else◌, List, [], ◌∷◌, length, take, map, Option, Some, None, refl, sym, ◌∙◌, ap, subst, arith}
use Rattle.std.specs.List.{range_with_len, list_all}
use Rattle.std.specs.Option.{option_and_then, option_map_or}
use Rattle.std.proofs.lemmas.Bool.{and_parts, ne_eqb}
use Rattle.std.proofs.lemmas.Option.{none-some}
use Rattle.disk_model.specs.Cells.{Cell, cell}
use Rattle.gated_journal.specs.Live.{held_in, if_numbered, record_in}
use Rattle.gated_journal.proofs.Fronts.{front}
use Rattle.record_codec.specs.Fired.{FiredFields, fired_in}
use Rattle.record_codec.specs.Ring.{record_cell}
use Rattle.record_replay.specs.OfPlant.{is_record_of}
use Rattle.plant_model.specs.Plant.{PlantDefinition}
use Rattle.plant_image.specs.Faults.{ends_or_fits, first_fault, is_full_but_not, numbers_fault, record_fault}
use Rattle.plant_image.specs.declared.fault.ImageFault.TheVariants.{Damaged}
use Rattle.plant_image.proofs.AtomSlots.{Holds, empty_or_holds, no_first, not_wrong}
use Rattle.plant_image.proofs.NumberFaults.{record_at, numbers_first, numbers_rest, numbers_end, live_first, live_ends}
use Rattle.plant_image.proofs.Standings.{none_where}

-- ---- one cell

module _ (plant : PlantDefinition) (n : ℕ) where
  -- if nothing is wrong with a cell that holds record n, that record can be of the plant
  fits_of : (c : Cell) (r : FiredFields) → is_full_but_not fired_in (ends_or_fits plant n) c ≡ false → record_in n c ≡ Some r → is_record_of plant r ≡ true
  fits_of c r right there = by_cell (empty_or_holds fired_in (ends_or_fits plant n) c right)
    where
      by_number : (v : FiredFields) (t : Bool) → (v.number == n) ≡ t → (if t then Some v else None) ≡ Some r → (not t || is_record_of plant v) ≡ true → is_record_of plant r ≡ true
      by_number v true is found passed = let same : v ≡ r = let found = found in cc in subst (λ (x : FiredFields). is_record_of plant x ≡ true) same passed
      by_number v false is found passed = absurd (let found = found in cc)

      by_cell : (c ≡ None) ⊎ Holds fired_in (ends_or_fits plant n) c → is_record_of plant r ≡ true
      by_cell (inl empty) = absurd (none-some r (sym (ap (record_in n) empty) ∙ there))
      by_cell (inr h) = by_number h.value (h.value.number == n) refl (sym (ap (record_in n) h.full ∙ ap (option_and_then (if_numbered n)) h.held) ∙ there) h.passed

  -- if it can be, nothing is wrong with the cell
  right_of : (c : Cell) (r : FiredFields) → record_in n c ≡ Some r → is_record_of plant r ≡ true → is_full_but_not fired_in (ends_or_fits plant n) c ≡ false
  right_of None r there fits = refl
  right_of (Some body) r there fits = by_value (fired_in body) refl there
    where
      by_number : (v : FiredFields) (t : Bool) → (v.number == n) ≡ t → (if t then Some v else None) ≡ Some r → not (not t || is_record_of plant v) ≡ false
      by_number v true is found = let same : r ≡ v = let found = found in cc in ap (λ (t : Bool). not t) (subst (λ (x : FiredFields). is_record_of plant x ≡ true) same fits)
      by_number v false is found = refl

      by_value : (o : Option FiredFields) → fired_in body ≡ o → option_and_then (if_numbered n) o ≡ Some r → not (option_map_or (ends_or_fits plant n) o false) ≡ false
      by_value None is found = absurd (none-some r found)
      by_value (Some v) is found = by_number v (v.number == n) refl found

-- nothing is wrong with an empty cell, and with one that holds another record
pub empty_right : (plant : PlantDefinition) (n : ℕ) (c : Cell) → c ≡ None → is_full_but_not fired_in (ends_or_fits plant n) c ≡ false
empty_right plant n c empty = ap (is_full_but_not fired_in (ends_or_fits plant n)) empty

pub other_right : (plant : PlantDefinition) (n : ℕ) (c : Cell) (r : FiredFields) → held_in c ≡ Some r → r.number ≢ n → is_full_but_not fired_in (ends_or_fits plant n) c ≡ false
other_right plant n None r held other = refl
other_right plant n (Some body) r held other =
    ap (λ (o : Option FiredFields). not (option_map_or (ends_or_fits plant n) o false)) held
    ∙ ap (λ (t : Bool). not (not t || is_record_of plant r)) (ne_eqb r.number n other)

-- ---- a row of cells

module _ (plant : PlantDefinition) (cells : List Cell) (ring : ℕ) where
  -- nothing is wrong with the cell of record n
  pub cell_none : (n : ℕ) → is_full_but_not fired_in (ends_or_fits plant n) (cell cells (record_cell (length plant.atoms) ring n)) ≡ false → record_fault plant cells ring n ≡ None
  cell_none n right = none_where (is_full_but_not fired_in (ends_or_fits plant n) (cell cells (record_cell (length plant.atoms) ring n))) (Damaged (record_cell (length plant.atoms) ring n)) right

  pub cell_right : (n : ℕ) → record_fault plant cells ring n ≡ None → is_full_but_not fired_in (ends_or_fits plant n) (cell cells (record_cell (length plant.atoms) ring n)) ≡ false
  cell_right n none = not_wrong (is_full_but_not fired_in (ends_or_fits plant n) (cell cells (record_cell (length plant.atoms) ring n))) (Damaged (record_cell (length plant.atoms) ring n)) none

  -- The live records of a row can be of the plant, and nothing is wrong with the cell that ends them.
  pub record RowFits (b m : ℕ) (records : List FiredFields) : Type 0 where
    pub fit : list_all (is_record_of plant) records ≡ true
    pub behind : length records < m → record_fault plant cells ring (b + length records) ≡ None

  row_empty : (b m : ℕ) → record_fault plant cells ring b ≡ None → RowFits b m []
  row_empty b m none = record { fit = refl; behind = λ some. ap (record_fault plant cells ring) (omega arith) ∙ none }

  row_more : (b k : ℕ) (x : FiredFields) (records : List FiredFields) → is_record_of plant x ≡ true → RowFits (b + 1) k records → RowFits b (suc k) (x ∷ records)
  row_more b k x records fits rest = record {
    fit = ap (λ (t : Bool). t && list_all (is_record_of plant) records) fits ∙ rest.fit;
    behind = λ some. ap (record_fault plant cells ring) (omega arith) ∙ rest.behind (omega (arith, some));
  }

  pub row_fits : (m b : ℕ) → numbers_fault plant cells ring (range_with_len b m) ≡ None → RowFits b m (front (record_at plant cells ring) b m)
  row_fits zero b none = record { fit = refl; behind = λ some. absurd (omega (arith, some)) }
  row_fits (suc k) b none = by_first (row_fits k (b + 1)) (record_at plant cells ring b) refl
    where
      here : record_fault plant cells ring b ≡ None
      here = no_first (record_fault plant cells ring b) (first_fault (map (record_fault plant cells ring) (take (length (front (record_at plant cells ring) b (suc k))) (range_with_len (b + 1) k)))) (sym (numbers_first plant cells ring b k (suc k) refl) ∙ none)

      by_first : (numbers_fault plant cells ring (range_with_len (b + 1) k) ≡ None → RowFits (b + 1) k (front (record_at plant cells ring) (b + 1) k)) → (o : Option FiredFields) → record_at plant cells ring b ≡ o → RowFits b (suc k) (front (record_at plant cells ring) b (suc k))
      by_first later None is = subst (λ (l : List FiredFields). RowFits b (suc k) l) (sym (live_ends plant cells ring b (suc k) is)) (row_empty b (suc k) here)
      by_first later (Some x) is =
          let fits : is_record_of plant x ≡ true = fits_of plant b (cell cells (record_cell (length plant.atoms) ring b)) x (cell_right b here) is in
          let rest : numbers_fault plant cells ring (range_with_len (b + 1) k) ≡ None = sym (numbers_rest plant cells ring b k (suc k) x refl is here) ∙ none in
          subst (λ (l : List FiredFields). RowFits b (suc k) l) (sym (live_first plant cells ring b k (suc k) x refl is)) (row_more b k x (front (record_at plant cells ring) (b + 1) k) fits (later rest))

  pub row_none : (m b : ℕ) → RowFits b m (front (record_at plant cells ring) b m) → numbers_fault plant cells ring (range_with_len b m) ≡ None
  row_none zero b fits = refl
  row_none (suc k) b fits = by_first (row_none k (b + 1)) (record_at plant cells ring b) refl
    where
      by_first : (RowFits (b + 1) k (front (record_at plant cells ring) (b + 1) k) → numbers_fault plant cells ring (range_with_len (b + 1) k) ≡ None) → (o : Option FiredFields) → record_at plant cells ring b ≡ o → numbers_fault plant cells ring (range_with_len b (suc k)) ≡ None
      by_first later None is =
          let none : RowFits b (suc k) [] = subst (λ (l : List FiredFields). RowFits b (suc k) l) (live_ends plant cells ring b (suc k) is) fits in
          numbers_end plant cells ring b (suc k) is (ap (record_fault plant cells ring) (omega arith) ∙ none.behind (omega arith))
      by_first later (Some x) is =
          let all : RowFits b (suc k) (x ∷ front (record_at plant cells ring) (b + 1) k) = subst (λ (l : List FiredFields). RowFits b (suc k) l) (live_first plant cells ring b k (suc k) x refl is) fits in
          let parts = and_parts (is_record_of plant x) (list_all (is_record_of plant) (front (record_at plant cells ring) (b + 1) k)) all.fit in
          let here : record_fault plant cells ring b ≡ None = cell_none b (right_of plant b (cell cells (record_cell (length plant.atoms) ring b)) x is parts.0) in
          let rest : RowFits (b + 1) k (front (record_at plant cells ring) (b + 1) k) = record { fit = parts.1; behind = λ some. ap (record_fault plant cells ring) (omega arith) ∙ all.behind (omega (arith, some)) } in
          numbers_rest plant cells ring b k (suc k) x refl is here ∙ later rest
