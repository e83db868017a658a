-- Transfers that copy variables, in rows: what a row stands for, and what it gives behind other transfers.
use Rattle.std.proofs.Common.{◌≡◌, ℕ, zero, suc, ◌+◌, ◌<◌, ◌≤◌, ◌==◌, ◌&&◌, Bool, true, false, refl, sym, ◌∙◌, ap, subst, List, [], ◌∷◌, ◌++◌, length, take, get_or, set, arith}
use Rattle.std.specs.Prelude.{Option, Some, None, slice_get, slice_index_or, if◌then◌else◌}
use Rattle.std.proofs.lemmas.Bool.{eqb-true}
use Rattle.std.proofs.lemmas.List.{append-nil, append_assoc, take_more}
use Rattle.std.proofs.lemmas.Grind.{flat_map-append}
use Rattle.std.proofs.lemmas.Option.{none-some}
use Rattle.petri_atom.specs.Local.{Local, Row}
use Rattle.plant_model.specs.Delivery.{AreDelivered, IsChanged}
use Rattle.plant_model.specs.BoundExpressions.{DeliveryDefinition, copied_by, copies_from, copies_in, copy_by, given_copies, given_for, has_all}
use Rattle.plant_model.specs.declared.choice.Move.{Move}
use Rattle.plant_model.specs.declared.copy_row.CopyRow.{CopyRow}
use Rattle.plant_model.specs.declared.variable_cell.VariableCell.{VariableCell}
use Rattle.plant_model.proofs.ValueRows.{given-behind, passed-behind}

-- ---- the transfers that a row stands for

module _ (leaves atom : ℕ) where
  -- without cells there are none
  pub none-copied : (cells : List (Option VariableCell)) (e : ℕ) → ((k : ℕ) → slice_index_or cells k None ≡ None) → copies_from leaves atom e cells ≡ []
  none-copied [] e none = refl
  none-copied (None ∷ cells) e none = none-copied cells (suc e) (λ k. none (suc k))
  none-copied (Some c ∷ cells) e none = absurd (none-some c (sym (none 0)))

  -- a cell behind all others is one more behind all others
  pub one-copied : (cells : List (Option VariableCell)) (e n : ℕ) (cell : VariableCell) → n < length cells → ((k : ℕ) → n ≤ k → slice_index_or cells k None ≡ None)
      → copies_from leaves atom e (set cells n (Some cell)) ≡ copies_from leaves atom e cells ++ copy_by leaves atom (e + n) cell ∷ []
  one-copied [] e n cell within free = absurd (omega (arith, within))
  one-copied (Some c ∷ cells) e zero cell within free = absurd (none-some c (sym (free 0 (omega arith))))
  one-copied (None ∷ cells) e zero cell within free =
      let none = none-copied cells (suc e) (λ k. free (suc k) (omega arith)) in
      let same : e + 0 ≡ e = omega arith in
      ap (λ ds. copy_by leaves atom e cell ∷ ds) none ∙
      sym (ap (λ ds. ds ++ copy_by leaves atom (e + 0) cell ∷ []) none ∙ ap (λ k. copy_by leaves atom k cell ∷ []) same)
  one-copied (None ∷ cells) e (suc n) cell within free =
      let same : suc e + n ≡ e + suc n = omega arith in
      one-copied cells (suc e) n cell (omega (arith, within)) (λ k past. free (suc k) (omega (arith, past))) ∙
      ap (λ k. copies_from leaves atom (suc e) cells ++ copy_by leaves atom k cell ∷ []) same
  one-copied (Some c ∷ cells) e (suc n) cell within free =
      let same : suc e + n ≡ e + suc n = omega arith in
      ap (λ ds. copy_by leaves atom e c ∷ ds)
      (one-copied cells (suc e) n cell (omega (arith, within)) (λ k past. free (suc k) (omega (arith, past))) ∙
      ap (λ k. copies_from leaves atom (suc e) cells ++ copy_by leaves atom k cell ∷ []) same)

-- ---- what they give

-- a test that fails with another one fails with more
fails-with : (a b c : Bool) → (a && c) ≡ false → (a && (b && c)) ≡ false
fails-with false b c fails = refl
fails-with true false c fails = refl
fails-with true true c fails = fails

module _ (states : List Local) (mask leaves own : ℕ) where
  abbrev gets : List DeliveryDefinition → ℕ → Row
  gets ds atom = given_for states ds mask atom

  -- the first cell's transfer belongs to the front as well
  moved-on : (front : List DeliveryDefinition) (e : ℕ) (c : VariableCell) (cells : List (Option VariableCell)) → front ++ copies_from leaves own e (Some c ∷ cells) ≡ (front ++ copy_by leaves own e c ∷ []) ++ copies_from leaves own (suc e) cells
  moved-on front e c cells = sym (append_assoc front (copy_by leaves own e c ∷ []) (copies_from leaves own (suc e) cells))

  -- their atom gets their values, where the leaves take part
  pub copies-given : has_all mask leaves ≡ true → (cells : List (Option VariableCell)) (e : ℕ) (front : List DeliveryDefinition) → gets (front ++ copies_from leaves own e cells) own ≡ given_copies states e cells (gets front own)
  copies-given told [] e front = ap (λ ds. gets ds own) (append-nil front)
  copies-given told (None ∷ cells) e front = copies-given told cells (suc e) front
  copies-given told (Some c ∷ cells) e front =
      ap (λ ds. gets ds own) (moved-on front e c cells) ∙
      copies-given told cells (suc e) (front ++ copy_by leaves own e c ∷ []) ∙
      ap (given_copies states (suc e) cells) (given-behind states front mask (copy_by leaves own e c) own refl told)

  -- all others get nothing more
  pub copies-passed : (atom : ℕ) → (has_all mask leaves && own == atom) ≡ false → (cells : List (Option VariableCell)) (e : ℕ) (front : List DeliveryDefinition) → gets (front ++ copies_from leaves own e cells) atom ≡ gets front atom
  copies-passed atom none [] e front = ap (λ ds. gets ds atom) (append-nil front)
  copies-passed atom none (None ∷ cells) e front = copies-passed atom none cells (suc e) front
  copies-passed atom none (Some c ∷ cells) e front =
      ap (λ ds. gets ds atom) (moved-on front e c cells) ∙
      copies-passed atom none cells (suc e) (front ++ copy_by leaves own e c ∷ []) ∙
      passed-behind states front mask (copy_by leaves own e c) atom (λ k. fails-with (has_all mask leaves) (e == k) (own == atom) none)

-- ---- rows

-- the transfers of one row more
pub copied-behind : (rows : List CopyRow) (row : CopyRow) → copied_by (rows ++ row ∷ []) ≡ copied_by rows ++ copies_in row
copied-behind rows row =
    flat_map-append copies_in rows (row ∷ []) ∙ ap (λ ds. copied_by rows ++ ds) (append-nil (copies_in row))

module _ (states : List Local) (rows : List CopyRow) (mask i : ℕ) (row : CopyRow) (within : i < length rows) (here : row ≡ get_or rows i row) where
  abbrev gives : ℕ → ℕ → Row
  gives n atom = given_for states (copied_by (take n rows)) mask atom

  more : (atom : ℕ) → gives (i + 1) atom ≡ given_for states (copied_by (take i rows) ++ copies_in row) mask atom
  more atom =
      ap (λ ds. given_for states ds mask atom)
      (ap copied_by (take_more rows i row within ∙ ap (λ x. take i rows ++ x ∷ []) (sym here)) ∙ copied-behind (take i rows) row)

  -- what its atom gets, where its leaves take part
  pub row-given : (atom : ℕ) → row.atom ≡ atom → has_all mask row.leaves ≡ true → gives (i + 1) atom ≡ given_copies states 0 row.cells (gives i atom)
  row-given atom own told =
      subst (λ a. gives (i + 1) a ≡ given_copies states 0 row.cells (gives i a)) own
      (more row.atom ∙ copies-given states mask row.leaves row.atom told row.cells 0 (copied_by (take i rows)))

  -- and what all others get
  pub row-passed : (atom : ℕ) → (has_all mask row.leaves && row.atom == atom) ≡ false → gives (i + 1) atom ≡ gives i atom
  row-passed atom none =
      more atom ∙ copies-passed states mask row.leaves row.atom atom none row.cells 0 (copied_by (take i rows))

  told-of : (atom : ℕ) (b : Bool) → (row.atom == atom) ≡ b → has_all mask row.leaves ≡ true → (if b then given_copies states 0 row.cells (gives i atom) else gives i atom) ≡ gives (i + 1) atom
  told-of atom true its told = sym (row-given atom (eqb-true row.atom atom its) told)
  told-of atom false its told = sym (row-passed atom (ap (λ b. b && row.atom == atom) told ∙ its))

  module _ (moves : List Move) (old new : List Row) (so_far : AreDelivered moves (gives i) old) where
    -- its leaves take part, and it is delivered
    pub row-more : has_all mask row.leaves ≡ true → IsChanged moves (λ other. row.atom == other) (given_copies states 0 row.cells) old new → AreDelivered moves (gives (i + 1)) new
    row-more told done place m there first =
        done place m (gives i m.atom) there first (so_far place m there first) ∙ ap Some (told-of m.atom (row.atom == m.atom) refl told)

    -- or one does not
    pub row-same : has_all mask row.leaves ≡ false → new ≡ old → AreDelivered moves (gives (i + 1)) new
    row-same told same place m there first =
        ap (λ ds. slice_get ds place) same ∙ so_far place m there first ∙
        ap Some (sym (row-passed m.atom (ap (λ b. b && row.atom == m.atom) told)))
