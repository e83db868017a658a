-- Records as they are told of a step, place by place.
use Rattle.std.proofs.Common.{◌≡◌, ◌+◌, ◌<◌, ◌≤◌, ℕ, zero, suc, refl, sym, ◌∙◌, ap, List, [], ◌∷◌, ◌++◌, length, map, set, take, take_all, get_or, slice_get, arith, subst, All, Some}
use Rattle.std.proofs.lemmas.List.{take_more, take_more_set}
use Rattle.std.proofs.lemmas.Option.{same_Some}
use Rattle.petri_atom.specs.Local.{Row}
use Rattle.record_codec.specs.Entry.{IsEntry}
use Rattle.record_codec.specs.declared.entry.Entry.{Entry}
use Rattle.plant_model.specs.declared.choice.Move.{Move}
use Rattle.record_replay.specs.Records.{entries_delivered, entry_by}

module _ (counts : List ℕ) where
  -- there is one of each move
  pub length-told : (moves : List Move) (rows : List Row) → length moves ≤ length rows → length (entries_delivered counts moves rows) ≡ length moves
  length-told [] rows many = refl
  length-told (m ∷ ms) [] many = absurd (omega arith)
  length-told (m ∷ ms) (row ∷ rows) many =
      let fewer : length ms ≤ length rows = omega arith in
      ap suc (length-told ms rows fewer)

  -- the one at a place is of the move and of the row at that place
  pub told-entry : (moves : List Move) (rows : List Row) (k : ℕ) (e : Entry) (m : Move) (row : Row) → k < length moves → k < length rows → get_or (entries_delivered counts moves rows) k e ≡ entry_by counts (get_or moves k m) (get_or rows k row)
  told-entry [] rows k e m row within inside = absurd (omega arith)
  told-entry (x ∷ xs) [] k e m row within inside = absurd (omega arith)
  told-entry (x ∷ xs) (y ∷ ys) zero e m row within inside = refl
  told-entry (x ∷ xs) (y ∷ ys) (suc k) e m row within inside =
      let less : k < length xs = omega arith in
      let fewer : k < length ys = omega arith in
      told-entry xs ys k e m row less fewer

  -- so it is in the ranges that all are in
  pub told-in-range : (number : ℕ) (moves : List Move) (rows : List Row) (k : ℕ) (m : Move) (row : Row) → length moves ≤ length rows → All (IsEntry number) (entries_delivered counts moves rows) → k < length moves → IsEntry number (entry_by counts (get_or moves k m) (get_or rows k row))
  told-in-range number moves rows k m row many all within =
      let inside : k < length rows = omega arith in
      let as_many : length (entries_delivered counts moves rows) ≡ length moves = length-told moves rows many in
      let there : k < length (entries_delivered counts moves rows) = omega arith in
      let e : Entry = entry_by counts m row in
      subst (IsEntry number) (told-entry moves rows k e m row within inside) (all k e there)

  -- one more of them, put at its place
  pub told-more : (moves : List Move) (rows : List Row) (es : List Entry) (k : ℕ) (e : Entry) (m : Move) (row : Row) → length moves ≤ length rows → k < length moves → k < length es → e ≡ entry_by counts (get_or moves k m) (get_or rows k row) → take k es ≡ take k (entries_delivered counts moves rows) → take (k + 1) (set es k e) ≡ take (k + 1) (entries_delivered counts moves rows)
  told-more moves rows es k e m row many within room is so_far =
      let inside : k < length rows = omega arith in
      let as_many : length (entries_delivered counts moves rows) ≡ length moves = length-told moves rows many in
      let there : k < length (entries_delivered counts moves rows) = omega arith in
      take_more_set es k e room ∙
      ap (λ xs. xs ++ e ∷ []) so_far ∙
      ap (λ x. take k (entries_delivered counts moves rows) ++ x ∷ []) (is ∙ sym (told-entry moves rows k e m row within inside)) ∙
      sym (take_more (entries_delivered counts moves rows) k e there)

  -- and at the end they are all there
  pub told-whole : (moves : List Move) (rows : List Row) (es : List Entry) (k : ℕ) → length moves ≤ length rows → length moves ≤ k → k ≤ length moves → take k es ≡ take k (entries_delivered counts moves rows) → take (length moves) es ≡ entries_delivered counts moves rows
  told-whole moves rows es k many past within so_far =
      let end : length moves ≡ k = omega arith in
      let as_many : length (entries_delivered counts moves rows) ≡ length moves = length-told moves rows many in
      ap (λ (n : ℕ). take n es) end ∙ so_far ∙ take_all k (entries_delivered counts moves rows) (omega arith)

  -- if the rows are what each move's atom gets, they are the entries of the moves
  pub told-all : (delivered : ℕ → Row) (moves : List Move) (rows : List Row) → length moves ≤ length rows → ((place : ℕ) (m : Move) → slice_get moves place ≡ Some m → slice_get rows place ≡ Some (delivered m.atom)) → entries_delivered counts moves rows ≡ map (λ m. entry_by counts m (delivered m.atom)) moves
  told-all delivered [] rows many told = refl
  told-all delivered (m ∷ ms) [] many told = absurd (omega arith)
  told-all delivered (m ∷ ms) (row ∷ rows) many told =
      let fewer : length ms ≤ length rows = omega arith in
      ap (λ r. entry_by counts m r ∷ entries_delivered counts ms rows) (same_Some row (delivered m.atom) (told 0 m refl)) ∙
      ap (λ es. entry_by counts m (delivered m.atom) ∷ es) (told-all delivered ms rows fewer (λ place k there. told (suc place) k there))
